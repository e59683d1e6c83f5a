-- What is held of a request that comes.
use Rattle.std.specs.Prelude.{◌≡◌, ◌+◌, ◌<◌, ◌++◌, ◌∷◌, List, [], length, take, ℕ}
use Rattle.std.specs.List.{All}
use Rattle.ipv4_fields.specs.Cut.{Lacks}
use Rattle.control_line.specs.declared.TheConstants.{BLOCK_LIMIT, LINE_LIMIT}
use Rattle.control_line.specs.declared.head.Head.{Head}
use Rattle.control_line.specs.Block.{HasHead, after_line_feeds}
use Rattle.serve_stream.specs.declared.held.Held.{Held}
use Rattle.serve_stream.specs.declared.held.HoldFault.{HoldFault}
use Rattle.serve_stream.specs.declared.held.HoldFault.TheVariants.{OutOfMemory, TooLong}
use Rattle.serve_stream.specs.declared.held.LineEnd.{LineEnd}
use Rattle.serve_stream.specs.declared.held.LineEnd.TheVariants.{BadHead, More, Request}
use Rattle.serve_stream.specs.Request.{IsBadHead, IsOverlong, IsRequest, NamesBlock}

-- a part of a line is held, or a block whose last line has not ended; `room` are the bytes that it may still have
pub data Holds (held : Held) : Type 0 where
  of_line : Lacks 10 held.bytes.items → held.due ≡ 0 → length held.bytes.items + held.room ≡ LINE_LIMIT → Holds held
  of_block : (head : Head) (lines : List (List ℕ)) (last : List ℕ) → HasHead held.bytes.items head (after_line_feeds (lines ++ last ∷ [])) →
      All (Lacks 10) lines → Lacks 10 last → length lines + held.due ≡ head.count → 0 < held.due →
      length (after_line_feeds (lines ++ last ∷ [])) + held.room ≡ BLOCK_LIMIT → Holds held

-- with these bytes it is too long, or memory was refused
abbrev pub IsFault : HoldFault → List ℕ → Type 0
IsFault TooLong bytes = IsOverlong bytes
IsFault OutOfMemory bytes = Unit {0}

-- some bytes were added
pub record IsAdded (bytes : List ℕ) (before later : Held) : Type 0 where
  pub items : later.bytes.items ≡ before.bytes.items ++ bytes
  pub room : later.room + length bytes ≡ before.room
  pub due : later.due ≡ before.due

abbrev pub IsEndWithoutHead : List ℕ → LineEnd → Type 0
IsEndWithoutHead line More = ⊥
IsEndWithoutHead line Request = ¬ NamesBlock line
IsEndWithoutHead line BadHead = NamesBlock line

-- the line that is held has ended
abbrev pub IsLineEnd : LineEnd → Held → Held → Type 0
IsLineEnd More before later = Holds later × (later.bytes.items ≡ before.bytes.items ++ 10 ∷ [])
IsLineEnd Request before later = IsRequest before.bytes.items × (¬ IsBadHead before.bytes.items) × (later.bytes.items ≡ before.bytes.items)
IsLineEnd BadHead before later = IsRequest before.bytes.items × IsBadHead before.bytes.items × (later.bytes.items ≡ before.bytes.items)

-- so many bytes were taken, and the request that is held is whole or not
abbrev pub IsTaken : List ℕ → Held → Held → ℕ → LineEnd → Type 0
IsTaken bytes before later count More = Holds later × (later.bytes.items ≡ before.bytes.items ++ take count bytes)
IsTaken bytes before later count Request =
    IsRequest later.bytes.items × (¬ IsBadHead later.bytes.items) × (later.bytes.items ++ 10 ∷ [] ≡ before.bytes.items ++ take count bytes)
IsTaken bytes before later count BadHead =
    IsRequest later.bytes.items × IsBadHead later.bytes.items × (later.bytes.items ++ 10 ∷ [] ≡ before.bytes.items ++ take count bytes)

-- a beginning of the bytes cannot be held
abbrev pub IsTakenNoMore : HoldFault → List ℕ → Held → Type 0
IsTakenNoMore fault bytes before = (front rest : List ℕ) × (bytes ≡ front ++ rest) × IsFault fault (before.bytes.items ++ front)
