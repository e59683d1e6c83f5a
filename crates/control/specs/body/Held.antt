-- The bytes that are kept of the request of a script that is being read.
use Rattle.std.specs.Prelude.{◌≡◌, ◌+◌, ◌-◌, ◌<◌, ◌++◌, ◌∷◌, ◌⊎◌, Bool, List, [], false, length, take, true, ℕ}
use Rattle.std.specs.List.{All}
use Rattle.ipv4_fields.specs.Cut.{Lacks}
use Rattle.control_line.specs.declared.head.Head.{Head}
use Rattle.control_line.specs.Block.{HasHead, IsHead, IsTooLong, after_line_feeds, head_text}
use Rattle.control.specs.declared.held.Held.{Held}
use Rattle.control.specs.declared.held.TheConstants.{BLOCK_ROOM, LINE_ROOM}
use Rattle.control.specs.Script.{BeginsRequest, IsRequest, with_last_lf}

-- no lines belong to a line that begins no block
pub data IsCountAfter (line : List ℕ) : ℕ → Type 0 where
  of_head : (head : Head) → IsHead head → line ≡ head_text head → IsCountAfter line head.count
  of_no_head : ((head : Head) → IsHead head → ¬ (line ≡ head_text head)) → IsCountAfter line 0

-- the text without the LF at its end, if it has one
pub data IsWithoutLf (text : List ℕ) : List ℕ → Type 0 where
  had_lf : (front : List ℕ) → text ≡ front ++ 10 ∷ [] → IsWithoutLf text front
  had_none : ((front : List ℕ) → ¬ (text ≡ front ++ 10 ∷ [])) → IsWithoutLf text text

-- at most so many bytes of a text are kept
pub record IsHeldUpTo (most : ℕ) (text : List ℕ) (held : Held) : Type 0 where
  pub bytes : held.bytes.items ≡ take most text
  pub room : held.room ≡ most - length text

-- how many bytes of a block are kept at most
abbrev pub block_room : Head → ℕ
block_room head = length (head_text head) + BLOCK_ROOM

-- this part of the request was read: a part of a line, or of a block, whose last line has not ended
pub data Holds (part : List ℕ) (held : Held) : Type 0 where
  of_line : Lacks 10 part → held.due ≡ 0 → IsHeldUpTo LINE_ROOM part held → Holds part held
  of_block : (head : Head) (lines : List (List ℕ)) (last : List ℕ) → HasHead part head (after_line_feeds (lines ++ last ∷ [])) →
      All (Lacks 10) lines → Lacks 10 last → length lines + held.due ≡ head.count → 0 < held.due →
      IsHeldUpTo (block_room head) part held → Holds part held

-- the bytes are the request, or both are too long
abbrev pub Shows : List ℕ → List ℕ → Type 0
Shows bytes request = (bytes ≡ request) ⊎ (IsTooLong bytes × IsTooLong request)

-- a line has ended: the request is whole, or its next line begins
abbrev pub HoldsAfterLine : Bool → List ℕ → Held → Type 0
HoldsAfterLine true part held = IsRequest part × Shows held.bytes.items part
HoldsAfterLine false part held = Holds (part ++ 10 ∷ []) held

-- the script ends with this part of a request
pub record IsLastHeld (part bytes : List ℕ) : Type 0 where
  pub request : List ℕ
  pub begins : BeginsRequest request
  pub whole : with_last_lf part ≡ request ++ 10 ∷ []
  pub shows : Shows bytes request
