-- The requests of a client, cut from the bytes of its stream at LFs (docs/COMMANDS.md, "Control lines").
use Rattle.std.specs.Prelude.{◌≡◌, ◌<◌, ◌≤◌, ◌++◌, ◌∷◌, ◌⊎◌, List, [], codes, length, ℕ}
use Rattle.std.specs.List.{All, flat_map}
use Rattle.ipv4_fields.specs.Cut.{Lacks}
use Rattle.control_line.specs.declared.TheConstants.{BLOCK_LIMIT, LINE_LIMIT}
use Rattle.control_line.specs.declared.head.Head.{Head}
use Rattle.control_line.specs.Block.{HasHead, IsBlock, after_line_feeds}

-- ---- requests

-- a text that has one reply, without the LF that ends it: a line that does not begin a block, or a block with as many lines as
-- its first line says
pub data IsRequest (text : List ℕ) : Type 0 where
  is_line : Lacks 10 text → length text ≤ LINE_LIMIT → ((head : Head) (rest : List ℕ) → ¬ HasHead text head rest) → IsRequest text
  is_block : (head : Head) (lines : List (List ℕ)) → IsBlock text head lines → length (after_line_feeds lines) ≤ BLOCK_LIMIT → IsRequest text

-- requests, each with the LF that ends it
abbrev pub ended_by_lf : List (List ℕ) → List ℕ
ended_by_lf requests = flat_map (λ request. request ++ 10 ∷ []) requests

-- the bytes begin with these requests
-- The reason: docs/INTERNALS.md, "Relations for requests, logs for streams".
pub record IsCut (bytes : List ℕ) (requests : List (List ℕ)) (left : List ℕ) : Type 0 where
  pub each : All IsRequest requests
  pub whole : bytes ≡ ended_by_lf requests ++ left

-- Bytes are cut in one way: two lists of requests that they begin with begin alike.
abbrev pub IsOneCutting : Type 0
IsOneCutting = (bytes : List ℕ) (some all : List (List ℕ)) (left left' : List ℕ) → IsCut bytes some left → IsCut bytes all left' →
    length some ≤ length all → (more : List (List ℕ)) × (all ≡ some ++ more) × (left ≡ ended_by_lf more ++ left')

-- no whole request is at the front of the bytes
abbrev pub HasNoRequest : List ℕ → Type 0
HasNoRequest bytes = (requests : List (List ℕ)) (left : List ℕ) → IsCut bytes requests left → requests ≡ []

-- the beginning of a request whose end has not come: a part of a line, or a block whose last line has not ended
pub data IsPart (text : List ℕ) : Type 0 where
  part_of_line : Lacks 10 text → length text ≤ LINE_LIMIT → IsPart text
  part_of_block : (head : Head) (lines : List (List ℕ)) → HasHead text head (after_line_feeds lines) → All (Lacks 10) lines →
      0 < length lines → length lines ≤ head.count → length (after_line_feeds lines) ≤ BLOCK_LIMIT → IsPart text

-- the beginning of a line or of a block that is too long
pub data IsOverlong (text : List ℕ) : Type 0 where
  long_line : Lacks 10 text → LINE_LIMIT < length text → IsOverlong text
  long_block : (head : Head) (lines : List (List ℕ)) → HasHead text head (after_line_feeds lines) → All (Lacks 10) lines →
      length lines ≤ head.count → BLOCK_LIMIT < length (after_line_feeds lines) → IsOverlong text

-- the bytes begin so
abbrev pub BeginsOverlong : List ℕ → Type 0
BeginsOverlong bytes = (front rest : List ℕ) × (bytes ≡ front ++ rest) × IsOverlong front

-- neither has a whole request at its front, whatever follows an overlong beginning
abbrev pub HaveNoRequest : Type 0
HaveNoRequest = (bytes : List ℕ) → IsPart bytes ⊎ BeginsOverlong bytes → HasNoRequest bytes

-- ---- lines that were meant to begin a block

-- words are cut at single spaces; the last one ends with the line
pub data IsFirstWord (text word : List ℕ) : Type 0 where
  alone : Lacks 32 word → text ≡ word → IsFirstWord text word
  followed : (rest : List ℕ) → Lacks 32 word → text ≡ word ++ 32 ∷ rest → IsFirstWord text word

-- the words that a block begins with
abbrev pub IsStartWord : List ℕ → Type 0
IsStartWord word = (word ≡ codes "all") ⊎ (word ≡ codes "anew")

-- the line begins as a block does, with `at W ` before it for any word W or without
pub data NamesBlock (text : List ℕ) : Type 0 where
  at_front : (word : List ℕ) → IsFirstWord text word → IsStartWord word → NamesBlock text
  after_version : (version rest word : List ℕ) → Lacks 32 version → text ≡ codes "at" ++ 32 ∷ (version ++ 32 ∷ rest) →
      IsFirstWord rest word → IsStartWord word → NamesBlock text

-- a line that names a block, and is no first line of one: the lines of its block may follow
pub record IsBadHead (text : List ℕ) : Type 0 where
  pub names : NamesBlock text
  pub none : (head : Head) (rest : List ℕ) → ¬ HasHead text head rest
