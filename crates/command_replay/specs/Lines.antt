-- The lines of a script's text are the replies to the script's requests (docs/COMMANDS.md, "replay"): what a summary counts by lines
-- it counts by replies.
use Rattle.std.specs.Prelude.{◌≡◌, ◌++◌, ◌∷◌, All, List, [], ℕ}
use Rattle.std.specs.List.{flat_map}
use Rattle.control.specs.Script.{BeginsRequest, IsRequest, IsScriptText, RepliesTo, Standing, at_start, with_last_lf}
use Rattle.control_summary.specs.Summary.{lines_of}

-- requests one after the other, each with its LF, which is 10
abbrev pub ended : List (List ℕ) → List ℕ
ended requests = flat_map (λ request. request ++ 10 ∷ []) requests

-- the requests of a script; the last one may lack lines, and its LF
pub data AreRequestsOf (script : List ℕ) : List (List ℕ) → Type 0 where
  none_of : script ≡ [] → AreRequestsOf script []
  some_of : (requests : List (List ℕ)) (last : List ℕ) → All IsRequest requests → BeginsRequest last →
      with_last_lf script ≡ ended (requests ++ last ∷ []) → AreRequestsOf script (requests ++ last ∷ [])

-- one reply to each request, in their order, and the state of the script after the last
pub data AreRepliesInTurn : List (List ℕ) → List (List ℕ) → Standing → Type 0 where
  no_reply : AreRepliesInTurn [] [] at_start
  one_reply_more : (requests replies : List (List ℕ)) (request reply : List ℕ) (now next : Standing) →
      AreRepliesInTurn requests replies now → RepliesTo now request reply next →
      AreRepliesInTurn (requests ++ request ∷ []) (replies ++ reply ∷ []) next

-- the lines of a script's text are the replies to the requests of the script, one to each, in their order
abbrev pub LinesAreReplies : Type 0
LinesAreReplies =
    (script text : List ℕ) → IsScriptText script text
    → (requests : List (List ℕ)) × (last : Standing) × AreRequestsOf script requests × AreRepliesInTurn requests (lines_of text) last
