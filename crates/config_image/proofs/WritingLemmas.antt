-- Words that are put into a sink, one behind the other.
use Rattle.std.proofs.Common.{◌≡◌, ◌∙◌, ◌+◌, ◌++◌, ◌≤◌, List, [], ap, append_assoc, arith, length, length-append, refl, sym, ℕ}
use Rattle.std.proofs.lemmas.List.{append-nil}

-- of all words these are still to be written, and there is room for them
pub record IsWriting (taken_first : List ℕ) (room_first : ℕ) (taken : List ℕ) (room : ℕ) (left all : List ℕ) : Type 0 where
  pub words : taken ++ left ≡ taken_first ++ all
  pub room_kept : room + length all ≡ room_first + length left
  pub fits : length all ≤ room_first

pub writing_first : (taken : List ℕ) (room : ℕ) (all : List ℕ) → length all ≤ room → IsWriting taken room taken room all all
writing_first taken room all fits = record { words = refl; room_kept = refl; fits = fits }

module _ (taken_first : List ℕ) (room_first : ℕ) (taken : List ℕ) (room : ℕ) (left all : List ℕ) (writing : IsWriting taken_first room_first taken room left all) (piece rest : List ℕ) (split : left ≡ piece ++ rest) where
  size : length left ≡ length piece + length rest
  size = ap length split ∙ length-append piece rest

  pub writing_room : length piece ≤ room
  writing_room = let kept = writing.room_kept in let fits = writing.fits in let both = size in omega arith

  pub writing_piece : (taken' : List ℕ) (room' : ℕ) → taken' ≡ taken ++ piece → room' + length piece ≡ room → IsWriting taken_first room_first taken' room' rest all
  writing_piece taken' room' put less = record {
    words = ap (λ (ws : List ℕ). ws ++ rest) put ∙ append_assoc taken piece rest ∙ ap (λ (ws : List ℕ). taken ++ ws) (sym split) ∙ writing.words;
    room_kept = let kept = writing.room_kept in let both = size in omega arith;
    fits = writing.fits;
  }

pub writing_last : (taken_first : List ℕ) (room_first : ℕ) (taken : List ℕ) (room : ℕ) (all : List ℕ) → IsWriting taken_first room_first taken room [] all
    → (taken ≡ taken_first ++ all) × (room + length all ≡ room_first)
writing_last taken_first room_first taken room all writing =
    let kept = writing.room_kept in (sym (append-nil taken) ∙ writing.words, omega arith)
