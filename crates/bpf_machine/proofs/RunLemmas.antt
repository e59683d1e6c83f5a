-- Runs word by word, and from a place of a program on.
use Rattle.std.proofs.Common.{◌≡◌, ◌∙◌, ◌∷◌, ◌+◌, List, Some, [], ap, arith, drop, get_or, refl, suc, zero, ℕ}
use Rattle.std.specs.Prelude.{slice_get}
use Rattle.std.proofs.Math.Seq.{drop-cons, drop-nil}
use Rattle.std.proofs.lemmas.List.{drop-drop}
use Rattle.std.proofs.lemmas.Option.{get_or_from_slice_get, slice_get_within}
use Rattle.bpf_insn.specs.declared.instruction.Insn.{Insn}
use Rattle.bpf_insn.specs.Word.{instruction_of}
use Rattle.bpf_verify.specs.Path.{IsAt}
use Rattle.bpf_machine.specs.Meaning.{Cells, Ending, MeansByFirstWord, Run, ends, goes_on, effect, one_more, run_after, run_on, word_effect}
use Rattle.bpf_machine.specs.body.Running.{run_from}

-- ---- what remains of a program

pub run_after-drop : (dropped : ℕ) (words : List ℕ) (a x : ℕ) (cells : Cells) (packet : List ℕ) → run_after dropped words a x cells packet ≡ run_after 0 (drop dropped words) a x cells packet
unfolding run_after
run_after-drop dropped [] a x cells packet = rw drop-nil refl
run_after-drop zero (word ∷ words) a x cells packet = refl
run_after-drop (suc dropped) (word ∷ words) a x cells packet = run_after-drop dropped words a x cells packet

run_after-cons : (word : ℕ) (words : List ℕ) (a x : ℕ) (cells : Cells) (packet : List ℕ) → run_after 0 (word ∷ words) a x cells packet ≡ run_on (λ dropped a' x' cells'. run_after dropped words a' x' cells' packet) (word_effect (instruction_of word) a x cells packet)
unfolding run_after
run_after-cons word words a x cells packet = refl

pub means_by_first_word : (packet : List ℕ) → MeansByFirstWord packet
unfolding run_after
means_by_first_word packet =
    record {
      none_remains = λ a x cells. (refl, refl);
      first_ends = λ word words a x cells ending at_end.
          let run = run_after-cons word words a x cells packet ∙ ap (run_on (λ dropped a' x' cells'. run_after dropped words a' x' cells' packet)) at_end in
          (ap (λ (r : Run). r.0) run, ap (λ (r : Run). r.1) run);
      first_goes_on = λ word words a x cells dropped a' x' cells' goes.
          let run = run_after-cons word words a x cells packet
          ∙ ap (run_on (λ dropped a' x' cells'. run_after dropped words a' x' cells' packet)) goes
          ∙ ap one_more (run_after-drop dropped words a' x' cells' packet) in
          (ap (λ (r : Run). r.0) run, ap (λ (r : Run). r.1) run);
    }

drop-at : (program : List ℕ) (pc word : ℕ) → slice_get program pc ≡ Some word → drop pc program ≡ word ∷ drop (pc + 1) program
drop-at program pc word at =
    let inside = slice_get_within program pc word at in
    let cons : drop pc program ≡ get_or program pc 0 ∷ drop (suc pc) program = drop-cons program pc 0 inside in
    let head : get_or program pc 0 ≡ word = get_or_from_slice_get program pc word 0 at in
    let next : suc pc ≡ pc + 1 = omega arith in
    cons ∙ ap (λ first. first ∷ drop (suc pc) program) head ∙ ap (λ n. word ∷ drop n program) next

module _ (program : List ℕ) (pc : ℕ) (insn : Insn) (at : IsAt program pc insn) (a x : ℕ) (cells : Cells) (packet : List ℕ) where
  run_from-at : run_from program pc a x cells packet ≡ run_on (λ dropped a' x' cells'. run_after dropped (drop (pc + 1) program) a' x' cells' packet) (effect insn a x cells packet)
  run_from-at =
      ap (λ words. run_after 0 words a x cells packet) (drop-at program pc at.0 at.1)
      ∙ run_after-cons at.0 (drop (pc + 1) program) a x cells packet
      ∙ ap (λ read. run_on (λ dropped a' x' cells'. run_after dropped (drop (pc + 1) program) a' x' cells' packet) (word_effect read a x cells packet)) at.2

  pub run_from-goes_on : (dropped a' x' : ℕ) (cells' : Cells) → effect insn a x cells packet ≡ goes_on dropped a' x' cells' → run_from program pc a x cells packet ≡ one_more (run_from program (pc + 1 + dropped) a' x' cells' packet)
  run_from-goes_on dropped a' x' cells' goes =
      run_from-at
      ∙ ap (run_on (λ dropped a' x' cells'. run_after dropped (drop (pc + 1) program) a' x' cells' packet)) goes
      ∙ ap one_more (run_after-drop dropped (drop (pc + 1) program) a' x' cells' packet)
      ∙ ap (λ words. one_more (run_after 0 words a' x' cells' packet)) (drop-drop dropped (pc + 1) program)

  pub run_from-ends : (ending : Ending) → effect insn a x cells packet ≡ ends ending → run_from program pc a x cells packet ≡ (ending, 1)
  run_from-ends ending at_end =
      run_from-at ∙ ap (run_on (λ dropped a' x' cells'. run_after dropped (drop (pc + 1) program) a' x' cells' packet)) at_end
