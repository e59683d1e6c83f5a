-- How the two programs of `first` end, as its lines say.
use Rattle.std.proofs.Common.{◌≡◌, ◌∙◌, ◌∷◌, List, [], ap, refl, sym, ℕ}
use Rattle.std.specs.Prelude.{min}
use Rattle.command_line.proofs.AcceptedLemmas.{first_program, second_program}
use Rattle.command_query.specs.declared.first_path.Line.{Line}
use Rattle.bpf_insn.specs.Table.{table, uses_of}
use Rattle.bpf_insn.specs.Word.{instruction_of}
use Rattle.bpf_machine.specs.Meaning.{Ret, cost_of, ending_of, run_after}

abbrev pub sample_packet : List ℕ
sample_packet =
    0x45 ∷ 0x00 ∷ 0x00 ∷ 0x1d ∷ 0x00 ∷ 0x00 ∷ 0x00 ∷ 0x00 ∷ 0x40 ∷ 0x11 ∷ 0x00 ∷ 0x00 ∷ 0x0a ∷ 0x00 ∷ 0x00 ∷ 0x01
    ∷ 0x0a ∷ 0x00 ∷ 0x00 ∷ 0x02 ∷ 0x13 ∷ 0x88 ∷ 0x00 ∷ 0x35 ∷ 0x00 ∷ 0x09 ∷ 0x00 ∷ 0x00 ∷ 0x61 ∷ []

first_ending : ending_of first_program sample_packet ≡ Ret 65535
unfolding run_after instruction_of uses_of table
first_ending = refl

first_cost : cost_of first_program sample_packet ≡ 3
unfolding run_after instruction_of uses_of table
first_cost = refl

second_ending : ending_of second_program sample_packet ≡ Ret 0
unfolding run_after instruction_of uses_of table
second_ending = refl

second_cost : cost_of second_program sample_packet ≡ 1
unfolding run_after instruction_of uses_of table
second_cost = refl

first_value : (program : List ℕ) (value : ℕ) → program ≡ first_program → ending_of program sample_packet ≡ Ret value → value ≡ 65535
first_value program value is e =
    let same : Ret value ≡ Ret 65535 = sym e ∙ ap (λ p. ending_of p sample_packet) is ∙ first_ending in cc

first_steps : (program : List ℕ) (steps : ℕ) → program ≡ first_program → steps ≡ cost_of program sample_packet → steps ≡ 3
first_steps program steps is e = e ∙ ap (λ p. cost_of p sample_packet) is ∙ first_cost

second_value : (program : List ℕ) (value : ℕ) → program ≡ second_program → ending_of program sample_packet ≡ Ret value → value ≡ 0
second_value program value is e =
    let same : Ret value ≡ Ret 0 = sym e ∙ ap (λ p. ending_of p sample_packet) is ∙ second_ending in cc

second_steps : (program : List ℕ) (steps : ℕ) → program ≡ second_program → steps ≡ cost_of program sample_packet → steps ≡ 1
second_steps program steps is e = e ∙ ap (λ p. cost_of p sample_packet) is ∙ second_cost

-- ---- the lines

line-is : (line : Line) (version value steps kept : ℕ) → line.version ≡ version → line.value ≡ value → line.steps ≡ steps → line.kept ≡ kept → line ≡ record { version = version; value = value; steps = steps; kept = kept }
line-is line version value steps kept a b c d = rw (← a, ← b, ← c, ← d) refl

pub first_line : (line : Line) (number : ℕ) (program : List ℕ) → number ≡ 0 → program ≡ first_program → line.version ≡ number → ending_of program sample_packet ≡ Ret line.value → line.steps ≡ cost_of program sample_packet → line.kept ≡ min line.value 29 → line ≡ record { version = 0; value = 65535; steps = 3; kept = 29 }
first_line line number program first is version value steps kept =
    let v = first_value program line.value is value in
    line-is line 0 65535 3 29 (version ∙ first) v (first_steps program line.steps is steps) (kept ∙ ap (λ n. min n 29) v)

pub second_line : (line : Line) (number : ℕ) (program : List ℕ) → number ≡ 1 → program ≡ second_program → line.version ≡ number → ending_of program sample_packet ≡ Ret line.value → line.steps ≡ cost_of program sample_packet → line.kept ≡ min line.value 29 → line ≡ record { version = 1; value = 0; steps = 1; kept = 0 }
second_line line number program second is version value steps kept =
    let v = second_value program line.value is value in
    line-is line 1 0 1 0 (version ∙ second) v (second_steps program line.steps is steps) (kept ∙ ap (λ n. min n 29) v)
