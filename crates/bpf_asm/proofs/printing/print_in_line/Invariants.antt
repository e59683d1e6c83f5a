use Rattle.std.proofs.Common.{◌≡◌, ◌∷◌, string_bytes, take, ℕ}
use Rattle.bpf_asm.specs.Text.{printed_in_line}
use Rattle.bpf_asm.proofs.printing.print_in_line.Given as goal

abbrev pub invariant-loop-word : goal.invariant-loop-word
invariant-loop-word g l =
    (first : ℕ)
    × (l.program.words ≡ first ∷ l.others)
    × (string_bytes l.text ≡ printed_in_line (first ∷ take l.word-index l.others))
