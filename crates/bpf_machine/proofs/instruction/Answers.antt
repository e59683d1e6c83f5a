use Rattle.std.proofs.Common.{◌≡◌, ◌∙◌, ◌+◌, ◌-◌, ℕ, Some, arith, slice_get, subst}
use Rattle.bpf_verify.proofs.PlaceLemmas.{slice_get-program_at}
use Rattle.bpf_machine.proofs.SafeLemmas.{instruction_cell, instruction_word}
use Rattle.bpf_machine.proofs.instruction.Goals as goal

pub from_instruction_word-requires : goal.from_instruction_word-requires
from_instruction_word-requires g c =
    let low = c.requires.inside.0 in let there : c.args.place ≡ c.args.from + (c.args.place - c.args.from) = omega arith in
    instruction_word _ c.args.from c.args.len (c.args.place - c.args.from) _ c.requires.within c.requires.inside.1 c.requires.accepted
    (subst (λ (n : ℕ). slice_get (g.W.Words.words c.args.words.now) n ≡ Some c.args.word) there c.requires.word)

pub returns-clause-instruction : goal.returns-clause-instruction
returns-clause-instruction g c =
    let low = c.requires.inside.0 in let there : c.args.place ≡ c.args.from + (c.args.place - c.args.from) = omega arith in
    (_, slice_get-program_at _ c.args.from c.args.len (c.args.place - c.args.from) c.requires.within c.requires.inside.1 ∙ subst (λ (n : ℕ). slice_get (g.W.Words.words c.args.words.now) n ≡ Some c.args.word) there c.requires.word, c.from_instruction_word.ensures)

pub returns-clause-cell : goal.returns-clause-cell
returns-clause-cell g c =
    let low = c.requires.inside.0 in let there : c.args.place ≡ c.args.from + (c.args.place - c.args.from) = omega arith in
    instruction_cell _ c.args.from c.args.len (c.args.place - c.args.from) _ c.requires.within c.requires.inside.1 c.requires.accepted
    (_, slice_get-program_at _ c.args.from c.args.len (c.args.place - c.args.from) c.requires.within c.requires.inside.1 ∙ subst (λ (n : ℕ). slice_get (g.W.Words.words c.args.words.now) n ≡ Some c.args.word) there c.requires.word, c.from_instruction_word.ensures)
