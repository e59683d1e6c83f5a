use Rattle.std.proofs.Common.{ap, arith, subst, sym, ◌∙◌}
use Rattle.std.proofs.lemmas.Grind.{common_steps}
use Rattle.std.proofs.lemmas.List.{take_all}
use Rattle.bpf_asm.proofs.ProgramLemmas.{instruction_word_at, reads_back}
use Rattle.bpf_asm.specs.Assembly.{Assembles}
use Rattle.bpf_asm.specs.Text.{printed}
use Rattle.bpf_asm.proofs.printing.print.Goals as goal

pub from_instruction_word-requires : goal.from_instruction_word-requires
from_instruction_word-requires g c =
    instruction_word_at c.words-word-items.result.now c.loop-word.word-index (rw (← c.words-word-items.ensures.words) at c.words-word-items.ensures.program.accepted) c.loop-word-test.true

pub returns-clause-reads_back : goal.returns-clause-reads_back
returns-clause-reads_back g c =
    let all = take_all c.loop-word.word-index c.words-word-items.result.now c.loop-word-test.false in
    let text = c.loop-word.invariant ∙ ap printed (all ∙ c.words-word-items.ensures.words) in
    subst (λ bytes. Assembles bytes c.args.program.now.words) (sym text) (reads_back c.args.program.now.words c.words-word-items.ensures.program.accepted)

pub loop-word-preserved : goal.loop-word-preserved
loop-word-preserved g c = grind (arith, common_steps)

pub returns-clause-printed : goal.returns-clause-printed
returns-clause-printed g c = grind (arith, common_steps)
