use Rattle.std.proofs.Common.{subst, sym}
use Rattle.serve_control.specs.Answer.{RepliesToLine, no_memory, replied}
use Rattle.serve_control.proofs.line_reply.Goals as goal

pub returns-in-Ok : goal.returns-in-Ok
returns-in-Ok c =
    let one = c.in-Ok.ensures.answered in
    subst (λ reply. RepliesToLine c.args.text.now c.args.operator.now c.line.new.operator reply) (sym one.1) (replied one.0 one.2)

pub returns-in-Err : goal.returns-in-Err
returns-in-Err c =
    subst (λ reply. RepliesToLine c.args.text.now c.args.operator.now c.line.new.operator reply) (sym c.text_reply.ensures) (no_memory c.in-Err.ensures.unchanged)
