use Rattle.std.proofs.Common.{arith, sym}
use Rattle.std.proofs.lemmas.List.{length-take-le, take_all}
use Rattle.command_explain.specs.declared.file_fault.TheConstants.{SHOWN_LIMIT}
use Rattle.command_operating.proofs.refused.front_of.Goals as goal

pub returns-then-reply-le-SHOWN_LIMIT : goal.returns-then-reply-le-SHOWN_LIMIT
returns-then-reply-le-SHOWN_LIMIT c = sym (take_all SHOWN_LIMIT c.args.reply.now (omega (arith, c.if-reply-le-SHOWN_LIMIT.true)))

pub slice_bounds-result-end : goal.slice_bounds-result-end
slice_bounds-result-end c = sym (length-take-le 256 c.args.reply.now (omega (arith, c.if-reply-le-SHOWN_LIMIT.false)))
