use Rattle.std.proofs.Common.{◌∙◌, ap, nat_lt}
use Rattle.control_line.proofs.JudgeLemmas.{is_digit}
use Rattle.control_line.proofs.packet.is_digit.Goals as goal

pub returns : goal.returns
returns c = ap (λ n. nat_lt n 16) c.worth_of.ensures ∙ is_digit c.args.byte
