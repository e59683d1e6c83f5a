use Rattle.std.proofs.Common.{◌++◌, ap, arith, sym, ◌∙◌}
use Rattle.std.proofs.lemmas.Fmt.{decimal_digit}
use Rattle.control_line.proofs.DigitLemmas.{one_digit}
use Rattle.control_line.proofs.reply.Reply.push_digits.Goals as goal

pub push_digit-requires : goal.push_digit-requires
push_digit-requires c = omega (arith, c.requires, one_digit c.args.number (omega arith))

pub returns-then-number-lt10 : goal.returns-then-number-lt10
returns-then-number-lt10 c = c.push_digit.ensures ∙ ap (λ digits. c.args.self.now ++ digits) (sym (decimal_digit c.args.number (omega arith)))
