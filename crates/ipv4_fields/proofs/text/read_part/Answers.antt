use Rattle.std.proofs.Common.{arith, decimal, subst}
use Rattle.ipv4_fields.specs.Cut.{Lacks}
use Rattle.ipv4_fields.proofs.TextLemmas.{has_separator, one_part}
use Rattle.ipv4_fields.proofs.text.read_part.Goals as goal

pub returns-in_err-part : goal.returns-in_err-part
returns-in_err-part c =
    rw c.from_residual.ensures
    (λ n rest small is. has_separator c.args.separator (decimal n) rest (subst (Lacks c.args.separator) is c.in_err-part.ensures))

pub returns-in_err-read_number : goal.returns-in_err-read_number
returns-in_err-read_number c =
    rw c.from_residual-in_err-read_number.ensures
    (λ n rest small is. c.in_err-read_number.ensures n (omega arith) (one_part c.args.separator n c.args.text.now c.in_ok-part.part.now c.in_ok-part.rest.now rest c.requires c.in_ok-part.ensures is).0)
