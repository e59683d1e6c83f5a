use Rattle.std.proofs.Common.{arith, decimal, inl, subst}
use Rattle.ipv4_fields.specs.Cut.{Lacks}
use Rattle.ipv4_fields.proofs.TextLemmas.{has_separator, one_part}
use Rattle.bpf_formats.proofs.item.read_field.Goals as goal

pub returns-in_err-field : goal.returns-in_err-field
returns-in_err-field c =
    rw c.from_residual.ensures
    (λ n rest small is. has_separator 32 (decimal n) rest (subst (Lacks 32) is c.in_err-field.ensures))

pub returns-in_err-read_number : goal.returns-in_err-read_number
returns-in_err-read_number c =
    rw c.from_residual-in_err-read_number.ensures
    (λ n rest small is. let range = c.ranges.limit in c.in_err-read_number.ensures n (omega arith) (one_part 32 n c.args.text.now c.in_ok-field.field.now c.in_ok-field.rest.now rest (inl (omega arith)) c.in_ok-field.ensures is).0)
