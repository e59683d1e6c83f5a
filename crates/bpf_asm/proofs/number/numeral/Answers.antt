use Rattle.std.proofs.Common.{◌∙◌, arith, sym}
use Rattle.bpf_asm.proofs.NumberLemmas.{numeral-stops}
use Rattle.bpf_asm.proofs.number.numeral.Goals as goal

pub returns-in_err-value : goal.returns-in_err-value
returns-in_err-value c =
    c.from_residual.ensures
    ∙ sym (numeral-stops c.args.radix c.loop-digit.value c.loop-digit.digit-index c.args.digits.now (omega arith) (sym c.next.ensures ∙ c.in_err-value.was) c.loop-digit.invariant)
