use Rattle.std.proofs.Common.{◌≡◌, Some, drop}
use Rattle.bpf_asm.specs.body.Reading.{numeral_after}
use Rattle.bpf_asm.proofs.number.numeral.Given as goal

abbrev pub invariant-loop-digit : goal.invariant-loop-digit
invariant-loop-digit l =
    numeral_after l.radix (drop l.digit-index l.digits) (Some l.value) ≡ numeral_after l.radix l.digits (Some 0)
