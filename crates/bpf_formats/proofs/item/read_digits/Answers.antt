use Rattle.std.proofs.Common.{arith}
use Rattle.std.proofs.lemmas.Grind.{common_steps}
use Rattle.bpf_formats.proofs.DigitLemmas.{parsed, spelled-utf8}
use Rattle.bpf_formats.proofs.item.read_digits.Goals as goal

pub returns-in_default : goal.returns-in_default
returns-in_default c = λ it spelled. c.in_default.ensures.cases.0 (spelled-utf8 c.args.item.now it spelled)

pub returns : goal.returns
returns c =
    rw c.ok.ensures.value
    (parsed c.args.item.now c.from_str_radix.result (omega arith) c.if-item-eq43.false (rw c.in-Ok.ensures.cases.0 at c.from_str_radix.ensures.value))

pub returns-then-item-ne16 : goal.returns-then-item-ne16
returns-then-item-ne16 c = grind (arith, common_steps)
