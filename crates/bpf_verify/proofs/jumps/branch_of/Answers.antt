use Rattle.std.proofs.Common.{rules}
use Rattle.bpf_insn.specs.declared.instruction.Operand.TheVariants.{K, X}
use Rattle.bpf_insn.specs.Word.{constant_of}
use Rattle.bpf_verify.proofs.JumpLemmas.{constant_test-read, x_test-read}
use Rattle.bpf_verify.proofs.jumps.branch_of.Goals as goal

pub returns-in-Some : goal.returns-in-Some
returns-in-Some c =
    (c.in-Some._test, (K (constant_of c.args.word), rw c.offsets_of.ensures (constant_test-read c.args.word c.in-Some._test c.in-Some.ensures)))

pub returns-then-word-eq0 : goal.returns-then-word-eq0
returns-then-word-eq0 c =
    (c.in-Some-x_test._test, (X, rw c.offsets_of-then-word-eq0.ensures (x_test-read c.args.word c.in-Some-x_test._test c.in-Some-x_test.ensures c.if-word-eq0.true)))

pub returns-else-word-eq0 : goal.returns-else-word-eq0
returns-else-word-eq0 c = search rules

pub returns-in_default-x_test : goal.returns-in_default-x_test
returns-in_default-x_test c = search rules
