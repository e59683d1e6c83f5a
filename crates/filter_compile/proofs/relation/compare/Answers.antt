use Rattle.std.proofs.Common.{sym}
use Rattle.std.proofs.lemmas.Result.{on_ok_weaker}
use Rattle.filter_emit.proofs.CheckLemmas.{Checks-not, Checks-same}
use Rattle.filter_emit.proofs.WritesLemmas.{Writes-not}
use Rattle.bpf_machine.specs.Meaning.{operand_value}
use Rattle.filter_compile.proofs.HeaderLemmas.{le_not_lt, lt_not_le}
use Rattle.filter_compile.proofs.relation.compare.Goals as goal

pub returns-in-Greater : goal.returns-in-Greater
returns-in-Greater g c = record { writes = rw c.in-Greater.is c.branch-code.ensures.writes }

pub returns-in-GreaterOrEqual : goal.returns-in-GreaterOrEqual
returns-in-GreaterOrEqual g c = record { writes = rw c.in-GreaterOrEqual.is c.branch-code-in-GreaterOrEqual.ensures.writes }

pub returns-in-Equal : goal.returns-in-Equal
returns-in-Equal g c = record { writes = rw c.in-Equal.is c.branch-code-in-Equal.ensures.writes }

pub returns-in-Less : goal.returns-in-Less
returns-in-Less g c = record {
  writes = rw c.in-Less.is (on_ok_weaker c.branch-code-in-Less.result
      (λ w. Writes-not (λ at_yes at_no words h. Checks-same (λ a x. sym (lt_not_le a (operand_value c.args.right x))) (Checks-not h)) w) c.branch-code-in-Less.ensures.writes);
}

pub returns-in-LessOrEqual : goal.returns-in-LessOrEqual
returns-in-LessOrEqual g c = record {
  writes = rw c.in-LessOrEqual.is (on_ok_weaker c.branch-code-in-LessOrEqual.result
      (λ w. Writes-not (λ at_yes at_no words h. Checks-same (λ a x. sym (le_not_lt a (operand_value c.args.right x))) (Checks-not h)) w) c.branch-code-in-LessOrEqual.ensures.writes);
}

pub returns-in-NotEqual : goal.returns-in-NotEqual
returns-in-NotEqual g c = record {
  writes = rw c.in-NotEqual.is (on_ok_weaker c.branch-code-in-NotEqual.result (λ w. Writes-not (λ at_yes at_no words h. Checks-not h) w) c.branch-code-in-NotEqual.ensures.writes);
}
