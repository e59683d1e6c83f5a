use Rattle.std.proofs.Common.{◌∙◌, subst, sym}
use Rattle.bpf_verify.specs.Accepted.{IsAccepted}
use Rattle.filter_tree.specs.View.{tree_of}
use Rattle.filter_compile.specs.body.Program.{IsCompiledTo}
use Rattle.filter_compile.proofs.program_of.Goals as goal

pub charged-requires-clause-accepted : goal.charged-requires-clause-accepted
charged-requires-clause-accepted g c = subst IsAccepted (sym c.into_words.ensures.words) c.in_ok-write_words.ensures.program.accepted

pub returns-clause-program : goal.returns-clause-program
returns-clause-program g c = subst (IsCompiledTo (tree_of c.args.expr.now)) (sym (c.charged.ensures.words_taken ∙ c.into_words.ensures.words)) c.in_ok-write_words.ensures.program

pub returns-clause-charge : goal.returns-clause-charge
returns-clause-charge g c = c.charged.ensures.charge_taken
