use Rattle.std.proofs.Common.{inl, inr}
use Rattle.std.proofs.lemmas.Result.{err_from_is_err_and}
use Rattle.filter_parse.proofs.ParseLemmas.{tree-or-fault}
use Rattle.filter_parse.proofs.parse.Goals as goal

pub returns-in_err-read_tree-clause-every_tree : goal.returns-in_err-read_tree-clause-every_tree
returns-in_err-read_tree-clause-every_tree g c = λ tree t.
    let p = err_from_is_err_and c.from_residual.result c.from_residual.ensures.1 in
    rw (p.1, p.2) elim c.in_err-read_tree.ensures.fault [ inl e ↦ e | inr is ↦ absurd (tree-or-fault c.args.text.now tree c.in_err-read_tree.field-0.0 t is) ]
