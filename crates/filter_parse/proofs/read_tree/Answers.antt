use Rattle.std.proofs.Common.{◌∙◌, ap, inl, inr, reverse, rules, sym}
use Rattle.std.proofs.lemmas.Result.{err_from_is_err_and}
use Rattle.filter_tree.specs.View.{tree_of}
use Rattle.filter_parse.proofs.ParseLemmas.{deep-says, fault-says, parts-tree, tree-says}
use Rattle.filter_parse.proofs.read_tree.Goals as goal

pub returns-in_err-read-clause-fault : goal.returns-in_err-read-clause-fault
returns-in_err-read-clause-fault g c =
    let p = err_from_is_err_and c.from_residual.result c.from_residual.ensures.1 in
    rw (p.1, p.2) elim c.in_err-read.ensures [ inl e ↦ inl e | inr e ↦ inr (fault-says c.args.text.now c.in_err-read.field-0.0 e) ]

pub returns-then-branch-clause-fault : goal.returns-then-branch-clause-fault
returns-then-branch-clause-fault g c =
    inr (deep-says c.args.text.now c.read.new.self.output.entries.items c.entries-parts.result.now c.in_ok-read.ensures c.entries-parts.ensures (c.in_ok-is_too_deep.ensures.deep c.if-branch.true))

pub build-requires-clause-parts : goal.build-requires-clause-parts
build-requires-clause-parts g c = (rw c.entries-parts.ensures (parts-tree c.args.text.now c.read.new.self.output.entries.items c.in_ok-read.ensures))

pub returns-clause-parses : goal.returns-clause-parses
returns-clause-parses g c =
    tree-says c.args.text.now c.read.new.self.output.entries.items c.entries-parts.result.now (tree_of c.build.new.to) (reverse c.build.new.parts.now)
    c.in_ok-read.ensures c.entries-parts.ensures (c.in_ok-is_too_deep.ensures.shallow c.if-branch.false) (ap reverse (sym c.entries-parts.ensures) ∙ c.in_ok-build.ensures)

pub returns-clause-fault : goal.returns-clause-fault
returns-clause-fault g c = search rules

pub returns-then-branch-clause-parses : goal.returns-then-branch-clause-parses
returns-then-branch-clause-parses g c = search rules
