use Rattle.std.proofs.Common.{reverse}
use Rattle.filter_parse.proofs.TakenLemmas.{has-relation-left, has-relation-right}
use Rattle.filter_parse.proofs.build.relation.Goals as goal

pub side-requires-clause-parts : goal.side-requires-clause-parts
side-requires-clause-parts g c = has-relation-right (reverse c.args.parts.now.now) c.args.relator c.requires.parts

pub side-requires-in-Relation-clause-parts : goal.side-requires-in-Relation-clause-parts
side-requires-in-Relation-clause-parts g c = has-relation-left _ (reverse c.args.parts.now.now) _ c.args.relator c.requires.parts c.in_ok-side-in-Relation.ensures
