use Rattle.std.proofs.Common.{subst}
use Rattle.versions.specs.Legal.{IsReached}
use Rattle.versions.specs.Table.{the_shape}
use Rattle.versions.proofs.WorldLemmas.{IsReached-world}
use Rattle.versions.proofs.world.World.word.Goals as goal

pub returns-clause-reached : goal.returns-clause-reached
returns-clause-reached g c = let w = c.self.inside in let h = c.self.invariant in subst (IsReached the_shape) c.self.view_is (IsReached-world w.opening w.events.items h.opened h.charge h.legal)
