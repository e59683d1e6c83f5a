use Rattle.std.proofs.Common.{ap, subst, sym, ◌∙◌, List}
use Rattle.config_image.specs.Image.{Group}
use Rattle.versions.specs.State.{State}
use Rattle.versions.specs.body.Mirror.{IsDecided, IsMirror}
use Rattle.versions.specs.Table.{the_shape}
use Rattle.versions.specs.World.{world_after}
use Rattle.versions.proofs.WorldLemmas.{IsReached-world}
use Rattle.versions.proofs.world.World.word_of.Goals as goal

pub returns : goal.returns
returns g c = let w = c.self.inside in let h = c.self.invariant in let s = world_after w.opening w.events.items in record {
  decided = subst (λ (t : State (List Group)). IsDecided t c.args.step c.word_of.result) c.self.view_is
      (c.word_of.ensures s (IsReached-world w.opening w.events.items h.opened h.charge h.legal) h.room (subst (λ l. IsMirror the_shape s l w.progress) (sym c.deref.ensures.value) h.mirror)
      (ap (λ (t : State (List Group)). t.operator.proposal) c.self.view_is ∙ sym c.proposal.ensures.proposal));
}
