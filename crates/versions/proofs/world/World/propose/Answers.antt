use Rattle.std.proofs.Common.{arith, Some, [], ap, length, subst, sym, ◌++◌, ◌∙◌, ◌∷◌, ◌≡◌, rules}
use Rattle.std.proofs.lemmas.Grind.{common_steps}
use Rattle.versions.specs.declared.step.Event.TheVariants.{Proposed}
use Rattle.versions.specs.body.WorldKept.{IsWorld}
use Rattle.versions.proofs.WorldLemmas.{IsWorld-proposed, has_room, light}
use Rattle.versions.proofs.world.World.propose.Goals as goal

pub invariant_of-self-2 : goal.invariant_of-self-2
invariant_of-self-2 g c =
    let w = c.self.inside in
    let events : c.push_reserved.new.self.items ≡ w.events.items ++ Proposed c.args.config ∷ [] = c.push_reserved.ensures.items ∙ ap (λ l. l ++ Proposed c.args.config ∷ []) c.reserve.ensures.items in
    let place : c.len-place.result ≡ length w.events.items = c.len-place.ensures ∙ (c.reserve.ensures.len ∙ w.events.ok.0) in
    subst (λ l. IsWorld w.opening l w.words.items w.progress (Some c.len-place.result)) (sym events)
    (subst (λ n. IsWorld w.opening (w.events.items ++ Proposed c.args.config ∷ []) w.words.items w.progress (Some n)) (sym place)
    (IsWorld-proposed w.opening w.events.items w.words.items w.progress w.proposal c.args.config c.self.invariant (light c.args.config c.charge.result c.charge.ensures.charge_exact c.if-charge-gt-CHARGE_LIMIT.false) (has_room c.args.config c.charge.result c.charge.ensures.config c.charge.ensures.charge_exact c.if-charge-gt-CHARGE_LIMIT.false)))

pub returns-clause-cause : goal.returns-clause-cause
returns-clause-cause g c = search rules

pub returns-clause-proposed : goal.returns-clause-proposed
returns-clause-proposed g c = grind (arith, common_steps)

pub returns-clause-too_big : goal.returns-clause-too_big
returns-clause-too_big g c = search rules

pub returns-then-charge-gt-CHARGE_LIMIT-clause-cause : goal.returns-then-charge-gt-CHARGE_LIMIT-clause-cause
returns-then-charge-gt-CHARGE_LIMIT-clause-cause g c = search rules

pub returns-then-charge-gt-CHARGE_LIMIT-clause-proposed : goal.returns-then-charge-gt-CHARGE_LIMIT-clause-proposed
returns-then-charge-gt-CHARGE_LIMIT-clause-proposed g c = search rules

pub returns-then-charge-gt-CHARGE_LIMIT-clause-too_big : goal.returns-then-charge-gt-CHARGE_LIMIT-clause-too_big
returns-then-charge-gt-CHARGE_LIMIT-clause-too_big g c = search rules
