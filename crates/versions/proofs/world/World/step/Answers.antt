use Rattle.std.proofs.Common.{arith, [], ap, set, subst, sym, ◌++◌, ◌∙◌, ◌∷◌, ◌≡◌, List, rules}
use Rattle.std.proofs.lemmas.Grind.{common_steps}
use Rattle.config_image.specs.Image.{Group}
use Rattle.versions.specs.declared.step.Event.TheVariants.{Stepped}
use Rattle.versions.specs.State.{State}
use Rattle.versions.specs.Legal.{IsLegalStep}
use Rattle.versions.specs.body.Mirror.{IsMirror}
use Rattle.versions.specs.Table.{the_shape}
use Rattle.versions.specs.World.{world_after}
use Rattle.versions.proofs.WorldLemmas.{IsReached-world, IsWorld-taken, world_after-pushed}
use Rattle.versions.proofs.TraceLemmas.{one_word}
use Rattle.versions.specs.Step.{place_of}
use Rattle.versions.proofs.world.World.step.Goals as goal

pub take-requires-clause-legal : goal.take-requires-clause-legal
take-requires-clause-legal g c = let w = c.self.inside in let h = c.self.invariant in let s = world_after w.opening w.events.items in (
  s,
  IsReached-world w.opening w.events.items h.opened h.charge h.legal,
  subst (λ l. IsMirror the_shape s l w.progress) (sym c.deref_mut.ensures.value) h.mirror,
  subst (λ (t : State (List Group)). IsLegalStep the_shape t c.args.step c.in-Some.word) (sym c.self.view_is) c.in-Some.ensures.decided,
)

pub invariant_of-self-2 : goal.invariant_of-self-2
invariant_of-self-2 g c =
    let w = c.self.inside in let h = c.self.invariant in let s = world_after w.opening w.events.items in
    let legal : IsLegalStep the_shape s c.args.step c.in-Some.word = subst (λ (t : State (List Group)). IsLegalStep the_shape t c.args.step c.in-Some.word) (sym c.self.view_is) c.in-Some.ensures.decided in
    let events : c.push_reserved.new.self.items ≡ w.events.items ++ Stepped c.args.step c.in-Some.word ∷ [] = c.push_reserved.ensures.items ∙ ap (λ l. l ++ Stepped c.args.step c.in-Some.word ∷ []) c.reserve.ensures.items in
    let taken = IsWorld-taken w.opening w.events.items w.words.items w.progress w.proposal c.args.step c.in-Some.word h legal in
    search (rules, taken, events)

pub returns-clause-one_word : goal.returns-clause-one_word
returns-clause-one_word g c =
    let w = c.self.inside in let s = world_after w.opening w.events.items in
    let legal : IsLegalStep the_shape s c.args.step c.in-Some.word = subst (λ (t : State (List Group)). IsLegalStep the_shape t c.args.step c.in-Some.word) (sym c.self.view_is) c.in-Some.ensures.decided in
    let events : c.push_reserved.new.self.items ≡ w.events.items ++ Stepped c.args.step c.in-Some.word ∷ [] = c.push_reserved.ensures.items ∙ ap (λ l. l ++ Stepped c.args.step c.in-Some.word ∷ []) c.reserve.ensures.items in
    ap (λ l. (world_after w.opening l).words) events ∙ (ap (λ (t : State (List Group)). t.words) (world_after-pushed w.opening w.events.items (Stepped c.args.step c.in-Some.word))
    ∙ (one_word the_shape s c.args.step c.in-Some.word legal ∙ ap (λ (t : State (List Group)). set t.words (place_of c.args.step) c.in-Some.word) c.self.view_is))

pub returns-clause-cause : goal.returns-clause-cause
returns-clause-cause g c = search rules

pub returns-clause-state_after : goal.returns-clause-state_after
returns-clause-state_after g c = grind (arith, common_steps)

pub returns-clause-step_answer : goal.returns-clause-step_answer
returns-clause-step_answer g c = search rules

pub returns-clause-step_exact : goal.returns-clause-step_exact
returns-clause-step_exact g c = search rules

pub returns-in_default-clause-cause : goal.returns-in_default-clause-cause
returns-in_default-clause-cause g c = search rules

pub returns-in_default-clause-one_word : goal.returns-in_default-clause-one_word
returns-in_default-clause-one_word g c = search rules

pub returns-in_default-clause-state_after : goal.returns-in_default-clause-state_after
returns-in_default-clause-state_after g c = search rules

pub returns-in_default-clause-step_answer : goal.returns-in_default-clause-step_answer
returns-in_default-clause-step_answer g c = search rules

pub returns-in_default-clause-step_exact : goal.returns-in_default-clause-step_exact
returns-in_default-clause-step_exact g c = search rules
