-- What `publish` says is that the configuration was tried.
use Rattle.std.proofs.Common.{◌≡◌, ◌<◌, ◌≤◌, ◌∷◌, ◌++◌, ◌↔◌, Err, IfErr, List, Ok, OnOk, Result, [], inl, inr, refl, subst, ℕ}
use Rattle.config_image.specs.Image.{Group}
use Rattle.member_group.specs.Charge.{charge_of}
use Rattle.read_section.specs.Operator.{OperatorValue}
use Rattle.retire.specs.Publish.{IsBusy, IsRefusedAs, Publishes}
use Rattle.retire.specs.declared.fault.PublishFault.{PublishFault}
use Rattle.retire.specs.declared.fault.PublishFault.TheVariants.{Busy, Exhausted, TooBig}
use Rattle.versions.specs.Free.{number_after}
use Rattle.versions.specs.declared.layout.TheConstants.{CHARGE_LIMIT, LAST_NUMBER}
use Rattle.command_flood.specs.Publications.{AreTried, IsTried}

pub tried_more : (tried : List (List Group)) (config : List Group) (before mid after : OperatorValue) → AreTried tried before mid → IsTried config mid after
    → AreTried (tried ++ config ∷ []) before after
tried_more [] config before mid after same is = (after, subst (λ (operator : OperatorValue). IsTried config operator after) same is, refl)
tried_more (first ∷ rest) config before mid after (next, done, more) is = (next, done, tried_more rest config next mid after more is)

-- the clauses of `publish`, and what it answered
pub is_tried : (config : List Group) (before after : OperatorValue) (result : Result ℕ (PublishFault × List Group)) → OnOk result (Publishes before after config)
    → (IsRefusedAs TooBig result ↔ (CHARGE_LIMIT < charge_of config))
    → (IsRefusedAs Exhausted result ↔ ((charge_of config ≤ CHARGE_LIMIT) × (number_after before.view.log ≡ LAST_NUMBER)))
    → (IsRefusedAs Busy result → IsBusy before after)
    → IfErr result (λ refusal. (refusal.0 ≡ Busy → ⊥) → after ≡ before)
    → IsTried config before after
is_tried config before after (Ok number) published too_big exhausted busy kept = inl published
is_tried config before after (Err (TooBig, back)) published too_big exhausted busy kept = inr (inr (inl (too_big.0 refl), kept (λ same. cc)))
is_tried config before after (Err (Exhausted, back)) published too_big exhausted busy kept = inr (inr (inr (exhausted.0 refl).1, kept (λ same. cc)))
is_tried config before after (Err (Busy, back)) published too_big exhausted busy kept = inr (inl (busy refl))
