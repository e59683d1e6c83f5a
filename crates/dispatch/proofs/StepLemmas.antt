-- The steps that a worker adds to its log, and where it is then: over one section, and one after the other.
use Rattle.std.proofs.Common.{◌≡◌, ◌∙◌, ◌+◌, ◌/◌, ◌%◌, ◌++◌, ◌∷◌, All, Contains, List, [], ap, append_assoc, get_or, refl, subst, sym, ℕ}
use Rattle.std.proofs.lemmas.List.{get_or_default}
use Rattle.std.proofs.lemmas.List.Elements.{All-append, All-cons, All-nil}
use Rattle.config_image.specs.Image.{Group}
use Rattle.versions.specs.declared.step.Step.{Step}
use Rattle.versions.specs.declared.step.Step.TheVariants.{Announce, Leave, Peek, Pin}
use Rattle.versions.specs.declared.step.Entry.{Entry}
use Rattle.versions.specs.declared.view.Stage.{Stage}
use Rattle.versions.specs.declared.view.WorkerView.{WorkerView}
use Rattle.versions.specs.declared.view.Stage.TheVariants.{Announced, Inside, Outside, Peeked}
use Rattle.versions.specs.Step.{IsStepOf, entry}
use Rattle.versions.specs.Table.{the_shape}
use Rattle.read_section.specs.Section.{IsFetchIn, IsWholeSection}
use Rattle.read_section.specs.Worker.{Enters, IsOutside, WorkerValue, left, left_from, steps}
use Rattle.dispatch.specs.Batch.{IsJudged, Judged}
use Rattle.dispatch.specs.WorkerSteps.{AddsOwnSteps}

-- the entry is a step of worker w
abbrev IsOwn : ℕ → Entry → Type 0
IsOwn w newest = IsStepOf w newest.step

pub adds_nothing : (worker : WorkerValue) → AddsOwnSteps worker worker
adds_nothing worker = record { number = refl; newer = []; log = refl; own = All-nil (IsOwn worker.view.number) }

pub adds_more : (before mid after : WorkerValue) → AddsOwnSteps before mid → AddsOwnSteps mid after → AddsOwnSteps before after
adds_more before mid after first second = record {
  number = second.number ∙ first.number;
  newer = second.newer ++ first.newer;
  log = second.log ∙ ap (λ (older : List Entry). second.newer ++ older) first.log ∙ sym (append_assoc second.newer first.newer before.view.log);
  own = All-append (IsOwn before.view.number) second.newer first.newer (subst (λ (w : ℕ). All (IsOwn w) second.newer) first.number second.own) first.own;
}

-- where an abandoned section left the worker inside it leaves; else it makes no step
leaves : (worker : WorkerValue) → AddsOwnSteps worker (steps left worker)
leaves worker = go worker.view.stage
  where
    go : (stage : Stage) → AddsOwnSteps worker (steps (left_from stage) worker)
    go Outside = adds_nothing worker
    go (Peeked n) = adds_nothing worker
    go (Announced k) = adds_nothing worker
    go (Inside k n r) =
        let w = worker.view.number in
        record { number = refl; newer = entry (Leave w) 0 ∷ []; log = refl; own = All-cons (IsOwn w) (entry (Leave w) 0) [] refl (All-nil (IsOwn w)) }

module _ (before inside : WorkerValue) (entered : Enters before inside) where
  enters : AddsOwnSteps before inside
  enters =
      let worker = steps left before in let w = worker.view.number in
      let peek = entry (Peek w) entered.peeked in let announce = entry (Announce w) (entered.peeked / the_shape.rows + 1) in let pin = entry (Pin w) entered.pinned in
      adds_more before worker inside (leaves before) (record {
        number = ap (λ (v : WorkerValue). v.view.number) entered.three_steps;
        newer = pin ∷ announce ∷ peek ∷ [];
        log = ap (λ (v : WorkerValue). v.view.log) entered.three_steps;
        own = All-cons (IsOwn w) pin (announce ∷ peek ∷ []) refl (All-cons (IsOwn w) announce (peek ∷ []) refl (All-cons (IsOwn w) peek [] refl (All-nil (IsOwn w))));
      })

  inside_stage : inside.view.stage ≡ Inside (entered.peeked / the_shape.rows + 1) (entered.pinned / the_shape.rows) (entered.pinned % the_shape.rows)
  inside_stage = ap (λ (v : WorkerValue). v.view.stage) entered.three_steps

fetch_is_own : (view : WorkerView (List Group)) (step : Step) → IsFetchIn view step → IsStepOf view.number step
fetch_is_own view step fetch = subst (IsStepOf view.number) (sym fetch.1) refl

-- in one whole section
section_adds : (before inside after : WorkerValue) → IsWholeSection before inside after → AddsOwnSteps before after
section_adds before inside after section =
    let w = inside.view.number in
    let fetched : (newest : Entry) → Contains section.fetches newest → IsOwn w newest =
    λ newest among. fetch_is_own inside.view newest.step (section.each _ _ _ newest (inside_stage before inside section.entered) among) in
    adds_more before inside after (enters before inside section.entered) (record {
      number = section.number;
      newer = entry (Leave w) 0 ∷ section.fetches;
      log = section.log;
      own = All-cons (IsOwn w) (entry (Leave w) 0) section.fetches refl
          (λ k d low. fetched (get_or section.fetches k d) (k, low, get_or_default section.fetches k (get_or section.fetches k d) d low));
    })

-- a datagram was judged, which left the worker so
module _ (before after : WorkerValue) (judged : Judged) (own : IsJudged before judged) (is : after ≡ judged.after) where
  pub judging_adds : AddsOwnSteps before after
  judging_adds = subst (AddsOwnSteps before) (sym is) (section_adds before judged.inside judged.after own.own_section)

  pub judging_leaves : IsOutside after.view.stage
  judging_leaves = subst IsOutside (sym (ap (λ (v : WorkerValue). v.view.stage) is ∙ own.own_section.outside)) tt
