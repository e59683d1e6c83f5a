-- The configurations of `first`, their selectors in a section, and which version a section is of.
use Rattle.std.proofs.Common.{◌≡◌, ◌∙◌, ◌∷◌, ◌++◌, ◌+◌, ◌<◌, ◌≤◌, List, None, Option, Some, [], ap, append_assoc, arith, length, length-append, refl, subst, suc, sym, zero, ℕ}
use Rattle.std.proofs.lemmas.List.{append-nil}
use mathlib.Core.Option.{some, some-injective, some-ne-none}
use lib.ListN.{get_elem?}
use Rattle.std.specs.Prelude.{IfSome}
use Rattle.bpf_verify.specs.Path.{program_at}
use Rattle.bpf_verify.specs.Accepted.{IsAccepted}
use Rattle.bpf_verify.specs.Program.{IsProgram, ProgramValue}
use Rattle.config_image.specs.Image.{Group}
use Rattle.config_image.specs.declared.lookup.FoundGroup.{FoundGroup}
use Rattle.config_image.specs.declared.lookup.ProgramPlace.{ProgramPlace}
use Rattle.config_image.specs.Lookup.{BeginsWithImage, HasGroup, IsGroupFound, IsProgramFound, StandsAt}
use Rattle.config_image.proofs.LookupLemmas.{item_at}
use Rattle.member_group.specs.Group.{IsGroup, group_of}
use Rattle.read_section.specs.Operator.{Meets, OperatorValue}
use Rattle.read_section.specs.Operator.{HasFreeRow}
use Rattle.read_section.specs.Worker.{WorkerValue}
use Rattle.versions.specs.View.{BeginsWith}
use Rattle.versions.specs.Free.{number_after}
use Rattle.versions.specs.Table.{the_shape}
use Rattle.bpf_machine.specs.declared.Outcome.{Outcome}
use Rattle.command_line.specs.declared.sample.TheConstants.{SAMPLE_GROUP}
use Rattle.command_query.specs.body.FirstTable.{IsRunOf, PublishesNothing, RunsInSection, Selects, SelectsNow}

-- a program that was found in words that begin with an image is accepted where it stands
module _ (words : List ℕ) (config : List Group) (begins : BeginsWithImage words config) (index : ℕ) (group : Group) (has : HasGroup config index group) where
  pub found_selector : (place : ProgramPlace) → (selector : Option ProgramValue) → group.selector ≡ selector → IsProgramFound words selector (Some place)
      → (place.from + place.len ≤ length words) × IsAccepted (program_at words place.from place.len)
  found_selector place None is found = absurd (none_some found)
    where
      none_some : {A : Type 0} {x : A} → Some x ≡ None → ⊥
      none_some e = cc
  found_selector place (Some program) is found =
      let group_is : IsGroup group = item_at IsGroup config index group has begins.is_config.groups in
      let accepted : IfSome (Some program) IsProgram = subst (λ s. IfSome s IsProgram) is group_is.selector in
      (found.inside, subst IsAccepted (sym found.stands) accepted.accepted)

module _ (selector : List ℕ) (config : List Group) (selects : Selects selector config) where
  abbrev pub sample : Group
  sample = record { key = SAMPLE_GROUP; selector = Some selects.program; members = [] }

  pub sample_found : group_of SAMPLE_GROUP config ≡ Some sample
  sample_found = ap (group_of SAMPLE_GROUP) selects.one_group

  -- the sample group is found, with its selector
  pub group_not_missing : IsGroupFound SAMPLE_GROUP config None → ⊥
  group_not_missing none = absurd (missing (sym none ∙ sample_found))
    where
      missing : {A : Type 0} {x : A} → None ≡ Some x → ⊥
      missing e = cc

  pub group_is_sample : (found : FoundGroup) (is : IsGroupFound SAMPLE_GROUP config (Some found)) → is.0 ≡ sample
  group_is_sample found is = some_same (sym is.1 ∙ sample_found)
    where
      some_same : {A : Type 0} {x y : A} → Some x ≡ Some y → x ≡ y
      some_same e = cc

  module _ (words : List ℕ) (found : FoundGroup) (is : IsGroupFound SAMPLE_GROUP config (Some found)) where
    selector_is : is.0.selector ≡ Some selects.program
    selector_is = ap (λ (g : Group). g.selector) (group_is_sample found is)

    pub selector_not_missing : IsProgramFound words is.0.selector None → ⊥
    selector_not_missing none = subst (λ s. IsProgramFound words s None) selector_is none

    pub selector_stands : (place : ProgramPlace) → IsProgramFound words is.0.selector (Some place) → program_at words place.from place.len ≡ selector
    selector_stands place there = let stands : StandsAt words selects.program.words place = subst (λ s. IsProgramFound words s (Some place)) selector_is there in stands.stands ∙ selects.words

-- ---- which version a section is of

no_rest : {A : Type 0} → (xs : List A) → length xs ≡ 0 → xs ≡ []
no_rest [] e = refl
no_rest (x ∷ xs) e = absurd (omega arith)

-- two lists that begin with one another are one
pub same_lists : {A : Type 0} → (xs ys : List A) → BeginsWith xs ys → BeginsWith ys xs → xs ≡ ys
same_lists xs ys (more, e) (less, f) =
    let first = ap length e in let second = ap length f in
    e ∙ (ap (λ l. ys ++ l) (no_rest more (omega (arith, length-append ys more, length-append xs less))) ∙ append-nil ys)

pub begins_further : {A : Type 0} → (xs ys zs : List A) → BeginsWith xs ys → BeginsWith ys zs → BeginsWith xs zs
begins_further xs ys zs (more, e) (less, f) = (less ++ more, e ∙ (ap (λ l. l ++ more) f ∙ append_assoc zs less more))

pub same_last : {A : Type 0} → (xs ys : List A) (x y : A) → xs ++ x ∷ [] ≡ ys ++ y ∷ [] → x ≡ y
same_last [] [] x y e = let h : x ∷ [] ≡ y ∷ [] = e in cc
same_last [] (b ∷ ys) x y e = let h = ap length e in absurd (omega (arith, length-append ys (y ∷ [])))
same_last (a ∷ xs) [] x y e = let h = ap length e in absurd (omega (arith, length-append xs (x ∷ [])))
same_last (a ∷ xs) (b ∷ ys) x y e = same_last xs ys x y (tails e)
  where
    tails : a ∷ (xs ++ x ∷ []) ≡ b ∷ (ys ++ y ∷ []) → xs ++ x ∷ [] ≡ ys ++ y ∷ []
    tails e = cc

module _ (w0 w1 w2 w3 : WorkerValue) (o0 o1 o2 : OperatorValue) (version : ℕ) (outcome : Option Outcome) (before : Meets w0 w1 o0 o1) (runs : RunsInSection w1 w2 version outcome) (after : Meets w2 w3 o1 o2) where
  -- the worker has seen in its section what was published when it met the operator before, and no more
  all_seen : runs.inside.view.seen ≡ o0.view.published
  all_seen =
      let inside = runs.inside in let entered = runs.section.entered in
      let seen : inside.view.seen ≡ entered.seen_by_pin = ap (λ (w : WorkerValue). w.view.seen) entered.three_steps in
      let met : w1.view.seen ≡ o0.view.published = ap (λ (w : WorkerValue). w.view.seen) before.one_peek in
      let longer : BeginsWith inside.view.seen w1.view.seen = subst (λ l. BeginsWith l w1.view.seen) (sym seen) (begins_further entered.seen_by_pin entered.seen_by_peek w1.view.seen entered.pin_shows.goes_on entered.peek_shows.goes_on) in
      let published : o1.view.published ≡ o0.view.published = ap (λ (o : OperatorValue). o.view.published) before.one_scan in
      let shorter : BeginsWith o0.view.published inside.view.seen = subst (λ l. BeginsWith l inside.view.seen) published (subst (BeginsWith o1.view.published) runs.section.seen after.shows.goes_on) in
      same_lists inside.view.seen o0.view.published (subst (BeginsWith inside.view.seen) met longer) shorter

  pub version_now : length o0.view.published ≡ suc version
  version_now = let last = runs.last_seen in let number = last.number in let is = runs.is_version in
      sym (ap length all_seen) ∙ (ap length last.last_seen ∙ omega (arith, length-append last.older (last.config ∷ [])))

  pub selects_now : (selector : List ℕ) → SelectsNow selector o0.view → Selects selector runs.last_seen.config
  selects_now selector (config, current, selects) = subst (Selects selector) (same_last current.0 runs.last_seen.older config runs.last_seen.config (sym current.1 ∙ (sym all_seen ∙ runs.last_seen.last_seen))) selects

  pub runs_now : (selector : List ℕ) → SelectsNow selector o0.view → IsRunOf selector outcome
  runs_now selector now = runs.runs selector (selects_now selector now)

  pub nothing_published : PublishesNothing o0 o2
  nothing_published = record {
    table = ap (λ (o : OperatorValue). o.table) after.one_scan ∙ ap (λ (o : OperatorValue). o.table) before.one_scan;
    published = ap (λ (o : OperatorValue). o.view.published) after.one_scan ∙ ap (λ (o : OperatorValue). o.view.published) before.one_scan;
    version_rows = ap (λ (o : OperatorValue). o.view.version_rows) after.one_scan ∙ ap (λ (o : OperatorValue). o.view.version_rows) before.one_scan;
    number = ap (λ (o : OperatorValue). number_after o.view.log) after.one_scan ∙ ap (λ (o : OperatorValue). number_after o.view.log) before.one_scan;
  }

  pub same_table : w3.table ≡ w0.table
  same_table = ap (λ (w : WorkerValue). w.table) after.one_peek ∙ (runs.section.table ∙ ap (λ (w : WorkerValue). w.table) before.one_peek)

second_row : 1 < the_shape.rows
unfolding the_shape
second_row = omega arith

-- row 1 was never used yet
pub second_row_free : (o : OperatorValue) → o.view.version_rows ≡ 0 ∷ [] → HasFreeRow o.view
second_row_free o is = (1, (second_row, λ m last. absurd (unused m (subst (λ l. get_elem? l m ≡ some 1) is last.0))))
  where
    unused : (m : ℕ) → get_elem? {A = ℕ} (0 ∷ []) m ≡ some 1 → ⊥
    unused zero e = let same = some-injective 0 1 e in omega arith
    unused (suc m) e = some-ne-none 1 (sym e)
