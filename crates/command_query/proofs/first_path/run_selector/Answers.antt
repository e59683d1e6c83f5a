use Rattle.std.proofs.Common.{List, ap, length, refl, subst, sym, ◌+◌, ◌≤◌, ◌∙◌, ℕ}
use Rattle.bpf_machine.specs.Meaning.{cost_of, ending_of}
use Rattle.bpf_verify.specs.Path.{program_at}
use Rattle.bpf_verify.specs.Accepted.{IsAccepted}
use Rattle.config_image.specs.Lookup.{BeginsWithImage}
use Rattle.command_line.specs.declared.sample.TheConstants.{SAMPLE_PACKET}
use Rattle.command_query.proofs.TableLemmas.{found_selector, group_not_missing, selector_not_missing, selector_stands}
use Rattle.command_query.proofs.first_path.run_selector.Goals as goal

pub returns-in_default-clause-runs : goal.returns-in_default-clause-runs
returns-in_default-clause-runs g c = λ config selector begins selects. group_not_missing selector config selects (c.in_default.ensures.group_found config begins)

pub selector_of-requires : goal.selector_of-requires
selector_of-requires g c = let begins = c.requires.1 in let is = c.in-Some.ensures.group_found c.requires.0 begins in
    (c.requires.0, is.0, subst (λ l. BeginsWithImage l c.requires.0) (sym c.in-Some.ensures.words_kept) begins, is.2)

pub returns-in_default-selector_of-clause-runs : goal.returns-in_default-selector_of-clause-runs
returns-in_default-selector_of-clause-runs g c = λ config selector begins selects.
    let is = c.in-Some.ensures.group_found config begins in let there = subst (λ l. BeginsWithImage l config) (sym c.in-Some.ensures.words_kept) begins in
    selector_not_missing selector config selects _ c.in-Some.group is (c.in_default-selector_of.ensures.selector_found config is.0 there is.2)

pub run-requires-clause-within : goal.run-requires-clause-within
run-requires-clause-within g c = let begins = c.requires.1 in let is = c.in-Some.ensures.group_found c.requires.0 begins in let there = subst (λ l. BeginsWithImage l c.requires.0) (sym c.in-Some.ensures.words_kept) begins in
    subst (λ l. c.in-Some-selector_of.place.from + c.in-Some-selector_of.place.len ≤ length l) (sym c.in-Some-selector_of.ensures.words_kept)
    (found_selector _ c.requires.0 there c.in-Some.group.index is.0 is.2 c.in-Some-selector_of.place is.0.selector refl (c.in-Some-selector_of.ensures.selector_found c.requires.0 is.0 there is.2)).0

pub run-requires-clause-accepted : goal.run-requires-clause-accepted
run-requires-clause-accepted g c = let begins = c.requires.1 in let is = c.in-Some.ensures.group_found c.requires.0 begins in let there = subst (λ l. BeginsWithImage l c.requires.0) (sym c.in-Some.ensures.words_kept) begins in
    subst (λ l. IsAccepted (program_at l c.in-Some-selector_of.place.from c.in-Some-selector_of.place.len)) (sym c.in-Some-selector_of.ensures.words_kept)
    (found_selector _ c.requires.0 there c.in-Some.group.index is.0 is.2 c.in-Some-selector_of.place is.0.selector refl (c.in-Some-selector_of.ensures.selector_found c.requires.0 is.0 there is.2)).1

pub returns-clause-runs : goal.returns-clause-runs
returns-clause-runs g c = λ config selector begins selects.
    let is = c.in-Some.ensures.group_found config begins in let there = subst (λ l. BeginsWithImage l config) (sym c.in-Some.ensures.words_kept) begins in
    let stands = ap (λ l. program_at l c.in-Some-selector_of.place.from c.in-Some-selector_of.place.len) c.in-Some-selector_of.ensures.words_kept
    ∙ selector_stands selector config selects _ c.in-Some.group is c.in-Some-selector_of.place (c.in-Some-selector_of.ensures.selector_found config is.0 there is.2) in
    (ap (λ (program : List ℕ). ending_of program SAMPLE_PACKET.now) (sym stands) ∙ c.run.ensures.value, c.run.ensures.steps ∙ ap (λ (program : List ℕ). cost_of program SAMPLE_PACKET.now) stands)
