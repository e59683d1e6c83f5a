use Rattle.std.proofs.Common.{ap, rules, ◌∙◌}
use Rattle.read_section.specs.Section.{SectionRest, held_version, worker_of}
use Rattle.read_section.proofs.SectionLemmas as section
use Rattle.command_query.proofs.first_path.run_in_section.Goals as goal

pub returns : goal.returns
returns c = record {
  inside = worker_of c.enter-section.result;
  section = section.sections_are_whole c.args.worker.now (worker_of c.enter-section.result) (worker_of c.run_selector-outcome.new.words) _ c.enter-section.ensures.entered_by_three_steps
      (ap (λ (rest : SectionRest). rest.pinned) c.run_selector-outcome.ensures.rest_kept) c.leave.ensures.ends_in_fetches (search rules);
  last_seen = c.enter-section.ensures.section_row;
  is_version = c.number-version.ensures.held_number ∙ ap (λ (rest : SectionRest). held_version rest.pinned) c.run_selector-outcome.ensures.rest_kept;
  runs = λ selector selects. c.run_selector-outcome.ensures.runs c.enter-section.ensures.section_row.config selector c.enter-section.ensures.section_row.image selects;
}
