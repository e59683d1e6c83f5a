use Rattle.std.proofs.Common.{ap, rules}
use Rattle.read_section.specs.Section.{SectionRest, worker_of}
use Rattle.read_section.proofs.SectionLemmas as section
use Rattle.test_table.proofs.tests.sections.read_whole.Goals as goal

pub returns : goal.returns
returns c = record {
  whole = (
    worker_of c.enter-section.result,
    section.sections_are_whole c.args.worker.now (worker_of c.enter-section.result) (worker_of c.differing-wrong.new.words) _ c.enter-section.ensures.entered_by_three_steps
        (ap (λ (rest : SectionRest). rest.pinned) c.differing-wrong.ensures.rest_kept) c.leave.ensures.ends_in_fetches (search rules),
  );
}
