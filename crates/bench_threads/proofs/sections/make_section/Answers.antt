use Rattle.std.proofs.Common.{◌≡◌, ◌∙◌, ap, arith, length, rules}
use Rattle.config_image.specs.declared.TheConstants.{ROW_WORDS}
use Rattle.read_section.specs.Section.{SectionRest, held_words, worker_of}
use Rattle.read_section.proofs.SectionLemmas as section
use Rattle.versions.proofs.RowLemmas.{length-row}
use Rattle.bench_threads.proofs.sections.make_section.Goals as goal

pub word-requires : goal.word-requires
word-requires c =
    let newest = c.enter-section.ensures.section_row in
    let many : length (held_words (worker_of c.enter-section.result)) ≡ ROW_WORDS = ap length newest.row_is ∙ length-row newest.config in omega arith

pub returns : goal.returns
returns c = record {
  inside = worker_of c.enter-section.result;
  last = worker_of c.word.new.self;
  word = c.word.result;
  whole = section.sections_are_whole c.args.worker.now (worker_of c.enter-section.result) (worker_of c.word.new.self) _ c.enter-section.ensures.entered_by_three_steps
      (ap (λ (rest : SectionRest). rest.pinned) c.word.ensures.rest_kept) c.leave.ensures.ends_in_fetches (search rules);
  read = c.word.ensures.few_fetches;
  then_left = search rules;
}
