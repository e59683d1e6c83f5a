use Rattle.std.proofs.Common.{ap, rules}
use Rattle.read_section.specs.Section.{SectionRest, worker_of}
use Rattle.read_section.proofs.SectionLemmas as section
use Rattle.dispatch.proofs.DatagramLemmas.{keeps_no_more}
use Rattle.dispatch.proofs.datagram.judge_in_section.Goals as goal

pub returns-clause-judged : goal.returns-clause-judged
returns-clause-judged c =
    let newest = c.enter-section.ensures.section_row in (
      worker_of c.enter-section.result,
      λ failed. record {
        own_section = section.sections_are_whole c.args.worker.now (worker_of c.enter-section.result) (worker_of c.judge-verdict.new.words) _ c.enter-section.ensures.entered_by_three_steps
            (ap (λ (rest : SectionRest). rest.pinned) c.judge-verdict.ensures.rest_kept) c.leave.ensures.ends_in_fetches (search rules);
        seen_grows = c.enter-section.ensures.seen_grows;
        last_seen = newest;
        verdict_of_seen = c.judge-verdict.ensures.verdict newest.config newest.image;
        programs_sound = c.judge-verdict.ensures.sound newest.config newest.image;
      },
    )

pub returns-clause-kept : goal.returns-clause-kept
returns-clause-kept c =
    let newest = c.enter-section.ensures.section_row in
    keeps_no_more newest.config c.args.packet.now c.judge-verdict.result (c.judge-verdict.ensures.verdict newest.config newest.image)
