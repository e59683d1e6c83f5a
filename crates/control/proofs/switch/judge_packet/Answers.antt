use Rattle.std.proofs.Common.{◌∙◌, ◌<◌, ◌^◌, ap, rules}
use Rattle.std.proofs.lemmas.List.Elements.{All-from_get_or}
use Rattle.std.proofs.Math.Facts.{Fits-lt-pow}
use Rattle.read_section.specs.Section.{SectionRest, held_version, worker_of}
use Rattle.read_section.proofs.SectionLemmas.{sections_are_whole}
use Rattle.control_line.specs.Reply.{judged_text}
use Rattle.control.proofs.switch.judge_packet.Goals as goal

pub returns-clause-judged : goal.returns-clause-judged
returns-clause-judged c =
    let inside = worker_of c.enter-section.result in
    let newest = c.enter-section.ensures.section_row in
    record {
      inside = inside;
      own_section = sections_are_whole c.args.worker.now inside (worker_of c.judge-verdict.new.words) _ c.enter-section.ensures.entered_by_three_steps
          (ap (λ (rest : SectionRest). rest.pinned) c.judge-verdict.ensures.rest_kept) c.leave.ensures.ends_in_fetches (search rules);
      seen_grows = c.enter-section.ensures.seen_grows;
      last_seen = newest;
      reply_is = c.judged_reply.ensures
          ∙ ap (λ n. judged_text n c.judge-verdict.result) c.number-version.ensures.held_number
          ∙ ap (judged_text (held_version inside)) (c.judge-verdict.ensures.verdict newest.config newest.image);
    }

pub returns-clause-is_packet : goal.returns-clause-is_packet
returns-clause-is_packet c = record { bytes = All-from_get_or (λ byte. byte < 2 ^ 8) c.args.packet.now 0 (λ i inside. Fits-lt-pow (c.type_inv.packet i)); not_too_long = c.requires.packet }
