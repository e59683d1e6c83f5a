use Rattle.std.proofs.Common.{◌<◌, ◌≡◌, ◌∙◌, ap, arith, drop, length, length-drop, sym, rules}
use Rattle.packet_capture.proofs.CaptureLemmas.{AreRecords-shorter, behind_header, place_of-none, place_of-some, summary_of}
use Rattle.packet_capture.specs.body.Progress.{IsCounted}
use Rattle.packet_capture.proofs.summarize.Goals as goal

pub overflow_sub-summary : goal.overflow_sub-summary
overflow_sub-summary c =
    let counted = behind_header (λ bytes. IsCounted c.args.unwrap c.in_ok-header.header bytes c.count_records.result.0 c.count_records.result.1.now) c.args.file.now c.count_records.ensures.counted in
    omega (arith, AreRecords-shorter c.in_ok-header.header (drop 24 c.args.file.now) c.count_records.result.1.now counted.contents counted.are_records, length-drop 24 c.args.file.now)

pub returns-then-not-is_empty-clause-summary : goal.returns-then-not-is_empty-clause-summary
returns-then-not-is_empty-clause-summary c =
    let rest = c.count_records.result.1.now in
    let more : 0 < length rest = grind arith in
    summary_of c.args.unwrap c.args.file.now rest c.in_ok-header.header c.count_records.result.0 _ c.in_ok-header.ensures.header c.count_records.ensures.header
    (behind_header (λ bytes. IsCounted c.args.unwrap c.in_ok-header.header bytes c.count_records.result.0 rest) c.args.file.now c.count_records.ensures.counted) c.count_records.ensures.no_more
    (sym (place_of-some c.args.file.now rest (λ none. absurd (omega (arith, more, ap length none)))))

pub returns-else-not-is_empty-clause-summary : goal.returns-else-not-is_empty-clause-summary
returns-else-not-is_empty-clause-summary c =
    let rest = c.count_records.result.1.now in
    let none : length rest ≡ 0 = grind arith in
    summary_of c.args.unwrap c.args.file.now rest c.in_ok-header.header c.count_records.result.0 c.count_records.result.0.cut_at c.in_ok-header.ensures.header c.count_records.ensures.header
    (behind_header (λ bytes. IsCounted c.args.unwrap c.in_ok-header.header bytes c.count_records.result.0 rest) c.args.file.now c.count_records.ensures.counted) c.count_records.ensures.no_more
    (c.count_records.ensures.uncut ∙ sym (place_of-none c.args.file.now rest none))

pub returns-then-not-is_empty-clause-fault : goal.returns-then-not-is_empty-clause-fault
returns-then-not-is_empty-clause-fault c = search rules

pub returns-else-not-is_empty-clause-fault : goal.returns-else-not-is_empty-clause-fault
returns-else-not-is_empty-clause-fault c = search rules
