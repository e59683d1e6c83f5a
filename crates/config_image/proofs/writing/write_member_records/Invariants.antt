use Rattle.std.proofs.Common.{◌≡◌, ◌+◌, ◌*◌, ◌≤◌, drop, length}
use Rattle.bpf_verify.specs.declared.TheConstants.{MAX_INSTRUCTIONS}
use Rattle.config_image.specs.Image.{filter_words, member_records}
use Rattle.config_image.proofs.WritingLemmas.{IsWriting}
use Rattle.config_image.proofs.writing.write_member_records.Given as goal

abbrev pub invariant-loop-member : goal.invariant-loop-member
invariant-loop-member g l =
    IsWriting (g.S.WordSink.taken l.fn.sink) (g.S.WordSink.room l.fn.sink) (g.S.WordSink.taken l.sink) (g.S.WordSink.room l.sink)
    (member_records l.place (drop l.member-index l.members)) (member_records l.fn.filters_at l.members)
    × (l.place ≤ l.fn.filters_at + l.member-index * MAX_INSTRUCTIONS)
    × (l.place + length (filter_words (drop l.member-index l.members)) ≡ l.fn.filters_at + length (filter_words l.members))
