use Rattle.std.proofs.Common.{◌+◌, ◌*◌, ◌≤◌, drop}
use Rattle.bpf_verify.specs.declared.TheConstants.{MAX_INSTRUCTIONS}
use Rattle.member_group.specs.declared.TheConstants.{MEMBER_LIMIT}
use Rattle.config_image.specs.Image.{all_member_records}
use Rattle.config_image.proofs.WritingLemmas.{IsWriting}
use Rattle.config_image.proofs.writing.write_members.Given as goal

abbrev pub invariant-loop-group : goal.invariant-loop-group
invariant-loop-group g l =
    IsWriting (g.S.WordSink.taken l.fn.sink) (g.S.WordSink.room l.fn.sink) (g.S.WordSink.taken l.sink) (g.S.WordSink.room l.sink)
    (all_member_records l.place (drop l.group-index l.groups)) (all_member_records l.fn.programs_at l.groups)
    × (l.place ≤ l.fn.programs_at + l.group-index * ((1 + MEMBER_LIMIT) * MAX_INSTRUCTIONS))
