use Rattle.std.proofs.Common.{◌≡◌, ◌++◌, codes, string_bytes, take}
use Rattle.std.specs.List.{flat_map}
use Rattle.counter_text.specs.Metrics.{block_head, member_help, member_name, member_samples}
use Rattle.counter_text.proofs.metrics.member_block.Given as goal

abbrev pub invariant-loop-member : goal.invariant-loop-member
invariant-loop-member l =
    string_bytes l.text ≡ string_bytes l.fn.text ++ (block_head (member_name l.metric) (codes "counter") (member_help l.metric) ++ flat_map (member_samples l.metric) (take l.member-index l.members))
