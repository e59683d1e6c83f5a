use Rattle.std.proofs.Common.{◌≡◌, ◌++◌, codes, string_bytes, take}
use Rattle.std.specs.List.{flat_map}
use Rattle.counter_text.specs.Metrics.{block_head, group_help, group_name, group_samples}
use Rattle.counter_text.proofs.metrics.group_block.Given as goal

abbrev pub invariant-loop-group : goal.invariant-loop-group
invariant-loop-group l =
    string_bytes l.text ≡ string_bytes l.fn.text ++ (block_head (group_name l.metric) (codes "counter") (group_help l.metric) ++ flat_map (group_samples l.metric) (take l.group-index l.groups))
