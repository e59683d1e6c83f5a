use Rattle.std.proofs.Common.{rules}
use Rattle.std.proofs.lemmas.Map.Text.{btree_map_updates_str}
use Rattle.bpf_asm.proofs.label.Labels.define.Goals as goal

pub returns : goal.returns
returns g c = (search rules, btree_map_updates_str c.args.name.now c.args.self.now.places c.insert.new.self _ c.in_ok-insert.ensures.updates)
