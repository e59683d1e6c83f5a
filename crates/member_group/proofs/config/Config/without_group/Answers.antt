use Rattle.std.proofs.Common.{◌∙◌, sym}
use Rattle.member_group.specs.Group.{has_key}
use Rattle.member_group.proofs.ConfigLemmas.{removed_is_config, removed_pieces}
use Rattle.member_group.proofs.ListLemmas.{filter-only_at}
use Rattle.member_group.proofs.config.Config.without_group.Goals as goal

pub invariant_of-result : goal.invariant_of-result
invariant_of-result g c =
    let config = c.args.self.now in
    rw (removed_pieces config c.args.at c.in_ok-groups.groups.items c.append_groups.new.to.items c.append_groups-2.new.to.items c.in_ok-groups.ensures.empty
    (rw (← c.groups-old.ensures.groups) c.in_ok-append_groups.ensures.appended) (rw (← c.groups-old.ensures.groups) c.in_ok-append_groups-2.ensures.appended)
    ∙ sym (filter-only_at (has_key c.args.key) config c.args.at c.requires.only))
    (removed_is_config c.args.key config c.groups-old.ensures.config)

pub returns : goal.returns
returns g c =
    record {
      changed = removed_pieces c.args.self.now c.args.at c.in_ok-groups.groups.items c.append_groups.new.to.items c.append_groups-2.new.to.items c.in_ok-groups.ensures.empty
          (rw (← c.groups-old.ensures.groups) c.in_ok-append_groups.ensures.appended) (rw (← c.groups-old.ensures.groups) c.in_ok-append_groups-2.ensures.appended)
          ∙ sym (filter-only_at (has_key c.args.key) c.args.self.now c.args.at c.requires.only);
    }
