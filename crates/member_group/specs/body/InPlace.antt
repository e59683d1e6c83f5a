-- What a command on a group makes of it, and what may be wrong with it.
use Rattle.std.specs.Prelude.{◌≡◌, Bool, List, None, Some, []}
use Rattle.ipv4_fields.specs.declared.endpoint.Endpoint.{Endpoint}
use Rattle.member_group.specs.Command.{joined, left, locked, with_filter, with_selector}
use Rattle.member_group.specs.Group.{GroupOf}
use Rattle.member_group.specs.Refusal.{clear_filter_causes, clear_selector_causes, join_causes, member_causes, set_filter_causes}
use Rattle.member_group.specs.declared.command.Command.{Command}
use Rattle.member_group.specs.declared.command.Command.TheVariants.{AddGroup, ClearFilter, ClearSelector, Join, Leave, LockFilter, RemoveGroup, SetFilter, SetSelector}
use Rattle.member_group.specs.declared.refusal.Refusal.{Refusal}

-- the command changes the group of a key, and neither adds nor removes one
abbrev pub IsOnGroup : {P : Type 0} → Endpoint → Command P → Type 0
IsOnGroup key (AddGroup other) = ⊥
IsOnGroup key (RemoveGroup other) = ⊥
IsOnGroup key (Join other id to) = other ≡ key
IsOnGroup key (Leave other id) = other ≡ key
IsOnGroup key (SetSelector other program) = other ≡ key
IsOnGroup key (ClearSelector other) = other ≡ key
IsOnGroup key (SetFilter other id program) = other ≡ key
IsOnGroup key (ClearFilter other id) = other ≡ key
IsOnGroup key (LockFilter other id) = other ≡ key

-- what may be wrong with the group
abbrev pub causes_of : {P : Type 0} → Command P → GroupOf P → List (Bool × Refusal)
causes_of (AddGroup key) group = []
causes_of (RemoveGroup key) group = []
causes_of (Join key id to) group = join_causes id group
causes_of (Leave key id) group = member_causes id group
causes_of (SetSelector key program) group = []
causes_of (ClearSelector key) group = clear_selector_causes group
causes_of (SetFilter key id program) group = set_filter_causes id group
causes_of (ClearFilter key id) group = clear_filter_causes id group
causes_of (LockFilter key id) group = member_causes id group

-- the group that the command leaves
abbrev pub changed_by : {P : Type 0} → Command P → GroupOf P → GroupOf P
changed_by (AddGroup key) group = group
changed_by (RemoveGroup key) group = group
changed_by (Join key id to) group = joined id to group
changed_by (Leave key id) group = left id group
changed_by (SetSelector key program) group = with_selector (Some program) group
changed_by (ClearSelector key) group = with_selector None group
changed_by (SetFilter key id program) group = with_filter id (Some program) group
changed_by (ClearFilter key id) group = with_filter id None group
changed_by (LockFilter key id) group = locked id group
