-- Commands that lead from one configuration to another (docs/SWITCH.md, "Groups, members, commands and refusals").
use Rattle.std.specs.Prelude.{◌≡◌, ◌∷◌, List, None, []}
use Rattle.member_group.specs.declared.command.Command.{Command}
use Rattle.member_group.specs.Command.{after}
use Rattle.member_group.specs.Group.{GroupOf}
use Rattle.member_group.specs.Refusal.{first_refusal}

-- applied one after another, no command is refused, and the last configuration is this one
abbrev pub LeadTo : {P : Type 0} → List (Command P) → List (GroupOf P) → List (GroupOf P) → Type 0
LeadTo [] from to = from ≡ to
LeadTo (command ∷ commands) from to = (first_refusal command from ≡ None) × LeadTo commands (after command from) to
