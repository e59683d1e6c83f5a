-- The text of commands: control lines, each program in assembly on one line (docs/COMMANDS.md, "Control lines", "rules").
use Rattle.std.specs.Prelude.{◌++◌, ◌∷◌, List, [], codes, decimal, flat_map, ℕ}
use Rattle.ipv4_fields.specs.declared.endpoint.Endpoint.{Endpoint}
use Rattle.ipv4_fields.specs.Endpoint.{endpoint_text}
use Rattle.member_group.specs.declared.command.Command.{Command}
use Rattle.member_group.specs.declared.command.Command.TheVariants.{AddGroup, ClearFilter, ClearSelector, Join, Leave, LockFilter, RemoveGroup, SetFilter, SetSelector}
use Rattle.member_group.specs.Group.{GroupOf}
use Rattle.bpf_asm.specs.Text.{printed_in_line}
use Rattle.config_diff.specs.Rules.{commands_of}
use Rattle.control_line.specs.Reply.{reply_text}
use Rattle.control_line.specs.declared.reply.LineAnswer.TheVariants.{Shown}

-- a word and a group's key, and then a member's number
abbrev pub keyed : List ℕ → Endpoint → List ℕ
keyed word key = word ++ (codes " " ++ endpoint_text key)

abbrev pub numbered : List ℕ → Endpoint → ℕ → List ℕ
numbered word key id = keyed word key ++ (codes " " ++ decimal id)

abbrev pub assembly_text : List ℕ → List ℕ
assembly_text words = codes " asm " ++ printed_in_line words

-- the line of a command whose programs are words
abbrev pub change_text : Command (List ℕ) → List ℕ
change_text (AddGroup key) = keyed (codes "add") key
change_text (RemoveGroup key) = keyed (codes "remove") key
change_text (Join key id to) = numbered (codes "join") key id ++ (codes " " ++ endpoint_text to)
change_text (Leave key id) = numbered (codes "leave") key id
change_text (SetSelector key words) = keyed (codes "selector") key ++ assembly_text words
change_text (ClearSelector key) = keyed (codes "selector") key ++ codes " none"
change_text (SetFilter key id words) = numbered (codes "filter") key id ++ assembly_text words
change_text (ClearFilter key id) = numbered (codes "filter") key id ++ codes " none"
change_text (LockFilter key id) = numbered (codes "lock") key id

-- commands, each as a line with its LF
abbrev pub changes_text : List (Command (List ℕ)) → List ℕ
changes_text commands = flat_map (λ command. change_text command ++ 10 ∷ []) commands

-- the rules of a configuration, as a rules file has them
abbrev pub rules_text : List (GroupOf (List ℕ)) → List ℕ
rules_text config = changes_text (commands_of config)

-- the comment above them: what `show` replied
abbrev pub heading : ℕ → ℕ → ℕ → ℕ → List ℕ
heading version groups members charge = codes "# " ++ (reply_text (Shown version groups members charge) ++ 10 ∷ [])
