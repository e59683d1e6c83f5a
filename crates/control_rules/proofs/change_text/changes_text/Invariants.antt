use Rattle.std.proofs.Common.{◌≡◌, take}
use Rattle.config_diff.specs.Words.{words_of_commands}
use Rattle.control_rules.specs.Text.{changes_text}
use Rattle.control_rules.proofs.change_text.changes_text.Given as goal

abbrev pub invariant-loop-command : goal.invariant-loop-command
invariant-loop-command g l = l.text.items ≡ changes_text (words_of_commands (take l.command-index l.commands))
