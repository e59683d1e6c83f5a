-- The rules that are read of a switch (docs/COMMANDS.md, "rules").
use Rattle.std.specs.Prelude.{◌≡◌, ◌++◌, List, [], length, ℕ}
use Rattle.config_image.specs.Image.{Group}
use Rattle.config_diff.specs.Words.{words_config}
use Rattle.member_group.specs.Charge.{charge_of, members_of}
use Rattle.member_group.specs.Group.{IsConfig}
use Rattle.member_group.specs.Over.{config_over}
use Rattle.filter_program.specs.Program.{IsProgramFor}
use Rattle.control_line.specs.Agrees.{TextConfig}
use Rattle.control_line.specs.Answer.{LeadBy}
use Rattle.control_line.specs.Rules.{IsConfigOf, rules_in}
use Rattle.control_rules.specs.Text.{heading, rules_text}

-- a version's configuration as a rules file: a comment with its measures, and its rules
abbrev pub rules_file : ℕ → List Group → List ℕ
rules_file version config = heading version (length config) (members_of config) (charge_of config) ++ rules_text (words_config config)

-- the text of each configuration is good: all its lines are done, one after the other, and they make this configuration, by the words of
-- its programs
abbrev pub RulesMakeTheirConfig : Type 0
RulesMakeTheirConfig =
    (version : ℕ) (config : List Group) → IsConfig config →
    (made : TextConfig) × LeadBy IsProgramFor [] (rules_in (rules_file version config)) made
    × (config_over (λ program. program.words) made ≡ words_config config)

-- and whatever is made of it is this configuration
abbrev pub RulesMakeNothingElse : Type 0
RulesMakeNothingElse =
    (version : ℕ) (config made : List Group) → IsConfig config → IsConfigOf (rules_file version config) made → words_config made ≡ words_config config
