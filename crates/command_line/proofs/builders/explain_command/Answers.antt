use Rattle.std.proofs.Common.{codes}
use Rattle.clap.specs.Words.{new_app}
use Rattle.command_line.specs.Arguments.{some_number_of}
use Rattle.command_line.proofs.builders.explain_command.Goals as goal

pub returns-clause-app : goal.returns-clause-app
returns-clause-app c =
    c.with_argument.ensures.app (new_app (codes "explain")) (some_number_of (codes "WORD")) c.plain_command-command.ensures.app c.words_argument-words.ensures.rule c.words_argument-words.ensures.local

pub returns-clause-local : goal.returns-clause-local
returns-clause-local c = c.with_argument.ensures.local c.plain_command-command.ensures.local c.words_argument-words.ensures.local
