-- Commands that are added to a program.
use Rattle.std.proofs.Common.{◌≡◌, Err, Ok, Result, false}
use Rattle.std.specs.Prelude.{IfOk}
use Rattle.clap.specs.declared.builder.command.Command.{Command}
use Rattle.clap.specs.declared.builder.command.Command.TheViews.{out-Command}
use Rattle.clap.specs.Words.{App, app_of, with_subcommand}

-- a command of a line, where it was made
pub both : {E : Type 0} (made : Result Command E) (line : App) → IfOk made (λ one. app_of one ≡ line) → IfOk made (λ one. (out-Command one).has_globals ≡ false) →
    IfOk made (λ one. (app_of one ≡ line) × ((out-Command one).has_globals ≡ false))
both (Ok one) line app local = (app, local)
both (Err e) line app local = tt

abbrev pub and : App → App → App
and line app = with_subcommand app line.top
