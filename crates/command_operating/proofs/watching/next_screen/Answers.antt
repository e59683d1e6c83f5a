use Rattle.std.proofs.Common.{◌≡◌}
use Rattle.command_line.specs.declared.ending.Failure.{Failure}
use Rattle.command_line.specs.declared.ending.Failure.TheVariants.{WriteFailed}
use Rattle.command_operating.specs.body.Screens.{BeginsMore}
use Rattle.command_operating.proofs.MeasuringLemmas.{if_err}
use Rattle.command_operating.proofs.ScreenLemmas.{screen_begun}
use Rattle.command_operating.proofs.watching.next_screen.Goals as goal

pub returns-in_err-print_screen-clause-begun : goal.returns-in_err-print_screen-clause-begun
returns-in_err-print_screen-clause-begun g c =
    if_err c.from_residual-in_err-print_screen.result c.in_err-print_screen.field-0.0
    (λ (f : Failure). f ≡ WriteFailed
    → BeginsMore c.args.watching.clears c.args.earlier.0 c.args.client.now c.reading.new.client (g.W.CountedWrite.contents c.args.out.now) (g.W.CountedWrite.contents c.print_screen.new.out))
    c.from_residual-in_err-print_screen.ensures.1
    (λ is.
    screen_begun c.args.watching.clears c.args.earlier.0 c.args.client.now c.reading.new.client (g.W.CountedWrite.contents c.args.out.now) (g.W.CountedWrite.contents c.print_screen.new.out)
    c.in_ok-later.later.counters c.millis_between-millis.result c.millis_between-millis.ensures c.in_ok-later.ensures.read c.print_screen.ensures.beginning)
