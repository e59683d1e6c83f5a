use Rattle.std.proofs.Common.{◌≡◌, ◌≢◌, ◌∙◌, arith, refl, subst}
use Rattle.command_line.specs.declared.ending.Failure.{Failure}
use Rattle.command_line.specs.declared.ending.Failure.TheVariants.{WriteFailed}
use Rattle.command_streams.proofs.OutputLemmas.{fails_alike}
use Rattle.control_counters.specs.declared.reading.Reading.{Reading}
use Rattle.control_counters.proofs.WatchLemmas.{watches_weaker}
use Rattle.command_operating.specs.body.Screens.{BeginsScreens, Shows, ShowsFewer}
use Rattle.command_operating.proofs.MeasuringLemmas.{if_err, none_shown, one_shown, shows, shows_fewer}
use Rattle.command_operating.proofs.ScreenLemmas.{screens_begun}
use Rattle.command_operating.proofs.watching.print_screens.Goals as goal

pub loop-screen-init : goal.loop-screen-init
loop-screen-init g c = (
  none_shown c.args.watching.clears c.args.client.now (g.W.CountedWrite.contents c.args.out.now) c.reading.new.client c.in_ok-earlier.earlier.counters
      (watches_weaker _ _ _ _ (λ history told are it. it tt) c.in_ok-earlier.ensures.read),
  refl,
)

pub returns-in_err-later-clause-fewer : goal.returns-in_err-later-clause-fewer
returns-in_err-later-clause-fewer g c =
    let clears = c.args.watching.clears in
    let out = g.W.CountedWrite.contents c.args.out.now in
    let fault = c.in_err-later.field-0.0 in
    if_err c.from_residual-in_err-later.result fault
    (λ (f : Failure). f ≢ WriteFailed → ShowsFewer clears c.args.watching.count c.args.client.now.switch out (g.W.CountedWrite.contents c.next_screen.new.out))
    c.from_residual-in_err-later.ensures.1
    (λ other.
    rw (c.in_err-later.ensures.unwritten other)
    (shows_fewer clears c.args.client.now out c.args.watching.count c.loop-screen._screen c.loop-screen.client (g.W.CountedWrite.contents c.loop-screen.out) c.loop-screen.earlier.counters
    c.loop-screen-test.true c.loop-screen.invariant.0))

pub returns-in_err-later-clause-begun : goal.returns-in_err-later-clause-begun
returns-in_err-later-clause-begun g c =
    let clears = c.args.watching.clears in
    let out = g.W.CountedWrite.contents c.args.out.now in
    if_err c.from_residual-in_err-later.result c.in_err-later.field-0.0
    (λ (f : Failure). f ≡ WriteFailed → BeginsScreens clears c.args.watching.count c.args.client.now.switch out (g.W.CountedWrite.contents c.next_screen.new.out))
    c.from_residual-in_err-later.ensures.1
    (λ is.
    screens_begun clears c.args.client.now c.loop-screen.client c.next_screen.new.client out (g.W.CountedWrite.contents c.loop-screen.out) (g.W.CountedWrite.contents c.next_screen.new.out)
    c.loop-screen._screen c.args.watching.count _ c.loop-screen-test.true c.loop-screen.invariant.0 (c.in_err-later.ensures.begun is))

pub loop-screen-preserved : goal.loop-screen-preserved
loop-screen-preserved g c = (
  one_shown c.args.watching.clears c.args.client.now (g.W.CountedWrite.contents c.args.out.now) c.loop-screen._screen c.loop-screen.client c.next_screen.new.client
      (g.W.CountedWrite.contents c.loop-screen.out) (g.W.CountedWrite.contents c.next_screen.new.out) _ c.in_ok-later.later.counters c.loop-screen.invariant.0 c.in_ok-later.ensures.shown,
  c.in_ok-later.ensures.device_failed ∙ c.loop-screen.invariant.1,
)

pub returns-clause-shown : goal.returns-clause-shown
returns-clause-shown g c =
    let all : c.loop-screen._screen ≡ c.args.watching.count = omega (arith, c.loop-screen-test.false, c.loop-screen.auto._screen-end) in
    subst (λ n. Shows c.args.watching.clears n c.args.client.now c.loop-screen.client (g.W.CountedWrite.contents c.args.out.now) (g.W.CountedWrite.contents c.loop-screen.out)) all
    (shows c.args.watching.clears c.args.client.now (g.W.CountedWrite.contents c.args.out.now) c.loop-screen._screen c.loop-screen.client (g.W.CountedWrite.contents c.loop-screen.out)
    c.loop-screen.earlier.counters c.loop-screen.invariant.0)

pub returns-in_err-later-clause-device_failed : goal.returns-in_err-later-clause-device_failed
returns-in_err-later-clause-device_failed g c =
    fails_alike Reading c.from_residual-in_err-later.result c.in_err-later.field-0.0 (g.W.CountedWrite.failures c.args.out.now) (g.W.CountedWrite.failures c.loop-screen.out)
    (g.W.CountedWrite.failures c.next_screen.new.out) c.from_residual-in_err-later.ensures.1 c.loop-screen.invariant.1 c.in_err-later.ensures.device_failed
