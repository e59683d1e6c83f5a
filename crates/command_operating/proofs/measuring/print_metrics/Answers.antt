use Rattle.std.proofs.Common.{Err, ◌∙◌, refl, subst}
use Rattle.std.specs.Io.KnownBytes.{Appends}
use Rattle.command_operating.proofs.BegunLemmas.{begun_if}
use Rattle.command_operating.proofs.MeasuringLemmas.{counters_begun, never_read, on_ok_all, table_then, table_unread}
use Rattle.command_operating.proofs.measuring.print_metrics.Goals as goal

pub returns-clause-printed : goal.returns-clause-printed
returns-clause-printed g c =
    on_ok_all c.write_through.result
    (λ written. record {
      counters = c.in-Ok.counters;
      drops = c.in_ok-drops.drops;
      are_counters = c.in-Ok.ensures;
      are_drops = c.in_ok-drops.ensures.drops;
      written = subst (Appends (g.W.CountedWrite.contents c.args.out.now) (g.W.CountedWrite.contents c.write_through.new.out)) (c.as_bytes.ensures.value ∙ c.in_ok-text.ensures) written;
    })
    c.write_through.ensures.written

pub returns-in-Err-clause-input_failed : goal.returns-in-Err-clause-input_failed
returns-in-Err-clause-input_failed g c = table_unread _ _ _ _ (Err c.ask_failure.result) c.ask_failure.ensures.fault.of_file refl

pub returns-clause-input_failed : goal.returns-clause-input_failed
returns-clause-input_failed g c =
    table_then _ _ _ _ c.in_ok-drops.drops c.write_through.result c.in_ok-drops.ensures.input_failed (never_read c.write_through.result c.write_through.ensures.failed)

pub returns-clause-begun : goal.returns-clause-begun
returns-clause-begun g c =
    begun_if _ c.write_through.result
    (counters_begun _ _ _ _ _ c.in-Ok.counters c.in_ok-drops.drops c.in-Ok.ensures c.in_ok-drops.ensures.drops
    (rw (c.as_bytes.ensures.value, c.in_ok-text.ensures) at c.write_through.ensures.beginning))
