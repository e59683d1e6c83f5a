use Rattle.std.proofs.Common.{◌-◌, ap, arith, slice_index}
use Rattle.versions.proofs.ShapeLemmas.{workers_is}
use Rattle.versions.proofs.progress.Progress.scan_word.Goals as goal

pub returns : goal.returns
returns g c = λ s reached room m. let some = c.if-place-eq0.false in let low = c.if-place-gt-WORKERS.false in
    (c.args.place - 1, omega (arith, workers_is), omega arith, ap (λ l. slice_index l c.args.place) m.words_same)
