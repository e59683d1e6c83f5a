use Rattle.std.proofs.Common.{[], arith, refl, ◌≡◌, ◌∙◌}
use Rattle.versions.specs.declared.layout.TheConstants.{WORKERS}
use Rattle.retire.proofs.PublishLemmas.{one_scan_more}
use Rattle.retire.proofs.row.scan_each.Goals as goal

pub loop-worker-init : goal.loop-worker-init
loop-worker-init c = ([], refl, tt, refl)

pub loop-worker-preserved : goal.loop-worker-preserved
loop-worker-preserved c = let t = c.scan.ensures.one_scan in one_scan_more _ _ _ c.loop-worker.worker c.scan.result t.0 c.loop-worker.invariant t.1 t.2

pub returns : goal.returns
returns c = let h = c.loop-worker.invariant in let stop = c.loop-worker-test.false in let end = c.loop-worker.auto.worker-end in let all : c.loop-worker.worker ≡ WORKERS = omega arith in
    record { scans = h.0; each = h.1 ∙ all; tell = h.2; no_more = h.3 }
