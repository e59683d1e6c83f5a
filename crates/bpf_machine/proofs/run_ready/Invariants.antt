use Rattle.std.proofs.Common.{◌≡◌, ◌+◌, ◌-◌, ◌<◌, ◌≤◌, ◌⊎◌, IsTrue, eqb, length, not}
use Rattle.bpf_machine.specs.declared.execute.TheConstants.{CELL_COUNT}
use Rattle.bpf_verify.specs.Path.{program_at}
use Rattle.bpf_machine.specs.body.Running.{IsRunning}
use Rattle.bpf_machine.proofs.run_ready.Given as goal

abbrev pub invariant-ready : goal.invariant-ready
invariant-ready g l =
    (g.W.Words.words l.words ≡ g.W.Words.words l.fn.words)
    × (g.W.Words.rest l.words ≡ g.W.Words.rest l.fn.words)
    × (length l.cells ≡ CELL_COUNT)
    × (l.shift + l.from ≤ l.number)
    × IsRunning (program_at (g.W.Words.words l.fn.words) l.from l.len) l.packet (l.number - l.shift - l.from) l.passed_over l.machine.a l.machine.x l.cells
    × (g.W.Words.ready_shift l.words ≡ l.shift)
    × (l.shift + g.W.Words.ready_from l.words ≤ l.number)
    × ((l.number < l.shift + g.W.Words.ready_to l.words) ⊎ (l.initial.number < l.number))
    × (l.initial.number ≤ l.number)
    × (IsTrue (not (eqb g.row.ALL 0)) → l.from + l.len ≤ g.W.Words.ready_to l.words)
    × (l.limit ≡ l.shift + g.W.Words.ready_to l.words)

abbrev pub decreases-ready : goal.decreases-ready
decreases-ready g l = l.shift + (l.from + l.len) - l.number
