use Rattle.std.proofs.Common.{◌≡◌, ◌+◌, ◌-◌, ◌≤◌, length}
use Rattle.bpf_machine.specs.declared.execute.TheConstants.{CELL_COUNT}
use Rattle.bpf_verify.specs.Path.{program_at}
use Rattle.bpf_machine.specs.body.Running.{IsRunning}
use Rattle.bpf_machine.proofs.run_copy.Given as goal

abbrev pub invariant-running : goal.invariant-running
invariant-running g l =
    (g.W.Words.words l.words ≡ g.W.Words.words l.fn.words)
    × (g.W.Words.rest l.words ≡ g.W.Words.rest l.fn.words)
    × (length l.cells ≡ CELL_COUNT)
    × (l.from ≤ l.state.place)
    × IsRunning (program_at (g.W.Words.words l.fn.words) l.from l.len) l.packet (l.state.place - l.from) l.state.passed_over l.state.a l.state.x l.cells

abbrev pub decreases-running : goal.decreases-running
decreases-running g l = l.from + l.len - l.state.place
