use Rattle.std.proofs.Common.{sym, rules}
use Rattle.control_summary.proofs.LineLemmas.{summary_told}
use Rattle.control_summary.proofs.counts.ReplyCounts.summary.Goals as goal

pub returns : goal.returns
returns c =
    rw (sym c.self.view_is)
    (summary_told c.self.inside.text c.self.inside.counted.held.items c.self.inside.counted.rows.items (c.self.invariant c.if-self.false) c.text.result c.text.ensures)

pub returns-then-self : goal.returns-then-self
returns-then-self c = search rules
