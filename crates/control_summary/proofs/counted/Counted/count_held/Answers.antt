use Rattle.std.proofs.Common.{◌∙◌, ap}
use Rattle.control_summary.specs.Kind.{reply_kind}
use Rattle.control_summary.proofs.LineLemmas.{told_line, untold_line}
use Rattle.control_summary.proofs.counted.Counted.count_held.Goals as goal
use Rattle.control_summary.proofs.counted.Counted.count_held.Goals.{in-Some+in_ok-add_reply, in_default}

pub returns : goal.returns
returns c = λ text at. elim c.match-reply_kind.branch [
  | in-Some+in_ok-add_reply w ↦
      rw (c.clear.ensures.items, w.self-is)
      (told_line text c.args.self.now.held.items c.args.self.now.rows.items at w.in-Some.kind.now _ (w.in-Some.ensures ∙ ap reply_kind c.deref.ensures.value) w.in_ok-add_reply.ensures)
  | in_default w ↦
      rw (c.clear.ensures.items, w.self-is) (untold_line text c.args.self.now.held.items c.args.self.now.rows.items at (w.in_default.ensures ∙ ap reply_kind c.deref.ensures.value))
]
