use Rattle.std.proofs.Common.{List, length, subst, sym, take, drop, ◌++◌, ◌-◌, ◌≡◌, ◌∙◌, ℕ}
use Rattle.control_client.proofs.LinesLemmas.{behind_line}
use Rattle.control_client.proofs.unread.Unread.take_line.Goals as goal

pub returns : goal.returns
returns c =
    let cut = c.cut_line.ensures in let first = c.cut_line.result.0.now in let rest = c.cut_line.result.1.now in let taken = c.self.inside.taken in (
      first,
      cut.lacks,
      sym c.self.view_is ∙ behind_line c.self.inside.bytes.items first rest taken
          (subst (λ (bytes : List ℕ). take (length bytes - taken) (drop taken bytes) ≡ first ++ rest) c.deref.ensures.value cut.whole)
          cut.ends_line (sym c.is_empty.ensures ∙ c.if-is_empty.false),
      c.in_ok-extend_from_slice.ensures.items,
    )
