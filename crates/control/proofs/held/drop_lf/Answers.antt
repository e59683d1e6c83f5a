use Rattle.std.proofs.Common.{◌∙◌}
use Rattle.control.proofs.HeldLemmas.{lf_cut, lf_none}
use Rattle.control.proofs.held.drop_lf.Goals as goal

pub returns-then-ends_with : goal.returns-then-ends_with
returns-then-ends_with c =
    let text = c.args.text.now in
    lf_cut text.items c.deref.result.now c.as_slice.result.now c.ends_with.result c.deref.ensures.value c.as_slice.ensures c.ends_with.ensures.value c.len.result c.truncate.new.self.items (c.len.ensures ∙ text.ok.0) c.if-ends_with.true
    c.truncate.ensures.items

pub returns-else-ends_with : goal.returns-else-ends_with
returns-else-ends_with c =
    lf_none c.args.text.now.items c.deref.result.now c.as_slice.result.now c.ends_with.result c.deref.ensures.value c.as_slice.ensures c.ends_with.ensures.value c.if-ends_with.false
