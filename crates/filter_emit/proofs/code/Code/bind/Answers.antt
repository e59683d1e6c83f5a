use Rattle.std.proofs.Common.{length, subst, sym, ◌<◌}
use Rattle.std.specs.Prelude.{Contains}
use Rattle.filter_emit.specs.Fixups.{CanReach, HasJump}
use Rattle.filter_emit.proofs.BindLemmas.{at_within, reach_less}
use Rattle.filter_emit.proofs.code.Code.bind.Goals as goal

pub fill_all-requires-clause-there : goal.fill_all-requires-clause-there
fill_all-requires-clause-there g c = λ fixup is.
    subst (λ code. HasJump code fixup.place fixup.side) (sym c.self.view_is) (c.requires.open fixup (subst (λ fixups. Contains fixups fixup) c.fixups.ensures.fixups is)).0

pub fill_all-requires-clause-within : goal.fill_all-requires-clause-within
fill_all-requires-clause-within g c = λ fixup is.
    subst (λ code. fixup.place < length code) (sym c.self.view_is)
    (let j = (c.requires.open fixup (subst (λ fixups. Contains fixups fixup) c.fixups.ensures.fixups is)).0 in at_within c.args.self.now fixup.place j.0 j.2)

pub fill_all-requires-clause-near : goal.fill_all-requires-clause-near
fill_all-requires-clause-near g c = λ fixup is.
    subst (λ code. CanReach fixup.place fixup.side (length code)) (sym c.self.view_is)
    (reach_less fixup.place fixup.side (length c.args.self.now) c.args.label.now.by c.requires.by (c.requires.open fixup (subst (λ fixups. Contains fixups fixup) c.fixups.ensures.fixups is)).1)
