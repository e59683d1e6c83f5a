use Rattle.std.proofs.Common.{refl}
use Rattle.command_operating.specs.Showing.{explained, unread}
use Rattle.command_operating.proofs.loading.show_refusal.Goals as goal

pub returns-in-Some : goal.returns-in-Some
returns-in-Some g c = explained c.in-Some.shown.code.now c.in-Some.shown.line c.in-Some.ensures.shown_exactly c.write_meaning.ensures.beginning

pub returns-in-None : goal.returns-in-None
returns-in-None g c = unread c.in-None.ensures.shown_exactly refl
