use Rattle.std.proofs.Common.{◌≡◌, ap, arith, inr, length, refl}
use Rattle.serve_devices.specs.Devices.{MemberOutboxValue}
use Rattle.serve_devices.specs.declared.member_outbox.TheConstants.{LOG_ROOM}
use Rattle.serve_devices.proofs.member_outbox.MemberOutbox.make_room.Goals as goal

pub returns-then-is_full-clause-made : goal.returns-then-is_full-clause-made
returns-then-is_full-clause-made g c =
    let entries = ap (λ (o : MemberOutboxValue). length o.log.entries) c.self.view_is in
    let room : c.self.inside.log.room ≡ LOG_ROOM = c.self.invariant in
    inr (let full = c.if-is_full.ensures.0 refl in omega (arith, entries, room, full), c.empty_log.ensures.empty)
