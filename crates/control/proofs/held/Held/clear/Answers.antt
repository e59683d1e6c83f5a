use Rattle.std.proofs.Common.{refl}
use Rattle.control.specs.declared.held.TheConstants.{LINE_ROOM}
use Rattle.control.proofs.HeldLemmas.{nothing_held}
use Rattle.control.proofs.held.Held.clear.Goals as goal

pub returns : goal.returns
returns c = nothing_held (record { bytes = c.clear.new.self; room = LINE_ROOM; due = 0 }) c.clear.ensures.items refl refl
