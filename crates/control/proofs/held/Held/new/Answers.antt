use Rattle.std.proofs.Common.{refl}
use Rattle.control.specs.declared.held.TheConstants.{LINE_ROOM}
use Rattle.control.proofs.HeldLemmas.{nothing_held}
use Rattle.control.proofs.held.Held.new.Goals as goal

pub returns : goal.returns
returns c = nothing_held (record { bytes = c.new.result; room = LINE_ROOM; due = 0 }) c.new.ensures.items refl refl
