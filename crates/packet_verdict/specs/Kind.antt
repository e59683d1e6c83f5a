-- The kind by which a verdict is counted (docs/SWITCH.md, "Tallies").
use Rattle.packet_verdict.specs.declared.kind.Kind.{Kind}
use Rattle.packet_verdict.specs.declared.kind.Kind.TheVariants as kind
use Rattle.packet_verdict.specs.declared.verdict.Verdict.{Verdict}
use Rattle.packet_verdict.specs.declared.verdict.Verdict.TheVariants.{Deliver, Dropped, Malformed, NoGroup, NoMembers}

abbrev pub kind_of : Verdict → Kind
kind_of Malformed = kind.Malformed
kind_of NoGroup = kind.NoGroup
kind_of NoMembers = kind.NoMembers
kind_of (Dropped group member) = kind.Dropped
kind_of (Deliver group member to bytes) = kind.Delivered
