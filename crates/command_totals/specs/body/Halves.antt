-- The two parts in which the line of totals is written.
use Rattle.std.specs.Prelude.{◌++◌, List, codes, decimal, ℕ}
use Rattle.packet_verdict.specs.declared.kind.Kind.TheVariants.{Delivered, Dropped, Malformed, NoGroup, NoMembers, ReceiveFailed, SendFailed}
use Rattle.dispatch.specs.declared.kind.Totals.{Totals}
use Rattle.dispatch.specs.Tally.{total_of}

-- up to the number of dropped packets
abbrev pub first_half : Totals → List ℕ
first_half totals =
    codes "malformed " ++ decimal (total_of totals Malformed) ++ codes " nogroup " ++ decimal (total_of totals NoGroup)
    ++ codes " nomembers " ++ decimal (total_of totals NoMembers) ++ codes " dropped " ++ decimal (total_of totals Dropped)

-- the rest
abbrev pub second_half : Totals → List ℕ
second_half totals =
    codes " delivered " ++ decimal (total_of totals Delivered) ++ codes " sendfailed " ++ decimal (total_of totals SendFailed)
    ++ codes " receivefailed " ++ decimal (total_of totals ReceiveFailed)
