-- The line of totals (docs/SWITCH.md, "Tallies").
use Rattle.std.specs.Prelude.{◌++◌, List, Option, codes, decimal, ℕ}
use Rattle.std.specs.Io.KnownBytes.{Appends}
use Rattle.packet_verdict.specs.declared.kind.Kind.{Kind}
use Rattle.packet_verdict.specs.declared.kind.Kind.TheVariants.{Delivered, Dropped, Malformed, NoGroup, NoMembers, ReceiveFailed, SendFailed}
use Rattle.dispatch.specs.declared.kind.Totals.{Totals}
use Rattle.dispatch.specs.Tally.{total_of}

-- each kind's word and how often it was counted, in decimal
abbrev pub totals_text : Totals → List ℕ
totals_text totals =
    let count : Kind → List ℕ = λ kind. decimal (total_of totals kind) in
    codes "malformed " ++ count Malformed ++ codes " nogroup " ++ count NoGroup ++ codes " nomembers " ++ count NoMembers
    ++ codes " dropped " ++ count Dropped ++ codes " delivered " ++ count Delivered ++ codes " sendfailed " ++ count SendFailed
    ++ codes " receivefailed " ++ count ReceiveFailed

-- the line was written, and nothing else
abbrev pub WritesTotals : Totals → Option (List ℕ) → Option (List ℕ) → Type 0
WritesTotals totals before after = Appends before after (totals_text totals ++ codes "\n")
