-- Replies with counts, by their fields.
use Rattle.std.specs.Prelude.{◌∷◌, List, [], codes, decimal, ℕ}
use Rattle.counter_text.specs.declared.counters.GroupCount.{GroupCount}
use Rattle.counter_text.specs.declared.counters.MemberCount.{MemberCount}
use Rattle.counter_text.specs.declared.counters.Totals.{Totals}

abbrev pub totals_fields : Totals → List (List ℕ)
totals_fields totals =
    codes "malformed" ∷ decimal totals.malformed ∷ codes "nogroup" ∷ decimal totals.nogroup ∷ codes "nomembers" ∷ decimal totals.nomembers
    ∷ codes "dropped" ∷ decimal totals.dropped ∷ codes "delivered" ∷ decimal totals.delivered ∷ codes "sendfailed" ∷ decimal totals.sendfailed
    ∷ codes "receivefailed" ∷ decimal totals.receivefailed ∷ []

abbrev pub group_fields : GroupCount → List (List ℕ)
group_fields group =
    codes "delivered" ∷ decimal group.delivered ∷ codes "dropped" ∷ decimal group.dropped ∷ codes "nomembers" ∷ decimal group.nomembers
    ∷ codes "sendfailed" ∷ decimal group.sendfailed ∷ []

abbrev pub member_fields : MemberCount → List (List ℕ)
member_fields member =
    codes "delivered" ∷ decimal member.delivered ∷ codes "dropped" ∷ decimal member.dropped ∷ codes "sendfailed" ∷ decimal member.sendfailed
    ∷ codes "bytes" ∷ decimal member.bytes ∷ []
