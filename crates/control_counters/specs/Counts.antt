-- The lines that ask for counts, and their replies (docs/COMMANDS.md, "serve").
use Rattle.std.specs.Prelude.{◌++◌, ◌∷◌, List, codes, decimal, map, ℕ}
use Rattle.ipv4_fields.specs.Endpoint.{endpoint_text}
use Rattle.ipv4_fields.specs.declared.endpoint.Endpoint.{Endpoint}
use Rattle.control_client.specs.Exchange.{Exchange}
use Rattle.counter_text.specs.declared.counters.Counters.{Counters}
use Rattle.counter_text.specs.declared.counters.GroupCount.{GroupCount}
use Rattle.counter_text.specs.declared.counters.MemberCount.{MemberCount}
use Rattle.counter_text.specs.declared.counters.Totals.{Totals}

abbrev pub group_line : Endpoint → List ℕ
group_line key = codes "totals " ++ endpoint_text key

abbrev pub member_line : Endpoint → ℕ → List ℕ
member_line key id = codes "totals " ++ endpoint_text key ++ codes " " ++ decimal id

abbrev pub totals_reply : Totals → List ℕ
totals_reply totals =
    codes "malformed " ++ (decimal totals.malformed ++ (codes " nogroup " ++ (decimal totals.nogroup ++ (codes " nomembers "
    ++ (decimal totals.nomembers ++ (codes " dropped " ++ (decimal totals.dropped ++ (codes " delivered " ++ (decimal totals.delivered
    ++ (codes " sendfailed " ++ (decimal totals.sendfailed ++ (codes " receivefailed " ++ decimal totals.receivefailed))))))))))))

abbrev pub group_reply : GroupCount → List ℕ
group_reply group =
    codes "delivered " ++ (decimal group.delivered ++ (codes " dropped " ++ (decimal group.dropped ++ (codes " nomembers "
    ++ (decimal group.nomembers ++ (codes " sendfailed " ++ decimal group.sendfailed))))))

abbrev pub member_reply : MemberCount → List ℕ
member_reply member =
    codes "delivered " ++ (decimal member.delivered ++ (codes " dropped " ++ (decimal member.dropped ++ (codes " sendfailed "
    ++ (decimal member.sendfailed ++ (codes " bytes " ++ decimal member.bytes))))))

-- ---- each count in the reply to its line

abbrev pub totals_exchange : Totals → Exchange
totals_exchange totals = record { line = codes "totals"; reply = totals_reply totals }

abbrev pub group_exchange : GroupCount → Exchange
group_exchange group = record { line = group_line group.key; reply = group_reply group }

abbrev pub member_exchange : MemberCount → Exchange
member_exchange member = record { line = member_line member.key member.id; reply = member_reply member }

-- all counts, one after the other
abbrev pub count_exchanges : Counters → List Exchange
count_exchanges counters = totals_exchange counters.totals ∷ (map group_exchange counters.groups.items ++ map member_exchange counters.members.items)
