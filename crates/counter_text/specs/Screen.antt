-- The output of `top` at each interval (docs/COMMANDS.md, "top").
use Rattle.std.specs.Prelude.{◌/◌, ◌%◌, ◌-◌, ◌++◌, List, codes, decimal, length, replicate, sum_by, ℕ}
use Rattle.std.specs.List.{filter, flat_map}
use Rattle.ipv4_fields.specs.Endpoint.{endpoint_text}
use Rattle.ipv4_fields.specs.declared.endpoint.Endpoint.{Endpoint}
use Rattle.counter_text.specs.Growth.{bytes_growth, group_before, group_growth, is_same, member_before, member_growth, rate, share, totals_grown}
use Rattle.counter_text.specs.declared.counters.Counters.{Counters}
use Rattle.counter_text.specs.declared.counters.GroupCount.{GroupCount}
use Rattle.counter_text.specs.declared.counters.MemberCount.{MemberCount}
use Rattle.counter_text.specs.declared.counters.Totals.{Totals}
use Rattle.counter_text.specs.declared.growth.Growth.{Growth}

-- ---- rows

-- a text at the right of a column of this width, after a space
unfoldable pub column : ℕ → List ℕ → List ℕ
column width text = codes " " ++ (replicate (width - length text) 32 ++ text)

-- a text at the left of a column of this width
unfoldable pub first_column : ℕ → List ℕ → List ℕ
first_column width text = text ++ replicate (width - length text) 32

-- one row
unfoldable pub row_text : (group member packets bytes dropped failed part : List ℕ) → List ℕ
row_text group member packets bytes dropped failed part =
    first_column 21 group ++ column 10 member ++ column 12 packets ++ column 15 bytes ++ column 12 dropped ++ column 10 failed ++ column 6 part
    ++ codes "\n"

unfoldable pub header : List ℕ
header =
    row_text (codes "GROUP") (codes "MEMBER") (codes "PACKETS/S") (codes "BYTES/S") (codes "DROPPED/S") (codes "FAILED") (codes "SHARE")

-- tenths as a decimal fraction
unfoldable pub tenths_text : ℕ → List ℕ
tenths_text tenths = decimal (tenths / 10) ++ (codes "." ++ decimal (tenths % 10))

-- packets, bytes and drops a second, and failures in all
unfoldable pub growth_row : Endpoint → (member : List ℕ) → Growth → (bytes : ℕ) → (part : List ℕ) → (millis : ℕ) → List ℕ
growth_row key member growth bytes part millis =
    row_text (endpoint_text key) member (decimal (rate growth.packets millis)) (decimal (rate bytes millis)) (decimal (rate growth.dropped millis))
    (decimal growth.failed) part

-- a word and a number, each after a space
unfoldable pub named : List ℕ → ℕ → List ℕ
named word number = codes " " ++ (word ++ (codes " " ++ decimal number))

-- a line of totals, after its first word
unfoldable pub totals_line : List ℕ → Totals → List ℕ
totals_line word totals =
    word ++ named (codes "malformed") totals.malformed ++ named (codes "nogroup") totals.nogroup ++ named (codes "nomembers") totals.nomembers
    ++ named (codes "dropped") totals.dropped ++ named (codes "delivered") totals.delivered ++ named (codes "sendfailed") totals.sendfailed
    ++ named (codes "receivefailed") totals.receivefailed ++ codes "\n"

unfoldable pub totals_rates : Totals → ℕ → Totals
totals_rates grown millis = record {
  malformed = rate grown.malformed millis;
  nogroup = rate grown.nogroup millis;
  nomembers = rate grown.nomembers millis;
  dropped = rate grown.dropped millis;
  delivered = rate grown.delivered millis;
  sendfailed = rate grown.sendfailed millis;
  receivefailed = rate grown.receivefailed millis;
}

-- ---- two readings of a switch

-- the share is of the packets of the group
unfoldable pub member_row : (earlier : List MemberCount) (packets millis : ℕ) → MemberCount → List ℕ
member_row earlier packets millis member =
    let before = member_before earlier member in
    let growth = member_growth before member in
    growth_row member.key (decimal member.id) growth (bytes_growth before member) (tenths_text (share growth.packets packets)) millis

abbrev pub members_of : Endpoint → List MemberCount → List MemberCount
members_of key members = filter (λ member. is_same member.key key) members

abbrev pub bytes_of : List MemberCount → List MemberCount → ℕ
bytes_of earlier members = sum_by (λ member. bytes_growth (member_before earlier member) member) members

-- a group and its members. The bytes of the group are those of the members
unfoldable pub group_rows : Counters → Counters → ℕ → GroupCount → List ℕ
group_rows earlier later millis group =
    let members = members_of group.key later.members.items in
    let growth = group_growth (group_before earlier.groups.items group) group in
    growth_row group.key (codes "-") growth (bytes_of earlier.members.items members) (codes "-") millis
    ++ flat_map (member_row earlier.members.items growth.packets millis) members

-- the totals, how much they grew a second, and a row for each group and each member; an empty line ends it
abbrev pub screen_text : Counters → Counters → ℕ → List ℕ
screen_text earlier later millis =
    totals_line (codes "totals") later.totals ++ totals_line (codes "rates") (totals_rates (totals_grown earlier.totals later.totals) millis) ++ header
    ++ flat_map (group_rows earlier later millis) later.groups.items ++ codes "\n"
