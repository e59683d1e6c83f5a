-- The growth of counts between two readings, and its rate a second (docs/COMMANDS.md, "top").
use Rattle.std.specs.Prelude.{◌*◌, ◌+◌, ◌-◌, ◌/◌, ◌==◌, ◌&&◌, ◌||◌, ◌∷◌, Bool, List, [], if◌then◌else◌, min, nat_eq, nat_lt, ℕ}
use Rattle.ipv4_fields.specs.declared.endpoint.Endpoint.{Endpoint}
use Rattle.counter_text.specs.declared.counters.GroupCount.{GroupCount}
use Rattle.counter_text.specs.declared.counters.MemberCount.{MemberCount}
use Rattle.counter_text.specs.declared.counters.Totals.{Totals}
use Rattle.counter_text.specs.declared.growth.Growth.{Growth}

-- by how much a count grew; what began again grew from 0
abbrev pub grown : Bool → ℕ → ℕ → ℕ
grown again earlier later = if again then later else later - earlier

abbrev pub is_same : Endpoint → Endpoint → Bool
is_same one other = nat_eq one.address other.address && nat_eq one.port other.port

-- ---- the totals

-- a count fell, so all of them began again: the switch is another one
abbrev pub totals_again : Totals → Totals → Bool
totals_again earlier later =
    nat_lt later.malformed earlier.malformed || (nat_lt later.nogroup earlier.nogroup || (nat_lt later.nomembers earlier.nomembers
    || (nat_lt later.dropped earlier.dropped || (nat_lt later.delivered earlier.delivered
    || (nat_lt later.sendfailed earlier.sendfailed || nat_lt later.receivefailed earlier.receivefailed)))))

abbrev pub totals_grown : Totals → Totals → Totals
totals_grown earlier later = let again = totals_again earlier later in record {
  malformed = grown again earlier.malformed later.malformed;
  nogroup = grown again earlier.nogroup later.nogroup;
  nomembers = grown again earlier.nomembers later.nomembers;
  dropped = grown again earlier.dropped later.dropped;
  delivered = grown again earlier.delivered later.delivered;
  sendfailed = grown again earlier.sendfailed later.sendfailed;
  receivefailed = grown again earlier.receivefailed later.receivefailed;
}

-- ---- groups

-- the counts of the same group before; one that was not there may have kept counts of an earlier time, and has not grown
abbrev pub group_before : List GroupCount → GroupCount → GroupCount
group_before [] later = later
group_before (one ∷ rest) later = if is_same one.key later.key then one else group_before rest later

abbrev pub group_again : GroupCount → GroupCount → Bool
group_again earlier later =
    nat_lt later.delivered earlier.delivered || (nat_lt later.dropped earlier.dropped
    || (nat_lt later.nomembers earlier.nomembers || nat_lt later.sendfailed earlier.sendfailed))

-- the packets of a group are those that were delivered, dropped, or came while it had no members
abbrev pub group_growth : GroupCount → GroupCount → Growth
group_growth earlier later =
    let again = group_again earlier later in
    let lost = grown again earlier.dropped later.dropped + grown again earlier.nomembers later.nomembers in record {
      packets = grown again earlier.delivered later.delivered + lost;
      dropped = lost;
      failed = grown again earlier.sendfailed later.sendfailed;
    }

-- ---- members

-- the counts of the same member before, or its own
abbrev pub member_before : List MemberCount → MemberCount → MemberCount
member_before [] later = later
member_before (one ∷ rest) later = if is_same one.key later.key && nat_eq one.id later.id then one else member_before rest later

abbrev pub member_again : MemberCount → MemberCount → Bool
member_again earlier later =
    nat_lt later.delivered earlier.delivered || (nat_lt later.dropped earlier.dropped
    || (nat_lt later.sendfailed earlier.sendfailed || nat_lt later.bytes earlier.bytes))

-- the packets of a member are those that were delivered or dropped
abbrev pub member_growth : MemberCount → MemberCount → Growth
member_growth earlier later =
    let again = member_again earlier later in
    let lost = grown again earlier.dropped later.dropped in record {
      packets = grown again earlier.delivered later.delivered + lost;
      dropped = lost;
      failed = grown again earlier.sendfailed later.sendfailed;
    }

abbrev pub bytes_growth : MemberCount → MemberCount → ℕ
bytes_growth earlier later = grown (member_again earlier later) earlier.bytes later.bytes

-- ---- a second

-- a growth in so many milliseconds, a second, rounded down
abbrev pub rate : ℕ → ℕ → ℕ
rate growth millis = growth * 1000 / millis

-- a part of a whole in tenths of a percent, rounded down, and never above 100 percent
abbrev pub share : ℕ → ℕ → ℕ
share part whole = if whole == 0 then 0 else min 1000 (part * 1000 / whole)
