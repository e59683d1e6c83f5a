-- The counts of packets, and the texts of these counts (docs/SWITCH.md, "Counters by member").
use Rattle.std.specs.Prelude.{◌+◌, ◌-◌, ◌^◌, ◌++◌, List, codes, decimal, min, ℕ}
use Rattle.member_counts.specs.declared.counts.Counts.{Counts}
use Rattle.member_counts.specs.declared.counts.GroupCounts.{GroupCounts}
use Rattle.member_counts.specs.declared.counts.MemberCounts.{MemberCounts}

-- a count stays at the greatest number of 64 bits
abbrev pub capped : ℕ → ℕ
capped n = min n (2 ^ 64 - 1)

abbrev pub no_counts : Counts
no_counts = record { delivered = 0; dropped = 0; no_members = 0; send_failed = 0; bytes = 0 }

-- each sum
abbrev pub plus : Counts → Counts → Counts
plus counts more = record {
  delivered = capped (counts.delivered + more.delivered);
  dropped = capped (counts.dropped + more.dropped);
  no_members = capped (counts.no_members + more.no_members);
  send_failed = capped (counts.send_failed + more.send_failed);
  bytes = capped (counts.bytes + more.bytes);
}

-- the counts of one packet: delivered with this many bytes, dropped, or for a group without members; and of one failed send
abbrev pub delivered_one : ℕ → Counts
delivered_one bytes = record no_counts { delivered = 1; bytes = bytes }

abbrev pub dropped_one : Counts
dropped_one = record no_counts { dropped = 1 }

abbrev pub no_members_one : Counts
no_members_one = record no_counts { no_members = 1 }

abbrev pub failed_one : Counts
failed_one = record no_counts { send_failed = 1 }

-- the counts that a member has
abbrev pub member_part : Counts → MemberCounts
member_part counts =
    record { delivered = counts.delivered; dropped = counts.dropped; send_failed = counts.send_failed; bytes = counts.bytes }

-- the counts that a group has
abbrev pub group_part : Counts → GroupCounts
group_part counts =
    record { delivered = counts.delivered; dropped = counts.dropped; no_members = counts.no_members; send_failed = counts.send_failed }

abbrev pub member_text : MemberCounts → List ℕ
member_text counts =
    codes "delivered " ++ decimal counts.delivered ++ codes " dropped " ++ decimal counts.dropped
    ++ codes " sendfailed " ++ decimal counts.send_failed ++ codes " bytes " ++ decimal counts.bytes

abbrev pub group_text : GroupCounts → List ℕ
group_text counts =
    codes "delivered " ++ decimal counts.delivered ++ codes " dropped " ++ decimal counts.dropped
    ++ codes " nomembers " ++ decimal counts.no_members ++ codes " sendfailed " ++ decimal counts.send_failed
