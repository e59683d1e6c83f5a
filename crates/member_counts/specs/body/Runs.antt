-- How a VerdictLog has its runs.
use Rattle.std.specs.Prelude.{◌==◌, ◌||◌, ◌+◌, ◌-◌, ◌*◌, ◌/◌, ◌%◌, ◌<◌, ◌++◌, ◌∷◌, ◌^◌, Bool, List, None, Option, Some, [], false, not, true, ℕ}
use Rattle.ipv4_fields.specs.declared.endpoint.Endpoint.{Endpoint}
use Rattle.member_counts.specs.declared.counts.Counts.{Counts}
use Rattle.member_counts.specs.declared.log.Run.{Run}
use Rattle.member_counts.specs.Counts.{no_counts, plus}

-- some runs, and one more, if it is there
abbrev pub runs : List Run → Bool → Run → List Run
runs earlier true last = earlier ++ last ∷ []
runs earlier false last = earlier

-- a member's number, and a greater one for no member
abbrev pub number_of : Option ℕ → ℕ
number_of None = 2 ^ 32
number_of (Some number) = number

-- a group's key as one number
abbrev pub group_number : Endpoint → ℕ
group_number group = group.port * 2 ^ 48 + group.address * 2 ^ 16

-- Delivered packets and their bytes, packed in one number: the low 64 bits are 2^64 - 1 less the number of packets, the others are one
-- more than the number of packets and the number of bytes together. This is the number of packets.
abbrev pub packets : ℕ → ℕ
packets packed = 2 ^ 64 - 1 - packed % 2 ^ 64

-- their counts
abbrev pub unpacked : ℕ → Counts
unpacked packed = record no_counts { delivered = packets packed; bytes = packed / 2 ^ 64 - 1 - packets packed }

-- the high half has room for the number of packets
abbrev pub IsPacked : ℕ → Type 0
IsPacked packed = packets packed < packed / 2 ^ 64

-- what is added for one packet
abbrev pub packed_one : ℕ → ℕ
packed_one bytes = bytes * 2 ^ 64 + (2 ^ 64 - 1)

-- a run with the packets that are packed
abbrev pub whole : Run → ℕ → Run
whole last packed = record last { counts = plus last.counts (unpacked packed) }

-- there is a last run: it has counts, or packets are packed
abbrev pub has_run : Bool → ℕ → Bool
has_run has_counts packed = has_counts || not (packets packed == 0)

-- the last packet was delivered, and its send has not failed: there are other packed packets than those whose sends have ended
abbrev pub is_sent : ℕ → ℕ → Bool
is_sent packed ended = not (packed == ended)
