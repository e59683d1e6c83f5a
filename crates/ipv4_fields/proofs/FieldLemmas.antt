-- Which fields a packet has.
use Rattle.std.proofs.Common.{◌≡◌, ◌+◌, ◌*◌, ◌≤◌, option_map, option_and_then, unwrap_or, IsSome, List, None, Option, Some, arith, length, refl, ℕ}
use Rattle.std.proofs.lemmas.Bool.{le-leb}
use Rattle.ipv4_fields.specs.declared.header.Field.TheVariants.{Ihl}
use Rattle.ipv4_fields.specs.Field.{behind_header, bits_from, field_of, ihl_of, number_at}
use Rattle.ipv4_fields.specs.Dispatchable.{IsDispatchable, field_value}

mapped : (f : ℕ → ℕ) (field : Option ℕ) → IsSome field → IsSome (option_map f field)
mapped f None none = cc
mapped f (Some n) some = refl

pub some_value : (field : Option ℕ) → IsSome field → field ≡ Some (unwrap_or field 0)
some_value None none = cc
some_value (Some n) some = refl

number_at-IsSome : (n : ℕ) (packet : List ℕ) (place : ℕ) → place + n ≤ length packet → IsSome (number_at n packet place)
number_at-IsSome n packet place inside = rw (le-leb (place + n) (length packet) inside) refl

pub header_field : (n place : ℕ) (packet : List ℕ) → 20 ≤ length packet → place + n ≤ 20 → IsSome (number_at n packet place)
header_field n place packet header within = number_at-IsSome n packet place (omega arith)

behind-cases : (packet : List ℕ) (ihl : Option ℕ) (offset : ℕ) → 4 * unwrap_or ihl 0 + offset + 2 ≤ length packet → IsSome ihl → IsSome (option_and_then (λ words. number_at 2 packet (4 * words + offset)) ihl)
behind-cases packet None offset inside none = cc
behind-cases packet (Some ihl) offset inside some = number_at-IsSome 2 packet (4 * ihl + offset) inside

ihl-IsSome : (packet : List ℕ) → 20 ≤ length packet → IsSome (ihl_of packet)
ihl-IsSome packet header = mapped (bits_from 0 4) (number_at 1 packet 0) (header_field 1 0 packet header (omega arith))

ihl-value : (packet : List ℕ) → field_value Ihl packet ≡ unwrap_or (ihl_of packet) 0
unfolding field_of
ihl-value packet = refl

pub port_field : (packet : List ℕ) (offset : ℕ) → IsDispatchable packet → offset ≤ 2 → IsSome (behind_header packet offset)
port_field packet offset d within =
    let header = d.has_header in
    let whole = d.whole in
    let udp_header = d.has_udp_header in
    let ihl = ihl-value packet in
    behind-cases packet (ihl_of packet) offset (omega arith) (ihl-IsSome packet header)
