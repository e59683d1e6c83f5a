-- What `flood` is given (docs/COMMANDS.md, "flood").
use Rattle.std.proofs.Common.{◌≡◌, ◌≤◌, ◌∷◌, [], arith, length, refl, slice_index}
use Rattle.command_line.specs.declared.sample.TheConstants.{SAMPLE_PACKET}
use Rattle.command_flood.specs.declared.flood_jobs.TheConstants.{BUFFER, LIMIT}
use Rattle.command_flood.specs.declared.flood_versions.TheConstants.{PUBLICATIONS}
use Rattle.command_flood.specs.declared.TheConstants.{DATAGRAMS}
use Rattle.command_flood.specs.FloodVersions.{at_port, selector_at}
use Rattle.command_flood.specs.Traffic.{datagram_at}

datagrams : DATAGRAMS ≡ 4096
datagrams = refl

publications : PUBLICATIONS ≡ 64
publications = refl

batch_limit : LIMIT ≡ 64
batch_limit = refl

-- a datagram of 29 bytes fits the buffer
buffer_holds_a_datagram : length SAMPLE_PACKET.now ≤ BUFFER
buffer_holds_a_datagram = omega arith

-- 127.0.0.1:9001
first_member : at_port 9001 ≡ record { address = 2130706433; port = 9001 }
first_member = refl

-- `ret #0`, then `ret #1`
selects_the_first : selector_at 0 ≡ 1688849860263936 ∷ []
selects_the_first = refl

selects_the_second : selector_at 1 ≡ 1688849860263937 ∷ []
selects_the_second = refl

-- the low byte of the destination port
to_port_54 : slice_index (datagram_at 2) 23 ≡ 54
to_port_54 = refl

is_cut : length (datagram_at 3) ≡ 27
is_cut = refl
