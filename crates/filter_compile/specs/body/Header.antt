-- Which parts of a packet's headers are loaded, and what they are asked.
use Rattle.std.specs.Prelude.{◌==◌, ◌+◌, Bool, List, None, Option, Some, false, true, ℕ}
use Rattle.filter_tree.specs.declared.primitive.Direction.{Direction}
use Rattle.filter_tree.specs.declared.primitive.Transport.{Transport}
use Rattle.filter_tree.specs.declared.primitive.Transport.TheVariants.{Tcp, Udp, Unnamed}
use Rattle.filter_tree.specs.declared.truth.Truth.{Truth}
use Rattle.filter_tree.specs.Measure.{by_direction}
use Rattle.filter_tree.specs.Outcome.{tested}
use Rattle.filter_tree.specs.Prefix.{covers}
use Rattle.filter_tree.specs.Primitive.{at_ends, is_between}
use Rattle.filter_facts.specs.declared.load.Loaded.{Loaded}
use Rattle.filter_facts.specs.declared.load.Loaded.TheVariants.{Destination, DestinationPort, Protocol, Source, SourcePort}
use Rattle.filter_facts.specs.Known.{loaded_of}
use Rattle.filter_compile.specs.declared.check.Check.{Check}
use Rattle.filter_compile.specs.declared.check.Check.TheVariants.{Between, Covered, Equal}
use Rattle.filter_compile.specs.declared.ends.Part.{Part}
use Rattle.filter_compile.specs.declared.ends.Part.TheVariants.{Address, Port}

-- whether a number passes a check
abbrev pub passes : Check → ℕ → Bool
passes (Equal n) number = number == n
passes (Covered prefix) number = covers prefix number
passes (Between n m) number = is_between n m number

-- the most instructions of a check, but for the load
abbrev pub weight_of_check : Check → ℕ
weight_of_check (Equal n) = 3
weight_of_check (Covered prefix) = 4
weight_of_check (Between n m) = 6

-- whether a check leaves the number in A: that of a prefix shifts it
abbrev pub keeps_a : Check → Bool
keeps_a (Equal n) = true
keeps_a (Covered prefix) = false
keeps_a (Between n m) = true

-- what A holds behind a check of what was loaded
abbrev pub where_kept : Bool → Loaded → Option Loaded
where_kept true loaded = Some loaded
where_kept false loaded = None

-- the most instructions of the tests of both ends, of addresses and of ports with what comes before them
abbrev pub weight_of_ends : Direction → Check → ℕ
weight_of_ends direction check = by_direction direction (weight_of_check check + 1) ((weight_of_check check + 1) + (weight_of_check check + 1))

abbrev pub weight_of_addresses : ℕ → Direction → Check → ℕ
weight_of_addresses version direction check = weight_of_ends direction check + version

abbrev pub weight_of_transport : Transport → ℕ
weight_of_transport Tcp = 4
weight_of_transport Udp = 4
weight_of_transport Unnamed = 10

abbrev pub weight_of_ports : ℕ → Direction → Check → ℕ
weight_of_ports guards direction check = weight_of_ends direction check + 1 + guards

-- what is loaded of the two ends of a packet
abbrev pub source_of : Part → Loaded
source_of Address = Source
source_of Port = SourcePort

abbrev pub destination_of : Part → Loaded
destination_of Address = Destination
destination_of Port = DestinationPort

-- whether it is loaded by the length of the header in X
abbrev pub by_header : Loaded → Bool
by_header Protocol = false
by_header Source = false
by_header Destination = false
by_header SourcePort = true
by_header DestinationPort = true

-- the ends of a packet that a direction means pass a check
abbrev pub ends_pass : Part → Direction → Check → List ℕ → Truth
ends_pass part direction check packet =
    at_ends direction (tested (passes check) (loaded_of (source_of part) packet)) (tested (passes check) (loaded_of (destination_of part) packet))
