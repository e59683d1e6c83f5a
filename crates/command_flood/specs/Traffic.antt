-- The datagrams of `flood`, and which worker each goes to (docs/COMMANDS.md, "flood").
use Rattle.std.specs.Prelude.{◌==◌, ◌%◌, ◌++◌, ◌∷◌, if◌then◌else◌, List, [], map, slice_set, suc, take, zero, ℕ}
use Rattle.std.specs.List.{filter}
use Rattle.command_line.specs.declared.sample.TheConstants.{SAMPLE_PACKET}
use Rattle.command_flood.specs.declared.traffic.TheConstants.{CUT_LENGTH, OTHER_PORT, PORT_BYTE}

-- in each four: the sample packet twice, then with another destination port, then cut
abbrev pub datagram_of_four : ℕ → List ℕ
datagram_of_four turn =
    if turn == 2 then slice_set SAMPLE_PACKET.now PORT_BYTE OTHER_PORT
    else if turn == 3 then take CUT_LENGTH SAMPLE_PACKET.now
    else SAMPLE_PACKET.now

-- the datagram of a number, counted from 0
abbrev pub datagram_at : ℕ → List ℕ
datagram_at i = datagram_of_four (i % 4)

-- the numbers below a number, in rising order
abbrev pub numbers_below : ℕ → List ℕ
numbers_below zero = []
numbers_below (suc n) = numbers_below n ++ n ∷ []

-- the datagrams that go to one of so many workers: number i goes to worker `i mod workers`
abbrev pub share_of : ℕ → ℕ → ℕ → List (List ℕ)
share_of worker workers datagrams = map datagram_at (filter (λ i. i % workers == worker) (numbers_below datagrams))
