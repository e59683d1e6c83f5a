-- Worked examples. A separate script computed the numbers.
use Rattle.std.proofs.Common.{◌≡◌, ◌∷◌, ℕ, List, [], refl}
use Rattle.bpf_insn.specs.Table.{table, uses_of}
use Rattle.bpf_insn.specs.Word.{instruction_of}
use Rattle.bpf_machine.specs.Meaning.{Ret, ending_of, run_after}
use Rattle.ipv4_fields.specs.Field.{field_of}
use Rattle.selector_buckets.specs.declared.hash.HashBy.TheVariants.{Addresses, Both, Ports}
use Rattle.selector_buckets.specs.Hash.{bucket_of, mixed}
use Rattle.selector_buckets.specs.Drained.{drained, handed_over}
use Rattle.selector_buckets.specs.Shares.{given_more, one_more, quotas_of}
use Rattle.selector_buckets.specs.Turns.{free_from, rounds, table_of, turns}
use Rattle.selector_buckets.specs.Words.{selector_words, tree_words}

-- ---- the hash: a datagram without data from 10.0.0.1:53000 to 10.0.0.2:53

abbrev packet : List ℕ
packet = 69 ∷ 0 ∷ 0 ∷ 28 ∷ 0 ∷ 0 ∷ 0 ∷ 0 ∷ 64 ∷ 17 ∷ 0 ∷ 0 ∷ 10 ∷ 0 ∷ 0 ∷ 1 ∷ 10 ∷ 0 ∷ 0 ∷ 2 ∷ 207 ∷ 8 ∷ 0 ∷ 53 ∷ 0 ∷ 8 ∷ 0 ∷ 0 ∷ []

mixed_address : mixed 167772161 ≡ 2285337009
mixed_address = refl

by_addresses : bucket_of Addresses 256 packet ≡ 136
unfolding field_of
by_addresses = refl

by_ports : bucket_of Ports 4 packet ≡ 3
unfolding field_of
by_ports = refl

by_both : bucket_of Both 4 packet ≡ 0
unfolding field_of
by_both = refl

one_bucket : bucket_of Both 1 packet ≡ 0
unfolding field_of
one_bucket = refl

-- ---- the program: ld [12], mul #2654435761, jge #2147483648, and two returns

two_buckets : selector_words Addresses (record { depth = 1; members = 0 ∷ 1 ∷ [] })
    ≡ 0x0020_0000_0000_000c ∷ 0x0024_0000_9e37_79b1 ∷ 0x0035_0100_8000_0000 ∷ 0x0006_0000_0000_0000 ∷ 0x0006_0000_0000_0001 ∷ []
unfolding tree_words
two_buckets = refl

returned : ending_of (selector_words Ports (record { depth = 2; members = 5 ∷ 6 ∷ 7 ∷ 8 ∷ [] })) packet ≡ Ret 8
unfolding tree_words run_after instruction_of uses_of table
returned = refl

-- ---- quotas by the largest remainders; a weight of 0 has none

equal_weights : quotas_of (1 ∷ 1 ∷ 1 ∷ []) 8 ≡ 3 ∷ 3 ∷ 2 ∷ []
unfolding given_more one_more
equal_weights = refl

weight_of_zero : quotas_of (3 ∷ 1 ∷ 0 ∷ []) 8 ≡ 6 ∷ 2 ∷ 0 ∷ []
unfolding given_more one_more
weight_of_zero = refl

two_left : quotas_of (5 ∷ 3 ∷ 2 ∷ []) 16 ≡ 8 ∷ 5 ∷ 3 ∷ []
unfolding given_more one_more
two_left = refl

-- ---- tables

three_members : table_of (1 ∷ 2 ∷ 3 ∷ []) (1 ∷ 1 ∷ 1 ∷ []) 8 ≡ 1 ∷ 0 ∷ 2 ∷ 1 ∷ 0 ∷ 2 ∷ 1 ∷ 0 ∷ []
unfolding rounds turns free_from given_more one_more
three_members = refl

by_weight : table_of (1 ∷ 2 ∷ 3 ∷ []) (5 ∷ 3 ∷ 2 ∷ []) 16 ≡ 0 ∷ 0 ∷ 2 ∷ 0 ∷ 2 ∷ 0 ∷ 2 ∷ 0 ∷ 0 ∷ 1 ∷ 1 ∷ 1 ∷ 0 ∷ 1 ∷ 1 ∷ 0 ∷ []
unfolding rounds turns free_from given_more one_more
by_weight = refl

-- ---- a member that leaves: the second of three, the last of two, and one without buckets

second_leaves : drained 3 1 (2 ∷ 2 ∷ 2 ∷ 1 ∷ 0 ∷ 2 ∷ 1 ∷ 0 ∷ []) ≡ 1 ∷ 1 ∷ 1 ∷ 0 ∷ 0 ∷ 1 ∷ 0 ∷ 0 ∷ []
unfolding handed_over
second_leaves = refl

last_leaves : drained 2 1 (1 ∷ 0 ∷ 1 ∷ 1 ∷ []) ≡ 0 ∷ 0 ∷ 0 ∷ 0 ∷ []
unfolding handed_over
last_leaves = refl

nothing_to_give : drained 3 0 (1 ∷ 2 ∷ 1 ∷ 1 ∷ []) ≡ 1 ∷ 0 ∷ 1 ∷ 1 ∷ []
unfolding handed_over
nothing_to_give = refl
