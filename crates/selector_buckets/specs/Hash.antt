-- The hash of a packet's source, and the packet's bucket: multiplicative hashing (Knuth, "The Art of Computer Programming", volume 3,
-- section 6.4).
use Rattle.std.specs.Prelude.{◌≡◌, ◌*◌, ◌+◌, ◌/◌, ◌%◌, ◌^◌, List, length, slice_index, ℕ}
use Rattle.ipv4_fields.specs.declared.header.Field.TheVariants.{Source, SourcePort}
use Rattle.ipv4_fields.specs.Dispatchable.{IsDispatchable, field_value}
use Rattle.bpf_machine.specs.Meaning.{Ret, ending_of}
use Rattle.selector_buckets.specs.declared.TheConstants.{MULTIPLIER}
use Rattle.selector_buckets.specs.declared.hash.HashBy.{HashBy}
use Rattle.selector_buckets.specs.declared.hash.HashBy.TheVariants.{Addresses, Both, Ports}

-- a key times an odd number, modulo 2^32
abbrev pub mixed : ℕ → ℕ
mixed key = key * MULTIPLIER % 2 ^ 32

-- the part of the packet's source that is hashed
abbrev pub key_of : HashBy → List ℕ → ℕ
key_of Addresses packet = field_value Source packet
key_of Ports packet = field_value SourcePort packet
key_of Both packet = (field_value Source packet + mixed (field_value SourcePort packet)) % 2 ^ 32

abbrev pub hash_of : HashBy → List ℕ → ℕ
hash_of by packet = mixed (key_of by packet)

-- the number of hashes in each of this many buckets
abbrev pub width_of : ℕ → ℕ
width_of count = 2 ^ 32 / count

-- the packet's bucket, from 0 on: of 2^d buckets, the highest d bits of the hash
abbrev pub bucket_of : HashBy → ℕ → List ℕ → ℕ
bucket_of by count packet = hash_of by packet / width_of count

-- on each packet that is dispatched, the program returns the index of the packet's bucket
abbrev pub Selects : HashBy → List ℕ → List ℕ → Type 0
Selects by members program =
    (packet : List ℕ) → IsDispatchable packet → ending_of program packet ≡ Ret (slice_index members (bucket_of by (length members) packet))
