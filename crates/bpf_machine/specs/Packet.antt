-- Numbers from a packet's bytes, big-endian (networking/filter.rst, "BPF engine and instruction set").
use Rattle.std.specs.Prelude.{◌*◌, ◌+◌, ◌∷◌, if◌then◌else◌, List, None, Option, Some, [], drop, length, nat_le, take, ℕ}
use Rattle.bpf_insn.specs.declared.instruction.Size.{Size}
use Rattle.bpf_insn.specs.declared.instruction.Size.TheVariants.{Byte, Half, Word}

-- how many bytes a load takes
abbrev pub byte_count : Size → ℕ
byte_count Word = 4
byte_count Half = 2
byte_count Byte = 1

-- the big-endian number of n and then some bytes
abbrev pub big_endian_after : ℕ → List ℕ → ℕ
big_endian_after n [] = n
big_endian_after n (byte ∷ bytes) = big_endian_after (n * 256 + byte) bytes

-- the number that a packet has at a place, none if one of its bytes is missing
abbrev pub packet_number : List ℕ → Size → ℕ → Option ℕ
packet_number packet size place =
    if nat_le (place + byte_count size) (length packet) then Some (big_endian_after 0 (take (byte_count size) (drop place packet))) else None
