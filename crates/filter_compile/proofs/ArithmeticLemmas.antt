-- The code of arithmetic: the values of its forms in A, and a pair of values in A and X.
use Rattle.std.proofs.Common.{◌≡◌, ◌∙◌, ◌+◌, ◌-◌, ◌*◌, ◌%◌, ◌<◌, ◌^◌, ◌≤◌, Bool, List, None, Option, Some, ap, arith, cond, false, inl, inr, length, refl, sym, true, ℕ, ⊎_elim}
use Rattle.std.specs.Prelude.{option_and_then, option_map}
use Rattle.std.proofs.lemmas.Bool.{cases_lt, eq-eqb, ne_eqb}
use Rattle.bpf_insn.specs.declared.instruction.Insn.{Insn}
use Rattle.bpf_insn.specs.declared.instruction.Insn.TheVariants.{Alu, CopyToX, LoadAbsolute, LoadCell, LoadConstant, LoadIndexed, LoadLength, LoadXConstant, LoadXHeader, LoadXLength, Store}
use Rattle.bpf_insn.specs.declared.instruction.Operand.{Operand}
use Rattle.bpf_insn.specs.declared.instruction.Operand.TheVariants.{K, X}
use Rattle.bpf_insn.specs.declared.instruction.Operation.{Operation}
use Rattle.bpf_insn.specs.declared.instruction.Operation.TheVariants.{Add}
use Rattle.bpf_insn.specs.declared.instruction.Size.{Size as InsnSize}
use Rattle.bpf_insn.specs.declared.instruction.Size.TheVariants.{Byte}
use Rattle.bpf_machine.specs.Meaning.{Cells, a_or_end, a_or_stuck, header_length, mean, with_cell, x_or_end}
use Rattle.bpf_machine.specs.Packet.{packet_number}
use Rattle.ipv4_fields.specs.Field.{bits_from, field_of, ihl_of, number_at}
use Rattle.filter_tree.specs.declared.arithmetic.Operator.{Operator}
use Rattle.filter_tree.specs.declared.arithmetic.Protocol.{Protocol}
use Rattle.filter_tree.specs.declared.arithmetic.Protocol.TheVariants.{Icmp, Ip, Tcp, Udp}
use Rattle.filter_tree.specs.declared.arithmetic.Size.{Size}
use Rattle.filter_tree.specs.Arithmetic.{byte_count, combined, loaded}
use Rattle.filter_compile.specs.Answer.{IsPacket}
use Rattle.filter_compile.specs.body.Arithmetic.{DoesAs, IsDirect, ReadsAs, weight_of_access}
use Rattle.filter_emit.specs.Runs.{IsPushed, LoadsStored}
use Rattle.filter_emit.proofs.PushedLemmas.{after_effect, loads_next, mean_pushed}
use Rattle.filter_facts.specs.Known.{Knows}
use Rattle.filter_compile.specs.body.Piece.{ComesWith, Computes, IsPlain, KeepsBelow, Pairs, PairsWith, behind}
use Rattle.filter_compile.proofs.PacketLemmas.{packet_number-number_at}
use Rattle.filter_compile.proofs.ValueLemmas.{Computes-load, Computes-same, Computes-then, plain_loads, set_comes}

pub copy_plain : IsPlain CopyToX
copy_plain = record { next = refl; loads_none = λ cell none. none }

pub operation_plain : (operation : Operation) (operand : Operand) → IsPlain (Alu operation operand)
operation_plain operation operand = record { next = refl; loads_none = λ cell none. none }

pub constant_plain : (n : ℕ) → IsPlain (LoadConstant n)
constant_plain n = record { next = refl; loads_none = λ cell none. none }

pub x_constant_plain : (n : ℕ) → IsPlain (LoadXConstant n)
x_constant_plain n = record { next = refl; loads_none = λ cell none. none }

pub length_plain : IsPlain LoadLength
length_plain = record { next = refl; loads_none = λ cell none. none }

pub x_length_plain : IsPlain LoadXLength
x_length_plain = record { next = refl; loads_none = λ cell none. none }

pub absolute_plain : (size : InsnSize) (k : ℕ) → IsPlain (LoadAbsolute size k)
absolute_plain size k = record { next = refl; loads_none = λ cell none. none }

pub indexed_plain : (size : InsnSize) (k : ℕ) → IsPlain (LoadIndexed size k)
indexed_plain size k = record { next = refl; loads_none = λ cell none. none }

pub header_plain : IsPlain (LoadXHeader 0)
header_plain = record { next = refl; loads_none = λ cell none. none }

-- ---- numbers, the packet's length

module _ (known : Bool) (d : ℕ) (later words : List ℕ) where
  pub Computes-number : (n : ℕ) → IsPushed (LoadConstant n) later words → Computes (λ packet a. Some n) known known d later words
  Computes-number n pushed = Computes-load (LoadConstant n) (constant_plain n) known (λ packet. Some n) d later words pushed (λ packet a x cells knows. refl)

  length_fits : (packet : List ℕ) → IsPacket packet → length packet ≡ length packet % 2 ^ 32
  length_fits packet ok = let few = ok.not_too_long in omega arith

  pub Computes-length : IsPushed LoadLength later words → Computes (λ packet a. Some (length packet % 2 ^ 32)) known known d later words
  Computes-length pushed =
      Computes-same (λ packet a. Some (length packet)) (λ packet a. Some (length packet % 2 ^ 32)) known known d later words (λ packet ok a. ap Some (length_fits packet ok))
      (Computes-load LoadLength length_plain known (λ packet. Some (length packet)) d later words pushed (λ packet a x cells knows. refl))

-- ---- an operation on A and an operand

-- X becomes a value, which is not known
set_x : (insn : Insn) → IsPlain insn → (value : List ℕ → ℕ) (known : Bool) (d : ℕ) (later words : List ℕ) → IsPushed insn later words
    → ((packet : List ℕ) (a x : ℕ) (cells : Cells) → mean words a x cells packet ≡ mean later a (value packet) cells packet) → Pairs (λ packet. Some (value packet)) known d later words
set_x insn plain value known d later words pushed on = record {
  loads_stored = plain_loads insn plain later words d pushed;
  comes = λ packet ok a x cells knows. (cells, λ cell low. refl, on packet a x cells);
}

pub Pairs-number : (n : ℕ) (known : Bool) (d : ℕ) (later words : List ℕ) → IsPushed (LoadXConstant n) later words → Pairs (λ packet. Some n) known d later words
Pairs-number n known d later words pushed =
    set_x (LoadXConstant n) (x_constant_plain n) (λ packet. n) known d later words pushed (λ packet a x cells. mean_pushed (LoadXConstant n) later words pushed a x cells packet)

pub Pairs-length : (known : Bool) (d : ℕ) (later words : List ℕ) → IsPushed LoadXLength later words → Pairs (λ packet. Some (length packet % 2 ^ 32)) known d later words
Pairs-length known d later words pushed = record {
  loads_stored = plain_loads LoadXLength x_length_plain later words d pushed;
  comes = λ packet ok a x cells knows.
      (cells, λ cell low. refl, mean_pushed LoadXLength later words pushed a x cells packet ∙ ap (λ n. mean later a n cells packet) (length_fits known d later words packet ok));
}

module _ (operator : Operator) (operation : Operation) (does : DoesAs operator operation) where
  pub Computes-constant : (n : ℕ) (known : Bool) (d : ℕ) (later words : List ℕ) → IsPushed (Alu operation (K n)) later words → Computes (λ packet a. combined operator a n) known known d later words
  Computes-constant n known d later words pushed = record {
    loads_stored = plain_loads (Alu operation (K n)) (operation_plain operation (K n)) later words d pushed;
    comes = λ packet ok a x cells knows.
        set_comes (combined operator a n) known d later words packet a x cells knows
        (mean_pushed (Alu operation (K n)) later words pushed a x cells packet ∙ ap (λ o. after_effect (a_or_end o x cells) later packet) (does a n));
  }

  module _ (right : List ℕ → Option ℕ) (given : Bool) (d : ℕ) (later mid words : List ℕ) (apply : IsPushed (Alu operation X) later mid) (pairs : Pairs right given d mid words) where
    -- the operation on the value in X
    applied : (found : Option ℕ) (packet : List ℕ) (a x r : ℕ) (cells cells' : Cells) → KeepsBelow d cells cells' → mean words a x cells packet ≡ after_effect (a_or_end found r cells') later packet → ComesWith found false d later words packet a x cells
    applied None packet a x r cells cells' keeps on = on
    applied (Some v) packet a x r cells cells' keeps on = (r, cells', keeps, tt, on)

    pair_applied : (found : Option ℕ) (packet : List ℕ) (a x : ℕ) (cells : Cells) → PairsWith found d mid words packet a x cells → ComesWith (option_and_then (combined operator a) found) false d later words packet a x cells
    pair_applied None packet a x cells h = h
    pair_applied (Some r) packet a x cells h =
        applied (combined operator a r) packet a x r cells h.0 h.1
        (h.2 ∙ (mean_pushed (Alu operation X) later mid apply a r h.0 packet ∙ ap (λ o. after_effect (a_or_end o r h.0) later packet) (does a r)))

    pub Computes-applied : Computes (λ packet a. option_and_then (combined operator a) (right packet)) given false d later words
    Computes-applied = record {
      loads_stored = λ ok. pairs.loads_stored (plain_loads (Alu operation X) (operation_plain operation X) later mid d apply ok);
      comes = λ packet ok a x cells knows. pair_applied (right packet) packet a x cells (pairs.comes packet ok a x cells knows);
    }

-- ---- a pair of values: the left one waits in a cell

pub loads_more : (d e : ℕ) (words : List ℕ) → d ≤ e → LoadsStored d words → LoadsStored e words
loads_more d e words low ok pc cell load earlier path = ⊎_elim (λ (below : cell < d). inl (omega arith)) inr (ok pc cell load earlier path)

stored_there : (cells : Cells) (d v : ℕ) → with_cell cells d v d ≡ Some v
stored_there cells d v = ap (λ b. cond b (Some v) (cells d)) (eq-eqb d d refl)

stored_elsewhere : (cells : Cells) (d v cell : ℕ) → cell < d → with_cell cells d v cell ≡ cells cell
stored_elsewhere cells d v cell low = ap (λ b. cond b (Some v) (cells cell)) (ne_eqb cell d (λ e. omega arith))

module _ (right : List ℕ → Option ℕ) (given after : Bool) (d : ℕ) (later two three four five : List ℕ) (load : IsPushed (LoadCell d) later two) (copy : IsPushed CopyToX two three)
    (computes : Computes (λ packet a. right packet) given after (d + 1) three four) (store : IsPushed (Store d) four five) where
  right_comes : (l : ℕ) (found : Option ℕ) (packet : List ℕ) (x : ℕ) (cells : Cells) → ComesWith found after (d + 1) three four packet l x (with_cell cells d l) → PairsWith found d later five packet l x cells
  right_comes l None packet x cells h = mean_pushed (Store d) four five store l x cells packet ∙ h
  right_comes l (Some r) packet x cells h =
      let kept : h.1 d ≡ Some l = h.2 d (omega arith) ∙ stored_there cells d l in (
        h.1,
        λ cell low. h.2 cell (omega arith) ∙ stored_elsewhere cells d l cell low,
        mean_pushed (Store d) four five store l x cells packet ∙ (h.4 ∙ (mean_pushed CopyToX two three copy r h.0 h.1 packet
            ∙ (mean_pushed (LoadCell d) later two load r r h.1 packet ∙ ap (λ o. after_effect (a_or_stuck o r h.1) later packet) kept))),
      )

  pub Pairs-computed : Pairs right given d later five
  Pairs-computed = record {
    loads_stored = λ ok.
        let at_two : LoadsStored (d + 1) two = loads_next (LoadCell d) later two (d + 1) (d + 1) load refl (λ cell is. omega arith) (λ cell low. inl low) (loads_more d (d + 1) later (omega arith) ok) in
        let at_four = computes.loads_stored (plain_loads CopyToX copy_plain two three (d + 1) copy at_two) in
        loads_next (Store d) four five d (d + 1) store refl (λ cell none. absurd none) (λ cell low. ⊎_elim (λ (below : cell < d). inl below) (λ up. inr (let g : d ≡ cell = omega arith in g)) (cases_lt cell d)) at_four;
    comes = λ packet ok a x cells knows. right_comes a (right packet) packet x cells (computes.comes packet ok a x (with_cell cells d a) knows);
  }

-- ---- the length of the header

header_of_byte : (byte : Option ℕ) → header_length byte ≡ option_map (λ ihl. 4 * ihl) (option_map (bits_from 0 4) byte)
header_of_byte None = refl
header_of_byte (Some n) = ap Some (let g : 4 * (n % 16) ≡ 4 * bits_from 0 4 n = omega arith in g)

pub header_is : (packet : List ℕ) → header_length (packet_number packet Byte 0) ≡ option_map (λ ihl. 4 * ihl) (ihl_of packet)
header_is packet = ap header_length (packet_number-number_at packet Byte 0) ∙ header_of_byte (number_at 1 packet 0)

few_words : (byte : Option ℕ) (ihl : ℕ) → option_map (bits_from 0 4) byte ≡ Some ihl → ihl < 16
few_words None ihl is = cc
few_words (Some n) ihl is = let e : bits_from 0 4 n ≡ ihl = cc in let f : bits_from 0 4 n < 16 = omega arith in omega arith

pub ihl-few : (packet : List ℕ) (ihl : ℕ) → ihl_of packet ≡ Some ihl → ihl < 16
ihl-few packet ihl is = few_words (number_at 1 packet 0) ihl is

module _ (d : ℕ) where
  header_comes : (given : Bool) (later words packet : List ℕ) (a x : ℕ) (cells : Cells) (ihl : Option ℕ) → ihl_of packet ≡ ihl → mean words a x cells packet ≡ after_effect (x_or_end (option_map (λ i. 4 * i) ihl) a cells) later packet
      → ComesWith (option_map (λ i. a) ihl) true d later words packet a x cells
  header_comes given later words packet a x cells None is on = on
  header_comes given later words packet a x cells (Some i) is on = (4 * i, cells, λ cell low. refl, (i, is, refl), on)

  -- X becomes the header's length
  pub Computes-header : (given : Bool) (later words : List ℕ) → IsPushed (LoadXHeader 0) later words → Computes behind given true d later words
  Computes-header given later words pushed = record {
    loads_stored = plain_loads (LoadXHeader 0) header_plain later words d pushed;
    comes = λ packet ok a x cells knows.
        header_comes given later words packet a x cells (ihl_of packet) refl (mean_pushed (LoadXHeader 0) later words pushed a x cells packet ∙ ap (λ o. after_effect (x_or_end o a cells) later packet) (header_is packet));
  }

  held_comes : (words packet : List ℕ) (a x : ℕ) (cells : Cells) (ihl : Option ℕ) → ihl_of packet ≡ ihl → Knows true packet x → ComesWith (option_map (λ i. a) ihl) true d words words packet a x cells
  held_comes words packet a x cells None is knows = absurd (let e : Some knows.0 ≡ None = sym knows.1 ∙ is in cc)
  held_comes words packet a x cells (Some i) is knows = (x, cells, λ cell low. refl, knows, refl)

  -- X holds it
  pub Computes-held : (words : List ℕ) → Computes behind true true d words words
  Computes-held words = record {
    loads_stored = λ ok. ok;
    comes = λ packet ok a x cells knows. held_comes words packet a x cells (ihl_of packet) refl knows;
  }

-- what a transport protocol's accessor loads
loaded_behind : (size : Size) (protocol : Protocol) → (protocol ≡ Ip → ⊥) → (packet : List ℕ) (i : ℕ) → option_and_then (number_at (byte_count size) packet) (option_map (λ ihl. (4 * ihl + i) % 2 ^ 32) (ihl_of packet)) ≡ loaded protocol i size packet
unfolding field_of
loaded_behind size Ip other packet i = absurd (other refl)
loaded_behind size Tcp other packet i = refl
loaded_behind size Udp other packet i = refl
loaded_behind size Icmp other packet i = refl

pub direct_low : (protocol : Protocol) (k : ℕ) → (protocol ≡ Ip → ⊥) → IsDirect protocol k → k ≤ 2 ^ 32 - 61
direct_low Ip k other direct = absurd (other refl)
direct_low Tcp k other direct = direct
direct_low Udp k other direct = direct
direct_low Icmp k other direct = direct

pub behind_weight : (protocol : Protocol) → (protocol ≡ Ip → ⊥) → weight_of_access protocol ≡ 4
behind_weight Ip other = absurd (other refl)
behind_weight Tcp other = refl
behind_weight Udp other = refl
behind_weight Icmp other = refl

-- ---- accessors at a number

module _ (size : Size) (insn_size : InsnSize) (reads : ReadsAs size insn_size) (k d : ℕ) (later words : List ℕ) where
  pub Computes-absolute : (known : Bool) → IsPushed (LoadAbsolute insn_size k) later words → Computes (λ packet a. loaded Ip k size packet) known known d later words
  Computes-absolute known pushed =
      Computes-load (LoadAbsolute insn_size k) (absolute_plain insn_size k) known (λ packet. loaded Ip k size packet) d later words pushed (λ packet a x cells knows. ap (λ o. a_or_end o x cells) (reads packet k))

  -- what stands behind the header, where X holds its length
  abbrev at_header : List ℕ → Option ℕ
  at_header packet = option_and_then (λ ihl. number_at (byte_count size) packet (4 * ihl + k)) (ihl_of packet)

  pub Computes-indexed : IsPushed (LoadIndexed insn_size k) later words → Computes (λ packet a. at_header packet) true true d later words
  Computes-indexed pushed =
      Computes-load (LoadIndexed insn_size k) (indexed_plain insn_size k) true at_header d later words pushed
      (λ packet a x cells knows. ap (λ o. a_or_end o x cells)
      (reads packet (x + k) ∙ (ap (λ n. number_at (byte_count size) packet (n + k)) knows.2 ∙ sym (ap (option_and_then (λ ihl. number_at (byte_count size) packet (4 * ihl + k))) knows.1))))

  -- the sum does not pass 2^32
  direct_same : (packet : List ℕ) → k ≤ 2 ^ 32 - 61 → (a : ℕ) (ihl : Option ℕ) → ((i : ℕ) → ihl ≡ Some i → i < 16)
      → option_and_then (λ b. option_and_then (λ i. number_at (byte_count size) packet (4 * i + k)) ihl) (option_map (λ i. a) ihl)
      ≡ option_and_then (number_at (byte_count size) packet) (option_map (λ i. (4 * i + k) % 2 ^ 32) ihl)
  direct_same packet low a None few = refl
  direct_same packet low a (Some i) few = let small = few i refl in let e : 4 * i + k ≡ (4 * i + k) % 2 ^ 32 = omega arith in ap (number_at (byte_count size) packet) e

  pub Computes-direct : (protocol : Protocol) → (protocol ≡ Ip → ⊥) → k ≤ 2 ^ 32 - 61 → (given : Bool) (before : List ℕ) → Computes behind given true d words before → IsPushed (LoadIndexed insn_size k) later words
      → Computes (λ packet a. loaded protocol k size packet) given true d later before
  Computes-direct protocol other low given before held pushed =
      Computes-same (λ packet a. option_and_then (λ b. at_header packet) (behind packet a)) (λ packet a. loaded protocol k size packet) given true d later before
      (λ packet ok a. direct_same packet low a (ihl_of packet) (ihl-few packet) ∙ loaded_behind size protocol other packet k)
      (Computes-then behind (λ packet a. at_header packet) given true true d later words before held (Computes-indexed pushed))

-- ---- accessors at an index in A

module _ (size : Size) (insn_size : InsnSize) (reads : ReadsAs size insn_size) (d : ℕ) (later one two : List ℕ) (load : IsPushed (LoadIndexed insn_size 0) later one) (copy : IsPushed CopyToX one two) where
  indexed_comes : (found : Option ℕ) (packet : List ℕ) (a x : ℕ) (cells : Cells) → mean two a x cells packet ≡ after_effect (a_or_end found a cells) later packet → ComesWith found false d later two packet a x cells
  indexed_comes None packet a x cells on = on
  indexed_comes (Some v) packet a x cells on = (a, cells, λ cell low. refl, tt, on)

  pub Computes-at : (known : Bool) → Computes (λ packet a. number_at (byte_count size) packet a) known false d later two
  Computes-at known = record {
    loads_stored = λ ok. plain_loads CopyToX copy_plain one two d copy (plain_loads (LoadIndexed insn_size 0) (indexed_plain insn_size 0) later one d load ok);
    comes = λ packet ok a x cells knows.
        let same : packet_number packet insn_size (a + 0) ≡ number_at (byte_count size) packet a = reads packet (a + 0) ∙ ap (number_at (byte_count size) packet) (let g : a + 0 ≡ a = omega arith in g) in
        indexed_comes (number_at (byte_count size) packet a) packet a x cells
        (mean_pushed CopyToX one two copy a x cells packet ∙ (mean_pushed (LoadIndexed insn_size 0) later one load a a cells packet ∙ ap (λ o. after_effect (a_or_end o a cells) later packet) same));
  }

-- the index is one behind the header
module _ (size : Size) (d : ℕ) (later two three : List ℕ) (at : Computes (λ packet a. number_at (byte_count size) packet a) false false d later two) (sum : IsPushed (Alu Add X) two three) where
  -- the index behind the header
  abbrev behind_index : List ℕ → ℕ → Option ℕ
  behind_index packet a = option_map (λ ihl. (4 * ihl + a) % 2 ^ 32) (ihl_of packet)

  sum_comes : (packet : List ℕ) (a x : ℕ) (cells : Cells) (ihl : Option ℕ) → ihl_of packet ≡ ihl → Knows true packet x → ComesWith (option_map (λ i. (4 * i + a) % 2 ^ 32) ihl) false d two three packet a x cells
  sum_comes packet a x cells None is knows = absurd (let e : Some knows.0 ≡ None = sym knows.1 ∙ is in cc)
  sum_comes packet a x cells (Some i) is knows =
      let e : Some knows.0 ≡ Some i = sym knows.1 ∙ is in let f : knows.0 ≡ i = cc in
      let sums : (a + x) % 2 ^ 32 ≡ (4 * i + a) % 2 ^ 32 = ap (λ n. n % 2 ^ 32) (let g : a + x ≡ 4 * i + a = (let h = knows.2 in omega arith) in g) in
      (x, cells, λ cell low. refl, tt, mean_pushed (Alu Add X) two three sum a x cells packet ∙ ap (λ n. mean two n x cells packet) sums)

  Computes-sum : Computes behind_index true false d two three
  Computes-sum = record {
    loads_stored = plain_loads (Alu Add X) (operation_plain Add X) two three d sum;
    comes = λ packet ok a x cells knows. sum_comes packet a x cells (ihl_of packet) refl knows;
  }

  held_same : (protocol : Protocol) → (protocol ≡ Ip → ⊥) → (packet : List ℕ) (a : ℕ) (ihl : Option ℕ)
      → option_and_then (λ b. option_and_then (number_at (byte_count size) packet) (option_map (λ i. (4 * i + b) % 2 ^ 32) ihl)) (option_map (λ i. a) ihl)
      ≡ option_and_then (number_at (byte_count size) packet) (option_map (λ i. (4 * i + a) % 2 ^ 32) ihl)
  held_same protocol other packet a None = refl
  held_same protocol other packet a (Some i) = refl

  pub Computes-behind : (protocol : Protocol) → (protocol ≡ Ip → ⊥) → (given : Bool) (before : List ℕ) → Computes behind given true d three before → Computes (λ packet a. loaded protocol a size packet) given false d later before
  Computes-behind protocol other given before held =
      Computes-same (λ packet a. option_and_then (λ b. option_and_then (number_at (byte_count size) packet) (behind_index packet b)) (behind packet a)) (λ packet a. loaded protocol a size packet) given false d later before
      (λ packet ok a. held_same protocol other packet a (ihl_of packet) ∙ loaded_behind size protocol other packet a)
      (Computes-then behind (λ packet a. option_and_then (number_at (byte_count size) packet) (behind_index packet a)) given true false d later three before held
      (Computes-then behind_index (λ packet a. number_at (byte_count size) packet a) true false false d later two three Computes-sum at))
