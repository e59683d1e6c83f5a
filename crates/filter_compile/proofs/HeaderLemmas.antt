-- The tests of headers: what is loaded for each, and what it is asked.
use Rattle.std.proofs.Common.{◌≡◌, ◌∙◌, ◌+◌, ◌-◌, ◌*◌, ◌/◌, ◌%◌, ◌<◌, ◌^◌, ◌≤◌, Bool, List, None, Option, Some, ap, arith, bit_and, cond, false, length, refl, subst, sym, true, ℕ, ⊎_elim}
use Rattle.std.specs.Prelude.{◌&&◌, ◌==◌, ◌||◌, max, min, nat_le, nat_lt, not, option_and_then, option_map}
use Rattle.std.proofs.lemmas.Nat.{and_mask}
use Rattle.std.proofs.lemmas.Bool.{cases_eq, cases_lt, eq-eqb, le-leb, le-ltb, lt-leb, lt-ltb, ne_eqb}
use Rattle.bpf_insn.specs.declared.instruction.Insn.{Insn}
use Rattle.bpf_insn.specs.declared.instruction.Insn.TheVariants.{LoadAbsolute, LoadIndexed, LoadLength}
use Rattle.bpf_insn.specs.declared.instruction.Operand.TheVariants.{K}
use Rattle.bpf_insn.specs.declared.instruction.Operation.TheVariants.{Rsh}
use Rattle.bpf_insn.specs.declared.instruction.Size.TheVariants.{Byte, Half, Word}
use Rattle.bpf_insn.specs.declared.instruction.Test.{Test}
use Rattle.bpf_machine.specs.Meaning.{Cells, a_or_end, computed, holds, mean}
use Rattle.bpf_machine.specs.Packet.{packet_number}
use Rattle.filter_emit.specs.Checks.{Checks, asks}
use Rattle.filter_emit.specs.Runs.{IsPushed}
use Rattle.filter_emit.proofs.PushedLemmas.{after_effect, mean_pushed}
use Rattle.ipv4_fields.specs.declared.header.Field.TheVariants.{Protocol}
use Rattle.ipv4_fields.specs.Field.{behind_header, bits_from, field_of, ihl_of, number_at}
use Rattle.filter_tree.specs.declared.truth.Truth.{Truth}
use Rattle.filter_tree.specs.declared.truth.Truth.TheVariants.{Fails}
use Rattle.filter_tree.specs.declared.primitive.Direction.{Direction}
use Rattle.filter_tree.specs.declared.primitive.Direction.TheVariants.{Both, Destination as Destination', Either, Source as Source'}
use Rattle.filter_tree.specs.Outcome.{◌and_then◌, ◌or_else◌, answer, opposite, tested}
use Rattle.filter_tree.specs.Prefix.{NetworkPrefix, covers}
use Rattle.filter_tree.specs.Primitive.{at_ends, is_between, is_first_fragment, is_ip}
use Rattle.filter_facts.specs.declared.known.Known.{Known}
use Rattle.filter_facts.specs.declared.load.Loaded.{Loaded}
use Rattle.filter_facts.specs.declared.load.Loaded.TheVariants as loaded_is
use Rattle.filter_facts.specs.Known.{Holds, IsHeader, IsInA, Knows, loaded_of}
use Rattle.filter_facts.specs.Told.{header_in_x_of, in_a_of}
use Rattle.filter_facts.proofs.FactLemmas.{x_known}
use Rattle.filter_compile.specs.Answer.{IsPacket}
use Rattle.filter_compile.specs.declared.check.Check.{Check}
use Rattle.filter_compile.specs.declared.check.Check.TheVariants.{Between, Covered, Equal}
use Rattle.filter_compile.specs.declared.ends.Part.{Part}
use Rattle.filter_compile.specs.declared.ends.Part.TheVariants.{Port}
use Rattle.filter_compile.specs.body.Header.{by_header, destination_of, ends_pass, passes, source_of, weight_of_check}
use Rattle.filter_compile.specs.body.Piece.{Asks, Brings, BringsTo, ComesWith, Computes, DecidedBy, Decides, Facts, GoesBy, IsPlain, LoadsAs, Tests, behind}
use Rattle.filter_compile.specs.body.Sides.{IsSameButA}
use Rattle.filter_compile.proofs.PacketLemmas.{and-high_bits, and-low_bits, number_at-below, packet_number-number_at}
use Rattle.filter_compile.proofs.ValueLemmas.{plain_loads}
use Rattle.filter_compile.proofs.ArithmeticLemmas.{absolute_plain, length_plain}
use Rattle.filter_compile.proofs.TestLemmas.{Decides-brought, Decides-loaded, Decides-same, Tests-and, Tests-or, Tests-same, on_from}

-- ---- numbers and what is asked of them

pub eq_same : (a b c d : ℕ) → (a ≡ b → c ≡ d) → (c ≡ d → a ≡ b) → (a == b) ≡ (c == d)
eq_same a b c d there back = ⊎_elim (λ e. eq-eqb a b e ∙ sym (eq-eqb c d (there e))) (λ ne. ne_eqb a b ne ∙ sym (ne_eqb c d (λ e. ne (back e)))) (cases_eq a b)

pub le_not_lt : (a b : ℕ) → nat_le a b ≡ not (nat_lt b a)
le_not_lt a b = ⊎_elim (λ (up : b < a). lt-leb a b up ∙ sym (ap not (lt-ltb b a up))) (λ (low : a ≤ b). le-leb a b low ∙ sym (ap not (le-ltb b a low))) (cases_lt b a)

pub lt_not_le : (a b : ℕ) → nat_lt a b ≡ not (nat_le b a)
lt_not_le a b = ⊎_elim (λ (low : a < b). lt-ltb a b low ∙ sym (ap not (lt-leb b a low))) (λ (up : b ≤ a). le-ltb a b up ∙ sym (ap not (le-leb b a up))) (cases_lt a b)

pub not_not : (b : Bool) → not (not b) ≡ b
not_not true = refl
not_not false = refl

pub or_same : (b c d : Bool) → (b || (c || d)) ≡ ((b || c) || d)
or_same true c d = refl
or_same false c d = refl

pub tested_map : (f : ℕ → Bool) (g : ℕ → ℕ) (found : Option ℕ) → tested (λ n. f (g n)) found ≡ tested f (option_map g found)
tested_map f g None = refl
tested_map f g (Some n) = refl

pub version_asked : (a : ℕ) → (bit_and a 0xf0 == 0x40) ≡ (bits_from 4 4 a == 4)
version_asked a = let high = and-high_bits a in eq_same (bit_and a 0xf0) 0x40 (bits_from 4 4 a) 4 (λ e. omega arith) (λ e. omega arith)

pub offset_asked : (a : ℕ) → (bit_and a 0x1fff == 0) ≡ (bits_from 0 13 a == 0)
offset_asked a = let low = and-low_bits a in eq_same (bit_and a 0x1fff) 0 (bits_from 0 13 a) 0 (λ e. omega arith) (λ e. omega arith)

-- ---- loads

pub byte_loads : (k : ℕ) → LoadsAs false (LoadAbsolute Byte k) (λ packet. number_at 1 packet k)
byte_loads k packet a x cells knows = ap (λ o. a_or_end o x cells) (packet_number-number_at packet Byte k)

pub half_loads : (k : ℕ) → LoadsAs false (LoadAbsolute Half k) (λ packet. number_at 2 packet k)
half_loads k packet a x cells knows = ap (λ o. a_or_end o x cells) (packet_number-number_at packet Half k)

-- ---- numbers that A may hold

pub protocol_loads : LoadsAs false (LoadAbsolute Byte 9) (loaded_of loaded_is.Protocol)
unfolding field_of
protocol_loads packet a x cells knows = ap (λ o. a_or_end o x cells) (packet_number-number_at packet Byte 9)

pub source_address_loads : LoadsAs false (LoadAbsolute Word 12) (loaded_of loaded_is.Source)
unfolding field_of
source_address_loads packet a x cells knows = ap (λ o. a_or_end o x cells) (packet_number-number_at packet Word 12)

pub destination_address_loads : LoadsAs false (LoadAbsolute Word 16) (loaded_of loaded_is.Destination)
unfolding field_of
destination_address_loads packet a x cells knows = ap (λ o. a_or_end o x cells) (packet_number-number_at packet Word 16)

port_at : (packet : List ℕ) (k x ihl : ℕ) → ihl_of packet ≡ Some ihl → x ≡ 4 * ihl → packet_number packet Half (x + k) ≡ behind_header packet k
port_at packet k x ihl is length =
    packet_number-number_at packet Half (x + k) ∙ (ap (λ n. number_at 2 packet (n + k)) length ∙ sym (ap (option_and_then (λ i. number_at 2 packet (4 * i + k))) is))

pub source_port_loads : LoadsAs true (LoadIndexed Half 0) (loaded_of loaded_is.SourcePort)
unfolding field_of
source_port_loads packet a x cells knows = ap (λ o. a_or_end o x cells) (port_at packet 0 x knows.0 knows.1 knows.2)

pub destination_port_loads : LoadsAs true (LoadIndexed Half 2) (loaded_of loaded_is.DestinationPort)
unfolding field_of
destination_port_loads packet a x cells knows = ap (λ o. a_or_end o x cells) (port_at packet 2 x knows.0 knows.1 knows.2)

behind-below : (packet : List ℕ) (k v : ℕ) (ihl : Option ℕ) → IsPacket packet → option_and_then (λ i. number_at 2 packet (4 * i + k)) ihl ≡ Some v → v < 2 ^ 32
behind-below packet k v None ok is = cc
behind-below packet k v (Some i) ok is = number_at-below 2 packet (4 * i + k) v (omega arith) ok.bytes is

pub loaded-below : (loaded : Loaded) (packet : List ℕ) (v : ℕ) → IsPacket packet → loaded_of loaded packet ≡ Some v → v < 2 ^ 32
unfolding field_of
loaded-below loaded_is.Protocol packet v ok is = number_at-below 1 packet 9 v (omega arith) ok.bytes is
loaded-below loaded_is.Source packet v ok is = number_at-below 4 packet 12 v (omega arith) ok.bytes is
loaded-below loaded_is.Destination packet v ok is = number_at-below 4 packet 16 v (omega arith) ok.bytes is
loaded-below loaded_is.SourcePort packet v ok is = behind-below packet 0 v (ihl_of packet) ok is
loaded-below loaded_is.DestinationPort packet v ok is = behind-below packet 2 v (ihl_of packet) ok is

-- nothing is written where A holds the number
brought : (loaded : Loaded) (words packet : List ℕ) (a x : ℕ) (cells : Cells) (found : Option ℕ) → found ≡ Some a → BringsTo found words words packet a x cells
brought loaded words packet a x cells None is = cc
brought loaded words packet a x cells (Some v) is = let same : v ≡ a = cc in ap (λ b. mean words b x cells packet) (sym same)

pub Brings-held : (loaded : Loaded) (words : List ℕ) → Brings (Some loaded) loaded words words
Brings-held loaded words = record { loads_stored = λ d ok. ok; brings = λ packet a x cells knows is. brought loaded words packet a x cells (loaded_of loaded packet) is }

loaded_on : (found : Option ℕ) (later words packet : List ℕ) (a x : ℕ) (cells : Cells) → mean words a x cells packet ≡ after_effect (a_or_end found x cells) later packet → BringsTo found later words packet a x cells
loaded_on None later words packet a x cells on = on
loaded_on (Some v) later words packet a x cells on = on

pub Brings-load : (insn : Insn) (given : Option Loaded) (loaded : Loaded) (later words : List ℕ) → IsPlain insn → LoadsAs (by_header loaded) insn (loaded_of loaded) → IsPushed insn later words → Brings given loaded later words
Brings-load insn given loaded later words plain loads pushed = record {
  loads_stored = λ d. plain_loads insn plain later words d pushed;
  brings = λ packet a x cells knows in_a.
      loaded_on (loaded_of loaded packet) later words packet a x cells (mean_pushed insn later words pushed a x cells packet ∙ ap (λ e. after_effect e later packet) (loads packet a x cells knows));
}

known_if : (needed held : Bool) → (needed ≡ true → held ≡ true) → (packet : List ℕ) (x : ℕ) → Knows held packet x → Knows needed packet x
known_if false held is packet x knows = tt
known_if true held is packet x knows = subst (λ b. Knows b packet x) (is refl) knows

pub header_there : (loaded : Loaded) (known : Known) → (by_header loaded ≡ true → header_in_x_of known ≡ true) → (packet : List ℕ) (a x : ℕ) → Holds known packet a x → Knows (by_header loaded) packet x
header_there loaded known is packet a x h = known_if (by_header loaded) (header_in_x_of known) is packet x (x_known known packet a x h)

-- ---- the tests

module _ (at_yes at_no mid words : List ℕ) where
  pub Decides-version : IsPushed (LoadAbsolute Byte 0) mid words → Asks false (λ a. bits_from 4 4 a == 4) at_yes at_no mid → Decides false None None is_ip at_yes at_no words
  unfolding field_of
  Decides-version pushed asks =
      Decides-same false None None (λ packet. tested (λ a. bits_from 4 4 a == 4) (number_at 1 packet 0)) is_ip at_yes at_no words (λ packet ok. tested_map (λ version. version == 4) (bits_from 4 4) (number_at 1 packet 0))
      (Decides-loaded false (LoadAbsolute Byte 0) (λ packet. number_at 1 packet 0) false (λ a. bits_from 4 4 a == 4) at_yes at_no mid words pushed (absolute_plain Byte 0) (byte_loads 0)
      (λ packet v ok is. number_at-below 1 packet 0 v (omega arith) ok.bytes is) asks)

  pub Decides-offset : IsPushed (LoadAbsolute Half 6) mid words → Asks false (λ a. bits_from 0 13 a == 0) at_yes at_no mid → Decides false None None is_first_fragment at_yes at_no words
  unfolding field_of
  Decides-offset pushed asks =
      Decides-same false None None (λ packet. tested (λ a. bits_from 0 13 a == 0) (number_at 2 packet 6)) is_first_fragment at_yes at_no words (λ packet ok. tested_map (λ offset. offset == 0) (bits_from 0 13) (number_at 2 packet 6))
      (Decides-loaded false (LoadAbsolute Half 6) (λ packet. number_at 2 packet 6) false (λ a. bits_from 0 13 a == 0) at_yes at_no mid words pushed (absolute_plain Half 6) (half_loads 6)
      (λ packet v ok is. number_at-below 2 packet 6 v (omega arith) ok.bytes is) asks)

  pub Decides-protocol : (given : Option Loaded) (check : ℕ → Bool) → Brings given loaded_is.Protocol mid words → Asks true check at_yes at_no mid → Decides false given (Some loaded_is.Protocol) (λ packet. tested check (field_of Protocol packet)) at_yes at_no words
  Decides-protocol given check brings asks = Decides-brought given loaded_is.Protocol true check at_yes at_no mid words (loaded-below loaded_is.Protocol) brings asks

-- the number of bytes
module _ (test : Test) (k : ℕ) (at_yes at_no mid words : List ℕ) (pushed : IsPushed LoadLength mid words) (h : Checks (λ a. a) (asks test (K k)) at_yes at_no mid) where
  length_decided : (holding : Bool) (packet : List ℕ) (a x : ℕ) (cells : Cells) → mean words a x cells packet ≡ mean (cond holding at_yes at_no) (length packet) x cells packet → DecidedBy (answer holding) None at_yes at_no words packet a x cells
  length_decided true packet a x cells on = (length packet, tt, on)
  length_decided false packet a x cells on = (length packet, tt, on)

  pub Decides-length : Decides false None None (λ packet. answer (holds test (length packet) k)) at_yes at_no words
  Decides-length = record {
    loads_stored = λ yes_ok no_ok. plain_loads LoadLength length_plain mid words 0 pushed (h.loads_stored 0 yes_ok no_ok);
    goes = λ packet ok a x cells knows in_a.
        length_decided (holds test (length packet) k) packet a x cells (mean_pushed LoadLength mid words pushed a x cells packet ∙ h.goes packet (length packet) x cells);
  }

-- the length of the header is loaded in front of tests that need it
module _ (given given' when_yes when_no : Facts) (held : Bool) (truth : List ℕ → Truth) (at_yes at_no mid words : List ℕ) (knows : (packet : List ℕ) (a x : ℕ) → given packet a x → Knows held packet x)
    (tells : (packet : List ℕ) (a x x' : ℕ) → given packet a x → Knows true packet x' → given' packet a x') (fails : (packet : List ℕ) → ihl_of packet ≡ None → truth packet ≡ Fails)
    (loads : Computes behind held true 0 mid words) (h : Tests given' when_yes when_no truth at_yes at_no mid) where
  header_goes : (packet : List ℕ) → IsPacket packet → (a x : ℕ) (cells : Cells) → given packet a x → (ihl : Option ℕ) → ihl_of packet ≡ ihl → ComesWith (option_map (λ i. a) ihl) true 0 mid words packet a x cells
      → GoesBy (truth packet) when_yes when_no at_yes at_no words packet a x cells
  header_goes packet ok a x cells g None is on = subst (λ t. GoesBy t when_yes when_no at_yes at_no words packet a x cells) (sym (fails packet is)) on
  header_goes packet ok a x cells g (Some i) is on =
      on_from (truth packet) when_yes when_yes when_no when_no (λ packet a x f. f) (λ packet a x f. f) at_yes at_no mid words packet a a x on.0 cells on.1 on.4 (h.goes packet ok a on.0 on.1 (tells packet a x on.0 g on.3))

  pub Tests-header : Tests given when_yes when_no truth at_yes at_no words
  Tests-header = record {
    loads_stored = λ yes_ok no_ok. loads.loads_stored (h.loads_stored yes_ok no_ok);
    goes = λ packet ok a x cells g. header_goes packet ok a x cells g (ihl_of packet) refl (loads.comes packet ok a x cells (knows packet a x g));
  }

-- ---- what the answers of the tests come to

pub between_asked : (n m low high a : ℕ) → low ≡ min n m → high ≡ max n m → (nat_le low a && not (nat_lt high a)) ≡ is_between n m a
between_asked n m low high a low_is high_is =
    ap (λ l. nat_le l a && not (nat_lt high a)) low_is ∙ (ap (λ h. nat_le (min n m) a && not (nat_lt h a)) high_is ∙ ap (λ b. nat_le (min n m) a && b) (sym (le_not_lt a (max n m))))

fails_at : (direction : Direction) (source destination : Truth) → source ≡ Fails → destination ≡ Fails → at_ends direction source destination ≡ Fails
fails_at Source' source destination s d = s
fails_at Destination' source destination s d = d
fails_at Either source destination s d = ap (λ t. t or_else destination) s
fails_at Both source destination s d = ap (λ t. t and_then destination) s

-- without a header no port is loaded
pub ends_fail : (direction : Direction) (check : Check) (packet : List ℕ) → ihl_of packet ≡ None → ends_pass Port direction check packet ≡ Fails
unfolding field_of
ends_fail direction check packet none =
    let source : behind_header packet 0 ≡ None = ap (option_and_then (λ ihl. number_at 2 packet (4 * ihl + 0))) none in
    let destination : behind_header packet 2 ≡ None = ap (option_and_then (λ ihl. number_at 2 packet (4 * ihl + 2))) none in
    fails_at direction (tested (passes check) (behind_header packet 0)) (tested (passes check) (behind_header packet 2)) (ap (tested (passes check)) source) (ap (tested (passes check)) destination)

-- ---- the ends one behind the other

-- what holds of a packet and of X holds beside what else is known of A
forgets_a : (known one other : Known) → IsSameButA known one → IsSameButA known other → in_a_of other ≡ None → (packet : List ℕ) (a x : ℕ) → Holds one packet a x → Holds other packet a x
forgets_a known one other of_one of_other none packet a x h =
    (subst (λ header. IsHeader header packet) (of_one.packet ∙ sym of_other.packet) h.0, subst (λ b. Knows b packet x) (of_one.x ∙ sym of_other.x) h.1, subst (λ held. IsInA held packet a) (sym none) tt)

module _ (check : Check) (known : Known) where
  abbrev end_passes : Loaded → List ℕ → Truth
  end_passes end packet = tested (passes check) (loaded_of end packet)

  -- one end alone
  pub Tests-end : (end other : Loaded) (behind if_yes if_no : Known) (at_yes at_no words : List ℕ) → end ≡ other → if_yes ≡ behind → if_no ≡ behind → Tests (Holds known) (Holds behind) (Holds behind) (end_passes end) at_yes at_no words
      → Tests (Holds known) (Holds if_yes) (Holds if_no) (end_passes other) at_yes at_no words
  Tests-end end other behind if_yes if_no at_yes at_no words same yes_is no_is h =
      subst (λ k. Tests (Holds known) (Holds k) (Holds if_no) (end_passes other) at_yes at_no words) (sym yes_is)
      (subst (λ k. Tests (Holds known) (Holds behind) (Holds k) (end_passes other) at_yes at_no words) (sym no_is)
      (subst (λ e. Tests (Holds known) (Holds behind) (Holds behind) (end_passes e) at_yes at_no words) same h))

  -- both
  module _ (part : Part) (source destination : Loaded) (source_is : source ≡ source_of part) (destination_is : destination ≡ destination_of part) (first second forgot : Known) (of_first : IsSameButA known first) (of_second : IsSameButA first second)
      (of_forgot : IsSameButA known forgot) (none : in_a_of forgot ≡ None) (at_yes at_no mid words : List ℕ) (later : Tests (Holds first) (Holds second) (Holds second) (end_passes destination) at_yes at_no mid) where
    first_forgets : (packet : List ℕ) (a x : ℕ) → Holds first packet a x → Holds forgot packet a x
    first_forgets = forgets_a known first forgot of_first of_forgot none

    second_forgets : (packet : List ℕ) (a x : ℕ) → Holds second packet a x → Holds forgot packet a x
    second_forgets = forgets_a known second forgot record { packet = of_second.packet ∙ of_first.packet; x = of_second.x ∙ of_first.x } of_forgot none

    pub Tests-either : Tests (Holds known) (Holds first) (Holds first) (end_passes source) at_yes mid words → Tests (Holds known) (Holds forgot) (Holds second) (ends_pass part Either check) at_yes at_no words
    Tests-either h = Tests-same (Holds known) (Holds forgot) (Holds second) (λ packet. end_passes source packet or_else end_passes destination packet) (ends_pass part Either check) at_yes at_no words
        (λ packet a x ok g. ap (λ s. end_passes s packet or_else end_passes destination packet) source_is ∙ ap (λ d. end_passes (source_of part) packet or_else end_passes d packet) destination_is)
        (Tests-or (Holds known) (Holds first) (Holds second) (Holds first) (Holds second) (Holds forgot) (end_passes source) (end_passes destination) first_forgets second_forgets at_yes at_no mid words later h)

    pub Tests-both : Tests (Holds known) (Holds first) (Holds first) (end_passes source) mid at_no words → Tests (Holds known) (Holds second) (Holds forgot) (ends_pass part Both check) at_yes at_no words
    Tests-both h = Tests-same (Holds known) (Holds second) (Holds forgot) (λ packet. end_passes source packet and_then end_passes destination packet) (ends_pass part Both check) at_yes at_no words
        (λ packet a x ok g. ap (λ s. end_passes s packet and_then end_passes destination packet) source_is ∙ ap (λ d. end_passes (source_of part) packet and_then end_passes d packet) destination_is)
        (Tests-and (Holds known) (Holds first) (Holds second) (Holds first) (Holds second) (Holds forgot) (end_passes source) (end_passes destination) first_forgets second_forgets at_yes at_no mid words later h)

-- a prefix of no bits covers each address
pub covered_by_none : (prefix : NetworkPrefix) (a : ℕ) → prefix.bits ≡ 0 → prefix.address < 2 ^ 32 → a < 2 ^ 32 → (bit_and a 0 == 0) ≡ covers prefix a
covered_by_none prefix a none fits low =
    let by : covers prefix a ≡ (a / 2 ^ 32 == prefix.address / 2 ^ 32) = ap (λ k. a / 2 ^ (32 - k) == prefix.address / 2 ^ (32 - k)) none in
    let and : bit_and a 0 ≡ 0 = and_mask a 0 ∙ (let g : a % 2 ^ 0 ≡ 0 = omega arith in g) in
    eq_same (bit_and a 0) 0 (a / 2 ^ 32) (prefix.address / 2 ^ 32) (λ e. omega arith) (λ e. and) ∙ sym by

pub covered_by_bits : (prefix : NetworkPrefix) (k shifted a : ℕ) → k ≡ 32 - prefix.bits → shifted ≡ prefix.address / 2 ^ k → (a / 2 ^ k == shifted) ≡ covers prefix a
covered_by_bits prefix k shifted a k_is shifted_is = ap (λ n. a / 2 ^ k == n) shifted_is ∙ ap (λ n. a / 2 ^ n == prefix.address / 2 ^ n) k_is

pub shifts : (k a : ℕ) → k < 32 → computed Rsh a k ≡ Some (a / 2 ^ k)
shifts k a low = ap (λ b. Some (cond b (a / 2 ^ k) 0)) (lt-ltb k 32 low)

opposite_answer : (b : Bool) → opposite (answer b) ≡ answer (not b)
opposite_answer true = refl
opposite_answer false = refl

pub at_most : (len n : ℕ) → opposite (answer (nat_lt n len)) ≡ answer (nat_le len n)
at_most len n = opposite_answer (nat_lt n len) ∙ ap answer (sym (le_not_lt len n))

-- ---- weights

pub check_weight : (check : Check) → 3 ≤ weight_of_check check
check_weight (Equal n) = omega arith
check_weight (Covered prefix) = omega arith
check_weight (Between n m) = omega arith
