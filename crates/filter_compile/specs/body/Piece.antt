-- What a piece of a program does, as a relation of the words at its beginning and the words that it comes to.
use Rattle.std.specs.Prelude.{◌≡◌, ◌+◌, ◌<◌, ◌^◌, ◌∷◌, if◌then◌else◌, Bool, List, None, Option, Some, [], option_map, true, ℕ}
use Rattle.ipv4_fields.specs.Field.{ihl_of}
use Rattle.bpf_insn.specs.declared.instruction.Insn.{Insn}
use Rattle.bpf_verify.specs.Path.{Loads, successors}
use Rattle.bpf_machine.specs.Meaning.{Cells, Ret, a_or_end, effect, mean}
use Rattle.filter_emit.specs.Runs.{LoadsStored}
use Rattle.filter_tree.specs.declared.expression.Relation.{Relation}
use Rattle.filter_tree.specs.declared.truth.Truth.{Truth}
use Rattle.filter_tree.specs.declared.truth.Truth.TheVariants.{Fails, No, Yes}
use Rattle.filter_tree.specs.Outcome.{tested}
use Rattle.filter_tree.specs.Truth.{holds}
use Rattle.filter_facts.specs.declared.load.Loaded.{Loaded}
use Rattle.filter_facts.specs.Known.{IsInA, Knows, loaded_of}
use Rattle.filter_compile.specs.Answer.{IsPacket}
use Rattle.filter_compile.specs.body.Header.{by_header}

-- ---- values

-- the cells below d are kept
abbrev pub KeepsBelow : ℕ → Cells → Cells → Type 0
KeepsBelow d cells cells' = (cell : ℕ) → cell < d → cells' cell ≡ cells cell

-- a run over the words comes to the later ones with this value in A, with this known of X, and with the cells below d kept;
-- without a value it ends with 0
abbrev pub ComesWith : Option ℕ → Bool → ℕ → List ℕ → List ℕ → List ℕ → ℕ → ℕ → Cells → Type 0
ComesWith None after d later words packet a x cells = mean words a x cells packet ≡ Ret 0
ComesWith (Some value) after d later words packet a x cells =
    (x' : ℕ) × (cells' : Cells) × KeepsBelow d cells cells' × Knows after packet x' × (mean words a x cells packet ≡ mean later value x' cells' packet)

-- the words compute a value from a packet and from A, in cells from d on; what is known of X is `given`, and `after` behind them
pub record Computes (value : List ℕ → ℕ → Option ℕ) (given after : Bool) (d : ℕ) (later words : List ℕ) : Type 0 where
  pub loads_stored : LoadsStored d later → LoadsStored d words
  pub comes : (packet : List ℕ) → IsPacket packet → (a x : ℕ) (cells : Cells) → Knows given packet x → ComesWith (value packet a) after d later words packet a x cells

-- a run over the words comes to the later ones with A as it was and this value in X
abbrev pub PairsWith : Option ℕ → ℕ → List ℕ → List ℕ → List ℕ → ℕ → ℕ → Cells → Type 0
PairsWith None d later words packet a x cells = mean words a x cells packet ≡ Ret 0
PairsWith (Some value) d later words packet a x cells = (cells' : Cells) × KeepsBelow d cells cells' × (mean words a x cells packet ≡ mean later a value cells' packet)

pub record Pairs (value : List ℕ → Option ℕ) (given : Bool) (d : ℕ) (later words : List ℕ) : Type 0 where
  pub loads_stored : LoadsStored d later → LoadsStored d words
  pub comes : (packet : List ℕ) → IsPacket packet → (a x : ℕ) (cells : Cells) → Knows given packet x → PairsWith (value packet) d later words packet a x cells

-- the instruction loads a part of the packet into A, and ends the program with 0 where the packet lacks it
abbrev pub LoadsAs : Bool → Insn → (List ℕ → Option ℕ) → Type 0
LoadsAs known insn part = (packet : List ℕ) (a x : ℕ) (cells : Cells) → Knows known packet x → effect insn a x cells packet ≡ a_or_end (part packet) x cells

-- ---- loads

-- a run over the words comes to the later ones with this value in A, and with X and the cells as they were; without a value it
-- ends with 0
abbrev pub BringsTo : Option ℕ → List ℕ → List ℕ → List ℕ → ℕ → ℕ → Cells → Type 0
BringsTo None later words packet a x cells = mean words a x cells packet ≡ Ret 0
BringsTo (Some value) later words packet a x cells = mean words a x cells packet ≡ mean later value x cells packet

-- the words bring into A what is loaded of a packet, where A is known to hold `given`
pub record Brings (given : Option Loaded) (loaded : Loaded) (later words : List ℕ) : Type 0 where
  pub loads_stored : (d : ℕ) → LoadsStored d later → LoadsStored d words
  pub brings : (packet : List ℕ) (a x : ℕ) (cells : Cells) → Knows (by_header loaded) packet x → IsInA given packet a
      → BringsTo (loaded_of loaded packet) later words packet a x cells

-- ---- tests

-- the words ask a number of 32 bits in A, and leave it there where it is kept
pub record Asks (kept : Bool) (check : ℕ → Bool) (at_yes at_no words : List ℕ) : Type 0 where
  pub loads_stored : (d : ℕ) → LoadsStored d at_yes → LoadsStored d at_no → LoadsStored d words
  pub goes : (packet : List ℕ) (a x : ℕ) (cells : Cells) → a < 2 ^ 32
      → (a' : ℕ) × (kept ≡ true → a ≡ a') × (mean words a x cells packet ≡ mean (if check a then at_yes else at_no) a' x cells packet)

-- what is known of a packet, of A and of X
abbrev pub Facts : Type 1
Facts = List ℕ → ℕ → ℕ → Type 0

-- a run over the words comes to the others with this in A, and with X and the cells as they were
abbrev pub Comes : Option Loaded → List ℕ → List ℕ → List ℕ → ℕ → ℕ → Cells → Type 0
Comes after words others packet a x cells = (a' : ℕ) × IsInA after packet a' × (mean words a x cells packet ≡ mean others a' x cells packet)

abbrev pub DecidedBy : Truth → Option Loaded → List ℕ → List ℕ → List ℕ → List ℕ → ℕ → ℕ → Cells → Type 0
DecidedBy Yes after at_yes at_no words packet a x cells = Comes after words at_yes packet a x cells
DecidedBy No after at_yes at_no words packet a x cells = Comes after words at_no packet a x cells
DecidedBy Fails after at_yes at_no words packet a x cells = mean words a x cells packet ≡ Ret 0

-- the words test packets, and leave X and the cells as they are; what is known of A is `given`, and `after` behind them
pub record Decides (known : Bool) (given after : Option Loaded) (truth : List ℕ → Truth) (at_yes at_no words : List ℕ) : Type 0 where
  pub loads_stored : LoadsStored 0 at_yes → LoadsStored 0 at_no → LoadsStored 0 words
  pub goes : (packet : List ℕ) → IsPacket packet → (a x : ℕ) (cells : Cells) → Knows known packet x → IsInA given packet a
      → DecidedBy (truth packet) after at_yes at_no words packet a x cells

-- a run over the words comes to the others, and these facts hold there
abbrev pub Reaches : Facts → List ℕ → List ℕ → List ℕ → ℕ → ℕ → Cells → Type 0
Reaches facts words others packet a x cells =
    (a' : ℕ) × (x' : ℕ) × (cells' : Cells) × facts packet a' x' × (mean words a x cells packet ≡ mean others a' x' cells' packet)

-- it goes where the truth says, or ends with 0 where it fails
abbrev pub GoesBy : Truth → Facts → Facts → List ℕ → List ℕ → List ℕ → List ℕ → ℕ → ℕ → Cells → Type 0
GoesBy Yes when_yes when_no at_yes at_no words packet a x cells = Reaches when_yes words at_yes packet a x cells
GoesBy No when_yes when_no at_yes at_no words packet a x cells = Reaches when_no words at_no packet a x cells
GoesBy Fails when_yes when_no at_yes at_no words packet a x cells = mean words a x cells packet ≡ Ret 0

-- the words test packets of which some facts hold, and others hold where they lead
pub record Tests (given when_yes when_no : Facts) (truth : List ℕ → Truth) (at_yes at_no words : List ℕ) : Type 0 where
  pub loads_stored : LoadsStored 0 at_yes → LoadsStored 0 at_no → LoadsStored 0 words
  pub goes : (packet : List ℕ) → IsPacket packet → (a x : ℕ) (cells : Cells) → given packet a x
      → GoesBy (truth packet) when_yes when_no at_yes at_no words packet a x cells

-- X is as known
abbrev pub IsInX : Bool → Facts
IsInX known packet a x = Knows known packet x

-- the words compare A with a value: as Tests, of a packet and A; what is known of X is `given`, and `after` behind them
pub record Compares (truth : List ℕ → ℕ → Truth) (given after : Bool) (at_yes at_no words : List ℕ) : Type 0 where
  pub loads_stored : LoadsStored 0 at_yes → LoadsStored 0 at_no → LoadsStored 0 words
  pub goes : (packet : List ℕ) → IsPacket packet → (a x : ℕ) (cells : Cells) → Knows given packet x
      → GoesBy (truth packet a) (IsInX after) (IsInX after) at_yes at_no words packet a x cells

-- A as it was, where the packet has a header
abbrev pub behind : List ℕ → ℕ → Option ℕ
behind packet a = option_map (λ ihl. a) (ihl_of packet)

-- the words bring the header's length into X
abbrev pub LoadsHeader : Bool → List ℕ → List ℕ → Type 0
LoadsHeader held later words = (d : ℕ) → Computes behind held true d later words

-- a relation of A and a value, which fails where there is none
abbrev pub compared_with : Relation → (List ℕ → Option ℕ) → List ℕ → ℕ → Truth
compared_with relator right packet a = tested (holds relator a) (right packet)

-- it goes on to the next word and uses no cell
pub record IsPlain (insn : Insn) : Type 0 where
  pub next : successors insn 0 ≡ (0 + 1) ∷ []
  pub loads_none : (cell : ℕ) → Loads insn cell → ⊥
