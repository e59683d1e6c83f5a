-- The steps of arithmetic: what each computes of a packet and of A.
use Rattle.std.specs.Prelude.{◌≡◌, ◌-◌, ◌%◌, ◌<◌, ◌^◌, ◌≤◌, Bool, List, None, Option, Some, false, length, option_and_then, ℕ}
use Rattle.ipv4_fields.specs.Field.{number_at}
use Rattle.bpf_insn.specs.declared.instruction.Insn.TheVariants.{CopyToX, LoadCell}
use Rattle.bpf_insn.specs.declared.instruction.Operation.{Operation}
use Rattle.bpf_insn.specs.declared.instruction.Size.{Size as InsnSize}
use Rattle.bpf_verify.specs.Accepted.{constant_fault}
use Rattle.bpf_machine.specs.Meaning.{computed}
use Rattle.bpf_machine.specs.Packet.{packet_number}
use Rattle.filter_emit.specs.Runs.{IsPushed}
use Rattle.filter_tree.specs.declared.arithmetic.Operator.{Operator}
use Rattle.filter_tree.specs.declared.arithmetic.Protocol.{Protocol}
use Rattle.filter_tree.specs.declared.arithmetic.Protocol.TheVariants.{Icmp, Ip, Tcp, Udp}
use Rattle.filter_tree.specs.declared.arithmetic.Size.{Size}
use Rattle.filter_tree.specs.Arithmetic.{byte_count, combined, loaded}
use Rattle.filter_compile.specs.declared.arithmetic.Simple.{Simple}
use Rattle.filter_compile.specs.declared.arithmetic.Simple.TheVariants.{Length, Number}
use Rattle.filter_compile.specs.body.Piece.{Computes}

-- the operation computes what the operator combines
abbrev pub DoesAs : Operator → Operation → Type 0
DoesAs operator operation = (a b : ℕ) → computed operation a b ≡ combined operator a b

-- a load of this size reads as many bytes as an accessor of that
abbrev pub ReadsAs : Size → InsnSize → Type 0
ReadsAs size insn_size = (packet : List ℕ) (place : ℕ) → packet_number packet insn_size place ≡ number_at (byte_count size) packet place

-- the verifier takes the operation on the constant
abbrev pub IsTaken : Operation → ℕ → Type 0
IsTaken operation n = (pc : ℕ) → constant_fault pc operation n ≡ None

-- what a simple right side is worth
abbrev pub simple_value : Simple → List ℕ → Option ℕ
simple_value (Number n) packet = Some n
simple_value Length packet = Some (length packet % 2 ^ 32)

-- an operation on A and a value
abbrev pub Applies : Operator → (List ℕ → Option ℕ) → Bool → Bool → List ℕ → List ℕ → Type 0
Applies operator right held after later words = (d : ℕ) → Computes (λ packet a. option_and_then (combined operator a) (right packet)) held after d later words

-- a number that a load can take as the index of an accessor
abbrev pub IsDirect : Protocol → ℕ → Type 0
IsDirect Ip k = k < 2 ^ 31
IsDirect Tcp k = k ≤ 2 ^ 32 - 61
IsDirect Udp k = k ≤ 2 ^ 32 - 61
IsDirect Icmp k = k ≤ 2 ^ 32 - 61

-- an accessor at a number
abbrev pub LoadsDirectly : Protocol → ℕ → Size → Bool → Bool → List ℕ → List ℕ → Type 0
LoadsDirectly protocol k size held after later words = (d : ℕ) → Computes (λ packet a. loaded protocol k size packet) held after d later words

-- the load at the place in A
abbrev pub LoadsAt : Size → List ℕ → List ℕ → Type 0
LoadsAt size later words = (known : Bool) (d : ℕ) → Computes (λ packet a. number_at (byte_count size) packet a) known false d later words

-- an accessor at the index in A
abbrev pub Loads : Protocol → Size → Bool → List ℕ → List ℕ → Type 0
Loads protocol size held later words = (d : ℕ) → Computes (λ packet a. loaded protocol a size packet) held false d later words

-- the most instructions of an accessor, but for its index
abbrev pub weight_of_access : Protocol → ℕ
weight_of_access Ip = 2
weight_of_access Tcp = 4
weight_of_access Udp = 4
weight_of_access Icmp = 4

-- A goes to X, and the cell's value to A
abbrev pub Restores : ℕ → List ℕ → List ℕ → Type 0
Restores cell later words = (mid : List ℕ) × IsPushed (LoadCell cell) later mid × IsPushed CopyToX mid words
