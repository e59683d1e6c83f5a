-- Steps of arithmetic, one behind the other.
use Rattle.std.proofs.Common.{◌≡◌, ◌+◌, ◌<◌, ◌≤◌, Bool, List, None, Option, Some, ap, arith, cond, false, refl, subst, sym, ℕ}
use Rattle.std.specs.Prelude.{option_and_then}
use Rattle.std.proofs.lemmas.Bool.{lt-ltb}
use Rattle.bpf_insn.specs.declared.instruction.Insn.TheVariants.{Alu, Store}
use Rattle.bpf_insn.specs.declared.instruction.Operand.TheVariants.{X}
use Rattle.bpf_insn.specs.declared.instruction.Operation.{Operation}
use Rattle.bpf_insn.specs.declared.instruction.Operation.TheVariants.{Add}
use Rattle.bpf_verify.specs.declared.TheConstants.{CELLS}
use Rattle.bpf_verify.specs.declared.fault.Fault.TheVariants.{BadCell}
use Rattle.filter_emit.specs.Fixups.{IsAppended}
use Rattle.filter_emit.specs.Runs.{IsPushed}
use Rattle.filter_emit.specs.body.Straight.{Extends}
use Rattle.filter_emit.proofs.GuardLemmas.{Extends-extends, Extends-means, Extends-pushed, Extends-weight}
use Rattle.filter_tree.specs.declared.arithmetic.Operator.{Operator}
use Rattle.filter_tree.specs.declared.arithmetic.Protocol.{Protocol}
use Rattle.filter_tree.specs.declared.arithmetic.Protocol.TheVariants.{Icmp, Ip, Tcp, Udp}
use Rattle.filter_tree.specs.declared.arithmetic.Size.{Size}
use Rattle.filter_tree.specs.Arithmetic.{combined, loaded, value_of_arith}
use Rattle.filter_tree.specs.Measure.{weight_of_arith}
use Rattle.filter_tree.specs.Tree.{ArithTree, accessor, number, operation}
use Rattle.filter_compile.specs.body.Arithmetic.{Applies, DoesAs, Loads, LoadsAt, LoadsDirectly, Restores, weight_of_access}
use Rattle.filter_compile.specs.body.Piece.{Computes, LoadsHeader, Pairs}
use Rattle.filter_compile.proofs.ArithmeticLemmas.{Computes-applied, Computes-behind, Pairs-computed, behind_weight}
use Rattle.filter_compile.proofs.ValueLemmas.{Computes-same, Computes-then}

-- ---- a pair: the left value waits in a cell while the right one is computed

pub Extends-pairs : (right : List ℕ → Option ℕ) (given after : Bool) (d : ℕ) {w : ℕ} {c0 c1 c2 c3 : List ℕ} → d < CELLS → IsAppended (Store d) c0 c1 → Extends (Computes (λ packet a. right packet) given after (d + 1)) w c1 c2 → Extends (Restores d) 2 c2 c3
    → Extends (Pairs right given d) (w + 3) c0 c3
Extends-pairs right given after d {w = w} room store computes restores = Extends-weight (w + 3) (omega arith)
    (Extends-extends {two = λ later words. (mid : List ℕ) × Computes (λ packet a. right packet) given after (d + 1) mid words × Restores d later mid}
    (λ later mid words pushed s. Pairs-computed right given after d later s.2.0 s.0 mid words s.2.1 s.2.2 s.1 pushed)
    (Extends-pushed (λ len pc. ap (λ b. cond b None (Some (BadCell pc))) (lt-ltb d CELLS room)) store)
    (Extends-extends (λ later mid words one two. (mid, one, two)) computes restores))

-- ---- an operation

module _ (operator : Operator) (left right : ArithTree) (held between : Bool) (d : ℕ) where
  abbrev whole : List ℕ → ℕ → Option ℕ
  whole packet a = value_of_arith (operation left operator right) packet

  -- its right side is as simple as a value
  pub Extends-simple : (after : Bool) (value : List ℕ → Option ℕ) {c0 c1 c2 : List ℕ} → ((packet : List ℕ) → value_of_arith right packet ≡ value packet) → Extends (Computes (λ packet a. value_of_arith left packet) held between d) (weight_of_arith left) c0 c1
      → Extends (Applies operator value between after) 2 c1 c2 → Extends (Computes whole held after d) (weight_of_arith (operation left operator right)) c0 c2
  Extends-simple after value same first applies = Extends-weight (weight_of_arith (operation left operator right)) (omega arith)
      (Extends-extends (λ later mid words one two. Computes-same (λ packet a. option_and_then (λ v. option_and_then (combined operator v) (value packet)) (value_of_arith left packet)) whole held after d later words
      (λ packet ok a. ap (λ o. option_and_then (λ v. option_and_then (combined operator v) o) (value_of_arith left packet)) (sym (same packet)))
      (Computes-then (λ packet a. value_of_arith left packet) (λ packet a. option_and_then (combined operator a) (value packet)) held between after d later mid words one (two d))) first applies)

  -- its right side has code of its own
  pub Extends-operation : (does : Operation) → DoesAs operator does → {c0 c1 c2 c3 : List ℕ} → Extends (Computes (λ packet a. value_of_arith left packet) held between d) (weight_of_arith left) c0 c1
      → Extends (Pairs (value_of_arith right) between d) (weight_of_arith right + 3) c1 c2 → IsAppended (Alu does X) c2 c3 → Extends (Computes whole held false d) (weight_of_arith (operation left operator right)) c0 c3
  Extends-operation does does_as first pairs apply = Extends-weight (weight_of_arith (operation left operator right)) (omega arith)
      (Extends-extends {two = Computes (λ packet a. option_and_then (combined operator a) (value_of_arith right packet)) between false d}
      (λ later mid words one two. Computes-then (λ packet a. value_of_arith left packet) (λ packet a. option_and_then (combined operator a) (value_of_arith right packet)) held between false d later mid words one two) first
      (Extends-extends (λ later mid words one two. Computes-applied operator does does_as (value_of_arith right) between d later mid words two one) pairs (Extends-pushed (λ len pc. refl) apply)))

-- ---- accessors

direct_weight : (protocol : Protocol) (k : ℕ) (size : Size) → 2 ≤ weight_of_arith (accessor protocol (number k) size)
direct_weight Ip k size = omega arith
direct_weight Tcp k size = omega arith
direct_weight Udp k size = omega arith
direct_weight Icmp k size = omega arith

pub Extends-direct : (protocol : Protocol) (k : ℕ) (size : Size) (held after : Bool) (d : ℕ) {c0 c1 : List ℕ} → Extends (LoadsDirectly protocol k size held after) 2 c0 c1
    → Extends (Computes (λ packet a. value_of_arith (accessor protocol (number k) size) packet) held after d) (weight_of_arith (accessor protocol (number k) size)) c0 c1
Extends-direct protocol k size held after d loads = Extends-weight (weight_of_arith (accessor protocol (number k) size)) (direct_weight protocol k size) (Extends-means (λ later words h. h d) loads)

access_weight : (protocol : Protocol) (index : ArithTree) (size : Size) → weight_of_arith index + weight_of_access protocol ≡ weight_of_arith (accessor protocol index size)
access_weight Ip index size = refl
access_weight Tcp index size = refl
access_weight Udp index size = refl
access_weight Icmp index size = refl

pub Extends-accessor : (protocol : Protocol) (index : ArithTree) (size : Size) (held between : Bool) (d : ℕ) {c0 c1 c2 : List ℕ} → Extends (Computes (λ packet a. value_of_arith index packet) held between d) (weight_of_arith index) c0 c1
    → Extends (Loads protocol size between) (weight_of_access protocol) c1 c2 → Extends (Computes (λ packet a. value_of_arith (accessor protocol index size) packet) held false d) (weight_of_arith (accessor protocol index size)) c0 c2
Extends-accessor protocol index size held between d {c0 = c0} {c2 = c2} first loads =
    subst (λ w. Extends (Computes (λ packet a. value_of_arith (accessor protocol index size) packet) held false d) w c0 c2) (access_weight protocol index size)
    (Extends-extends (λ later mid words one two. Computes-then (λ packet a. value_of_arith index packet) (λ packet a. loaded protocol a size packet) held between false d later mid words one (two d)) first loads)

pub Extends-behind : (protocol : Protocol) (size : Size) (held : Bool) {c0 c1 c2 c3 : List ℕ} → (protocol ≡ Ip → ⊥) → Extends (LoadsHeader held) 1 c0 c1 → IsAppended (Alu Add X) c1 c2 → Extends (LoadsAt size) 2 c2 c3
    → Extends (Loads protocol size held) (weight_of_access protocol) c0 c3
Extends-behind protocol size held {c0 = c0} {c3 = c3} other header sum loads =
    subst (λ (w : ℕ). Extends (Loads protocol size held) w c0 c3) (sym (behind_weight protocol other))
    (Extends-extends {two = λ later words. (mid : List ℕ) × IsPushed (Alu Add X) mid words × LoadsAt size later mid}
    (λ later mid words one s d. Computes-behind size d later s.0 mid (s.2 false d) s.1 protocol other held words (one d)) header
    (Extends-extends (λ later mid words one two. (mid, one, two)) (Extends-pushed (λ len pc. refl) sum) loads))
