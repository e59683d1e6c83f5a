-- Code that computes a value: one instruction, and two pieces one behind the other.
use Rattle.std.proofs.Common.{◌≡◌, ◌∙◌, Bool, List, None, Option, Some, ap, inl, refl, subst, ℕ}
use Rattle.std.specs.Prelude.{option_and_then}
use Rattle.bpf_insn.specs.declared.instruction.Insn.{Insn}
use Rattle.bpf_machine.specs.Meaning.{Cells, a_or_end, mean}
use Rattle.filter_compile.specs.Answer.{IsPacket}
use Rattle.filter_emit.specs.Runs.{IsPushed, LoadsStored}
use Rattle.filter_emit.proofs.PushedLemmas.{after_effect, loads_next, mean_pushed}
use Rattle.filter_facts.specs.Known.{Knows}
use Rattle.filter_compile.specs.body.Piece.{ComesWith, Computes, IsPlain, KeepsBelow, LoadsAs}

-- ---- one instruction

pub plain_loads : (insn : Insn) → IsPlain insn → (before after : List ℕ) (d : ℕ) → IsPushed insn before after → LoadsStored d before → LoadsStored d after
plain_loads insn plain before after d pushed ok = loads_next insn before after d d pushed plain.next (λ cell l. absurd (plain.loads_none cell l)) (λ cell low. inl low) ok

-- ---- pieces one behind the other

pub then_comes : (found : Option ℕ) (next : ℕ → Option ℕ) (between after : Bool) (d : ℕ) (later mid words packet : List ℕ) (a x : ℕ) (cells : Cells)
    → ((v x' : ℕ) (cells' : Cells) → Knows between packet x' → ComesWith (next v) after d later mid packet v x' cells') → ComesWith found between d mid words packet a x cells → ComesWith (option_and_then next found) after d later words packet a x cells
then_comes None next between after d later mid words packet a x cells on h = h
then_comes (Some v) next between after d later mid words packet a x cells on h = kept_on (next v) after d later mid words packet a v x h.0 cells h.1 h.2 h.4 (on v h.0 h.1 h.3) where
  kept_on : (found : Option ℕ) (after : Bool) (d : ℕ) (later mid words packet : List ℕ) (a a' x x' : ℕ) (cells cells' : Cells) → KeepsBelow d cells cells' → mean words a x cells packet ≡ mean mid a' x' cells' packet
      → ComesWith found after d later mid packet a' x' cells' → ComesWith found after d later words packet a x cells
  kept_on None after d later mid words packet a a' x x' cells cells' keeps on h = on ∙ h
  kept_on (Some v) after d later mid words packet a a' x x' cells cells' keeps on h = (h.0, h.1, λ cell low. h.2 cell low ∙ keeps cell low, h.3, on ∙ h.4)

pub Computes-then : (first : List ℕ → ℕ → Option ℕ) (next : List ℕ → ℕ → Option ℕ) (given between after : Bool) (d : ℕ) (later mid words : List ℕ) → Computes first given between d mid words → Computes next between after d later mid
    → Computes (λ packet a. option_and_then (next packet) (first packet a)) given after d later words
Computes-then first next given between after d later mid words one two = record {
  loads_stored = λ ok. one.loads_stored (two.loads_stored ok);
  comes = λ packet ok a x cells knows.
      then_comes (first packet a) (next packet) between after d later mid words packet a x cells (λ v x' cells' knows'. two.comes packet ok v x' cells' knows') (one.comes packet ok a x cells knows);
}

pub Computes-same : (value other : List ℕ → ℕ → Option ℕ) (given after : Bool) (d : ℕ) (later words : List ℕ) → ((packet : List ℕ) → IsPacket packet → (a : ℕ) → value packet a ≡ other packet a) → Computes value given after d later words → Computes other given after d later words
Computes-same value other given after d later words same h = record {
  loads_stored = h.loads_stored;
  comes = λ packet ok a x cells knows. subst (λ v. ComesWith v after d later words packet a x cells) (same packet ok a) (h.comes packet ok a x cells knows);
}

-- ---- one instruction

-- a piece that gives A a value, or ends, and leaves X and the cells
pub set_comes : (found : Option ℕ) (known : Bool) (d : ℕ) (later words packet : List ℕ) (a x : ℕ) (cells : Cells) → Knows known packet x → mean words a x cells packet ≡ after_effect (a_or_end found x cells) later packet → ComesWith found known d later words packet a x cells
set_comes None known d later words packet a x cells knows on = on
set_comes (Some v) known d later words packet a x cells knows on = (x, cells, λ cell low. refl, knows, on)

pub Computes-load : (insn : Insn) → IsPlain insn → (known : Bool) (part : List ℕ → Option ℕ) (d : ℕ) (later words : List ℕ) → IsPushed insn later words → LoadsAs known insn part → Computes (λ packet a. part packet) known known d later words
Computes-load insn plain known part d later words pushed loads = record {
  loads_stored = plain_loads insn plain later words d pushed;
  comes = λ packet ok a x cells knows.
      set_comes (part packet) known d later words packet a x cells knows (mean_pushed insn later words pushed a x cells packet ∙ ap (λ e. after_effect e later packet) (loads packet a x cells knows));
}
