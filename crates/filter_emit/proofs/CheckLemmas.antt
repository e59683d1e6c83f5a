-- Checks of A and X that are made of others.
use Rattle.std.proofs.Common.{◌≡◌, ◌∙◌, Bool, List, Some, ap, cond, false, inl, refl, true, ℕ}
use Rattle.std.specs.Prelude.{◌&&◌, ◌||◌, not}
use Rattle.bpf_insn.specs.declared.instruction.Insn.TheVariants.{Alu}
use Rattle.bpf_insn.specs.declared.instruction.Operand.TheVariants.{K}
use Rattle.bpf_insn.specs.declared.instruction.Operation.{Operation}
use Rattle.bpf_machine.specs.Meaning.{Cells, a_or_end, computed, mean}
use Rattle.filter_emit.specs.Checks.{Checks}
use Rattle.filter_emit.specs.Runs.{IsPushed}
use Rattle.filter_emit.proofs.PushedLemmas.{after_effect, loads_next, mean_pushed}

not_cond : {A : Type 0} → (b : Bool) (p q : A) → cond b p q ≡ cond (not b) q p
not_cond true p q = refl
not_cond false p q = refl

pub Checks-not : {left : ℕ → ℕ} {check : ℕ → ℕ → Bool} {at_yes at_no words : List ℕ} → Checks left check at_no at_yes words → Checks left (λ a x. not (check a x)) at_yes at_no words
Checks-not {left} {check} {at_yes} {at_no} h = record {
  loads_stored = λ d yes_ok no_ok. h.loads_stored d no_ok yes_ok;
  goes = λ packet a x cells. h.goes packet a x cells ∙ ap (λ l. mean l (left a) x cells packet) (not_cond (check a x) at_no at_yes);
}

pub Checks-same : {left : ℕ → ℕ} {check other : ℕ → ℕ → Bool} {at_yes at_no words : List ℕ} → ((a x : ℕ) → check a x ≡ other a x) → Checks left check at_yes at_no words → Checks left other at_yes at_no words
Checks-same {left} {at_yes = at_yes} {at_no = at_no} same h = record {
  loads_stored = h.loads_stored;
  goes = λ packet a x cells. h.goes packet a x cells ∙ ap (λ b. mean (cond b at_yes at_no) (left a) x cells packet) (same a x);
}

and_cond : (b c : Bool) (at_yes at_no mid packet : List ℕ) (a x : ℕ) (cells : Cells) → mean mid a x cells packet ≡ mean (cond c at_yes at_no) a x cells packet
    → mean (cond b mid at_no) a x cells packet ≡ mean (cond (b && c) at_yes at_no) a x cells packet
and_cond true c at_yes at_no mid packet a x cells on = on
and_cond false c at_yes at_no mid packet a x cells on = refl

or_cond : (b c : Bool) (at_yes at_no mid packet : List ℕ) (a x : ℕ) (cells : Cells) → mean mid a x cells packet ≡ mean (cond c at_yes at_no) a x cells packet
    → mean (cond b at_yes mid) a x cells packet ≡ mean (cond (b || c) at_yes at_no) a x cells packet
or_cond true c at_yes at_no mid packet a x cells on = refl
or_cond false c at_yes at_no mid packet a x cells on = on

-- the second check is asked only where the first holds
pub Checks-and : {one two : ℕ → ℕ → Bool} {at_yes at_no mid words : List ℕ} → Checks (λ a. a) one mid at_no words → Checks (λ a. a) two at_yes at_no mid → Checks (λ a. a) (λ a x. one a x && two a x) at_yes at_no words
Checks-and {one} {two} {at_yes} {at_no} {mid} first second = record {
  loads_stored = λ d yes_ok no_ok. first.loads_stored d (second.loads_stored d yes_ok no_ok) no_ok;
  goes = λ packet a x cells. first.goes packet a x cells ∙ and_cond (one a x) (two a x) at_yes at_no mid packet a x cells (second.goes packet a x cells);
}

-- the second check is asked only where the first does not hold
pub Checks-or : {one two : ℕ → ℕ → Bool} {at_yes at_no mid words : List ℕ} → Checks (λ a. a) one at_yes mid words → Checks (λ a. a) two at_yes at_no mid → Checks (λ a. a) (λ a x. one a x || two a x) at_yes at_no words
Checks-or {one} {two} {at_yes} {at_no} {mid} first second = record {
  loads_stored = λ d yes_ok no_ok. first.loads_stored d yes_ok (second.loads_stored d yes_ok no_ok);
  goes = λ packet a x cells. first.goes packet a x cells ∙ or_cond (one a x) (two a x) at_yes at_no mid packet a x cells (second.goes packet a x cells);
}

-- an operation on a constant in front of a check
pub Checks-alu : {left : ℕ → ℕ} {check : ℕ → ℕ → Bool} {at_yes at_no mid words : List ℕ} (does : ℕ → ℕ) (operation : Operation) (k : ℕ) → ((a : ℕ) → computed operation a k ≡ Some (does a)) → IsPushed (Alu operation (K k)) mid words
    → Checks left check at_yes at_no mid → Checks (λ a. left (does a)) (λ a x. check (does a) x) at_yes at_no words
Checks-alu {mid = mid} {words = words} does operation k computes pushed h = record {
  loads_stored = λ d yes_ok no_ok. loads_next (Alu operation (K k)) mid words d d pushed refl (λ cell none. absurd none) (λ cell low. inl low) (h.loads_stored d yes_ok no_ok);
  goes = λ packet a x cells. mean_pushed (Alu operation (K k)) mid words pushed a x cells packet
      ∙ (ap (λ o. after_effect (a_or_end o x cells) mid packet) (computes a) ∙ h.goes packet (does a) x cells);
}
