-- Tests of packets: a check of what is loaded, tests that are made of others, and what is known where they lead.
use Rattle.std.proofs.Common.{◌≡◌, ◌∙◌, ◌<◌, ◌^◌, Bool, List, None, Option, Some, ap, cond, false, refl, subst, true, ℕ}
use Rattle.bpf_insn.specs.declared.instruction.Insn.{Insn}
use Rattle.bpf_machine.specs.Meaning.{Cells, a_or_end, mean}
use Rattle.filter_tree.specs.declared.truth.Truth.{Truth}
use Rattle.filter_tree.specs.declared.truth.Truth.TheVariants.{Fails, No, Yes}
use Rattle.filter_tree.specs.Outcome.{◌and_then◌, ◌or_else◌, answer, opposite, tested}
use Rattle.filter_compile.specs.Answer.{IsPacket}
use Rattle.filter_emit.specs.Checks.{Checks}
use Rattle.filter_emit.specs.Runs.{ComesTo, IsPushed}
use Rattle.filter_emit.proofs.PushedLemmas.{after_effect, mean_pushed}
use Rattle.filter_facts.specs.declared.load.Loaded.{Loaded}
use Rattle.filter_facts.specs.Known.{IsInA, Knows, loaded_of}
use Rattle.filter_compile.specs.body.Header.{by_header, where_kept}
use Rattle.filter_compile.specs.body.Piece.{Asks, Brings, BringsTo, Compares, ComesWith, Computes, DecidedBy, Decides, Facts, GoesBy, IsInX, IsPlain, LoadsAs, Pairs, PairsWith, Tests}
use Rattle.filter_compile.proofs.ValueLemmas.{plain_loads}

-- ---- questions to a number in A

pub Asks-checks : {left : ℕ → ℕ} {check : ℕ → ℕ → Bool} {at_yes at_no words : List ℕ} (kept : Bool) (asked : ℕ → Bool) → ((a x : ℕ) → a < 2 ^ 32 → check a x ≡ asked a) → ((a : ℕ) → kept ≡ true → a ≡ left a) → Checks left check at_yes at_no words
    → Asks kept asked at_yes at_no words
Asks-checks {left = left} {at_yes = at_yes} {at_no = at_no} kept asked same keeps h = record {
  loads_stored = h.loads_stored;
  goes = λ packet a x cells fits. (left a, keeps a, h.goes packet a x cells ∙ ap (λ b. mean (cond b at_yes at_no) (left a) x cells packet) (same a x fits));
}

-- ---- the outcome of a question

decided_by_answer : (holds : Bool) (after : Option Loaded) (at_yes at_no words packet : List ℕ) (a a' x : ℕ) (cells : Cells) → IsInA after packet a' → mean words a x cells packet ≡ mean (cond holds at_yes at_no) a' x cells packet
    → DecidedBy (answer holds) after at_yes at_no words packet a x cells
decided_by_answer true after at_yes at_no words packet a a' x cells is on = (a', is, on)
decided_by_answer false after at_yes at_no words packet a a' x cells is on = (a', is, on)

-- of a part that is loaded, of which nothing is known behind the question
module _ (known : Bool) (insn : Insn) (part : List ℕ → Option ℕ) (kept : Bool) (check : ℕ → Bool) (at_yes at_no mid words : List ℕ) (pushed : IsPushed insn mid words) (plain : IsPlain insn) (loads : LoadsAs known insn part)
    (fits : (packet : List ℕ) (v : ℕ) → IsPacket packet → part packet ≡ Some v → v < 2 ^ 32) (asks : Asks kept check at_yes at_no mid) where
  loaded_goes : (packet : List ℕ) → IsPacket packet → (a x : ℕ) (cells : Cells) (found : Option ℕ) → part packet ≡ found → mean words a x cells packet ≡ after_effect (a_or_end found x cells) mid packet
      → DecidedBy (tested check found) None at_yes at_no words packet a x cells
  loaded_goes packet ok a x cells None is on = on
  loaded_goes packet ok a x cells (Some v) is on = let t = asks.goes packet v x cells (fits packet v ok is) in decided_by_answer (check v) None at_yes at_no words packet a t.0 x cells tt (on ∙ t.2)

  pub Decides-loaded : Decides known None None (λ packet. tested check (part packet)) at_yes at_no words
  Decides-loaded = record {
    loads_stored = λ yes_ok no_ok. plain_loads insn plain mid words 0 pushed (asks.loads_stored 0 yes_ok no_ok);
    goes = λ packet ok a x cells knows in_a.
        loaded_goes packet ok a x cells (part packet) refl (mean_pushed insn mid words pushed a x cells packet ∙ ap (λ e. after_effect e mid packet) (loads packet a x cells knows));
  }

-- of a number that is brought into A, which is there still where the question keeps it
still_there : (kept : Bool) (loaded : Loaded) (packet : List ℕ) (v a' : ℕ) → loaded_of loaded packet ≡ Some v → (kept ≡ true → v ≡ a') → IsInA (where_kept kept loaded) packet a'
still_there true loaded packet v a' is same = is ∙ ap Some (same refl)
still_there false loaded packet v a' is same = tt

module _ (given : Option Loaded) (loaded : Loaded) (kept : Bool) (check : ℕ → Bool) (at_yes at_no mid words : List ℕ) (fits : (packet : List ℕ) (v : ℕ) → IsPacket packet → loaded_of loaded packet ≡ Some v → v < 2 ^ 32) (brings : Brings given loaded mid words)
    (asks : Asks kept check at_yes at_no mid) where
  brought_goes : (packet : List ℕ) → IsPacket packet → (a x : ℕ) (cells : Cells) (found : Option ℕ) → loaded_of loaded packet ≡ found → BringsTo found mid words packet a x cells → DecidedBy (tested check found) (where_kept kept loaded) at_yes at_no words packet a x cells
  brought_goes packet ok a x cells None is on = on
  brought_goes packet ok a x cells (Some v) is on =
      let t = asks.goes packet v x cells (fits packet v ok is) in decided_by_answer (check v) (where_kept kept loaded) at_yes at_no words packet a t.0 x cells (still_there kept loaded packet v t.0 is t.1) (on ∙ t.2)

  pub Decides-brought : Decides (by_header loaded) given (where_kept kept loaded) (λ packet. tested check (loaded_of loaded packet)) at_yes at_no words
  Decides-brought = record {
    loads_stored = λ yes_ok no_ok. brings.loads_stored 0 (asks.loads_stored 0 yes_ok no_ok);
    goes = λ packet ok a x cells knows in_a. brought_goes packet ok a x cells (loaded_of loaded packet) refl (brings.brings packet a x cells knows in_a);
  }

-- ---- decisions made of others

pub Decides-same : (known : Bool) (given after : Option Loaded) (truth other : List ℕ → Truth) (at_yes at_no words : List ℕ) → ((packet : List ℕ) → IsPacket packet → truth packet ≡ other packet) → Decides known given after truth at_yes at_no words
    → Decides known given after other at_yes at_no words
Decides-same known given after truth other at_yes at_no words same h = record {
  loads_stored = h.loads_stored;
  goes = λ packet ok a x cells knows in_a. subst (λ t. DecidedBy t after at_yes at_no words packet a x cells) (same packet ok) (h.goes packet ok a x cells knows in_a);
}

opposite_decided : (t : Truth) (after : Option Loaded) (at_yes at_no words packet : List ℕ) (a x : ℕ) (cells : Cells) → DecidedBy t after at_no at_yes words packet a x cells → DecidedBy (opposite t) after at_yes at_no words packet a x cells
opposite_decided Yes after at_yes at_no words packet a x cells h = h
opposite_decided No after at_yes at_no words packet a x cells h = h
opposite_decided Fails after at_yes at_no words packet a x cells h = h

pub Decides-not : (known : Bool) (given after : Option Loaded) (truth : List ℕ → Truth) (at_yes at_no words : List ℕ) → Decides known given after truth at_no at_yes words → Decides known given after (λ packet. opposite (truth packet)) at_yes at_no words
Decides-not known given after truth at_yes at_no words h = record {
  loads_stored = λ yes_ok no_ok. h.loads_stored no_ok yes_ok;
  goes = λ packet ok a x cells knows in_a. opposite_decided (truth packet) after at_yes at_no words packet a x cells (h.goes packet ok a x cells knows in_a);
}

-- ---- tests with facts

module _ (known : Bool) (in_a after : Option Loaded) (given when_yes when_no : Facts) (truth : List ℕ → Truth) (at_yes at_no words : List ℕ) (knows : (packet : List ℕ) (a x : ℕ) → given packet a x → Knows known packet x)
    (holds : (packet : List ℕ) (a x : ℕ) → given packet a x → IsInA in_a packet a) (on_yes : (packet : List ℕ) (a a' x : ℕ) → given packet a x → IsInA after packet a' → truth packet ≡ Yes → when_yes packet a' x)
    (on_no : (packet : List ℕ) (a a' x : ℕ) → given packet a x → IsInA after packet a' → truth packet ≡ No → when_no packet a' x) where
  decided_goes : (t : Truth) (packet : List ℕ) (a x : ℕ) (cells : Cells) → given packet a x → truth packet ≡ t → DecidedBy t after at_yes at_no words packet a x cells → GoesBy t when_yes when_no at_yes at_no words packet a x cells
  decided_goes Yes packet a x cells g is h = (h.0, x, cells, on_yes packet a h.0 x g h.1 is, h.2)
  decided_goes No packet a x cells g is h = (h.0, x, cells, on_no packet a h.0 x g h.1 is, h.2)
  decided_goes Fails packet a x cells g is h = h

  -- a decision, and what it tells where it leads
  pub Tests-decided : Decides known in_a after truth at_yes at_no words → Tests given when_yes when_no truth at_yes at_no words
  Tests-decided h = record {
    loads_stored = h.loads_stored;
    goes = λ packet ok a x cells g. decided_goes (truth packet) packet a x cells g refl (h.goes packet ok a x cells (knows packet a x g) (holds packet a x g));
  }

pub Tests-same : (given when_yes when_no : Facts) (truth other : List ℕ → Truth) (at_yes at_no words : List ℕ) → ((packet : List ℕ) (a x : ℕ) → IsPacket packet → given packet a x → truth packet ≡ other packet)
    → Tests given when_yes when_no truth at_yes at_no words → Tests given when_yes when_no other at_yes at_no words
Tests-same given when_yes when_no truth other at_yes at_no words same h = record {
  loads_stored = h.loads_stored;
  goes = λ packet ok a x cells g. subst (λ t. GoesBy t when_yes when_no at_yes at_no words packet a x cells) (same packet a x ok g) (h.goes packet ok a x cells g);
}

-- a run that comes to words goes on as they do
pub on_from : (t : Truth) (when_yes when_yes' when_no when_no' : Facts) → ((packet : List ℕ) (a x : ℕ) → when_yes packet a x → when_yes' packet a x) → ((packet : List ℕ) (a x : ℕ) → when_no packet a x → when_no' packet a x)
    → (at_yes at_no mid words packet : List ℕ) (a a' x x' : ℕ) (cells cells' : Cells) → mean words a x cells packet ≡ mean mid a' x' cells' packet → GoesBy t when_yes when_no at_yes at_no mid packet a' x' cells' → GoesBy t when_yes' when_no' at_yes at_no words packet a x cells
on_from Yes when_yes when_yes' when_no when_no' weaker weaker' at_yes at_no mid words packet a a' x x' cells cells' on h = (h.0, h.1, h.2, weaker packet h.0 h.1 h.3, on ∙ h.4)
on_from No when_yes when_yes' when_no when_no' weaker weaker' at_yes at_no mid words packet a a' x x' cells cells' on h = (h.0, h.1, h.2, weaker' packet h.0 h.1 h.3, on ∙ h.4)
on_from Fails when_yes when_yes' when_no when_no' weaker weaker' at_yes at_no mid words packet a a' x x' cells cells' on h = on ∙ h

opposite_goes : (t : Truth) (when_yes when_no : Facts) (at_yes at_no words packet : List ℕ) (a x : ℕ) (cells : Cells) → GoesBy t when_no when_yes at_no at_yes words packet a x cells → GoesBy (opposite t) when_yes when_no at_yes at_no words packet a x cells
opposite_goes Yes when_yes when_no at_yes at_no words packet a x cells h = h
opposite_goes No when_yes when_no at_yes at_no words packet a x cells h = h
opposite_goes Fails when_yes when_no at_yes at_no words packet a x cells h = h

pub Tests-not : (given when_yes when_no : Facts) (truth : List ℕ → Truth) (at_yes at_no words : List ℕ) → Tests given when_no when_yes truth at_no at_yes words → Tests given when_yes when_no (λ packet. opposite (truth packet)) at_yes at_no words
Tests-not given when_yes when_no truth at_yes at_no words h = record {
  loads_stored = λ yes_ok no_ok. h.loads_stored no_ok yes_ok;
  goes = λ packet ok a x cells g. opposite_goes (truth packet) when_yes when_no at_yes at_no words packet a x cells (h.goes packet ok a x cells g);
}

abbrev pub AreWeaker : Facts → Facts → Type 0
AreWeaker facts weaker = (packet : List ℕ) (a x : ℕ) → facts packet a x → weaker packet a x

same_facts : (facts : Facts) → AreWeaker facts facts
same_facts facts packet a x h = h

module _ (given between when_yes no1 no2 no3 : Facts) (first second : List ℕ → Truth) (weaker1 : AreWeaker no1 no3) (weaker2 : AreWeaker no2 no3) (at_yes at_no mid words : List ℕ) (later : Tests between when_yes no2 second at_yes at_no mid) where
  and_goes : (t : Truth) (packet : List ℕ) → IsPacket packet → (a x : ℕ) (cells : Cells) → GoesBy t between no1 mid at_no words packet a x cells → GoesBy (t and_then second packet) when_yes no3 at_yes at_no words packet a x cells
  and_goes Yes packet ok a x cells h = on_from (second packet) when_yes when_yes no2 no3 (same_facts when_yes) weaker2 at_yes at_no mid words packet a h.0 x h.1 cells h.2 h.4 (later.goes packet ok h.0 h.1 h.2 h.3)
  and_goes No packet ok a x cells h = (h.0, h.1, h.2, weaker1 packet h.0 h.1 h.3, h.4)
  and_goes Fails packet ok a x cells h = h

  pub Tests-and : Tests given between no1 first mid at_no words → Tests given when_yes no3 (λ packet. first packet and_then second packet) at_yes at_no words
  Tests-and h = record {
    loads_stored = λ yes_ok no_ok. h.loads_stored (later.loads_stored yes_ok no_ok) no_ok;
    goes = λ packet ok a x cells g. and_goes (first packet) packet ok a x cells (h.goes packet ok a x cells g);
  }

module _ (given between when_no yes1 yes2 yes3 : Facts) (first second : List ℕ → Truth) (weaker1 : AreWeaker yes1 yes3) (weaker2 : AreWeaker yes2 yes3) (at_yes at_no mid words : List ℕ) (later : Tests between yes2 when_no second at_yes at_no mid) where
  or_goes : (t : Truth) (packet : List ℕ) → IsPacket packet → (a x : ℕ) (cells : Cells) → GoesBy t yes1 between at_yes mid words packet a x cells → GoesBy (t or_else second packet) yes3 when_no at_yes at_no words packet a x cells
  or_goes Yes packet ok a x cells h = (h.0, h.1, h.2, weaker1 packet h.0 h.1 h.3, h.4)
  or_goes No packet ok a x cells h = on_from (second packet) yes2 yes3 when_no when_no weaker2 (same_facts when_no) at_yes at_no mid words packet a h.0 x h.1 cells h.2 h.4 (later.goes packet ok h.0 h.1 h.2 h.3)
  or_goes Fails packet ok a x cells h = h

  pub Tests-or : Tests given yes1 between first at_yes mid words → Tests given yes3 when_no (λ packet. first packet or_else second packet) at_yes at_no words
  Tests-or h = record {
    loads_stored = λ yes_ok no_ok. h.loads_stored yes_ok (later.loads_stored yes_ok no_ok);
    goes = λ packet ok a x cells g. or_goes (first packet) packet ok a x cells (h.goes packet ok a x cells g);
  }

-- ---- tests that are known

module _ (given when_yes when_no : Facts) (truth : List ℕ → Truth) (at_yes at_no words : List ℕ) where
  -- what is known to be yes goes there at once
  pub Tests-yes : AreWeaker given when_yes → ((packet : List ℕ) (a x : ℕ) → given packet a x → truth packet ≡ Yes) → ComesTo at_yes words → Tests given when_yes when_no truth at_yes at_no words
  Tests-yes weaker known runs = record {
    loads_stored = λ yes_ok no_ok. runs.loads_stored 0 yes_ok;
    goes = λ packet ok a x cells g. rw (known packet a x g) (a, x, cells, weaker packet a x g, runs.goes packet a x cells);
  }

  pub Tests-no : AreWeaker given when_no → ((packet : List ℕ) (a x : ℕ) → given packet a x → truth packet ≡ No) → ComesTo at_no words → Tests given when_yes when_no truth at_yes at_no words
  Tests-no weaker known runs = record {
    loads_stored = λ yes_ok no_ok. runs.loads_stored 0 no_ok;
    goes = λ packet ok a x cells g. rw (known packet a x g) (a, x, cells, weaker packet a x g, runs.goes packet a x cells);
  }

-- nothing is written: the test is known to be yes
pub Tests-none : (given when_yes when_no : Facts) (truth : List ℕ → Truth) (at_no words : List ℕ) → AreWeaker given when_yes → ((packet : List ℕ) (a x : ℕ) → given packet a x → truth packet ≡ Yes) → Tests given when_yes when_no truth words at_no words
Tests-none given when_yes when_no truth at_no words weaker known =
    Tests-yes given when_yes when_no truth words at_no words weaker known record { loads_stored = λ d ok. ok; goes = λ packet a x cells. refl }

-- ---- values that are compared

-- a test of a value, which fails where there is none
abbrev pub from_value : (ℕ → Truth) → Option ℕ → Truth
from_value truth None = Fails
from_value truth (Some v) = truth v

module _ (given : Facts) (known between after : Bool) (value : List ℕ → Option ℕ) (truth : List ℕ → ℕ → Truth) (when : Facts) (at_yes at_no mid words : List ℕ) (knows : (packet : List ℕ) (a x : ℕ) → given packet a x → Knows known packet x)
    (tells : (packet : List ℕ) (a a' x x' : ℕ) → given packet a x → Knows after packet x' → when packet a' x') (computes : Computes (λ packet a. value packet) known between 0 mid words) (compares : Compares truth between after at_yes at_no mid) where
  told : (t : Truth) (packet : List ℕ) (a a0 x x0 : ℕ) (cells : Cells) → given packet a0 x0 → GoesBy t (IsInX after) (IsInX after) at_yes at_no words packet a x cells → GoesBy t when when at_yes at_no words packet a x cells
  told Yes packet a a0 x x0 cells g h = (h.0, h.1, h.2, tells packet a0 h.0 x0 h.1 g h.3, h.4)
  told No packet a a0 x x0 cells g h = (h.0, h.1, h.2, tells packet a0 h.0 x0 h.1 g h.3, h.4)
  told Fails packet a a0 x x0 cells g h = h

  value_goes : (found : Option ℕ) (packet : List ℕ) → IsPacket packet → (a x : ℕ) (cells : Cells) → ComesWith found between 0 mid words packet a x cells → GoesBy (from_value (truth packet) found) (IsInX after) (IsInX after) at_yes at_no words packet a x cells
  value_goes None packet ok a x cells h = h
  value_goes (Some v) packet ok a x cells h =
      on_from (truth packet v) (IsInX after) (IsInX after) (IsInX after) (IsInX after) (same_facts (IsInX after)) (same_facts (IsInX after)) at_yes at_no mid words packet a v x h.0 cells h.1 h.4 (compares.goes packet ok v h.0 h.1 h.3)

  pub Tests-value : Tests given when when (λ packet. from_value (truth packet) (value packet)) at_yes at_no words
  Tests-value = record {
    loads_stored = λ yes_ok no_ok. computes.loads_stored (compares.loads_stored yes_ok no_ok);
    goes = λ packet ok a x cells g. told (from_value (truth packet) (value packet)) packet a a x x cells g (value_goes (value packet) packet ok a x cells (computes.comes packet ok a x cells (knows packet a x g)));
  }

goes_by_answer : (holds known : Bool) (at_yes at_no words packet : List ℕ) (a a' x x' : ℕ) (cells cells' : Cells) → Knows known packet x' → mean words a x cells packet ≡ mean (cond holds at_yes at_no) a' x' cells' packet
    → GoesBy (answer holds) (IsInX known) (IsInX known) at_yes at_no words packet a x cells
goes_by_answer true known at_yes at_no words packet a a' x x' cells cells' knows on = (a', x', cells', knows, on)
goes_by_answer false known at_yes at_no words packet a a' x x' cells cells' knows on = (a', x', cells', knows, on)

-- A is compared with a number
pub Compares-checks : (check : ℕ → ℕ → Bool) (holds : ℕ → Bool) (known : Bool) (at_yes at_no words : List ℕ) → ((a x : ℕ) → check a x ≡ holds a) → Checks (λ a. a) check at_yes at_no words → Compares (λ packet a. answer (holds a)) known known at_yes at_no words
Compares-checks check holds known at_yes at_no words same h = record {
  loads_stored = h.loads_stored 0;
  goes = λ packet ok a x cells knows.
      goes_by_answer (holds a) known at_yes at_no words packet a a x x cells cells knows (h.goes packet a x cells ∙ ap (λ b. mean (cond b at_yes at_no) a x cells packet) (same a x));
}

-- A is compared with a value in X
module _ (right : List ℕ → Option ℕ) (check : ℕ → ℕ → Bool) (given : Bool) (at_yes at_no mid words : List ℕ) (pairs : Pairs right given 0 mid words) (checks : Checks (λ a. a) check at_yes at_no mid) where
  paired_goes : (found : Option ℕ) (packet : List ℕ) (a x : ℕ) (cells : Cells) → PairsWith found 0 mid words packet a x cells → GoesBy (tested (check a) found) (IsInX false) (IsInX false) at_yes at_no words packet a x cells
  paired_goes None packet a x cells h = h
  paired_goes (Some r) packet a x cells h = goes_by_answer (check a r) false at_yes at_no words packet a a x r cells h.0 tt (h.2 ∙ checks.goes packet a r h.0)

  pub Compares-pair : Compares (λ packet a. tested (check a) (right packet)) given false at_yes at_no words
  Compares-pair = record {
    loads_stored = λ yes_ok no_ok. pairs.loads_stored (checks.loads_stored 0 yes_ok no_ok);
    goes = λ packet ok a x cells knows. paired_goes (right packet) packet a x cells (pairs.comes packet ok a x cells knows);
  }

pub Compares-same : (truth other : List ℕ → ℕ → Truth) (given after : Bool) (at_yes at_no words : List ℕ) → ((packet : List ℕ) (a : ℕ) → truth packet a ≡ other packet a) → Compares truth given after at_yes at_no words → Compares other given after at_yes at_no words
Compares-same truth other given after at_yes at_no words same h = record {
  loads_stored = h.loads_stored;
  goes = λ packet ok a x cells knows. subst (λ t. GoesBy t (IsInX after) (IsInX after) at_yes at_no words packet a x cells) (same packet a) (h.goes packet ok a x cells knows);
}
