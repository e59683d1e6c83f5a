-- One instruction in front of the words of a program: what a run does there, and that the words stay in order.
use Rattle.std.proofs.Common.{◌≡◌, ◌∙◌, ◌∷◌, ◌++◌, ◌+◌, ◌<◌, ◌⊎◌, List, Ok, Some, [], ap, arith, drop, inl, inr, refl, subst, suc, sym, zero, ℕ, ⊎_elim}
use Rattle.std.specs.Prelude.{Contains, slice_get}
use Rattle.std.proofs.Math.Seq.{drop-nil}
use Rattle.bpf_insn.specs.declared.instruction.Insn.{Insn}
use Rattle.bpf_insn.specs.declared.instruction.Insn.TheVariants.{Jump, JumpIf, ReturnA, ReturnConstant}
use Rattle.bpf_insn.specs.Word.{instruction_of}
use Rattle.bpf_verify.specs.Path.{IsAt, IsPathFrom, IsStoredOn, Loads, LoadsAt, StepsTo, Stores, StoresAt, successors}
use Rattle.bpf_verify.proofs.PlaceLemmas.{IsAt-unique, contains-cons, successors_forward}
use Rattle.bpf_machine.specs.Meaning.{Cells, Effect, Ending, effect, ends, goes_on, mean, word_effect}
use Rattle.bpf_machine.proofs.RunLemmas.{means_by_first_word}
use Rattle.filter_emit.specs.Runs.{IsPushed, LoadsStored}

-- ---- what a run does at the first word

-- how a run goes on after an effect, over the words behind
abbrev pub after_effect : Effect → List ℕ → List ℕ → Ending
after_effect (ends ending) words packet = ending
after_effect (goes_on dropped a x cells) words packet = mean (drop dropped words) a x cells packet

mean_by : (word : ℕ) (words : List ℕ) (a x : ℕ) (cells : Cells) (packet : List ℕ) (does : Effect) → word_effect (instruction_of word) a x cells packet ≡ does → mean (word ∷ words) a x cells packet ≡ after_effect does words packet
mean_by word words a x cells packet (ends ending) is = ((means_by_first_word packet).first_ends word words a x cells ending is).0
mean_by word words a x cells packet (goes_on dropped a' x' cells') is = ((means_by_first_word packet).first_goes_on word words a x cells dropped a' x' cells' is).0

pub mean_pushed : (insn : Insn) (before after : List ℕ) → IsPushed insn before after → (a x : ℕ) (cells : Cells) (packet : List ℕ) → mean after a x cells packet ≡ after_effect (effect insn a x cells packet) before packet
mean_pushed insn before after pushed a x cells packet =
    ap (λ words. mean words a x cells packet) pushed.2
    ∙ mean_by pushed.0 before a x cells packet (effect insn a x cells packet) (ap (λ read. word_effect read a x cells packet) pushed.1)

-- ---- cells that were stored

slice_get-drop : (words : List ℕ) (n p : ℕ) → slice_get (drop n words) p ≡ slice_get words (n + p)
slice_get-drop [] n p = ap (λ (l : List ℕ). slice_get l p) (drop-nil n)
slice_get-drop (word ∷ words) zero p = ap (slice_get (word ∷ words)) (let g : p ≡ zero + p = omega arith in g)
slice_get-drop (word ∷ words) (suc n) p = slice_get-drop words n p ∙ ap (slice_get (word ∷ words)) (let g : suc (n + p) ≡ suc n + p = omega arith in g)

contains_next : (n p k to : ℕ) (more : List ℕ) → Contains ((n + p + 1 + k) ∷ more) to → ((q : ℕ) × (to ≡ n + q) × Contains ((p + 1 + k) ∷ []) q) ⊎ Contains more to
contains_next n p k to more leads = ⊎_elim (λ e. inl (p + 1 + k, e ∙ (let g : n + p + 1 + k ≡ n + (p + 1 + k) = omega arith in g), (0, omega arith, refl))) inr (contains-cons (n + p + 1 + k) to more leads)

one_further : (n p k to : ℕ) → Contains ((n + p + 1 + k) ∷ []) to → (q : ℕ) × (to ≡ n + q) × Contains ((p + 1 + k) ∷ []) q
one_further n p k to leads = ⊎_elim (λ t. t) (λ none. let inside = none.1 in absurd (omega arith)) (contains_next n p k to [] leads)

next_further : (n p to : ℕ) → Contains ((n + p + 1) ∷ []) to → (q : ℕ) × (to ≡ n + q) × Contains ((p + 1) ∷ []) q
next_further n p to leads =
    let is : to ≡ n + p + 1 = ⊎_elim (λ e. e) (λ none. let inside = none.1 in absurd (omega arith)) (contains-cons (n + p + 1) to [] leads) in (p + 1, omega arith, (0, omega arith, refl))

second : (x y : ℕ) (q : ℕ) → Contains (y ∷ []) q → Contains (x ∷ y ∷ []) q
second x y q there = ⊎_elim (λ e. (1, omega arith, sym e)) (λ none. let inside = none.1 in absurd (omega arith)) (contains-cons y q [] there)

first : (x y : ℕ) (q : ℕ) → Contains (x ∷ []) q → Contains (x ∷ y ∷ []) q
first x y q there = ⊎_elim (λ e. (0, omega arith, sym e)) (λ none. let inside = none.1 in absurd (omega arith)) (contains-cons x q [] there)

-- an instruction leads as far wherever it stands
one_step : (insn : Insn) (n p to : ℕ) → Contains (successors insn (n + p)) to → (q : ℕ) × (to ≡ n + q) × Contains (successors insn p) q
one_step (Jump k) n p to leads = one_further n p k to leads
one_step (JumpIf test operand offsets) n p to leads = ⊎_elim
    (λ (t : (q : ℕ) × (to ≡ n + q) × Contains ((p + 1 + offsets.jt) ∷ []) q). (t.0, t.1, first (p + 1 + offsets.jt) (p + 1 + offsets.jf) t.0 t.2))
    (λ more. let t = one_further n p offsets.jf to more in (t.0, t.1, second (p + 1 + offsets.jt) (p + 1 + offsets.jf) t.0 t.2))
    (contains_next n p offsets.jt to ((n + p + 1 + offsets.jf) ∷ []) leads)
one_step (ReturnConstant k) n p to leads = let inside = leads.1 in absurd (omega arith)
one_step ReturnA n p to leads = let inside = leads.1 in absurd (omega arith)
one_step _ n p to leads = next_further n p to leads

steps_shift : (words : List ℕ) (n p to : ℕ) → StepsTo words (n + p) to → (q : ℕ) × (to ≡ n + q) × StepsTo (drop n words) p q
steps_shift words n p to steps = let t = one_step steps.0 n p to steps.2 in (t.0, t.1, (steps.0, (steps.1.0, slice_get-drop words n p ∙ steps.1.1, steps.1.2), t.2))

stores_shift : (words : List ℕ) (n p cell : ℕ) → StoresAt (drop n words) p cell → StoresAt words (n + p) cell
stores_shift words n p cell h = (h.0, (h.1.0, sym (slice_get-drop words n p) ∙ h.1.1, h.1.2), h.2)

loads_shift : (words : List ℕ) (n p cell : ℕ) → LoadsAt words (n + p) cell → LoadsAt (drop n words) p cell
loads_shift words n p cell h = (h.0, (h.1.0, slice_get-drop words n p ∙ h.1.1, h.1.2), h.2)

-- a path through a list, from a place on, is one through what is left of it there
record Shifted (words : List ℕ) (n p pc : ℕ) (earlier : List ℕ) : Type 0 where
  before : List ℕ
  at : ℕ
  same : pc ≡ n + at
  path : IsPathFrom (drop n words) p (before ++ at ∷ [])
  stored : (cell : ℕ) → IsStoredOn (drop n words) before cell → IsStoredOn words earlier cell

path_shift : (words : List ℕ) (n : ℕ) (earlier : List ℕ) (p pc : ℕ) → IsPathFrom words (n + p) (earlier ++ pc ∷ []) → Shifted words n p pc earlier
path_shift words n [] p pc path = let t = steps_shift words n p pc path.0 in record { before = []; at = t.0; same = t.1; path = (t.2, tt); stored = λ cell none. none }
path_shift words n (e ∷ earlier) p pc path =
    let t = steps_shift words n p e path.0 in
    let rest = path_shift words n earlier t.0 pc (subst (λ m. IsPathFrom words m (earlier ++ pc ∷ [])) t.1 path.1) in record {
      before = t.0 ∷ rest.before;
      at = rest.at;
      same = rest.same;
      path = (t.2, rest.path);
      stored = λ cell on. ⊎_elim (λ here. inl (subst (λ m. StoresAt words m cell) (sym t.1) (stores_shift words n t.0 cell here))) (λ later. inr (rest.stored cell later)) on;
    }

module _ (insn : Insn) (word : ℕ) (words : List ℕ) (read : instruction_of word ≡ Ok insn) (d d' : ℕ)
    (loads : (cell : ℕ) → Loads insn cell → cell < d)
    (keeps : (cell : ℕ) → cell < d' → (cell < d) ⊎ Stores insn cell)
    (leads : (t : ℕ) → Contains (successors insn 0) (suc t) → LoadsStored d' (drop t words)) where
  first_is : (other : Insn) → IsAt (word ∷ words) 0 other → other ≡ insn
  first_is other at = IsAt-unique (word ∷ words) 0 other insn at (word, refl, read)

  -- a load where the first word leads to
  at_once : (t pc cell : ℕ) → LoadsAt (word ∷ words) pc cell → Contains (successors insn 0) (suc t) → pc ≡ suc t → (cell < d) ⊎ IsStoredOn (word ∷ words) (0 ∷ []) cell
  at_once t pc cell load go is =
      let here : LoadsAt (drop t words) 0 cell = loads_shift (word ∷ words) (suc t) 0 cell (subst (λ m. LoadsAt (word ∷ words) m cell) (let g : pc ≡ suc t + 0 = omega arith in g) load) in
      ⊎_elim
      (λ low. ⊎_elim inl (λ stores. inr (inl (insn, (word, refl, read), stores))) (keeps cell low))
      (λ none. absurd none)
      (leads t go 0 cell here [] (refl, tt))

  -- a load further on
  later : (t pc cell : ℕ) (more : List ℕ) → LoadsAt (word ∷ words) pc cell → Contains (successors insn 0) (suc t) → IsPathFrom (word ∷ words) (suc t) (more ++ pc ∷ [])
      → (cell < d) ⊎ IsStoredOn (word ∷ words) (0 ∷ suc t ∷ more) cell
  later t pc cell more load go path =
      let start : suc t ≡ suc t + 0 = omega arith in
      let s = path_shift (word ∷ words) (suc t) more 0 pc (subst (λ m. IsPathFrom (word ∷ words) m (more ++ pc ∷ [])) start path) in
      let here : LoadsAt (drop t words) s.at cell = loads_shift (word ∷ words) (suc t) s.at cell (subst (λ m. LoadsAt (word ∷ words) m cell) s.same load) in
      ⊎_elim
      (λ low. ⊎_elim inl (λ stores. inr (inl (insn, (word, refl, read), stores))) (keeps cell low))
      (λ stored. inr (inr (⊎_elim (λ first. inl (subst (λ m. StoresAt (word ∷ words) m cell) (sym start) (stores_shift (word ∷ words) (suc t) 0 cell first))) (λ on. inr (s.stored cell on)) stored)))
      (leads t go s.at cell here (0 ∷ s.before) (refl, s.path))

  goes_first : (to : ℕ) → StepsTo (word ∷ words) 0 to → Contains (successors insn 0) to
  goes_first to steps = subst (λ i. Contains (successors i 0) to) (first_is steps.0 steps.1) steps.2

  from_first : (pc cell : ℕ) (rest : List ℕ) → LoadsAt (word ∷ words) pc cell → IsPathFrom (word ∷ words) 0 (rest ++ pc ∷ []) → (cell < d) ⊎ IsStoredOn (word ∷ words) (0 ∷ rest) cell
  from_first zero cell [] load path = absurd (let up = successors_forward insn 0 0 (goes_first 0 path.0) in omega arith)
  from_first (suc t) cell [] load path = at_once t (suc t) cell load (goes_first (suc t) path.0) refl
  from_first pc cell (zero ∷ more) load path = absurd (let up = successors_forward insn 0 0 (goes_first 0 path.0) in omega arith)
  from_first pc cell (suc t ∷ more) load path = later t pc cell more load (goes_first (suc t) path.0) path.1

  loads_cons : LoadsStored d (word ∷ words)
  loads_cons pc cell load [] path = inl (loads cell (subst (λ i. Loads i cell) (first_is load.0 (subst (λ m. IsAt (word ∷ words) m load.0) path.0 load.1)) load.2))
  loads_cons pc cell load (e ∷ rest) path =
      subst (λ m. (cell < d) ⊎ IsStoredOn (word ∷ words) (m ∷ rest) cell) (sym path.0) (from_first pc cell rest load (subst (λ m. IsPathFrom (word ∷ words) m (rest ++ pc ∷ [])) path.0 path.1))

-- an instruction in front keeps every load to cells that were stored, where it does so itself and its successors do
pub loads_pushed : (insn : Insn) (before after : List ℕ) → IsPushed insn before after → (d d' : ℕ) → ((cell : ℕ) → Loads insn cell → cell < d) → ((cell : ℕ) → cell < d' → (cell < d) ⊎ Stores insn cell)
    → ((t : ℕ) → Contains (successors insn 0) (suc t) → LoadsStored d' (drop t before)) → LoadsStored d after
loads_pushed insn before after pushed d d' loads keeps leads = subst (LoadsStored d) (sym pushed.2) (loads_cons insn pushed.0 before pushed.1 d d' loads keeps leads)

-- ---- an instruction that goes on to the next word

-- its only successor is the next word
next_only : (t : ℕ) → Contains ((0 + 1) ∷ []) (suc t) → t ≡ 0
next_only t leads = ⊎_elim (λ e. let g : suc t ≡ 0 + 1 = e in omega arith) (λ none. let inside = none.1 in absurd (omega arith)) (contains-cons (0 + 1) (suc t) [] leads)

pub loads_next : (insn : Insn) (before after : List ℕ) (d d' : ℕ) → IsPushed insn before after → successors insn 0 ≡ (0 + 1) ∷ [] → ((cell : ℕ) → Loads insn cell → cell < d) → ((cell : ℕ) → cell < d' → (cell < d) ⊎ Stores insn cell)
    → LoadsStored d' before → LoadsStored d after
loads_next insn before after d d' pushed next loads keeps ok =
    loads_pushed insn before after pushed d d' loads keeps (λ t leads. subst (λ n. LoadsStored d' (drop n before)) (sym (next_only t (subst (λ l. Contains l (suc t)) next leads))) ok)

-- ---- a return

pub return_loads : (k : ℕ) (before after : List ℕ) → IsPushed (ReturnConstant k) before after → (d : ℕ) → LoadsStored d after
return_loads k before after pushed d =
    loads_pushed (ReturnConstant k) before after pushed d d (λ cell none. absurd none) (λ cell low. inl low) (λ t leads. let inside = leads.1 in absurd (omega arith))

-- ---- an instruction of a program and the words behind it

-- an instruction of a program stands in front of the words behind it
before_rest : (program : List ℕ) (pc : ℕ) (insn : Insn) → IsAt program pc insn → IsPushed insn (drop (suc pc) program) (drop pc program)
before_rest [] pc insn at = absurd (let e = at.1 in cc)
before_rest (word ∷ words) zero insn at = (at.0, at.2, (let e : Some word ≡ Some at.0 = at.1 in let f : word ≡ at.0 = cc in ap (λ w. w ∷ words) f))
before_rest (word ∷ words) (suc pc) insn at = before_rest words pc insn at

pub pushed_at : (program : List ℕ) (pc : ℕ) (insn : Insn) → IsAt program pc insn → IsPushed insn (drop (pc + 1) program) (drop pc program)
pushed_at program pc insn at = subst (λ n. IsPushed insn (drop n program) (drop pc program)) (let g : suc pc ≡ pc + 1 = omega arith in g) (before_rest program pc insn at)

pub dropped : (n k : ℕ) (words : List ℕ) → drop k (drop n words) ≡ drop (n + k) words
dropped zero k words = ap (λ m. drop m words) (let g : k ≡ zero + k = omega arith in g)
dropped (suc n) k [] = drop-nil k ∙ sym (drop-nil (suc n + k))
dropped (suc n) k (word ∷ words) = dropped n k words ∙ ap (λ m. drop m (word ∷ words)) (let g : suc (n + k) ≡ suc n + k = omega arith in g)
