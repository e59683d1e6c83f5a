-- What functions that write a piece ensure: another meaning, a greater weight, the labels exchanged; what can be bound.
use Rattle.std.proofs.Common.{◌≡◌, ◌∙◌, ◌++◌, ◌≤◌, List, [], ap, arith, length, subst, sym, ℕ}
use Rattle.filter_emit.specs.Fixups.{AreOpen, LabelValue}
use Rattle.filter_emit.specs.Pieces.{Behind, Meaning, Writes}
use Rattle.filter_emit.proofs.PartLemmas.{IsPart-means, IsPiece-not}

-- ---- one piece

pub Writes-means : {one other : Meaning} {w : ℕ} {before after : List ℕ} {y y' n n' : LabelValue} → ((at_yes at_no words : List ℕ) → one at_yes at_no words → other at_yes at_no words)
    → Writes one w before after y y' n n' → Writes other w before after y y' n n'
Writes-means {one} {other} {w} {before} {after} so h = record {
  ys = h.ys;
  ns = h.ns;
  longer = h.longer;
  yes_grows = h.yes_grows;
  no_grows = h.no_grows;
  yes_by = h.yes_by;
  no_by = h.no_by;
  piece = IsPart-means Behind one other so w w (length before) (length after) (omega arith) after h.ys h.ns h.piece;
  yes_open = h.yes_open;
  no_open = h.no_open;
  far_jumps = h.far_jumps;
}

pub Writes-weight : {means : Meaning} {w : ℕ} {before after : List ℕ} {y y' n n' : LabelValue} (v : ℕ) → w ≤ v → Writes means w before after y y' n n' → Writes means v before after y y' n n'
Writes-weight {means} {w} {before} {after} v more h = record {
  ys = h.ys;
  ns = h.ns;
  longer = h.longer;
  yes_grows = h.yes_grows;
  no_grows = h.no_grows;
  yes_by = h.yes_by;
  no_by = h.no_by;
  piece = IsPart-means Behind means means (λ at_yes at_no words m. m) w v (length before) (length after) more after h.ys h.ns h.piece;
  yes_open = h.yes_open;
  no_open = h.no_open;
  far_jumps = h.far_jumps;
}

-- its labels exchanged
pub Writes-not : {one other : Meaning} {w : ℕ} {before after : List ℕ} {y y' n n' : LabelValue} → ((at_yes at_no words : List ℕ) → one at_no at_yes words → other at_yes at_no words)
    → Writes one w before after y y' n n' → Writes other w before after n n' y y'
Writes-not {one} {other} {w} {before} {after} so h = record {
  ys = h.ns;
  ns = h.ys;
  longer = h.longer;
  yes_grows = h.no_grows;
  no_grows = h.yes_grows;
  yes_by = h.no_by;
  no_by = h.yes_by;
  piece = IsPiece-not one other so w (length before) (length after) after h.ys h.ns h.piece;
  yes_open = h.no_open;
  no_open = h.yes_open;
  far_jumps = λ last low_yes low_no. h.far_jumps last low_no low_yes;
}

-- all fixups of a label that was empty before are the piece's
pub all_yes : {means : Meaning} {w : ℕ} {before after : List ℕ} {on on' n n' : LabelValue} → on.fixups ≡ [] → (h : Writes means w before after on on' n n') → on'.fixups ≡ h.ys
all_yes empty h = h.yes_grows ∙ ap (λ fixups. fixups ++ h.ys) empty

pub all_no : {means : Meaning} {w : ℕ} {before after : List ℕ} {y y' on on' : LabelValue} → on.fixups ≡ [] → (h : Writes means w before after y y' on on') → on'.fixups ≡ h.ns
all_no empty h = h.no_grows ∙ ap (λ fixups. fixups ++ h.ns) empty

-- a label that was empty before can be bound behind
pub bindable : {means : Meaning} {w : ℕ} {before after : List ℕ} {on on' n n' : LabelValue} → on.fixups ≡ [] → Writes means w before after on on' n n' → AreOpen on'.fixups on'.by after
bindable {after = after} {on' = on'} empty h = subst (λ by. AreOpen on'.fixups by after) (sym h.yes_by) (subst (λ fixups. AreOpen fixups _ after) (sym (all_yes empty h)) h.yes_open)

pub bindable_no : {means : Meaning} {w : ℕ} {before after : List ℕ} {y y' on on' : LabelValue} → on.fixups ≡ [] → Writes means w before after y y' on on' → AreOpen on'.fixups on'.by after
bindable_no {after = after} {on' = on'} empty h = subst (λ by. AreOpen on'.fixups by after) (sym h.no_by) (subst (λ fixups. AreOpen fixups _ after) (sym (all_no empty h)) h.no_open)
