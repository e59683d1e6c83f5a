-- Guards and straight code, and what stands behind them.
use Rattle.std.proofs.Common.{◌≡◌, ◌∙◌, ◌+◌, ◌++◌, ◌<◌, ◌≤◌, List, [], None, Some, ap, append_assoc, arith, cond, drop, inl, length, refl, subst, sym, true, ℕ, ⊎_elim}
use Rattle.std.specs.Prelude.{◌&&◌}
use Rattle.std.proofs.lemmas.Bool.{le-ltb}
use Rattle.std.proofs.lemmas.List.{append-nil}
use Rattle.std.proofs.lemmas.List.Elements.{Contains-append_cases, Contains-append_left, Contains-append_right}
use Rattle.bpf_insn.specs.declared.instruction.Insn.{Insn}
use Rattle.bpf_insn.specs.declared.instruction.Insn.TheVariants.{Jump}
use Rattle.bpf_verify.specs.declared.fault.Fault.TheVariants.{JumpOutside}
use Rattle.bpf_verify.specs.Accepted.{IsFaultless, word_fault}
use Rattle.bpf_verify.specs.Path.{IsAt}
use Rattle.filter_emit.specs.declared.fixup.Fixup.{Fixup}
use Rattle.filter_emit.specs.Fixups.{AreOpen, IsAppended, IsBound, IsFilled, IsLonger, LabelValue}
use Rattle.filter_emit.specs.Pieces.{Behind, HasFarJumpsOnly, IsJump, Meaning, Writes}
use Rattle.filter_emit.specs.Runs.{IsPushed}
use Rattle.filter_emit.specs.Guards.{Guards, IsGuard, Next}
use Rattle.filter_emit.specs.body.Straight.{Extends, NeverFaults, Step}
use Rattle.filter_emit.proofs.BindLemmas.{appended_at, appended_long, appended_longer, each_both, far_both, far_bound, longer_both, longer_bound, open_bound, open_longer}
use Rattle.filter_emit.proofs.PartLemmas.{IsGuard-bound, IsPart-behind, IsPart-means, no_fixup}
use Rattle.filter_emit.proofs.PushedLemmas.{pushed_at}
use Rattle.filter_emit.proofs.ShapeLemmas.{same_insn}
use Rattle.filter_emit.proofs.WritesLemmas.{Writes-not, all_yes}

-- ---- guards

-- a piece whose yes, or no, is bound behind it
pub Guards-bound : {means : Meaning} {w : ℕ} {c0 c1 c2 : List ℕ} {on on' n n' : LabelValue} → on.fixups ≡ [] → on.by ≤ n.by → Writes means w c0 c1 on on' n n' → IsBound on'.fixups c1 c2 → Guards means w c0 c2 n n'
Guards-bound {means} {w} {c0} {c1} {c2} {on} {on'} {n} empty short h binds' =
    let binds : IsBound h.ys c1 c2 = subst (λ fixups. IsBound fixups c1 c2) (all_yes empty h) binds' in
    let guard : IsGuard means w (length c0) (length c1) c2 h.ns = IsGuard-bound means w (length c0) (length c1) c1 c2 h.ys h.ns h.piece binds refl in record {
      ns = h.ns;
      longer = longer_bound h.ys c1 c2 binds c0 (λ fixup is. (h.piece.yes_within fixup is).0) h.longer;
      no_grows = h.no_grows;
      no_by = h.no_by;
      guard = subst (λ until. IsGuard means w (length c0) until c2 h.ns) (sym binds.same_length) guard;
      no_open = open_bound h.ys c1 c2 binds h.ns n.by h.no_open;
      far_jumps = λ last low. subst (λ until. HasFarJumpsOnly last (length c0) until c2) (sym binds.same_length)
          (far_bound h.ys c1 c2 binds last (length c0) (length c1) (h.far_jumps last (let s = short in omega arith) low));
    }

pub Guards-bound_no : {one other : Meaning} {w : ℕ} {c0 c1 c2 : List ℕ} {on on' y y' : LabelValue} → on.fixups ≡ [] → on.by ≤ y.by → ((at_yes at_no words : List ℕ) → one at_no at_yes words → other at_yes at_no words)
    → Writes one w c0 c1 y y' on on' → IsBound on'.fixups c1 c2 → Guards other w c0 c2 y y'
Guards-bound_no empty short so h binds = Guards-bound empty short (Writes-not so h) binds

pub Guards-means : {one other : Meaning} {w : ℕ} {before after : List ℕ} {n n' : LabelValue} → ((at_yes at_no words : List ℕ) → one at_yes at_no words → other at_yes at_no words)
    → Guards one w before after n n' → Guards other w before after n n'
Guards-means {one} {other} {w} {before} {after} so h = record {
  ns = h.ns;
  longer = h.longer;
  no_grows = h.no_grows;
  no_by = h.no_by;
  guard = IsPart-means Next one other so w w (length before) (length after) (omega arith) after [] h.ns h.guard;
  no_open = h.no_open;
  far_jumps = h.far_jumps;
}

pub Guards-weight : {means : Meaning} {w : ℕ} {before after : List ℕ} {n n' : LabelValue} (v : ℕ) → w ≤ v → Guards means w before after n n' → Guards means v before after n n'
Guards-weight {means} {w} {before} {after} v more h = record {
  ns = h.ns;
  longer = h.longer;
  no_grows = h.no_grows;
  no_by = h.no_by;
  guard = IsPart-means Next means means (λ at_yes at_no words m. m) w v (length before) (length after) more after [] h.ns h.guard;
  no_open = h.no_open;
  far_jumps = h.far_jumps;
}

nothing : (means : Meaning) (code : List ℕ) → ((at_no words : List ℕ) → means words at_no words) → IsGuard means 0 (length code) (length code) code []
nothing means code is = record {
  forward = omega arith;
  light = omega arith;
  yes_within = λ fixup none. no_fixup fixup none;
  no_within = λ fixup none. no_fixup fixup none;
  apart = λ fixup none other. no_fixup fixup none;
  meant = λ program on_yes on_no here b c d full. subst (λ n. means (drop n program) (drop on_no program) (drop (length code) program)) (sym here) (is (drop on_no program) (drop (length code) program));
  sound = λ program on_yes on_no here b c d full pc up down. absurd (omega arith);
}

-- nothing is written
pub Guards-none : {means : Meaning} (code : List ℕ) (n : LabelValue) → ((at_no words : List ℕ) → means words at_no words) → Guards means 0 code code n n
Guards-none {means} code n is = record {
  ns = [];
  longer = λ pc insn at. at;
  no_grows = sym (append-nil n.fixups);
  no_by = refl;
  guard = nothing means code is;
  no_open = λ fixup none. no_fixup fixup none;
  far_jumps = λ last low pc up down. absurd (omega arith);
}

-- the fixups of two parts
both_open : (one two : List Fixup) (by by' : ℕ) (code longer : List ℕ) → by' ≡ by → IsLonger code longer → AreOpen one by code → AreOpen two by' longer → AreOpen (one ++ two) by longer
both_open one two by by' code longer same grows first second fixup is = ⊎_elim
    (λ o. open_longer code longer grows one by first fixup o)
    (λ t. subst (λ b. AreOpen two b longer) same second fixup t) (Contains-append_cases one two fixup is)

pub Guards-writes : {one two both : Meaning} {v w : ℕ} {c0 c1 c2 : List ℕ} {y y' n n' n'' : LabelValue} → ((at_yes at_no mid words : List ℕ) → one mid at_no words → two at_yes at_no mid → both at_yes at_no words)
    → Guards one v c0 c1 n n' → Writes two w c1 c2 y y' n' n'' → Writes both (v + w) c0 c2 y y' n n''
Guards-writes {one} {two} {both} {v} {w} {c0} {c1} {c2} {y} {y'} {n} {n'} and g h = record {
  ys = h.ys;
  ns = g.ns ++ h.ns;
  longer = longer_both c0 c1 c2 g.longer h.longer;
  yes_grows = h.yes_grows;
  no_grows = h.no_grows ∙ (ap (λ fixups. fixups ++ h.ns) g.no_grows ∙ append_assoc n.fixups g.ns h.ns);
  yes_by = h.yes_by;
  no_by = h.no_by ∙ g.no_by;
  piece = IsPart-behind Behind (λ until on_yes up. up) one two both v w (length c0) (length c1) (length c2) c1 c2 g.ns h.ys h.ns (g.ns ++ h.ns) g.guard h.longer h.piece
      (Contains-append_cases g.ns h.ns) (Contains-append_left g.ns h.ns) (Contains-append_right g.ns h.ns) and;
  yes_open = h.yes_open;
  no_open = both_open g.ns h.ns n.by n'.by c1 c2 g.no_by h.longer g.no_open h.no_open;
  far_jumps = λ last low_yes low_no. far_both last (length c0) (length c1) (length c2) c1 c2 g.guard.forward h.longer (g.far_jumps last low_no) (h.far_jumps last low_yes (let e = g.no_by in omega arith));
}

pub Guards-guards : {one two both : Meaning} {v w : ℕ} {c0 c1 c2 : List ℕ} {n n' n'' : LabelValue} → ((at_yes at_no mid words : List ℕ) → one mid at_no words → two at_yes at_no mid → both at_yes at_no words)
    → Guards one v c0 c1 n n' → Guards two w c1 c2 n' n'' → Guards both (v + w) c0 c2 n n''
Guards-guards {one} {two} {both} {v} {w} {c0} {c1} {c2} {n} {n'} and g h = record {
  ns = g.ns ++ h.ns;
  longer = longer_both c0 c1 c2 g.longer h.longer;
  no_grows = h.no_grows ∙ (ap (λ fixups. fixups ++ h.ns) g.no_grows ∙ append_assoc n.fixups g.ns h.ns);
  no_by = h.no_by ∙ g.no_by;
  guard = IsPart-behind Next (λ until on_yes here. omega arith) one two both v w (length c0) (length c1) (length c2) c1 c2 g.ns [] h.ns (g.ns ++ h.ns) g.guard h.longer h.guard
      (Contains-append_cases g.ns h.ns) (Contains-append_left g.ns h.ns) (Contains-append_right g.ns h.ns) and;
  no_open = both_open g.ns h.ns n.by n'.by c1 c2 g.no_by h.longer g.no_open h.no_open;
  far_jumps = λ last low_no. far_both last (length c0) (length c1) (length c2) c1 c2 g.guard.forward h.longer (g.far_jumps last low_no) (h.far_jumps last (let e = g.no_by in omega arith));
}

-- ---- straight code

-- the instruction stands in each program that has the code
appended_stands : (insn : Insn) (before after program : List ℕ) (until on_yes on_no : ℕ) → length before < until → IsAppended insn before after → IsFilled (length before) until after [] [] on_yes on_no program → IsAt program (length before) insn
appended_stands insn before after program until on_yes on_no low does full =
    let s = full.stands (length before) (omega arith) low insn (appended_at insn before after does) in
    subst (IsAt program (length before)) (same_insn s.0 insn s.2 (λ side. ⊎_elim (λ waits. ⊎_elim (λ none. no_fixup _ none) (λ none. no_fixup _ none) waits) (λ same. same) (s.3 side))) s.1

never_jumps : (insn : Insn) → NeverFaults insn → ¬ IsJump insn
never_jumps (Jump k) never is =
    let e : Some (JumpOutside 0) ≡ None = sym (ap (λ b. cond (b && true) None (Some (JumpOutside 0))) (le-ltb (0 + 1 + k) 0 (omega arith))) ∙ never 0 0 in cc
never_jumps insn never is = is

pub Extends-pushed : {insn : Insn} {before after : List ℕ} → NeverFaults insn → IsAppended insn before after → Extends (λ behind words. IsPushed insn behind words) 1 before after
Extends-pushed {insn} {before} {after} never does = let long = appended_long insn before after does in record {
  longer = appended_longer insn before after does;
  straight = record {
    forward = omega arith;
    light = omega arith;
    yes_within = λ fixup none. no_fixup fixup none;
    no_within = λ fixup none. no_fixup fixup none;
    apart = λ fixup none other. no_fixup fixup none;
    meant = λ program on_yes on_no here b c d full. subst (λ n. IsPushed insn (drop n program) (drop (length before) program)) (sym (here ∙ long))
        (pushed_at program (length before) insn (appended_stands insn before after program (length after) on_yes on_no (omega arith) does full));
    sound = λ program on_yes on_no here b c d full pc up down.
        let at = appended_stands insn before after program (length after) on_yes on_no (omega arith) does full in
        let e : length before ≡ pc = omega arith in
        subst (IsFaultless program) e (at.0, at.1, ap (word_fault (length program) (length before)) at.2 ∙ never (length program) (length before));
  };
  jumpless = λ pc up down. let e : length before ≡ pc = omega arith in (insn, subst (λ p. IsAt after p insn) e (appended_at insn before after does), never_jumps insn never);
}

pub Extends-means : {one other : Step} {w : ℕ} {before after : List ℕ} → ((behind words : List ℕ) → one behind words → other behind words) → Extends one w before after → Extends other w before after
Extends-means {one} {other} {w} {before} {after} so h = record {
  longer = h.longer;
  straight = IsPart-means Next (λ at_yes at_no words. one at_yes words) (λ at_yes at_no words. other at_yes words) (λ at_yes at_no words m. so at_yes words m) w w (length before) (length after) (omega arith) after [] [] h.straight;
  jumpless = h.jumpless;
}

pub Extends-weight : {step : Step} {w : ℕ} {before after : List ℕ} (v : ℕ) → w ≤ v → Extends step w before after → Extends step v before after
Extends-weight {step} {w} {before} {after} v more h = record {
  longer = h.longer;
  straight = IsPart-means Next (λ at_yes at_no words. step at_yes words) (λ at_yes at_no words. step at_yes words) (λ at_yes at_no words m. m) w v (length before) (length after) more after [] [] h.straight;
  jumpless = h.jumpless;
}

pub Extends-none : {step : Step} (code : List ℕ) → ((words : List ℕ) → step words words) → Extends step 0 code code
Extends-none {step} code is = record {
  longer = λ pc insn at. at;
  straight = nothing (λ at_yes at_no words. step at_yes words) code (λ at_no words. is words);
  jumpless = λ pc up down. absurd (omega arith);
}

-- straight code is a guard that always falls through
pub Extends-guard : {step : Step} {w : ℕ} {before after : List ℕ} (n : LabelValue) → Extends step w before after → Guards (λ at_yes at_no words. step at_yes words) w before after n n
Extends-guard n h = record {
  ns = [];
  longer = h.longer;
  no_grows = sym (append-nil n.fixups);
  no_by = refl;
  guard = h.straight;
  no_open = λ fixup none. no_fixup fixup none;
  far_jumps = λ last low pc up down. let i = h.jumpless pc up down in (i.0, i.1, λ is. absurd (i.2 is));
}

pub Extends-extends : {one two both : Step} {v w : ℕ} {c0 c1 c2 : List ℕ} → ((behind mid words : List ℕ) → one mid words → two behind mid → both behind words) → Extends one v c0 c1 → Extends two w c1 c2 → Extends both (v + w) c0 c2
Extends-extends {one} {two} {both} {v} {w} {c0} {c1} {c2} and g h = record {
  longer = longer_both c0 c1 c2 g.longer h.longer;
  straight = IsPart-behind Next (λ until on_yes here. omega arith) (λ at_yes at_no words. one at_yes words) (λ at_yes at_no words. two at_yes words) (λ at_yes at_no words. both at_yes words)
      v w (length c0) (length c1) (length c2) c1 c2 [] [] [] [] g.straight h.longer h.straight (λ fixup is. inl is) (λ fixup is. is) (λ fixup is. is) (λ at_yes at_no mid words. and at_yes mid words);
  jumpless = each_both (λ pc insn. ¬ IsJump insn) (length c0) (length c1) (length c2) c1 c2 h.longer g.jumpless h.jumpless;
}

pub Extends-writes : {one : Step} {two both : Meaning} {v w : ℕ} {c0 c1 c2 : List ℕ} {y y' n n' : LabelValue} → ((at_yes at_no mid words : List ℕ) → one mid words → two at_yes at_no mid → both at_yes at_no words)
    → Extends one v c0 c1 → Writes two w c1 c2 y y' n n' → Writes both (v + w) c0 c2 y y' n n'
Extends-writes {n = n} and g h = Guards-writes and (Extends-guard n g) h

pub Extends-guards : {one : Step} {two both : Meaning} {v w : ℕ} {c0 c1 c2 : List ℕ} {n n' : LabelValue} → ((at_yes at_no mid words : List ℕ) → one mid words → two at_yes at_no mid → both at_yes at_no words)
    → Extends one v c0 c1 → Guards two w c1 c2 n n' → Guards both (v + w) c0 c2 n n'
Extends-guards {n = n} and g h = Guards-guards and (Extends-guard n g) h
