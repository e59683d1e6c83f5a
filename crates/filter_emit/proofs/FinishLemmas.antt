-- The whole program.
use Rattle.std.proofs.Common.{◌≡◌, ◌∙◌, ◌+◌, ◌-◌, ◌<◌, ◌≤◌, ◌⊎◌, List, [], ap, arith, drop, inl, inr, length, subst, sym, ℕ, ⊎_elim}
use Rattle.std.specs.Prelude.{Contains}
use Rattle.std.proofs.Math.Seq.{drop-length}
use Rattle.std.proofs.lemmas.Bool.{cases_lt}
use Rattle.bpf_insn.specs.declared.instruction.Insn.{Insn}
use Rattle.bpf_insn.specs.declared.instruction.Insn.TheVariants.{Jump, ReturnConstant}
use Rattle.bpf_verify.specs.Accepted.{EndsInReturn, IsFaultless, IsFaultlessBelow, word_fault}
use Rattle.bpf_verify.specs.Path.{IsAt}
use Rattle.bpf_verify.proofs.PlaceLemmas.{IsAt-unique}
use Rattle.filter_emit.specs.declared.fixup.Fixup.{Fixup}
use Rattle.filter_emit.specs.Fixups.{AreOpen, IsAppended, IsBound, IsFilled, IsFixup, IsLonger, LabelValue, LeadsTo, StandsAt}
use Rattle.filter_emit.specs.Pieces.{HasFarJumpsOnly, IsFarFrom, IsJump, IsPiece, Meaning, Writes}
use Rattle.filter_emit.specs.Runs.{IsPushed}
use Rattle.filter_emit.proofs.BindLemmas.{appended_at, appended_long, appended_longer, at_within, each_longer, far_bound, kept_at, open_bound, open_longer}
use Rattle.filter_emit.proofs.PushedLemmas.{pushed_at}
use Rattle.filter_emit.proofs.WritesLemmas.{all_no, all_yes, bindable_no}

-- the program means this between its beginning and its two returns, and has a JA only where the last place of its labels is far
pub record IsFinished (means : Meaning) (weight accept reject yes_by no_by : ℕ) (program : List ℕ) : Type 0 where
  pub at_yes : List ℕ
  pub at_no : List ℕ
  pub accepts : IsPushed (ReturnConstant accept) at_no at_yes
  pub rejects : IsPushed (ReturnConstant reject) [] at_no
  pub meant : means at_yes at_no program
  pub not_empty : 0 < length program
  pub within : length program ≤ weight + 2
  pub faultless : IsFaultlessBelow program (length program)
  pub ends_in_return : EndsInReturn program
  pub far_jumps : (last : ℕ) → yes_by ≤ last → no_by ≤ last → (pc k : ℕ) → IsAt program pc (Jump k) → IsFarFrom last 0 pc

-- the no label can still be bound behind the first return
pub bindable_last : {means : Meaning} {w : ℕ} {insn : Insn} {c0 c1 c2 c3 : List ℕ} {yes_old yes_new no_old no_new : LabelValue} → yes_old.fixups ≡ [] → no_old.fixups ≡ []
    → Writes means w c0 c1 yes_old yes_new no_old no_new → IsBound yes_new.fixups c1 c2 → IsAppended insn c2 c3 → AreOpen no_new.fixups no_new.by c3 × (length c3 ≡ length c1 + 1)
bindable_last {insn = insn} {c1 = c1} {c2} {c3} {no_new = no_new} yes_empty no_empty h binds does =
    (open_longer c2 c3 (appended_longer insn c2 c3 does) no_new.fixups no_new.by (open_bound _ c1 c2 binds no_new.fixups no_new.by (bindable_no no_empty h)), appended_long insn c2 c3 does ∙ ap (λ n. n + 1) binds.same_length)

-- ---- the places of the finished program

return_faultless : (program : List ℕ) (pc k : ℕ) → IsAt program pc (ReturnConstant k) → IsFaultless program pc
return_faultless program pc k at = (at.0, at.1, ap (word_fault (length program) pc) at.2)

module _ (means : Meaning) (w accept reject by_yes by_no : ℕ) (c1 c2 c3 c4 c5 : List ℕ) (ys ns : List Fixup) (piece : IsPiece means w 0 (length c1) c1 ys ns) (sparing : (last : ℕ) → by_yes ≤ last → by_no ≤ last → HasFarJumpsOnly last 0 (length c1) c1)
    (binds_yes : IsBound ys c1 c2) (accepts : IsAppended (ReturnConstant accept) c2 c3) (binds_no : IsBound ns c3 c4) (rejects : IsAppended (ReturnConstant reject) c4 c5) where
  abbrev end : ℕ
  end = length c1

  third_long : length c3 ≡ end + 1
  third_long = appended_long (ReturnConstant accept) c2 c3 accepts ∙ ap (λ n. n + 1) binds_yes.same_length

  long : length c5 ≡ end + 2
  long = omega (arith, appended_long (ReturnConstant reject) c4 c5 rejects, binds_no.same_length, third_long)

  second_third : IsLonger c2 c3
  second_third = appended_longer (ReturnConstant accept) c2 c3 accepts

  fourth_fifth : IsLonger c4 c5
  fourth_fifth = appended_longer (ReturnConstant reject) c4 c5 rejects

  program_stands : (pc : ℕ) → 0 ≤ pc → pc < end → StandsAt (λ place side. IsFixup ys place side ⊎ IsFixup ns place side) c1 c5 pc
  program_stands pc low high insn at =
      let near = binds_yes.stands pc low high insn at in
      let far = binds_no.stands pc low (let l = third_long in omega arith) near.0 (second_third pc near.0 near.1) in (
        far.0,
        fourth_fifth pc far.0 far.1,
        far.2 ∙ near.2,
        λ side. ⊎_elim (λ waits. inl (inr waits))
            (λ same. ⊎_elim (λ waits. inl (inl waits)) (λ same'. inr (same ∙ same')) (near.3 side)) (far.3 side),
      )

  yes_leads : (fixup : Fixup) → Contains ys fixup → LeadsTo c5 fixup.place fixup.side end
  yes_leads fixup is =
      let t = binds_yes.filled fixup is in let high = (piece.yes_within fixup is).1 in
      let far = binds_no.stands fixup.place (omega arith) (let l = third_long in omega arith) t.0 (second_third fixup.place t.0 t.2) in
      ⊎_elim (λ waits. absurd (piece.apart fixup is waits)) (λ same. (far.0, t.1, fourth_fifth fixup.place far.0 far.1, same ∙ t.3, t.4)) (far.3 fixup.side)

  no_leads : (fixup : Fixup) → Contains ns fixup → LeadsTo c5 fixup.place fixup.side (end + 1)
  no_leads fixup is = let t = binds_no.filled fixup is in (t.0, t.1, fourth_fifth fixup.place t.0 t.2, t.3, sym third_long ∙ t.4)

  program_filled : IsFilled 0 end c1 ys ns end (end + 1) c5
  program_filled = record { stands = program_stands; yes_filled = yes_leads; no_filled = no_leads }

  at_accept : IsAt c5 end (ReturnConstant accept)
  at_accept = fourth_fifth end (ReturnConstant accept) (kept_at ns c3 c4 binds_no end (ReturnConstant accept) (λ side waits. let h = (piece.no_within _ waits).1 in absurd (omega arith))
      (subst (λ n. IsAt c3 n (ReturnConstant accept)) binds_yes.same_length (appended_at (ReturnConstant accept) c2 c3 accepts)))

  at_reject : IsAt c5 (end + 1) (ReturnConstant reject)
  at_reject = subst (λ n. IsAt c5 n (ReturnConstant reject)) (binds_no.same_length ∙ third_long) (appended_at (ReturnConstant reject) c4 c5 rejects)

  nothing_left : drop (end + 1 + 1) c5 ≡ []
  nothing_left = ap (λ n. drop n c5) (let e : end + 1 + 1 ≡ length c5 = omega (arith, long) in e) ∙ drop-length c5

  program_faultless : (pc : ℕ) → pc < length c5 → IsFaultless c5 pc
  program_faultless pc low = ⊎_elim
      (λ before. piece.sound c5 end (end + 1) (omega arith) (omega arith) (omega (arith, long)) (omega (arith, long)) program_filled pc (omega arith) before)
      (λ behind. ⊎_elim
      (λ first. let e : end ≡ pc = omega arith in subst (IsFaultless c5) e (return_faultless c5 end accept at_accept))
      (λ second. let e : end + 1 ≡ pc = omega (arith, long) in subst (IsFaultless c5) e (return_faultless c5 (end + 1) reject at_reject)) (cases_lt pc (end + 1))) (cases_lt pc end)

  no_jump_at : (pc k m : ℕ) → IsAt c5 pc (Jump k) → IsAt c5 pc (ReturnConstant m) → ⊥
  no_jump_at pc k m at is = let e = IsAt-unique c5 pc (Jump k) (ReturnConstant m) at is in cc

  program_far_jumps : (last : ℕ) → by_yes ≤ last → by_no ≤ last → (pc k : ℕ) → IsAt c5 pc (Jump k) → IsFarFrom last 0 pc
  program_far_jumps last low_yes low_no pc k at =
      let low = at_within c5 pc (Jump k) at in let so : ℕ → Insn → Type 0 = λ q insn. IsJump insn → IsFarFrom last 0 q in ⊎_elim
      (λ before.
      let kept = each_longer so c4 c5 fourth_fifth 0 end (far_bound ns c3 c4 binds_no last 0 end (each_longer so c2 c3 second_third 0 end (far_bound ys c1 c2 binds_yes last 0 end (sparing last low_yes low_no)))) in
      let i = kept pc (omega arith) before in i.2 (subst IsJump (IsAt-unique c5 pc (Jump k) i.0 at i.1) tt))
      (λ behind. absurd (⊎_elim
      (λ first. no_jump_at pc k accept at (let e : end ≡ pc = omega arith in subst (λ n. IsAt c5 n (ReturnConstant accept)) e at_accept))
      (λ second. no_jump_at pc k reject at (let e : end + 1 ≡ pc = omega (arith, long) in subst (λ n. IsAt c5 n (ReturnConstant reject)) e at_reject)) (cases_lt pc (end + 1)))) (cases_lt pc end)

  is_finished : IsFinished means w accept reject by_yes by_no c5
  is_finished = record {
    at_yes = drop end c5;
    at_no = drop (end + 1) c5;
    accepts = pushed_at c5 end (ReturnConstant accept) at_accept;
    rejects = subst (λ l. IsPushed (ReturnConstant reject) l (drop (end + 1) c5)) nothing_left (pushed_at c5 (end + 1) (ReturnConstant reject) at_reject);
    meant = piece.meant c5 end (end + 1) (omega arith) (omega arith) (omega (arith, long)) (omega (arith, long)) program_filled;
    not_empty = omega (arith, long);
    within = let l = piece.light in omega (arith, long);
    faultless = program_faultless;
    ends_in_return = (ReturnConstant reject, subst (λ n. IsAt c5 n (ReturnConstant reject)) (let e : end + 1 ≡ length c5 - 1 = omega (arith, long) in e) at_reject, tt);
    far_jumps = program_far_jumps;
  }

pub finished : {means : Meaning} {w accept reject : ℕ} {c1 c2 c3 c4 c5 : List ℕ} {yes_old yes_new no_old no_new : LabelValue} → yes_old.fixups ≡ [] → no_old.fixups ≡ []
    → Writes means w [] c1 yes_old yes_new no_old no_new → IsBound yes_new.fixups c1 c2 → IsAppended (ReturnConstant accept) c2 c3 → IsBound no_new.fixups c3 c4 → IsAppended (ReturnConstant reject) c4 c5
    → IsFinished means w accept reject yes_old.by no_old.by c5
finished {means} {w} {accept} {reject} {c1} {c2} {c3} {c4} {c5} {yes_old} {yes_new} {no_old} {no_new} yes_empty no_empty h binds_yes accepts binds_no rejects =
    is_finished means w accept reject yes_old.by no_old.by c1 c2 c3 c4 c5 h.ys h.ns h.piece h.far_jumps (subst (λ fixups. IsBound fixups c1 c2) (all_yes yes_empty h) binds_yes) accepts
    (subst (λ fixups. IsBound fixups c3 c4) (all_no no_empty h) binds_no) rejects

-- the same, where the code that was begun with is known to be empty
pub finished_from : {means : Meaning} {w accept reject : ℕ} {c0 c1 c2 c3 c4 c5 : List ℕ} {yes_old yes_new no_old no_new : LabelValue} → c0 ≡ [] → yes_old.fixups ≡ [] → no_old.fixups ≡ []
    → Writes means w c0 c1 yes_old yes_new no_old no_new → IsBound yes_new.fixups c1 c2 → IsAppended (ReturnConstant accept) c2 c3 → IsBound no_new.fixups c3 c4 → IsAppended (ReturnConstant reject) c4 c5
    → IsFinished means w accept reject yes_old.by no_old.by c5
finished_from {means} {w} {c1 = c1} {yes_old = yes_old} {yes_new} {no_old} {no_new} begins yes_empty no_empty h =
    finished yes_empty no_empty (subst (λ c. Writes means w c c1 yes_old yes_new no_old no_new) begins h)
