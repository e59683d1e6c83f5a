use Rattle.std.proofs.Common.{◌∙◌, arith, refl, replicate, ℕ, rules}
use Rattle.std.proofs.lemmas.Grind.{common_steps}
use Rattle.std.proofs.lemmas.List.{get_or-replicate, length-replicate}
use Rattle.bpf_verify.specs.Path.{program_at}
use Rattle.bpf_verify.proofs.CellLemmas.{length-joined_at}
use Rattle.bpf_verify.proofs.PlaceLemmas.{length-program_at}
use Rattle.bpf_verify.proofs.PassLemmas.{accepted_at_end, checked_branch, checked_return, passed_checked, passed_none, passed_plain}
use Rattle.bpf_verify.proofs.check_places.Goals as goal
use Rattle.bpf_verify.proofs.check_places.Goals.{in-Some, in_default+in-Some-branch_of+in_ok-check_branch, in_default+in_default-branch_of+else-returns_constant+in_ok-checked, in_default+in_default-branch_of+then-returns_constant}

pub loop-pc-init : goal.loop-pc-init
loop-pc-init g c = (
  refl,
  refl,
  rw (length-replicate {A = ℕ} g.row.N 65535) c.requires.a_set_more,
  passed_none (program_at (g.W.Words.words c.args.words.now) c.args.from c.args.len) (replicate g.row.N 65535) _ (rw (length-replicate {A = ℕ} g.row.N 65535) (omega arith))
      (λ to inside. get_or-replicate g.row.N to 65535 0 (rw (← length-replicate {A = ℕ} g.row.N 65535) inside)),
)

pub loop-pc-preserved : goal.loop-pc-preserved
loop-pc-preserved g c =
    let program = program_at (g.W.Words.words c.args.words.now) c.args.from c.args.len in
    let size = length-program_at (g.W.Words.words c.args.words.now) c.args.from c.args.len c.requires.within in
    let at = rw c.loop-pc.invariant.0 at c.word_at-word.ensures.value in
    let a_set_more = c.loop-pc.invariant.2 in
    let words = c.word_at-word.ensures.words_kept ∙ c.loop-pc.invariant.0 in
    let rest = c.word_at-word.ensures.rest_kept ∙ c.loop-pc.invariant.1 in
    elim c.match-after_plain.branch [
      | in-Some w ↦ (
        words,
        rest,
        rw w.stored-is a_set_more,
        rw (w.carried-is, w.stored-is, w.unstored-is, w.returns-is) (passed_plain program c.loop-pc.pc c.loop-pc.stored c.loop-pc.carried c.loop-pc.unstored _ _ c.loop-pc.invariant.3 at (rw size a_set_more) w.in-Some.after w.in-Some.ensures),
      )
      | in_default+in-Some-branch_of+in_ok-check_branch w ↦
          let joins = w.in_ok-check_branch.ensures.joins refl in
          let met = checked_branch c.args.len c.loop-pc.pc c.word_at-word.result _ c.loop-pc.unstored c.loop-pc.stored _ w.in-Some-branch_of.offsets w.in-Some-branch_of.ensures (w.in_ok-check_branch.ensures.faultless refl) joins in (
            words,
            rest,
            rw (w.stored-is, joins, length-joined_at) a_set_more,
            rw (w.carried-is, w.stored-is, w.unstored-is, w.returns-is) (passed_checked program c.loop-pc.pc c.loop-pc.stored c.loop-pc.carried c.loop-pc.unstored _ _ c.loop-pc.invariant.3 at (rw size a_set_more) _ _ _ (rw size met)),
          )
      | in_default+in_default-branch_of+then-returns_constant w ↦
          let met = checked_return c.args.len c.loop-pc.pc c.word_at-word.result _ c.loop-pc.unstored c.loop-pc.stored _ (w.returns_constant.ensures w.if-returns_constant.true) in (
            words,
            rest,
            rw w.stored-is a_set_more,
            rw (w.carried-is, w.stored-is, w.unstored-is, w.returns-is) (passed_checked program c.loop-pc.pc c.loop-pc.stored c.loop-pc.carried c.loop-pc.unstored _ _ c.loop-pc.invariant.3 at (rw size a_set_more) _ _ _ (rw size met)),
          )
      | in_default+in_default-branch_of+else-returns_constant+in_ok-checked w ↦
          let met = w.in_ok-checked.ensures.checked in (
            words,
            rest,
            rw (w.stored-is, met.joins, length-joined_at) a_set_more,
            rw (w.carried-is, w.stored-is, w.unstored-is, w.returns-is) (passed_checked program c.loop-pc.pc c.loop-pc.stored c.loop-pc.carried c.loop-pc.unstored _ _ c.loop-pc.invariant.3 at (rw size a_set_more) _ _ _ (rw size met)),
          )
    ]

pub returns-in-None-clause-accepted : goal.returns-in-None-clause-accepted
returns-in-None-clause-accepted g c =
    let size = length-program_at (g.W.Words.words c.args.words.now) c.args.from c.args.len c.requires.within in
    let passed = rw c.in-None.is at c.loop-pc.invariant.3 in
    accepted_at_end (program_at (g.W.Words.words c.args.words.now) c.args.from c.args.len) _ _ _ passed (omega arith) (omega arith) (omega arith) c.if-not-returns.false

pub returns_constant-requires : goal.returns_constant-requires
returns_constant-requires g c = search rules

pub returns-then-not-returns-clause-accepted : goal.returns-then-not-returns-clause-accepted
returns-then-not-returns-clause-accepted g c = search rules

pub returns-then-not-returns-clause-first_fault : goal.returns-then-not-returns-clause-first_fault
returns-then-not-returns-clause-first_fault g c = grind (arith, common_steps)

pub returns-in-Some-unstored-clause-accepted : goal.returns-in-Some-unstored-clause-accepted
returns-in-Some-unstored-clause-accepted g c = search rules

pub returns-in-Some-unstored-clause-first_fault : goal.returns-in-Some-unstored-clause-first_fault
returns-in-Some-unstored-clause-first_fault g c = grind (arith, common_steps)

pub returns-in-None-clause-first_fault : goal.returns-in-None-clause-first_fault
returns-in-None-clause-first_fault g c = search rules
