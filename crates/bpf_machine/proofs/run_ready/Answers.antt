use Rattle.std.proofs.Common.{◌≡◌, ◌∙◌, ◌+◌, ◌-◌, ap, arith, inr, refl, sym}
use Rattle.std.proofs.lemmas.Grind.{common_steps}
use Rattle.bpf_verify.proofs.PlaceLemmas.{length-program_at}
use Rattle.bpf_machine.specs.Meaning.{Run}
use Rattle.bpf_machine.proofs.ArrayLemmas.{running_end, running_go_on, running_next, running_skip}
use Rattle.bpf_machine.proofs.run_ready.Goals as goal

pub overflow_add-number-in-Skip : goal.overflow_add-number-in-Skip
overflow_add-number-in-Skip g c =
    let at = rw c.ready.invariant.0 at (rw c.ready_word-word.ensures.words_kept at c.instruction-insn.ensures.instruction) in let low = c.ready.invariant.3 in
    let size = length-program_at (g.W.Words.words c.args.words.now) c.args.from c.args.len c.requires.within in
    let next = running_skip _ c.args.packet.now c.requires.accepted (c.ready.number - c.args.ready.shift - c.args.from) c.ready.passed_over _ _ _ c.ready.invariant.4 c.ready.invariant.2 _ at c.instruction-insn.ensures.cell _ _ _ _ (sym c.in-Skip.ensures.effect) in
    let inside = next.safe.inside in let room = c.requires.room in let within = c.requires.within in omega arith

pub ready-preserved-in-GoOn : goal.ready-preserved-in-GoOn
ready-preserved-in-GoOn g c =
    let at = rw c.ready.invariant.0 at (rw c.ready_word-word.ensures.words_kept at c.instruction-insn.ensures.instruction) in let low = c.ready.invariant.3 in
    let from = c.ready_word-word.ensures.ready_from in let shift = c.ready_word-word.ensures.shift in let ahead = c.ready.invariant.6 in let begun = c.ready.invariant.8 in (
      c.ready_word-word.ensures.words_kept ∙ c.ready.invariant.0,
      c.ready_word-word.ensures.rest_kept ∙ c.ready.invariant.1,
      c.execute.ensures.cells,
      omega arith,
      running_next _ c.args.packet.now _ _ _ _ _ _ _ (running_go_on _ c.args.packet.now c.requires.accepted (c.ready.number - c.args.ready.shift - c.args.from) c.ready.passed_over _ _ _ c.ready.invariant.4 c.ready.invariant.2 _ at c.instruction-insn.ensures.cell _ _ _ (sym c.in-GoOn.ensures.effect)) (let e : c.ready.number - c.args.ready.shift - c.args.from + 1 ≡ c.ready.number + 1 - c.args.ready.shift - c.args.from = omega arith in e) refl,
      shift ∙ c.ready.invariant.5,
      omega arith,
      inr (omega arith),
      omega arith,
      (λ yes. let to = c.ready.invariant.9 yes in let kept = c.ready_word-word.ensures.ready_to in omega arith),
      (let limit = c.ready.invariant.10 in let kept = c.ready_word-word.ensures.ready_to in omega arith),
    )

pub ready-preserved : goal.ready-preserved
ready-preserved g c =
    let at = rw c.ready.invariant.0 at (rw c.ready_word-word.ensures.words_kept at c.instruction-insn.ensures.instruction) in let low = c.ready.invariant.3 in
    let from = c.ready_word-word.ensures.ready_from in let shift = c.ready_word-word.ensures.shift in let ahead = c.ready.invariant.6 in let begun = c.ready.invariant.8 in (
      c.ready_word-word.ensures.words_kept ∙ c.ready.invariant.0,
      c.ready_word-word.ensures.rest_kept ∙ c.ready.invariant.1,
      c.execute.ensures.cells,
      omega arith,
      running_next _ c.args.packet.now _ _ _ _ _ _ _ (running_skip _ c.args.packet.now c.requires.accepted (c.ready.number - c.args.ready.shift - c.args.from) c.ready.passed_over _ _ _ c.ready.invariant.4 c.ready.invariant.2 _ at c.instruction-insn.ensures.cell _ _ _ _ (sym c.in-Skip.ensures.effect)) (let e : c.ready.number - c.args.ready.shift - c.args.from + 1 + c.in-Skip.count ≡ c.ready.number + 1 + c.in-Skip.count - c.args.ready.shift - c.args.from = omega arith in e) refl,
      shift ∙ c.ready.invariant.5,
      omega arith,
      inr (omega arith),
      omega arith,
      (λ yes. let to = c.ready.invariant.9 yes in let kept = c.ready_word-word.ensures.ready_to in omega arith),
      (let limit = c.ready.invariant.10 in let kept = c.ready_word-word.ensures.ready_to in omega arith),
    )

pub returns-in-End-clause-value : goal.returns-in-End-clause-value
returns-in-End-clause-value g c =
    let at = rw c.ready.invariant.0 at (rw c.ready_word-word.ensures.words_kept at c.instruction-insn.ensures.instruction) in let low = c.ready.invariant.3 in
    ap (λ (run : Run). run.0) (running_end _ c.args.packet.now c.requires.accepted (c.ready.number - c.args.ready.shift - c.args.from) c.ready.passed_over _ _ _ c.ready.invariant.4 c.ready.invariant.2 _ at c.instruction-insn.ensures.cell _ (sym c.in-End.ensures.effect))

pub returns-in-End-clause-steps : goal.returns-in-End-clause-steps
returns-in-End-clause-steps g c =
    let at = rw c.ready.invariant.0 at (rw c.ready_word-word.ensures.words_kept at c.instruction-insn.ensures.instruction) in let low = c.ready.invariant.3 in
    (let e : c.ready.number + 1 - c.args.ready.shift - c.args.from - c.ready.passed_over ≡ c.ready.number - c.args.ready.shift - c.args.from + 1 - c.ready.passed_over = omega arith in e)
    ∙ sym (ap (λ (run : Run). run.1) (running_end _ c.args.packet.now c.requires.accepted (c.ready.number - c.args.ready.shift - c.args.from) c.ready.passed_over _ _ _ c.ready.invariant.4 c.ready.invariant.2 _ at c.instruction-insn.ensures.cell _ (sym c.in-End.ensures.effect)))

pub is_ready-requires : goal.is_ready-requires
is_ready-requires g c = grind (arith, common_steps)

pub ready_word-word-requires : goal.ready_word-word-requires
ready_word-word-requires g c = grind (arith, common_steps)

pub instruction-insn-requires-clause-inside : goal.instruction-insn-requires-clause-inside
instruction-insn-requires-clause-inside g c = grind (arith, common_steps)

pub returns-in-End-clause-inside : goal.returns-in-End-clause-inside
returns-in-End-clause-inside g c = grind (arith, common_steps)

pub returns-clause-inside : goal.returns-clause-inside
returns-clause-inside g c = grind (arith, common_steps)
