use Rattle.std.proofs.Common.{◌≡◌, ◌∙◌, ◌+◌, ◌-◌, ◌≤◌, ap, arith, refl, sym}
use Rattle.std.proofs.lemmas.Grind.{common_steps}
use Rattle.bpf_verify.proofs.PlaceLemmas.{length-program_at}
use Rattle.bpf_machine.specs.declared.execute.Next.{Next}
use Rattle.bpf_machine.specs.Meaning.{Run}
use Rattle.bpf_machine.specs.body.Next.{effect_of}
use Rattle.bpf_machine.proofs.ArrayLemmas.{running_begin, running_end, running_go_on, running_next, running_skip}
use Rattle.bpf_machine.proofs.run_copy.Goals as goal

pub running-init : goal.running-init
running-init g c = (refl, refl, refl, (let e : c.args.from ≤ c.args.from = omega arith in e), running_begin _ c.args.packet.now _ c.args.from c.requires.accepted)

pub running-preserved-in-GoOn : goal.running-preserved-in-GoOn
running-preserved-in-GoOn g c =
    let at = rw c.running.invariant.0 at (rw c.make_ready.ensures.words_kept at (rw c.word-word.ensures.words_kept at c.instruction-insn.ensures.instruction)) in let low = c.running.invariant.3 in let does = sym (c.step_apart-step.ensures.effect c.instruction-insn.result c.instruction-insn.ensures.decoded) ∙ ap (λ (n : Next). effect_of n c.step_apart-step.result.a c.step_apart-step.result.x c.step_apart-step.new.cells) c.in-GoOn.is in (
      c.word-word.ensures.words_kept ∙ (c.make_ready.ensures.words_kept ∙ c.running.invariant.0),
      c.word-word.ensures.rest_kept ∙ (c.make_ready.ensures.rest_kept ∙ c.running.invariant.1),
      c.step_apart-step.ensures.cells,
      omega arith,
      running_next _ c.args.packet.now _ _ _ _ _ _ _ (running_go_on _ c.args.packet.now c.requires.accepted (c.running.state.place - c.args.from) c.running.state.passed_over _ _ _ c.running.invariant.4 c.running.invariant.2 _ at c.instruction-insn.ensures.cell _ _ _ does) (let e : c.running.state.place - c.args.from + 1 ≡ c.running.state.place + 1 - c.args.from = omega arith in e) refl,
    )

pub overflow_add-state : goal.overflow_add-state
overflow_add-state g c = grind (arith, common_steps)

pub overflow_add-state-in-Skip : goal.overflow_add-state-in-Skip
overflow_add-state-in-Skip g c =
    let at = rw c.running.invariant.0 at (rw c.make_ready.ensures.words_kept at (rw c.word-word.ensures.words_kept at c.instruction-insn.ensures.instruction)) in let low = c.running.invariant.3 in let does = sym (c.step_apart-step.ensures.effect c.instruction-insn.result c.instruction-insn.ensures.decoded) ∙ ap (λ (n : Next). effect_of n c.step_apart-step.result.a c.step_apart-step.result.x c.step_apart-step.new.cells) c.in-Skip.is in
    let size = length-program_at (g.W.Words.words c.args.words.now) c.args.from c.args.len c.requires.within in
    let next = running_skip _ c.args.packet.now c.requires.accepted (c.running.state.place - c.args.from) c.running.state.passed_over _ _ _ c.running.invariant.4 c.running.invariant.2 _ at c.instruction-insn.ensures.cell _ _ _ _ does in
    let inside = next.safe.inside in let count = c.count-count.ensures in let fits = c.count-count.type_inv in let within = c.requires.within in omega arith

pub running-preserved-in-Skip : goal.running-preserved-in-Skip
running-preserved-in-Skip g c =
    let at = rw c.running.invariant.0 at (rw c.make_ready.ensures.words_kept at (rw c.word-word.ensures.words_kept at c.instruction-insn.ensures.instruction)) in let low = c.running.invariant.3 in let does = sym (c.step_apart-step.ensures.effect c.instruction-insn.result c.instruction-insn.ensures.decoded) ∙ ap (λ (n : Next). effect_of n c.step_apart-step.result.a c.step_apart-step.result.x c.step_apart-step.new.cells) c.in-Skip.is in (
      c.word-word.ensures.words_kept ∙ (c.make_ready.ensures.words_kept ∙ c.running.invariant.0),
      c.word-word.ensures.rest_kept ∙ (c.make_ready.ensures.rest_kept ∙ c.running.invariant.1),
      c.step_apart-step.ensures.cells,
      omega arith,
      running_next _ c.args.packet.now _ _ _ _ _ _ _ (running_skip _ c.args.packet.now c.requires.accepted (c.running.state.place - c.args.from) c.running.state.passed_over _ _ _ c.running.invariant.4 c.running.invariant.2 _ at c.instruction-insn.ensures.cell _ _ _ _ does) (let e : c.running.state.place - c.args.from + 1 + c.in-Skip.count ≡ c.running.state.place + 1 + c.in-Skip.count - c.args.from = omega arith in e) refl,
    )

pub returns-in-End-clause-value : goal.returns-in-End-clause-value
returns-in-End-clause-value g c =
    let at = rw c.running.invariant.0 at (rw c.make_ready.ensures.words_kept at (rw c.word-word.ensures.words_kept at c.instruction-insn.ensures.instruction)) in let low = c.running.invariant.3 in let does = sym (c.step_apart-step.ensures.effect c.instruction-insn.result c.instruction-insn.ensures.decoded) ∙ ap (λ (n : Next). effect_of n c.step_apart-step.result.a c.step_apart-step.result.x c.step_apart-step.new.cells) c.in-End.is in
    ap (λ (run : Run). run.0) (running_end _ c.args.packet.now c.requires.accepted (c.running.state.place - c.args.from) c.running.state.passed_over _ _ _ c.running.invariant.4 c.running.invariant.2 _ at c.instruction-insn.ensures.cell _ does)

pub returns-in-End-clause-steps : goal.returns-in-End-clause-steps
returns-in-End-clause-steps g c =
    let at = rw c.running.invariant.0 at (rw c.make_ready.ensures.words_kept at (rw c.word-word.ensures.words_kept at c.instruction-insn.ensures.instruction)) in let low = c.running.invariant.3 in let does = sym (c.step_apart-step.ensures.effect c.instruction-insn.result c.instruction-insn.ensures.decoded) ∙ ap (λ (n : Next). effect_of n c.step_apart-step.result.a c.step_apart-step.result.x c.step_apart-step.new.cells) c.in-End.is in
    (let e : c.running.state.place + 1 - c.args.from - c.running.state.passed_over ≡ c.running.state.place - c.args.from + 1 - c.running.state.passed_over = omega arith in e)
    ∙ sym (ap (λ (run : Run). run.1) (running_end _ c.args.packet.now c.requires.accepted (c.running.state.place - c.args.from) c.running.state.passed_over _ _ _ c.running.invariant.4 c.running.invariant.2 _ at c.instruction-insn.ensures.cell _ does))

pub returns-in-End-clause-within_length : goal.returns-in-End-clause-within_length
returns-in-End-clause-within_length g c = grind (arith, common_steps)
