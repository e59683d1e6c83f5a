use Rattle.std.proofs.Common.{List, subst, sym, ℕ}
use Rattle.config_image.specs.Lookup.{IsProgramFound}
use Rattle.packet_verdict.proofs.VerdictLemmas.{chosen_alike, selector_is_program}
use Rattle.packet_verdict.proofs.member.choose.Goals as goal

pub answer-answer-requires-clause-found : goal.answer-answer-requires-clause-found
answer-answer-requires-clause-found g c =
    let there = c.requires.group in let read = c.selector_of-selector in (
      there.1.selector,
      selector_is_program there.0 c.args.group.now.index there.1 there.2.is_config there.3,
      subst (λ (words : List ℕ). IsProgramFound words there.1.selector read.result) (sym read.ensures.words_kept)
          (read.ensures.selector_found there.0 there.1 there.2 there.3),
    )

pub returns-clause-choice : goal.returns-clause-choice
returns-clause-choice g c = λ config at begins has.
    let read = c.selector_of-selector in
    let found = subst (λ (words : List ℕ). IsProgramFound words at.selector read.result) (sym read.ensures.words_kept)
    (read.ensures.selector_found config at begins has) in
    chosen_alike _ _ _ _ _ c.choice.ensures.choice (c.answer-answer.ensures.answer at.selector found)
