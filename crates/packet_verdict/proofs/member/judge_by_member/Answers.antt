use Rattle.std.proofs.Common.{List, subst, sym, ℕ}
use Rattle.config_image.specs.Lookup.{IsProgramFound}
use Rattle.packet_verdict.proofs.VerdictLemmas.{filter_is_program, kept_alike}
use Rattle.packet_verdict.proofs.member.judge_by_member.Goals as goal

pub answer-answer-requires-clause-found : goal.answer-answer-requires-clause-found
answer-answer-requires-clause-found g c =
    let there = c.requires.member in let read = c.member_with_filter-filter in (
      there.1.filter,
      filter_is_program there.0 c.args.group c.args.index there.1 there.2.is_config there.3,
      subst (λ (words : List ℕ). IsProgramFound words there.1.filter read.result.1) (sym read.ensures.words_kept)
          (read.ensures.filter_found there.0 there.1 there.2 there.3),
    )

pub returns-clause-verdict : goal.returns-clause-verdict
returns-clause-verdict g c = λ config member begins has.
    let read = c.member_with_filter-filter in
    let found = subst (λ (words : List ℕ). IsProgramFound words member.filter read.result.1) (sym read.ensures.words_kept)
    (read.ensures.filter_found config member begins has) in
    kept_alike _ _ member _ _ _ _ c.kept.ensures (read.ensures.member_found config member begins has) (c.answer-answer.ensures.answer member.filter found)
