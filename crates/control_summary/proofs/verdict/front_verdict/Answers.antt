use Rattle.std.proofs.Common.{◌∙◌, ap, sym}
use Rattle.control_summary.specs.Verdict.{first_three, verdict_at}
use Rattle.control_summary.proofs.WordLemmas.{named_alone, named_with_member, not_named}
use Rattle.control_summary.proofs.verdict.front_verdict.Goals as goal

pub returns-then-names_no_member : goal.returns-then-names_no_member
returns-then-names_no_member c =
    let word = c.first_word-name.ensures in
    sym (ap verdict_at word.first ∙ named_alone c.first_word-name.result.now word.words (sym c.names_no_member.ensures ∙ c.if-names_no_member.true))

pub returns-then-names_member : goal.returns-then-names_member
returns-then-names_member c =
    let word = c.first_word-name.ensures in
    c.three_words.ensures
    ∙ (ap first_three word.first
    ∙ sym (ap verdict_at word.first ∙ named_with_member c.first_word-name.result.now word.words (sym c.names_no_member.ensures ∙ c.if-names_no_member.false) (sym c.names_member.ensures ∙ c.if-names_member.true)))

pub returns-else-names_member : goal.returns-else-names_member
returns-else-names_member c =
    let word = c.first_word-name.ensures in
    sym (ap verdict_at word.first ∙ not_named c.first_word-name.result.now word.words (sym c.names_no_member.ensures ∙ c.if-names_no_member.false) (sym c.names_member.ensures ∙ c.if-names_member.false))
