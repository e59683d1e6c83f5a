use Rattle.std.proofs.Common.{[], ap, arith, length, refl, ◌++◌, ◌∙◌, ◌∷◌}
use Rattle.read_section.specs.Operator.{OperatorValue}
use Rattle.command_line.proofs.AcceptedLemmas.{first_program, second_program}
use Rattle.command_query.proofs.FirstLemmas.{first_line, second_line}
use Rattle.command_query.proofs.TableLemmas.{second_row_free}
use Rattle.command_query.proofs.first_path.lines.Goals as goal

pub publish_second-requires-clause-free : goal.publish_second-requires-clause-free
publish_second-requires-clause-free c = let opened = c.in_ok-operator.ensures.opened in
    second_row_free c.run_current-at_first.new.operator (c.run_current-at_first.ensures.versions_kept.version_rows ∙ ap (λ (o : OperatorValue). o.view.version_rows) opened.opened)

pub returns : goal.returns
returns c =
    let opened = c.in_ok-operator.ensures.opened in let published = c.in_ok-publish_second.ensures.published in
    let one = ap (λ (o : OperatorValue). o.view.published) opened.opened in
    let two = published.published ∙ ap (λ l. l ++ published.config ∷ []) (c.run_current-at_first.ensures.versions_kept.published ∙ one) in
    let at_first = c.run_current-at_first.ensures.line first_program (opened.config, ([], one), opened.selects) in
    let at_second = c.run_current-at_second.ensures.line second_program (published.config, (_, published.published), published.selects) in
    let version_first = at_first.version in let count_first = ap length one in let version_second = at_second.version in let count_second = ap length two in
    let first = first_line c.run_current-at_first.result 0 first_program refl refl (omega arith) at_first.value at_first.steps at_first.kept in
    let second = second_line c.run_current-at_second.result 1 second_program refl refl (omega arith) at_second.value at_second.steps at_second.kept in
    rw (first, second) refl
