use Rattle.std.proofs.Common.{◌≡◌, ◌∙◌, List, map, refl, subst, sym, true, ℕ}
use Rattle.std.specs.List.{list_all}
use Rattle.std.specs.Prelude.{Contains}
use Rattle.command_explain.specs.Explanation.{Explains, IsExplanation, codes_explained, explanations}
use Rattle.command_explain.proofs.TableLemmas.{begins, code_of, explains_what_is_found, found_where_known, if_some, is_some_alike, known_where_found, row_of_found}
use Rattle.command_explain.proofs.explanation.Goals as goal

pub returns-clause-explained_exactly : goal.returns-clause-explained_exactly
returns-clause-explained_exactly c =
    let code = c.args.code.now in
    let known : map code_of explanations ≡ codes_explained = refl in
    let alike = is_some_alike c.text_of.result _ c.text_of.ensures in (
      λ found. subst (λ (xs : List (List ℕ)). Contains xs code) known (known_where_found explanations code (sym alike ∙ found)),
      λ named. alike ∙ found_where_known explanations code (subst (λ (xs : List (List ℕ)). Contains xs code) (sym known) named),
    )

pub returns-clause-explanation : goal.returns-clause-explanation
returns-clause-explanation c =
    if_some (IsExplanation c.args.code.now) c.text_of.result _ c.text_of.ensures (row_of_found explanations c.args.code.now)

pub returns-clause-names_code : goal.returns-clause-names_code
returns-clause-names_code c =
    let all : list_all begins explanations ≡ true = refl in
    if_some (λ text. Explains text c.args.code.now) c.text_of.result _ c.text_of.ensures
    (λ text found. explains_what_is_found explanations c.args.code.now text all found)
