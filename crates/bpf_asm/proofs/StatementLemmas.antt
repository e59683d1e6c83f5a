-- Statements and lines: what is read of a list of tokens is what is spelled there.
use Rattle.std.proofs.Common.{◌≡◌, ◌∙◌, ◌++◌, List, None, Option, Some, [], ap, codes, refl, subst, sym, ◌∷◌, ℕ}
use Rattle.std.specs.Option.{option_map}
use Rattle.std.proofs.lemmas.List.{append-nil}
use Rattle.bpf_insn.specs.declared.instruction.Insn.{Insn}
use Rattle.bpf_insn.specs.declared.instruction.Test.{Test}
use Rattle.bpf_asm.proofs.FormLemmas.{after_mark_is, bind, by_name, form_is, form_tokens, nothing_found}
use Rattle.bpf_asm.proofs.InsnLemmas.{insn_is, operand_is, test_is}
use Rattle.bpf_asm.specs.body.Reading.{Form, absolute_form, after_mark, at_end, branch_behind, branch_in, branch_or, cell_form, constant_form, far_of, form_in, header_form, indexed_form, insn_in, label_or, line, line_in, name_form, near_in, nothing, operand_of, rest_in, skip_form, statement_in, test_of, unbranched, unbranched_in}
use Rattle.bpf_asm.specs.Statement.{Line, SpellsParts, SpellsRest, SpellsStatement, Statement, Target, branch, far_target, goes_to, jump, near_target, operand, plain, skips, test_name}
use Rattle.bpf_asm.specs.Token.{Token, mark, number, stray, word}

far_is : (form : Form) (found : Target) → far_of form ≡ Some found → form_tokens form ≡ far_target found
unfolding far_of
far_is nothing found is = nothing_found found is
far_is (absolute_form k) found is = nothing_found found is
far_is (indexed_form k) found is = nothing_found found is
far_is (constant_form k) found is = nothing_found found is
far_is (cell_form k) found is = nothing_found found is
far_is (header_form k) found is = nothing_found found is
far_is (skip_form k) found is = let same : skips k ≡ found = cc in ap far_target same
far_is (name_form name) found is = let same : goes_to name ≡ found = cc in ap far_target same

near_is : (tokens : List Token) (found : Target × List Token) → near_in tokens ≡ Some found → tokens ≡ near_target found.0 ∷ found.1
unfolding near_in
near_is [] found is = nothing_found found is
near_is (mark b ∷ tokens) found is = nothing_found found is
near_is (stray ∷ tokens) found is = nothing_found found is
near_is (number k ∷ tokens) found is = let same : (skips k, tokens) ≡ found = cc in ap (λ it. near_target it.0 ∷ it.1) same
near_is (word name ∷ tokens) found is = let same : (goes_to name, tokens) ≡ found = cc in ap (λ it. near_target it.0 ∷ it.1) same

-- what is at its end has no more tokens
ended : {A : Type 0} (tokens : List Token) (own found : A) → at_end tokens own ≡ Some found → (tokens ≡ []) × (own ≡ found)
ended [] own found is = (refl, cc)
ended (token ∷ tokens) own found is = nothing_found found is

module _ (name : List ℕ) (test : Test) (tokens : List Token) (found : Statement) where
  branch_is : test_of name ≡ Some test → branch_in test tokens ≡ Some found → SpellsStatement (word name ∷ tokens) found
  unfolding branch_in branch_behind
  branch_is named is =
      bind (form_in tokens) _ found is (λ form at_form is_1.
      bind (operand_of form.0) _ found is_1 (λ right at_right is_2.
      bind (after_mark 44 form.1) _ found is_2 (λ true_at comma is_3.
      bind (near_in true_at) _ found is_3 (λ on_true at_true is_4.
      bind (after_mark 44 on_true.1) _ found is_4 (λ false_at second is_5.
      bind (near_in false_at) _ found is_5 (λ on_false at_false is_6.
      let last = ended on_false.1 (branch test right on_true.0 on_false.0) found is_6 in
      subst (SpellsStatement (word name ∷ tokens)) last.1 (
      ap (λ it. word it ∷ tokens) (test_is name test named)
      ∙ ap (λ left. word (test_name test) ∷ left) (form_is tokens form at_form)
      ∙ ap (λ left. word (test_name test) ∷ left ++ form.1) (operand_is form.0 right at_right)
      ∙ ap (λ left. word (test_name test) ∷ operand right ++ left) (after_mark_is 44 form.1 true_at comma)
      ∙ ap (λ left. word (test_name test) ∷ operand right ++ mark 44 ∷ left) (near_is true_at on_true at_true)
      ∙ ap (λ left. word (test_name test) ∷ operand right ++ mark 44 ∷ near_target on_true.0 ∷ left) (after_mark_is 44 on_true.1 false_at second)
      ∙ ap (λ left. word (test_name test) ∷ operand right ++ mark 44 ∷ near_target on_true.0 ∷ mark 44 ∷ left) (near_is false_at on_false at_false)
      ∙ ap (λ left. word (test_name test) ∷ operand right ++ mark 44 ∷ near_target on_true.0 ∷ mark 44 ∷ near_target on_false.0 ∷ left) last.0
      )))))))

unbranched_is : (name : List ℕ) (form : Form) (found : Statement) → unbranched name form ≡ Some found → SpellsStatement (word name ∷ form_tokens form) found
unfolding unbranched
unbranched_is name form found is =
    by_name name (codes "ja") (option_map jump (far_of form)) (option_map plain (insn_in name form)) found (λ same here. by_target same (far_of form) refl here) (λ here. by_insn (insn_in name form) refl here) is where
      by_target : name ≡ codes "ja" → (target : Option Target) → far_of form ≡ target → option_map jump target ≡ Some found → SpellsStatement (word name ∷ form_tokens form) found
      by_target same None no_target here = nothing_found found here
      by_target same (Some target) a_target here =
          let it : jump target ≡ found = cc in
          subst (SpellsStatement (word name ∷ form_tokens form)) it (ap (λ mnemonic. word mnemonic ∷ form_tokens form) same ∙ ap (λ rest. word (codes "ja") ∷ rest) (far_is form target a_target))

      by_insn : (insn : Option Insn) → insn_in name form ≡ insn → option_map plain insn ≡ Some found → SpellsStatement (word name ∷ form_tokens form) found
      by_insn None no_insn here = nothing_found found here
      by_insn (Some insn) an_insn here =
          let it : plain insn ≡ found = cc in
          subst (SpellsStatement (word name ∷ form_tokens form)) it (insn_is name form insn an_insn)

unbranched_in_is : (name : List ℕ) (tokens : List Token) (found : Statement) → unbranched_in name tokens ≡ Some found → SpellsStatement (word name ∷ tokens) found
unfolding unbranched_in
unbranched_in_is name tokens found is =
    bind (form_in tokens) _ found is (λ form at_form is_1.
    bind (at_end form.1 form.0) _ found is_1 (λ own at_the_end here.
    let last = ended form.1 form.0 own at_the_end in
    let stands = form_is tokens form at_form ∙ ap (λ left. form_tokens form.0 ++ left) last.0 ∙ append-nil (form_tokens form.0) ∙ ap form_tokens last.1 in
    subst (λ left. SpellsStatement (word name ∷ left) found) (sym stands) (unbranched_is name own found here)))

statement_by : (name : List ℕ) (tokens : List Token) (found : Statement) (test : Option Test) → test_of name ≡ test → branch_or name tokens test ≡ Some found → SpellsStatement (word name ∷ tokens) found
statement_by name tokens found None no_test is = unbranched_in_is name tokens found is
statement_by name tokens found (Some test) a_test is = branch_is name test tokens found a_test is

pub statement_is : (name : List ℕ) (tokens : List Token) (found : Statement) → statement_in name tokens ≡ Some found → SpellsStatement (word name ∷ tokens) found
unfolding statement_in
statement_is name tokens found is = statement_by name tokens found (test_of name) refl is

-- ---- lines

rest_is : (tokens : List Token) (found : Option Statement) → rest_in tokens ≡ Some found → SpellsRest tokens found
unfolding rest_in
rest_is [] found is = let same : None ≡ found = cc in subst (SpellsRest []) same refl
rest_is (number n ∷ tokens) found is = nothing_found found is
rest_is (mark b ∷ tokens) found is = nothing_found found is
rest_is (stray ∷ tokens) found is = nothing_found found is
rest_is (word name ∷ tokens) found is = by_statement (statement_in name tokens) refl is where
  by_statement : (statement : Option Statement) → statement_in name tokens ≡ statement → option_map (λ it. Some it) statement ≡ Some found → SpellsRest (word name ∷ tokens) found
  by_statement None no_statement here = nothing_found found here
  by_statement (Some statement) a_statement here =
      let same : Some statement ≡ found = cc in subst (SpellsRest (word name ∷ tokens)) same (statement_is name tokens statement a_statement)

label_by : (name : List ℕ) (tokens : List Token) (found : Line) (behind : Option (List Token)) → after_mark 58 tokens ≡ behind → label_or name tokens behind ≡ Some found → SpellsParts (word name ∷ tokens) found.label found.statement
label_by name tokens found None no_colon is = by_statement (statement_in name tokens) refl is where
  by_statement : (statement : Option Statement) → statement_in name tokens ≡ statement → option_map (λ it. line None (Some it)) statement ≡ Some found → SpellsParts (word name ∷ tokens) found.label found.statement
  by_statement None no_statement here = nothing_found found here
  by_statement (Some statement) a_statement here =
      let same : line None (Some statement) ≡ found = cc in
      subst (λ it. SpellsParts (word name ∷ tokens) it.label it.statement) same (statement_is name tokens statement a_statement)
label_by name tokens found (Some behind) a_colon is = by_rest (rest_in behind) refl is where
  by_rest : (rest : Option (Option Statement)) → rest_in behind ≡ rest → option_map (λ it. line (Some name) it) rest ≡ Some found → SpellsParts (word name ∷ tokens) found.label found.statement
  by_rest None no_rest here = nothing_found found here
  by_rest (Some rest) a_rest here =
      let same : line (Some name) rest ≡ found = cc in
      subst (λ it. SpellsParts (word name ∷ tokens) it.label it.statement) same (behind, ap (λ left. word name ∷ left) (after_mark_is 58 tokens behind a_colon), rest_is behind rest a_rest)

pub line_is : (tokens : List Token) (found : Line) → line_in tokens ≡ Some found → SpellsParts tokens found.label found.statement
unfolding line_in
line_is [] found is = let same : line None None ≡ found = cc in subst (λ it. SpellsParts [] it.label it.statement) same refl
line_is (number n ∷ tokens) found is = nothing_found found is
line_is (mark b ∷ tokens) found is = nothing_found found is
line_is (stray ∷ tokens) found is = nothing_found found is
line_is (word name ∷ tokens) found is = label_by name tokens found (after_mark 58 tokens) refl is
