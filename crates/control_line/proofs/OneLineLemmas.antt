-- No line asks for two things.
use Rattle.std.proofs.Common.{◌≡◌, ◌≢◌, ◌∙◌, ◌∷◌, ◌++◌, List, None, Option, Some, ap, arith, codes, decimal, false, inl, refl, subst, sym, ℕ}
use Rattle.std.specs.Prelude.{bytes_eq}
use Rattle.std.proofs.lemmas.Fmt.{decimal_injective}
use Rattle.std.proofs.lemmas.List.{append_cancel_left}
use Rattle.member_group.specs.Map.{key_of}
use Rattle.member_group.specs.declared.command.Command.{Command}
use Rattle.member_group.specs.declared.command.Command.TheVariants.{AddGroup, Join, Leave, LockFilter, RemoveGroup}
use Rattle.ipv4_fields.specs.declared.endpoint.Endpoint.{Endpoint}
use Rattle.ipv4_fields.specs.Cut.{Lacks}
use Rattle.ipv4_fields.specs.Endpoint.{endpoint_text}
use Rattle.control_line.specs.Request.{AsksForOneThing, Spells, change, read, show, spaced, sweep}
use Rattle.control_line.proofs.ReadingLemmas.{no_change, one_reading, reads_with_space}
use Rattle.filter_program.specs.Program.{Source, assembly, expression}
use Rattle.control_line.specs.body.Reading.{program_fields}
use Rattle.ipv4_fields.proofs.TextLemmas.{has_separator, lacks-endpoint, lacks-test, number_parts, one_cut, one_endpoint}
use Rattle.control_line.proofs.FormLemmas.{IsOfEndpoint, IsOfFilter, IsOfKey, IsOfNumber, IsOfSelector, Row, add_row, args_at, args_of, differ, differs, filter_command, filter_row, form_at, join_row, key_range, lacks-row, leave_row, lock_row, one_row, parts, remove_row, rest_of, row_of, selector_command, selector_row, word_at, word_of}
use Rattle.control_line.proofs.RequestLemmas.{at_word, keyed}

-- ---- fields

one_program : (p q : Option Source) → spaced (program_fields p) ≡ spaced (program_fields q) → p ≡ q
one_program None None same = refl
one_program None (Some (assembly text)) same = absurd (differ 0 same refl)
one_program None (Some (expression text)) same = absurd (differ 0 same refl)
one_program (Some (assembly text)) None same = absurd (differ 0 same refl)
one_program (Some (assembly text)) (Some (assembly other)) same = ap (λ t. Some (assembly t)) (append_cancel_left (codes "asm ") text other same)
one_program (Some (assembly text)) (Some (expression other)) same = absurd (differ 0 same refl)
one_program (Some (expression text)) None same = absurd (differ 0 same refl)
one_program (Some (expression text)) (Some (assembly other)) same = absurd (differ 0 same refl)
one_program (Some (expression text)) (Some (expression other)) same = ap (λ t. Some (expression t)) (append_cancel_left (codes "expr ") text other same)

-- ---- two commands of one line

module _ (line : List ℕ) (one other : Command Source) (spells : Spells line (change one)) (also : Spells line (change other)) where
  at_one : (word_of one ≡ word_of other) × (args_of one ≡ args_of other)
  at_one = at_word (word_of one) (args_of one) other (lacks-row (row_of one)) (subst (λ text. Spells text (change other)) (parts line one spells) also)

  same_keys : endpoint_text (key_of one) ≡ endpoint_text (key_of other) → key_of one ≡ key_of other
  same_keys = one_endpoint (key_of one) (key_of other) (key_range line one spells) (key_range line other also)

  -- the same key, and the same behind it
  same_args : word_of one ≢ codes "add" → word_of one ≢ codes "remove" → (key_of one ≡ key_of other) × (rest_of one ≡ rest_of other)
  same_args not_add not_remove =
      let cut = one_cut 32 (endpoint_text (key_of one)) (endpoint_text (key_of other)) (rest_of one) (rest_of other) (lacks-endpoint 32 (key_of one) (omega arith)) (lacks-endpoint 32 (key_of other) (omega arith))
      (sym (keyed one not_add not_remove) ∙ (at_one.1 ∙ keyed other (λ e. not_add (at_one.0 ∙ e)) (λ e. not_remove (at_one.0 ∙ e)))) in
      (same_keys cut.0, cut.1)

  -- a key alone
  two_of_key : (make : Endpoint → Command Source) → IsOfKey make one → IsOfKey make other → args_of one ≡ endpoint_text (key_of one) → args_of other ≡ endpoint_text (key_of other) → one ≡ other
  two_of_key make is also_is args other_args = is ∙ ap make (same_keys (sym args ∙ (at_one.1 ∙ other_args))) ∙ sym also_is

  module _ (not_add : word_of one ≢ codes "add") (not_remove : word_of one ≢ codes "remove") where
    -- a key and a member's number
    two_of_number : (make : Endpoint → ℕ → Command Source) → IsOfNumber make one → IsOfNumber make other → one ≡ other
    two_of_number make is also_is =
        let args = same_args not_add not_remove in
        let number = decimal_injective is.0 also_is.0 (omega (arith, is.1)) (omega (arith, also_is.1)) (sym is.2 ∙ (args.1 ∙ also_is.2)) in
        is.3 ∙ ap (λ key. make key is.0) args.0 ∙ ap (make (key_of other)) number ∙ sym also_is.3

    two_of_endpoint : (make : Endpoint → ℕ → Endpoint → Command Source) → IsOfEndpoint make one → IsOfEndpoint make other → one ≡ other
    two_of_endpoint make is also_is =
        let args = same_args not_add not_remove in
        let tail = number_parts 32 is.0 also_is.0 (endpoint_text is.2) (endpoint_text also_is.2) (inl (omega arith)) (omega (arith, is.1)) (omega (arith, also_is.1)) (sym (is.4 ∙ ap (λ t. decimal is.0 ++ 32 ∷ t) is.5) ∙ (args.1 ∙ (also_is.4 ∙ ap (λ t. decimal also_is.0 ++ 32 ∷ t) also_is.5))) in
        is.6
        ∙ ap (λ key. make key is.0 is.2) args.0
        ∙ ap (λ id. make (key_of other) id is.2) tail.0
        ∙ ap (make (key_of other) also_is.0) (one_endpoint is.2 also_is.2 is.3 also_is.3 tail.1)
        ∙ sym also_is.6

    two_of_selector : IsOfSelector one → IsOfSelector other → one ≡ other
    two_of_selector is also_is =
        let args = same_args not_add not_remove in
        is.3
        ∙ ap (λ key. selector_command key is.0) args.0
        ∙ ap (selector_command (key_of other)) (one_program is.0 also_is.0 (sym is.2 ∙ (args.1 ∙ also_is.2)))
        ∙ sym also_is.3

    two_of_filter : IsOfFilter one → IsOfFilter other → one ≡ other
    two_of_filter is also_is =
        let args = same_args not_add not_remove in
        let tail = number_parts 32 is.0 also_is.0 (spaced (program_fields is.2)) (spaced (program_fields also_is.2)) (inl (omega arith)) (omega (arith, is.1)) (omega (arith, also_is.1)) (sym (is.3 ∙ ap (λ t. decimal is.0 ++ 32 ∷ t) is.4) ∙ (args.1 ∙ (also_is.3 ∙ ap (λ t. decimal also_is.0 ++ 32 ∷ t) also_is.4))) in
        is.5
        ∙ ap (λ key. filter_command key is.0 is.2) args.0
        ∙ ap (λ id. filter_command (key_of other) id is.2) tail.0
        ∙ ap (filter_command (key_of other) also_is.0) (one_program is.2 also_is.2 tail.1)
        ∙ sym also_is.5

  -- the word of a row is neither of the two that a key alone follows
  apart : (row : Row) → word_of one ≡ word_at row → (bytes_eq (word_at row) (codes "add") ≡ false) → (bytes_eq (word_at row) (codes "remove") ≡ false) → (word_of one ≢ codes "add") × (word_of one ≢ codes "remove")
  apart row word not_add not_remove = (λ e. differs (word_at row) (codes "add") not_add (sym word ∙ e), λ e. differs (word_at row) (codes "remove") not_remove (sym word ∙ e))

  one_of_row : (row : Row) → row_of one ≡ row → row_of other ≡ row → one ≡ other
  one_of_row row is also_is = by_row row (ap word_at is) (ap word_at also_is) (ap (λ r. args_at r one) is) (ap (λ r. args_at r other) also_is)
    where
      by_row : (row : Row) → word_of one ≡ word_at row → word_of other ≡ word_at row → args_of one ≡ args_at row one → args_of other ≡ args_at row other → one ≡ other
      by_row add_row word also_word args other_args = two_of_key AddGroup (form_at add_row line one spells word) (form_at add_row line other also also_word) args other_args
      by_row remove_row word also_word args other_args = two_of_key RemoveGroup (form_at remove_row line one spells word) (form_at remove_row line other also also_word) args other_args
      by_row selector_row word also_word args other_args = let no = apart selector_row word refl refl in two_of_selector no.0 no.1 (form_at selector_row line one spells word) (form_at selector_row line other also also_word)
      by_row leave_row word also_word args other_args = let no = apart leave_row word refl refl in two_of_number no.0 no.1 Leave (form_at leave_row line one spells word) (form_at leave_row line other also also_word)
      by_row lock_row word also_word args other_args = let no = apart lock_row word refl refl in two_of_number no.0 no.1 LockFilter (form_at lock_row line one spells word) (form_at lock_row line other also also_word)
      by_row join_row word also_word args other_args = let no = apart join_row word refl refl in two_of_endpoint no.0 no.1 Join (form_at join_row line one spells word) (form_at join_row line other also also_word)
      by_row filter_row word also_word args other_args = let no = apart filter_row word refl refl in two_of_filter no.0 no.1 (form_at filter_row line one spells word) (form_at filter_row line other also also_word)

  pub one_command : one ≡ other
  one_command = one_of_row (row_of one) refl (one_row (row_of other) (row_of one) (sym at_one.0))

-- a line that asks for a change has a space
spaceless : (line : List ℕ) (command : Command Source) → Spells line (change command) → (word : List ℕ) → Lacks 32 word → line ≢ word
spaceless line command spells word lacks is = has_separator 32 (word_of command) (args_of command) (subst (Lacks 32) (sym is ∙ parts line command spells) lacks)

pub one_thing : AsksForOneThing
one_thing line (change one) (change other) spells also = ap change (one_command line one other spells also)
one_thing line (change one) show spells also = absurd (spaceless line one spells (codes "show") (lacks-test 32 (codes "show") refl) also)
one_thing line (change one) (read reading) spells also = absurd (no_change line one reading spells also)
one_thing line (change one) sweep spells also = absurd (spaceless line one spells (codes "sweep") (lacks-test 32 (codes "sweep") refl) also)
one_thing line show (change other) spells also = absurd (spaceless line other also (codes "show") (lacks-test 32 (codes "show") refl) spells)
one_thing line show show spells also = refl
one_thing line show (read reading) spells also = absurd (reads_with_space line reading also (subst (Lacks 32) (sym spells) (lacks-test 32 (codes "show") refl)))
one_thing line show sweep spells also = absurd (differ 1 (sym spells ∙ also) refl)
one_thing line (read reading) (change other) spells also = absurd (no_change line other reading also spells)
one_thing line (read reading) show spells also = absurd (reads_with_space line reading spells (subst (Lacks 32) (sym also) (lacks-test 32 (codes "show") refl)))
one_thing line (read reading) (read other) spells also = ap read (one_reading line reading other spells also)
one_thing line (read reading) sweep spells also = absurd (reads_with_space line reading spells (subst (Lacks 32) (sym also) (lacks-test 32 (codes "sweep") refl)))
one_thing line sweep (change other) spells also = absurd (spaceless line other also (codes "sweep") (lacks-test 32 (codes "sweep") refl) spells)
one_thing line sweep show spells also = absurd (differ 1 (sym spells ∙ also) refl)
one_thing line sweep (read reading) spells also = absurd (reads_with_space line reading also (subst (Lacks 32) (sym spells) (lacks-test 32 (codes "sweep") refl)))
one_thing line sweep sweep spells also = refl
