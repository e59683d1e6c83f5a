-- Lines that read a part of the configuration, field by field.
use Rattle.std.proofs.Common.{◌≡◌, ◌≢◌, ◌∙◌, ◌^◌, ◌<◌, ◌≤◌, ◌∷◌, ◌++◌, ◌⊎◌, List, None, ap, arith, codes, decimal, inl, inr, refl, subst, sym, ℕ}
use Rattle.std.proofs.lemmas.Fmt.{decimal_injective}
use Rattle.std.proofs.lemmas.List.{append_cancel_left}
use Rattle.ipv4_fields.specs.declared.endpoint.Endpoint.{Endpoint}
use Rattle.ipv4_fields.specs.Cut.{IsSplitAt, Lacks}
use Rattle.ipv4_fields.specs.Endpoint.{IsEndpoint, endpoint_text}
use Rattle.ipv4_fields.proofs.TextLemmas.{has_separator, lacks-decimal, lacks-endpoint, lacks-test, number_parts, one_cut, one_endpoint}
use Rattle.member_group.specs.declared.command.Command.{Command}
use Rattle.filter_program.specs.Program.{Source}
use Rattle.control_line.specs.Reading.{Reading, filter_words, group_at, member_at, selector_words, verdict_on}
use Rattle.control_line.specs.Request.{Request, Spells, change, read, show, spaced, sweep}
use Rattle.control_line.proofs.FormLemmas.{differ, lacks-row, no_row, parts, row_by, row_of, word_of, args_of}

-- ---- the parts of a line

abbrev pub reading_word : Reading → List ℕ
reading_word (group_at index) = codes "group"
reading_word (member_at key index) = codes "member"
reading_word (selector_words key place) = codes "words"
reading_word (filter_words key id place) = codes "words"
reading_word (verdict_on digits) = codes "judge"

abbrev pub reading_args : Reading → List ℕ
reading_args (group_at index) = decimal index
reading_args (member_at key index) = endpoint_text key ++ 32 ∷ decimal index
reading_args (selector_words key place) = endpoint_text key ++ 32 ∷ (codes "selector" ++ 32 ∷ decimal place)
reading_args (filter_words key id place) = endpoint_text key ++ 32 ∷ (decimal id ++ 32 ∷ decimal place)
reading_args (verdict_on digits) = digits

reading_parts : (line : List ℕ) (reading : Reading) → Spells line (read reading) → line ≡ reading_word reading ++ 32 ∷ reading_args reading
reading_parts line (group_at index) (fields, is, has) = is ∙ ap spaced has.1
reading_parts line (member_at key index) (fields, is, has) = is ∙ ap spaced has.2
reading_parts line (selector_words key place) (fields, is, has) = is ∙ ap spaced has.2
reading_parts line (filter_words key id place) (fields, is, has) = is ∙ ap spaced has.3
reading_parts line (verdict_on digits) (fields, is, has) = is ∙ ap spaced has

lacks-reading : (reading : Reading) → Lacks 32 (reading_word reading)
lacks-reading (group_at index) = lacks-test 32 (codes "group") refl
lacks-reading (member_at key index) = lacks-test 32 (codes "member") refl
lacks-reading (selector_words key place) = lacks-test 32 (codes "words") refl
lacks-reading (filter_words key id place) = lacks-test 32 (codes "words") refl
lacks-reading (verdict_on digits) = lacks-test 32 (codes "judge") refl

at_reading : (word args : List ℕ) (reading : Reading) → Lacks 32 word → Spells (word ++ 32 ∷ args) (read reading) → (word ≡ reading_word reading) × (args ≡ reading_args reading)
at_reading word args reading lacks spells = one_cut 32 word (reading_word reading) args (reading_args reading) lacks (lacks-reading reading) (reading_parts _ reading spells)

-- ---- two readings of one line

no_selector : (id : ℕ) → id < 2 ^ 32 → codes "selector" ≡ decimal id → ⊥
no_selector id small is = subst (Lacks 115) (sym is) (lacks-decimal 115 id (inr (omega arith))) 0 (omega arith) refl

-- behind the key, which is one
behind_keys : (key other : Endpoint) (rest more : List ℕ) → IsEndpoint key → IsEndpoint other → endpoint_text key ++ 32 ∷ rest ≡ endpoint_text other ++ 32 ∷ more → (key ≡ other) × (rest ≡ more)
behind_keys key other rest more range also same =
    let cut = one_cut 32 (endpoint_text key) (endpoint_text other) rest more (lacks-endpoint 32 key (omega arith)) (lacks-endpoint 32 other (omega arith)) same in
    (one_endpoint key other range also cut.0, cut.1)

no_filter : (key other : Endpoint) (id place more : ℕ) → IsEndpoint key → IsEndpoint other → id < 2 ^ 32
    → endpoint_text key ++ 32 ∷ (codes "selector" ++ 32 ∷ decimal place) ≡ endpoint_text other ++ 32 ∷ (decimal id ++ 32 ∷ decimal more) → ⊥
no_filter key other id place more range also small same =
    no_selector id small (one_cut 32 (codes "selector") (decimal id) (decimal place) (decimal more) (lacks-test 32 (codes "selector") refl) (lacks-decimal 32 id (inl (omega arith))) (behind_keys key other _ _ range also same).1).0

two_readings : (line other : List ℕ) (one two : Reading) → Spells line (read one) → Spells other (read two) → reading_word one ≡ reading_word two → reading_args one ≡ reading_args two → one ≡ two
two_readings line other (group_at i) (group_at j) (fields, is, has) (more, also, too) word args = ap group_at (decimal_injective i j (omega (arith, has.0)) (omega (arith, too.0)) args)
two_readings line other (group_at i) (member_at key j) spells also word args = absurd (differ 0 word refl)
two_readings line other (group_at i) (selector_words key p) spells also word args = absurd (differ 0 word refl)
two_readings line other (group_at i) (filter_words key id p) spells also word args = absurd (differ 0 word refl)
two_readings line other (group_at i) (verdict_on digits) spells also word args = absurd (differ 0 word refl)
two_readings line other (member_at key i) (group_at j) spells also word args = absurd (differ 0 word refl)
two_readings line other (member_at key i) (member_at key' j) (fields, is, has) (more, also, too) word args =
    let behind = behind_keys key key' _ _ has.0 too.0 args in
    ap (λ k. member_at k i) behind.0 ∙ ap (member_at key') (decimal_injective i j (omega (arith, has.1)) (omega (arith, too.1)) behind.1)
two_readings line other (member_at key i) (selector_words key' p) spells also word args = absurd (differ 0 word refl)
two_readings line other (member_at key i) (filter_words key' id p) spells also word args = absurd (differ 0 word refl)
two_readings line other (member_at key i) (verdict_on digits) spells also word args = absurd (differ 0 word refl)
two_readings line other (selector_words key p) (group_at j) spells also word args = absurd (differ 0 word refl)
two_readings line other (selector_words key p) (member_at key' j) spells also word args = absurd (differ 0 word refl)
two_readings line other (selector_words key p) (selector_words key' q) (fields, is, has) (more, also, too) word args =
    let behind = behind_keys key key' _ _ has.0 too.0 args in
    let place = append_cancel_left (codes "selector ") (decimal p) (decimal q) behind.1 in
    ap (λ k. selector_words k p) behind.0 ∙ ap (selector_words key') (decimal_injective p q (omega (arith, has.1)) (omega (arith, too.1)) place)
two_readings line other (selector_words key p) (filter_words key' id q) (fields, is, has) (more, also, too) word args = absurd (no_filter key key' id p q has.0 too.0 too.1 args)
two_readings line other (selector_words key p) (verdict_on digits) spells also word args = absurd (differ 0 word refl)
two_readings line other (filter_words key id p) (group_at j) spells also word args = absurd (differ 0 word refl)
two_readings line other (filter_words key id p) (member_at key' j) spells also word args = absurd (differ 0 word refl)
two_readings line other (filter_words key id p) (selector_words key' q) (fields, is, has) (more, also, too) word args = absurd (no_filter key' key id q p too.0 has.0 has.1 (sym args))
two_readings line other (filter_words key id p) (filter_words key' id' q) (fields, is, has) (more, also, too) word args =
    let behind = behind_keys key key' _ _ has.0 too.0 args in
    let number = number_parts 32 id id' (decimal p) (decimal q) (inl (omega arith)) (omega (arith, has.1)) (omega (arith, too.1)) behind.1 in
    ap (λ k. filter_words k id p) behind.0
    ∙ ap (λ n. filter_words key' n p) number.0
    ∙ ap (filter_words key' id') (decimal_injective p q (omega (arith, has.2)) (omega (arith, too.2)) number.1)
two_readings line other (filter_words key id p) (verdict_on digits) spells also word args = absurd (differ 0 word refl)
two_readings line other (verdict_on digits) (group_at j) spells also word args = absurd (differ 0 word refl)
two_readings line other (verdict_on digits) (member_at key j) spells also word args = absurd (differ 0 word refl)
two_readings line other (verdict_on digits) (selector_words key q) spells also word args = absurd (differ 0 word refl)
two_readings line other (verdict_on digits) (filter_words key id q) spells also word args = absurd (differ 0 word refl)
two_readings line other (verdict_on digits) (verdict_on more) spells also word args = ap verdict_on args

pub one_reading : (line : List ℕ) (one two : Reading) → Spells line (read one) → Spells line (read two) → one ≡ two
one_reading line one two spells also =
    let cut = at_reading (reading_word one) (reading_args one) two (lacks-reading one) (subst (λ text. Spells text (read two)) (reading_parts line one spells) also) in
    two_readings line line one two spells also cut.0 cut.1

-- ---- a line asks for one kind of thing

unlisted : (reading : Reading) → row_by (reading_word reading) ≡ None
unlisted (group_at index) = refl
unlisted (member_at key index) = refl
unlisted (selector_words key place) = refl
unlisted (filter_words key id place) = refl
unlisted (verdict_on digits) = refl

pub no_change : (line : List ℕ) (command : Command Source) (reading : Reading) → Spells line (change command) → Spells line (read reading) → ⊥
no_change line command reading spells also =
    let cut = at_reading (word_of command) (args_of command) reading (lacks-row (row_of command)) (subst (λ text. Spells text (read reading)) (parts line command spells) also) in
    no_row (reading_word reading) (unlisted reading) (row_of command) cut.0

pub reads_with_space : (line : List ℕ) (reading : Reading) → Spells line (read reading) → Lacks 32 line → ⊥
reads_with_space line reading spells lacks = has_separator 32 (reading_word reading) (reading_args reading) (subst (Lacks 32) (reading_parts line reading spells) lacks)

-- ---- lines of one word that are none of the table

abbrev IsNoReading : List ℕ → Type 0
IsNoReading line = (reading : Reading) → Spells line (read reading) → ⊥

-- a number that is none below 2^32
abbrev IsMisspelt : List ℕ → Type 0
IsMisspelt field = (n : ℕ) → n ≤ 4294967295 → field ≢ decimal n

abbrev IsNoEndpoint : List ℕ → Type 0
IsNoEndpoint field = (endpoint : Endpoint) → IsEndpoint endpoint → field ≢ endpoint_text endpoint

module _ (fields : List ℕ) where
  -- what the fields of a member are
  abbrev IsOfMember : Type 0
  IsOfMember = (key : Endpoint) × IsEndpoint key × (index : ℕ) × (index ≤ 4294967295) × (fields ≡ endpoint_text key ++ 32 ∷ decimal index)

  member_fields : (reading : Reading) → Spells (codes "member " ++ fields) (read reading) → IsOfMember
  member_fields (group_at index) spells = absurd (differ 0 (at_reading (codes "member") fields (group_at index) (lacks-test 32 (codes "member") refl) spells).0 refl)
  member_fields (member_at key index) spells =
      let small = spells.2.1 in
      (key, spells.2.0, index, omega arith, (at_reading (codes "member") fields (member_at key index) (lacks-test 32 (codes "member") refl) spells).1)
  member_fields (selector_words key place) spells = absurd (differ 0 (at_reading (codes "member") fields (selector_words key place) (lacks-test 32 (codes "member") refl) spells).0 refl)
  member_fields (filter_words key id place) spells = absurd (differ 0 (at_reading (codes "member") fields (filter_words key id place) (lacks-test 32 (codes "member") refl) spells).0 refl)
  member_fields (verdict_on digits) spells = absurd (differ 0 (at_reading (codes "member") fields (verdict_on digits) (lacks-test 32 (codes "member") refl) spells).0 refl)

  pub none_of_members : Lacks 32 fields → IsNoReading (codes "member " ++ fields)
  none_of_members lacks reading spells =
      let at = member_fields reading spells in has_separator 32 (endpoint_text at.0) (decimal at.2) (subst (Lacks 32) at.4 lacks)

  -- what the fields of a program's words are
  abbrev IsOfWords : Type 0
  IsOfWords =
      (key : Endpoint) × IsEndpoint key × (program : List ℕ) × Lacks 32 program × (place : ℕ) × (place ≤ 4294967295)
      × (fields ≡ endpoint_text key ++ 32 ∷ (program ++ 32 ∷ decimal place))
      × ((program ≡ codes "selector") ⊎ ((id : ℕ) × (id ≤ 4294967295) × (program ≡ decimal id)))

  words_fields : (reading : Reading) → Spells (codes "words " ++ fields) (read reading) → IsOfWords
  words_fields (group_at index) spells = absurd (differ 0 (at_reading (codes "words") fields (group_at index) (lacks-test 32 (codes "words") refl) spells).0 refl)
  words_fields (member_at key index) spells = absurd (differ 0 (at_reading (codes "words") fields (member_at key index) (lacks-test 32 (codes "words") refl) spells).0 refl)
  words_fields (selector_words key place) spells =
      let small = spells.2.1 in (
        key,
        spells.2.0,
        codes "selector",
        lacks-test 32 (codes "selector") refl,
        place,
        omega arith,
        (at_reading (codes "words") fields (selector_words key place) (lacks-test 32 (codes "words") refl) spells).1,
        inl refl,
      )
  words_fields (filter_words key id place) spells =
      let number = spells.2.1 in
      let small = spells.2.2 in (
        key,
        spells.2.0,
        decimal id,
        lacks-decimal 32 id (inl (omega arith)),
        place,
        omega arith,
        (at_reading (codes "words") fields (filter_words key id place) (lacks-test 32 (codes "words") refl) spells).1,
        inr (id, omega arith, refl),
      )
  words_fields (verdict_on digits) spells = absurd (differ 0 (at_reading (codes "words") fields (verdict_on digits) (lacks-test 32 (codes "words") refl) spells).0 refl)

  pub none_of_words : Lacks 32 fields → IsNoReading (codes "words " ++ fields)
  none_of_words lacks reading spells =
      let at = words_fields reading spells in has_separator 32 (endpoint_text at.0) (at.2 ++ 32 ∷ decimal at.4) (subst (Lacks 32) at.6 lacks)

  module _ (key rest : List ℕ) (cut : IsSplitAt 32 fields key rest) where
    at_member : (reading : Reading) → (spells : Spells (codes "member " ++ fields) (read reading)) → (key ≡ endpoint_text (member_fields reading spells).0) × (rest ≡ decimal (member_fields reading spells).2)
    at_member reading spells =
        let at = member_fields reading spells in
        one_cut 32 key (endpoint_text at.0) rest (decimal at.2) cut.lacks (lacks-endpoint 32 at.0 (omega arith)) (sym cut.whole ∙ at.4)

    pub none_keyed_members : IsNoEndpoint key → IsNoReading (codes "member " ++ fields)
    none_keyed_members misspelt reading spells = let at = member_fields reading spells in misspelt at.0 at.1 (at_member reading spells).0

    pub none_placed_members : IsMisspelt rest → IsNoReading (codes "member " ++ fields)
    none_placed_members misspelt reading spells = let at = member_fields reading spells in misspelt at.2 at.3 (at_member reading spells).1

    at_words : (reading : Reading) → (spells : Spells (codes "words " ++ fields) (read reading)) → let at = words_fields reading spells in (key ≡ endpoint_text at.0) × (rest ≡ at.2 ++ 32 ∷ decimal at.4)
    at_words reading spells =
        let at = words_fields reading spells in
        one_cut 32 key (endpoint_text at.0) rest (at.2 ++ 32 ∷ decimal at.4) cut.lacks (lacks-endpoint 32 at.0 (omega arith)) (sym cut.whole ∙ at.6)

    pub none_keyed_words : IsNoEndpoint key → IsNoReading (codes "words " ++ fields)
    none_keyed_words misspelt reading spells = let at = words_fields reading spells in misspelt at.0 at.1 (at_words reading spells).0

    pub none_of_programs : Lacks 32 rest → IsNoReading (codes "words " ++ fields)
    none_of_programs lacks reading spells =
        let at = words_fields reading spells in has_separator 32 at.2 (decimal at.4) (subst (Lacks 32) (at_words reading spells).1 lacks)

    module _ (program place : List ℕ) (again : IsSplitAt 32 rest program place) where
      at_program : (reading : Reading) → (spells : Spells (codes "words " ++ fields) (read reading)) → let at = words_fields reading spells in (program ≡ at.2) × (place ≡ decimal at.4)
      at_program reading spells =
          let at = words_fields reading spells in
          one_cut 32 program at.2 place (decimal at.4) again.lacks at.3 (sym again.whole ∙ (at_words reading spells).1)

      pub none_placed_words : IsMisspelt place → IsNoReading (codes "words " ++ fields)
      none_placed_words misspelt reading spells = let at = words_fields reading spells in misspelt at.4 at.5 (at_program reading spells).1

      pub none_numbered_words : program ≢ codes "selector" → IsMisspelt program → IsNoReading (codes "words " ++ fields)
      none_numbered_words other misspelt reading spells =
          let at = words_fields reading spells in by_program at.2 (at_program reading spells).0 at.7
        where
          by_program : (named : List ℕ) → program ≡ named → (named ≡ codes "selector") ⊎ ((id : ℕ) × (id ≤ 4294967295) × (named ≡ decimal id)) → ⊥
          by_program named is (inl selector) = other (is ∙ selector)
          by_program named is (inr (id, small, number)) = misspelt id small (is ∙ number)

-- ---- lines by their first word

-- a line that begins with a word that reads, and that reads nothing
pub no_reading_request : (word fields name : List ℕ) → Lacks 32 word → word ≡ name → row_by name ≡ None → IsNoReading (name ++ 32 ∷ fields) → (request : Request) → Spells (word ++ 32 ∷ fields) request → ⊥
no_reading_request word fields name lacks is none no_reading (change command) spells =
    no_row name none (row_of command) (sym (one_cut 32 word (word_of command) fields (args_of command) lacks (lacks-row (row_of command)) (parts _ command spells)).0 ∙ is)
no_reading_request word fields name lacks is none no_reading show spells = has_separator 32 word fields (subst (Lacks 32) (sym spells) (lacks-test 32 (codes "show") refl))
no_reading_request word fields name lacks is none no_reading (read reading) spells = no_reading reading (subst (λ w. Spells (w ++ 32 ∷ fields) (read reading)) is spells)
no_reading_request word fields name lacks is none no_reading sweep spells = has_separator 32 word fields (subst (Lacks 32) (sym spells) (lacks-test 32 (codes "sweep") refl))

-- a line that begins with another word reads nothing
pub other_word : (word fields : List ℕ) (reading : Reading) → Lacks 32 word → word ≢ codes "group" → word ≢ codes "member" → word ≢ codes "words" → word ≢ codes "judge" → Spells (word ++ 32 ∷ fields) (read reading) → ⊥
other_word word fields (group_at index) lacks not_group not_member not_words not_judge spells = not_group (at_reading word fields (group_at index) lacks spells).0
other_word word fields (member_at key index) lacks not_group not_member not_words not_judge spells = not_member (at_reading word fields (member_at key index) lacks spells).0
other_word word fields (selector_words key place) lacks not_group not_member not_words not_judge spells = not_words (at_reading word fields (selector_words key place) lacks spells).0
other_word word fields (filter_words key id place) lacks not_group not_member not_words not_judge spells = not_words (at_reading word fields (filter_words key id place) lacks spells).0
other_word word fields (verdict_on digits) lacks not_group not_member not_words not_judge spells = not_judge (at_reading word fields (verdict_on digits) lacks spells).0
