-- Lines that ask for a change, and lines that are none of the table, field by field.
use Rattle.std.proofs.Common.{◌≡◌, ◌≢◌, ◌∙◌, ◌^◌, ◌<◌, ◌≤◌, ◌∷◌, ◌++◌, List, None, Option, Some, [], ap, arith, codes, decimal, inl, refl, subst, sym, ℕ}
use Rattle.ipv4_fields.specs.declared.endpoint.Endpoint.{Endpoint}
use Rattle.ipv4_fields.specs.Cut.{IsSplitAt, Lacks}
use Rattle.ipv4_fields.specs.Endpoint.{IsEndpoint, endpoint_text}
use Rattle.ipv4_fields.proofs.TextLemmas.{has_separator, lacks-decimal, lacks-endpoint, lacks-test, one_cut, one_part}
use Rattle.member_group.specs.Map.{key_of}
use Rattle.member_group.specs.declared.command.Command.{Command}
use Rattle.member_group.specs.declared.command.Command.TheVariants.{Leave, LockFilter, SetFilter, SetSelector}
use Rattle.control_line.specs.Request.{Request, Spells, change, read, show, spaced, sweep}
use Rattle.control_line.proofs.ReadingLemmas.{other_word, reads_with_space}
use Rattle.control_line.specs.body.Reading.{IsMemberWord, program_fields}
use Rattle.filter_program.specs.Program.{Source, assembly, expression}
use Rattle.control_line.proofs.FormLemmas.{HasForm, IsOfNumber, IsSelector, Row, add_row, args_at, args_of, differ, filter_row, form_at, join_row, key_range, lacks-row, leave_row, lock_row, parts, remove_row, rest_of, row_of, selector_row, tail_of, unwritten, word_at, word_of, written}

-- ---- the word and the key

-- the word and what stands behind it
pub at_word : (word args : List ℕ) (command : Command Source) → Lacks 32 word → Spells (word ++ 32 ∷ args) (change command) → (word ≡ word_of command) × (args ≡ args_of command)
at_word word args command lacks spells = one_cut 32 word (word_of command) args (args_of command) lacks (lacks-row (row_of command)) (parts _ command spells)

pub keyed : (command : Command Source) → word_of command ≢ codes "add" → word_of command ≢ codes "remove" → args_of command ≡ endpoint_text (key_of command) ++ 32 ∷ rest_of command
keyed command not_add not_remove = by_row (row_of command) not_add not_remove
  where
    by_row : (row : Row) → word_at row ≢ codes "add" → word_at row ≢ codes "remove" → args_at row command ≡ endpoint_text (key_of command) ++ 32 ∷ rest_of command
    by_row add_row not_add not_remove = absurd (not_add refl)
    by_row remove_row not_add not_remove = absurd (not_remove refl)
    by_row selector_row not_add not_remove = refl
    by_row leave_row not_add not_remove = refl
    by_row lock_row not_add not_remove = refl
    by_row join_row not_add not_remove = refl
    by_row filter_row not_add not_remove = refl

module _ (word args : List ℕ) (command : Command Source) (lacks : Lacks 32 word) (spells : Spells (word ++ 32 ∷ args) (change command)) (not_add : word ≢ codes "add") (not_remove : word ≢ codes "remove") where
  args_keyed : args ≡ endpoint_text (key_of command) ++ 32 ∷ rest_of command
  args_keyed =
      let at = at_word word args command lacks spells in
      at.1 ∙ keyed command (λ e. not_add (at.0 ∙ e)) (λ e. not_remove (at.0 ∙ e))

  pub has_key : Lacks 32 args → ⊥
  has_key none = has_separator 32 (endpoint_text (key_of command)) (rest_of command) (subst (Lacks 32) args_keyed none)

  -- the key and what stands behind it
  pub at_key : (key rest : List ℕ) → Lacks 32 key → args ≡ key ++ 32 ∷ rest → (key ≡ endpoint_text (key_of command)) × (rest ≡ rest_of command)
  at_key key rest none is =
      one_cut 32 key (endpoint_text (key_of command)) rest (rest_of command) none (lacks-endpoint 32 (key_of command) (omega arith)) (sym is ∙ args_keyed)

  pub no_key : (key : List ℕ) (rest : List ℕ) → Lacks 32 key → args ≡ key ++ 32 ∷ rest → ((endpoint : Endpoint) → IsEndpoint endpoint → key ≢ endpoint_text endpoint) → ⊥
  no_key key rest none is misspelt = misspelt (key_of command) (key_range _ command spells) (at_key key rest none is).0

-- a line whose key was read
module _ (word : List ℕ) (key : Endpoint) (fields : List ℕ) (command : Command Source) (lacks : Lacks 32 word) (range : IsEndpoint key) (spells : Spells (word ++ 32 ∷ (endpoint_text key ++ 32 ∷ fields)) (change command)) (not_add : word ≢ codes "add") (not_remove : word ≢ codes "remove") where
  pub behind_key : fields ≡ rest_of command
  behind_key = (at_key word _ command lacks spells not_add not_remove (endpoint_text key) fields (lacks-endpoint 32 key (omega arith)) refl).1

-- ---- lines that are none of the table

abbrev IsNone : List ℕ → Type 0
IsNone line = (command : Command Source) → Spells line (change command) → ⊥

-- ---- lines that name a member

module _ (command : Command Source) where
  -- where nothing stands behind the number, and where something does
  ends_there : (row : Row) → IsMemberWord (word_at row) → HasForm row command → Lacks 32 (rest_of command) → (id : ℕ) × (id < 2 ^ 32) × (rest_of command ≡ decimal id)
  ends_there add_row is form last = absurd (is.not_add refl)
  ends_there remove_row is form last = absurd (is.not_remove refl)
  ends_there selector_row is form last = absurd (is.not_selector refl)
  ends_there leave_row is form last = (form.0, form.1, form.2)
  ends_there lock_row is form last = (form.0, form.1, form.2)
  ends_there join_row is form last = absurd (has_separator 32 (decimal form.0) (tail_of command) (subst (Lacks 32) form.4 last))
  ends_there filter_row is form last = absurd (has_separator 32 (decimal form.0) (tail_of command) (subst (Lacks 32) form.3 last))

  not_split : (make : Endpoint → ℕ → Command Source) → IsOfNumber make command → (id rest : List ℕ) → rest_of command ≡ id ++ 32 ∷ rest → ⊥
  not_split make form id rest split = has_separator 32 id rest (subst (Lacks 32) (sym form.2 ∙ split) (lacks-decimal 32 form.0 (inl (omega arith))))

  goes_on : (row : Row) → IsMemberWord (word_at row) → HasForm row command → (id rest : List ℕ) → rest_of command ≡ id ++ 32 ∷ rest → (n : ℕ) × (n < 2 ^ 32) × (rest_of command ≡ decimal n ++ 32 ∷ tail_of command)
  goes_on add_row is form id rest split = absurd (is.not_add refl)
  goes_on remove_row is form id rest split = absurd (is.not_remove refl)
  goes_on selector_row is form id rest split = absurd (is.not_selector refl)
  goes_on leave_row is form id rest split = absurd (not_split Leave form id rest split)
  goes_on lock_row is form id rest split = absurd (not_split LockFilter form id rest split)
  goes_on join_row is form id rest split = (form.0, form.1, form.4)
  goes_on filter_row is form id rest split = (form.0, form.1, form.3)

  -- there are two words for each
  no_number_word : (row : Row) → IsMemberWord (word_at row) → HasForm row command → Lacks 32 (rest_of command) → word_at row ≢ codes "leave" → word_at row ≢ codes "lock" → ⊥
  no_number_word add_row is form last not_leave not_lock = is.not_add refl
  no_number_word remove_row is form last not_leave not_lock = is.not_remove refl
  no_number_word selector_row is form last not_leave not_lock = is.not_selector refl
  no_number_word leave_row is form last not_leave not_lock = not_leave refl
  no_number_word lock_row is form last not_leave not_lock = not_lock refl
  no_number_word join_row is form last not_leave not_lock = has_separator 32 (decimal form.0) (tail_of command) (subst (Lacks 32) form.4 last)
  no_number_word filter_row is form last not_leave not_lock = has_separator 32 (decimal form.0) (tail_of command) (subst (Lacks 32) form.3 last)

  no_longer_word : (row : Row) → IsMemberWord (word_at row) → HasForm row command → (id rest : List ℕ) → rest_of command ≡ id ++ 32 ∷ rest → word_at row ≢ codes "join" → word_at row ≢ codes "filter" → ⊥
  no_longer_word add_row is form id rest split not_join not_filter = is.not_add refl
  no_longer_word remove_row is form id rest split not_join not_filter = is.not_remove refl
  no_longer_word selector_row is form id rest split not_join not_filter = is.not_selector refl
  no_longer_word leave_row is form id rest split not_join not_filter = not_split Leave form id rest split
  no_longer_word lock_row is form id rest split not_join not_filter = not_split LockFilter form id rest split
  no_longer_word join_row is form id rest split not_join not_filter = not_join refl
  no_longer_word filter_row is form id rest split not_join not_filter = not_filter refl

module _ (word : List ℕ) (key : Endpoint) (fields : List ℕ) (is : IsMemberWord word) (range : IsEndpoint key) where
  abbrev keyed_line : List ℕ
  keyed_line = word ++ 32 ∷ (endpoint_text key ++ 32 ∷ fields)

  module _ (command : Command Source) (spells : Spells keyed_line (change command)) where
    word_is : word ≡ word_of command
    word_is = (at_word word _ command is.lacks spells).0

    member_row : IsMemberWord (word_of command)
    member_row = subst IsMemberWord word_is is

    form : HasForm (row_of command) command
    form = form_at (row_of command) keyed_line command spells refl

    rest_is : fields ≡ rest_of command
    rest_is = behind_key word key fields command is.lacks range spells is.not_add is.not_remove

  module _ (last : Lacks 32 fields) where
    pub none_at_number : ((id : ℕ) → id ≤ 4294967295 → fields ≢ decimal id) → IsNone keyed_line
    none_at_number misspelt command spells =
        let rest = rest_is command spells in
        let number = ends_there command (row_of command) (member_row command spells) (form command spells) (subst (Lacks 32) rest last) in
        misspelt number.0 (omega (arith, number.1)) (rest ∙ number.2)

    pub none_of_number : word ≢ codes "leave" → word ≢ codes "lock" → IsNone keyed_line
    none_of_number not_leave not_lock command spells =
        let same = word_is command spells in
        no_number_word command (row_of command) (member_row command spells) (form command spells) (subst (Lacks 32) (rest_is command spells) last) (λ e. not_leave (same ∙ e)) (λ e. not_lock (same ∙ e))

  module _ (id rest : List ℕ) (cut : IsSplitAt 32 fields id rest) where
    at_number : (command : Command Source) → Spells keyed_line (change command) → (n : ℕ) × (n < 2 ^ 32) × (id ≡ decimal n) × (rest ≡ tail_of command)
    at_number command spells =
        let rest_there = rest_is command spells in
        let stands = goes_on command (row_of command) (member_row command spells) (form command spells) id rest (sym rest_there ∙ cut.whole) in
        let part = one_part 32 stands.0 fields id rest (tail_of command) (inl (omega arith)) cut (rest_there ∙ stands.2) in
        (stands.0, stands.1, part.0, part.1)

    pub none_numbered : ((n : ℕ) → n ≤ 4294967295 → id ≢ decimal n) → IsNone keyed_line
    none_numbered misspelt command spells = let at = at_number command spells in misspelt at.0 (omega (arith, at.1)) at.2

    pub none_joins : word ≡ codes "join" → ((to : Endpoint) → IsEndpoint to → rest ≢ endpoint_text to) → IsNone keyed_line
    none_joins join misspelt command spells =
        let at = at_number command spells in
        let form = form_at join_row _ command spells (sym (word_is command spells) ∙ join) in
        misspelt form.2 form.3 (at.3 ∙ form.5)

    pub none_other : word ≢ codes "join" → word ≢ codes "filter" → IsNone keyed_line
    none_other not_join not_filter command spells =
        let same = word_is command spells in
        no_longer_word command (row_of command) (member_row command spells) (form command spells) id rest (sym (rest_is command spells) ∙ cut.whole) (λ e. not_join (same ∙ e)) (λ e. not_filter (same ∙ e))

lacks-filter : Lacks 32 (codes "filter")
lacks-filter = lacks-test 32 (codes "filter") refl

filter-word : IsMemberWord (codes "filter")
filter-word = record { lacks = lacks-filter; not_add = λ e. differ 0 e refl; not_remove = λ e. differ 0 e refl; not_selector = λ e. differ 0 e refl }

pub none_filters : (key : Endpoint) (id : ℕ) (fields : List ℕ) → IsEndpoint key → id < 2 ^ 32 → ((program : Option Source) → fields ≢ spaced (program_fields program)) → IsNone (codes "filter " ++ (endpoint_text key ++ 32 ∷ (decimal id ++ 32 ∷ fields)))
none_filters key id fields range small misspelt command spells =
    let cut : IsSplitAt 32 (decimal id ++ 32 ∷ fields) (decimal id) fields = record { lacks = lacks-decimal 32 id (inl (omega arith)); whole = refl } in
    let at = at_number (codes "filter") key (decimal id ++ 32 ∷ fields) filter-word range (decimal id) fields cut command spells in
    let filter = form_at filter_row _ command spells (sym (at_word (codes "filter") _ command lacks-filter spells).0) in
    misspelt filter.2 (at.3 ∙ filter.4)

lacks-selector : Lacks 32 (codes "selector")
lacks-selector = lacks-test 32 (codes "selector") refl

none_of_selectors : (key : Endpoint) (fields : List ℕ) → IsEndpoint key → ((program : Option Source) → IsSelector program → fields ≢ spaced (program_fields program)) → IsNone (codes "selector " ++ (endpoint_text key ++ 32 ∷ fields))
none_of_selectors key fields range misspelt command spells =
    let selector = form_at selector_row _ command spells (sym (at_word (codes "selector") _ command lacks-selector spells).0) in
    misspelt selector.0 selector.1 (behind_key (codes "selector") key fields command lacks-selector range spells (λ e. differ 0 e refl) (λ e. differ 0 e refl) ∙ selector.2)

pub none_selects : (key : Endpoint) (fields : List ℕ) → IsEndpoint key → ((program : Option Source) → fields ≢ spaced (program_fields program)) → IsNone (codes "selector " ++ (endpoint_text key ++ 32 ∷ fields))
none_selects key fields range misspelt = none_of_selectors key fields range (λ program is. misspelt program)

no_expression : (text fields : List ℕ) → fields ≡ codes "expr" ++ 32 ∷ text → (program : Option Source) → IsSelector program → fields ≢ spaced (program_fields program)
no_expression text fields is program (written other) e = differ 0 (sym is ∙ e) refl
no_expression text fields is program unwritten e = differ 0 (sym is ∙ e) refl

pub none_selects_by_expression : (key : Endpoint) (text fields : List ℕ) → IsEndpoint key → fields ≡ codes "expr" ++ 32 ∷ text → IsNone (codes "selector " ++ (endpoint_text key ++ 32 ∷ fields))
none_selects_by_expression key text fields range is = none_of_selectors key fields range (no_expression text fields is)

-- a program's fields that begin with no word of a program
pub none_programs : (fields kind text : List ℕ) → fields ≢ codes "none" → IsSplitAt 32 fields kind text → kind ≢ codes "asm" → kind ≢ codes "expr" → (program : Option Source) → fields ≢ spaced (program_fields program)
none_programs fields kind text not_none cut not_asm not_expr None e = not_none e
none_programs fields kind text not_none cut not_asm not_expr (Some (assembly other)) e =
    not_asm (one_cut 32 kind (codes "asm") text other cut.lacks (lacks-test 32 (codes "asm") refl) (sym cut.whole ∙ e)).0
none_programs fields kind text not_none cut not_asm not_expr (Some (expression other)) e =
    not_expr (one_cut 32 kind (codes "expr") text other cut.lacks (lacks-test 32 (codes "expr") refl) (sym cut.whole ∙ e)).0

-- ---- lines of the table

pub selector_spelled : (key : Endpoint) (text fields : List ℕ) → IsEndpoint key → fields ≡ codes "asm" ++ 32 ∷ text → Spells (codes "selector " ++ (endpoint_text key ++ 32 ∷ fields)) (change (SetSelector key (assembly text)))
selector_spelled key text fields range is =
    (codes "selector" ∷ endpoint_text key ∷ codes "asm" ∷ text ∷ [], ap (λ rest. codes "selector " ++ (endpoint_text key ++ 32 ∷ rest)) is, (range, refl))

pub filter_spelled : (key : Endpoint) (id : ℕ) (fields : List ℕ) (source : Source) → IsEndpoint key → id < 2 ^ 32 → fields ≡ spaced (program_fields (Some source)) → Spells (codes "filter " ++ (endpoint_text key ++ 32 ∷ (decimal id ++ 32 ∷ fields))) (change (SetFilter key id source))
filter_spelled key id fields (assembly text) range small is =
    (codes "filter" ∷ endpoint_text key ∷ decimal id ∷ codes "asm" ∷ text ∷ [], ap (λ rest. codes "filter " ++ (endpoint_text key ++ 32 ∷ (decimal id ++ 32 ∷ rest))) is, (range, small, refl))
filter_spelled key id fields (expression text) range small is =
    (codes "filter" ∷ endpoint_text key ∷ decimal id ∷ codes "expr" ∷ text ∷ [], ap (λ rest. codes "filter " ++ (endpoint_text key ++ 32 ∷ (decimal id ++ 32 ∷ rest))) is, (range, small, refl))

pub filter_line : (word id rest fields : List ℕ) (key : Endpoint) (n : ℕ) → word ≡ codes "filter" → fields ≡ id ++ 32 ∷ rest → id ≡ decimal n → codes "filter " ++ (endpoint_text key ++ 32 ∷ (decimal n ++ 32 ∷ rest)) ≡ word ++ 32 ∷ (endpoint_text key ++ 32 ∷ fields)
filter_line word id rest fields key n word_is fields_are id_is =
    ap (λ w. w ++ 32 ∷ (endpoint_text key ++ 32 ∷ (decimal n ++ 32 ∷ rest))) (sym word_is)
    ∙ ap (λ more. word ++ 32 ∷ (endpoint_text key ++ 32 ∷ more)) (ap (λ number. number ++ 32 ∷ rest) (sym id_is) ∙ sym fields_are)

pub keyed_is : (word field rest fields : List ℕ) (key : Endpoint) → fields ≡ field ++ 32 ∷ rest → field ≡ endpoint_text key → word ++ 32 ∷ (endpoint_text key ++ 32 ∷ rest) ≡ word ++ 32 ∷ fields
keyed_is word field rest fields key fields_are field_is = ap (λ more. word ++ 32 ∷ more) (ap (λ front. front ++ 32 ∷ rest) (sym field_is) ∙ sym fields_are)

-- ---- lines of one word

pub no_word : (line : List ℕ) → Lacks 32 line → line ≢ codes "show" → line ≢ codes "sweep" → (request : Request) → Spells line request → ⊥
no_word line lacks not_show not_sweep (change command) spells = has_separator 32 (word_of command) (args_of command) (subst (Lacks 32) (parts line command spells) lacks)
no_word line lacks not_show not_sweep show spells = not_show spells
no_word line lacks not_show not_sweep (read reading) spells = reads_with_space line reading spells lacks
no_word line lacks not_show not_sweep sweep spells = not_sweep spells

pub no_request : (word fields : List ℕ) → Lacks 32 word → word ≢ codes "group" → word ≢ codes "member" → word ≢ codes "words" → word ≢ codes "judge" → ((command : Command Source) → Spells (word ++ 32 ∷ fields) (change command) → ⊥)
    → (request : Request) → Spells (word ++ 32 ∷ fields) request → ⊥
no_request word fields lacks not_group not_member not_words not_judge no_command (change command) spells = no_command command spells
no_request word fields lacks not_group not_member not_words not_judge no_command show spells = has_separator 32 word fields (subst (Lacks 32) (sym spells) (lacks-test 32 (codes "show") refl))
no_request word fields lacks not_group not_member not_words not_judge no_command (read reading) spells = other_word word fields reading lacks not_group not_member not_words not_judge spells
no_request word fields lacks not_group not_member not_words not_judge no_command sweep spells = has_separator 32 word fields (subst (Lacks 32) (sym spells) (lacks-test 32 (codes "sweep") refl))
