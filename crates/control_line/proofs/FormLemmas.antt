-- The lines that ask for a change, by their words: no two rows of the table have one word, and what stands behind each.
use Rattle.std.proofs.Common.{◌≡◌, ◌∙◌, ◌==◌, false, ◌^◌, ◌<◌, ◌∷◌, ◌++◌, List, None, Option, Some, [], ap, codes, decimal, find, get_or, refl, subst, sym, ℕ}
use Rattle.std.specs.Prelude.{bytes_eq}
use Rattle.std.proofs.lemmas.Slice.Eq.{bytes_eq-Decides}
use Rattle.std.proofs.lemmas.Bool.{eq-eqb, false≢true}
use Rattle.ipv4_fields.specs.declared.endpoint.Endpoint.{Endpoint}
use Rattle.ipv4_fields.specs.Cut.{Lacks}
use Rattle.ipv4_fields.specs.Endpoint.{IsEndpoint, endpoint_text}
use Rattle.ipv4_fields.proofs.TextLemmas.{lacks-test}
use Rattle.member_group.specs.Map.{key_of}
use Rattle.member_group.specs.declared.command.Command.{Command}
use Rattle.member_group.specs.declared.command.Command.TheVariants.{AddGroup, ClearFilter, ClearSelector, Join, Leave, LockFilter, RemoveGroup, SetFilter, SetSelector}
use Rattle.control_line.specs.Request.{Spells, change, spaced}
use Rattle.control_line.specs.body.Reading.{program_fields}
use Rattle.filter_program.specs.Program.{Source, assembly, expression}

-- ---- texts that differ

-- texts that differ in a byte
pub differ : (k : ℕ) {xs ys : List ℕ} → xs ≡ ys → (get_or xs k 0 == get_or ys k 0) ≡ false → ⊥
differ k {xs} {ys} same apart = false≢true (sym apart ∙ eq-eqb (get_or xs k 0) (get_or ys k 0) (ap (λ text. get_or text k 0) same))

pub differs : (xs ys : List ℕ) → bytes_eq xs ys ≡ false → xs ≡ ys → ⊥
differs xs ys apart same = false≢true (sym apart ∙ (bytes_eq-Decides xs ys).1 same)

-- ---- the table of words

pub data Row : Type 0 where
  add_row : Row
  remove_row : Row
  selector_row : Row
  leave_row : Row
  lock_row : Row
  join_row : Row
  filter_row : Row

abbrev pub word_at : Row → List ℕ
word_at add_row = codes "add"
word_at remove_row = codes "remove"
word_at selector_row = codes "selector"
word_at leave_row = codes "leave"
word_at lock_row = codes "lock"
word_at join_row = codes "join"
word_at filter_row = codes "filter"

abbrev pub rows : List Row
rows = add_row ∷ remove_row ∷ selector_row ∷ leave_row ∷ lock_row ∷ join_row ∷ filter_row ∷ []

-- a row is found again by its word
abbrev pub row_by : List ℕ → Option Row
row_by word = find (λ row. bytes_eq (word_at row) word) rows

found_again : (row : Row) → row_by (word_at row) ≡ Some row
found_again add_row = refl
found_again remove_row = refl
found_again selector_row = refl
found_again leave_row = refl
found_again lock_row = refl
found_again join_row = refl
found_again filter_row = refl

-- so no two rows have one word
pub one_row : (row other : Row) → word_at row ≡ word_at other → row ≡ other
one_row row other same =
    let found : Some row ≡ Some other = sym (found_again row) ∙ ap row_by same ∙ found_again other in cc

-- and a word by which none is found is no row's
pub no_row : (word : List ℕ) → row_by word ≡ None → (row : Row) → word_at row ≡ word → ⊥
no_row word none row same = let found : Some row ≡ None = sym (found_again row) ∙ ap row_by same ∙ none in absurd (cc)

pub lacks-row : (row : Row) → Lacks 32 (word_at row)
lacks-row add_row = lacks-test 32 (codes "add") refl
lacks-row remove_row = lacks-test 32 (codes "remove") refl
lacks-row selector_row = lacks-test 32 (codes "selector") refl
lacks-row leave_row = lacks-test 32 (codes "leave") refl
lacks-row lock_row = lacks-test 32 (codes "lock") refl
lacks-row join_row = lacks-test 32 (codes "join") refl
lacks-row filter_row = lacks-test 32 (codes "filter") refl

-- ---- the parts of a line

abbrev pub row_of : Command Source → Row
row_of (AddGroup key) = add_row
row_of (RemoveGroup key) = remove_row
row_of (Join key id to) = join_row
row_of (Leave key id) = leave_row
row_of (SetSelector key source) = selector_row
row_of (ClearSelector key) = selector_row
row_of (SetFilter key id source) = filter_row
row_of (ClearFilter key id) = filter_row
row_of (LockFilter key id) = lock_row

abbrev pub word_of : Command Source → List ℕ
word_of command = word_at (row_of command)

-- what stands behind the key, or nothing where the line ends there
abbrev pub rest_of : Command Source → List ℕ
rest_of (AddGroup key) = []
rest_of (RemoveGroup key) = []
rest_of (Join key id to) = decimal id ++ 32 ∷ endpoint_text to
rest_of (Leave key id) = decimal id
rest_of (SetSelector key source) = spaced (program_fields (Some source))
rest_of (ClearSelector key) = spaced (program_fields None)
rest_of (SetFilter key id source) = decimal id ++ 32 ∷ spaced (program_fields (Some source))
rest_of (ClearFilter key id) = decimal id ++ 32 ∷ spaced (program_fields None)
rest_of (LockFilter key id) = decimal id

-- what stands behind the word
abbrev pub args_at : Row → Command Source → List ℕ
args_at add_row command = endpoint_text (key_of command)
args_at remove_row command = endpoint_text (key_of command)
args_at _ command = endpoint_text (key_of command) ++ 32 ∷ rest_of command

abbrev pub args_of : Command Source → List ℕ
args_of command = args_at (row_of command) command

pub parts : (line : List ℕ) (command : Command Source) → Spells line (change command) → line ≡ word_of command ++ 32 ∷ args_of command
parts line (AddGroup key) (fields, is, has) = is ∙ ap spaced has.1
parts line (RemoveGroup key) (fields, is, has) = is ∙ ap spaced has.1
parts line (Join key id to) (fields, is, has) = is ∙ ap spaced has.3
parts line (Leave key id) (fields, is, has) = is ∙ ap spaced has.2
parts line (SetSelector key (assembly text)) (fields, is, has) = is ∙ ap spaced has.1
parts line (SetSelector key (expression text)) (fields, is, has) = absurd has
parts line (ClearSelector key) (fields, is, has) = is ∙ ap spaced has.1
parts line (SetFilter key id (assembly text)) (fields, is, has) = is ∙ ap spaced has.2
parts line (SetFilter key id (expression text)) (fields, is, has) = is ∙ ap spaced has.2
parts line (ClearFilter key id) (fields, is, has) = is ∙ ap spaced has.2
parts line (LockFilter key id) (fields, is, has) = is ∙ ap spaced has.2

pub key_range : (line : List ℕ) (command : Command Source) → Spells line (change command) → IsEndpoint (key_of command)
key_range line (AddGroup key) (fields, is, has) = has.0
key_range line (RemoveGroup key) (fields, is, has) = has.0
key_range line (Join key id to) (fields, is, has) = has.0
key_range line (Leave key id) (fields, is, has) = has.0
key_range line (SetSelector key (assembly text)) (fields, is, has) = has.0
key_range line (SetSelector key (expression text)) (fields, is, has) = absurd has
key_range line (ClearSelector key) (fields, is, has) = has.0
key_range line (SetFilter key id (assembly text)) (fields, is, has) = has.0
key_range line (SetFilter key id (expression text)) (fields, is, has) = has.0
key_range line (ClearFilter key id) (fields, is, has) = has.0
key_range line (LockFilter key id) (fields, is, has) = has.0

-- what stands behind the number of a member
abbrev pub tail_of : Command Source → List ℕ
tail_of (Join key id to) = endpoint_text to
tail_of (SetFilter key id source) = spaced (program_fields (Some source))
tail_of (ClearFilter key id) = spaced (program_fields None)
tail_of _ = []

-- ---- the forms of lines

abbrev pub selector_command : Endpoint → Option Source → Command Source
selector_command key None = ClearSelector key
selector_command key (Some source) = SetSelector key source

abbrev pub filter_command : Endpoint → ℕ → Option Source → Command Source
filter_command key id None = ClearFilter key id
filter_command key id (Some source) = SetFilter key id source

-- a selector is written in assembly, or there is none
pub data IsSelector : Option Source → Type 0 where
  written : (text : List ℕ) → IsSelector (Some (assembly text))
  unwritten : IsSelector None

-- a key alone
abbrev pub IsOfKey : (Endpoint → Command Source) → Command Source → Type 0
IsOfKey make command = command ≡ make (key_of command)

-- a key and a member's number
abbrev pub IsOfNumber : (Endpoint → ℕ → Command Source) → Command Source → Type 0
IsOfNumber make command = (id : ℕ) × (id < 2 ^ 32) × (rest_of command ≡ decimal id) × (command ≡ make (key_of command) id)

-- a key, a member's number and an endpoint
abbrev pub IsOfEndpoint : (Endpoint → ℕ → Endpoint → Command Source) → Command Source → Type 0
IsOfEndpoint make command =
    (id : ℕ) × (id < 2 ^ 32) × (to : Endpoint) × IsEndpoint to
    × (rest_of command ≡ decimal id ++ 32 ∷ tail_of command) × (tail_of command ≡ endpoint_text to) × (command ≡ make (key_of command) id to)

-- a key and a selector, or a key, a member's number and a filter
abbrev pub IsOfSelector : Command Source → Type 0
IsOfSelector command =
    (program : Option Source) × IsSelector program × (rest_of command ≡ spaced (program_fields program)) × (command ≡ selector_command (key_of command) program)

abbrev pub IsOfFilter : Command Source → Type 0
IsOfFilter command =
    (id : ℕ) × (id < 2 ^ 32) × (program : Option Source)
    × (rest_of command ≡ decimal id ++ 32 ∷ tail_of command) × (tail_of command ≡ spaced (program_fields program)) × (command ≡ filter_command (key_of command) id program)

abbrev pub HasForm : Row → Command Source → Type 0
HasForm add_row command = IsOfKey AddGroup command
HasForm remove_row command = IsOfKey RemoveGroup command
HasForm selector_row command = IsOfSelector command
HasForm leave_row command = IsOfNumber Leave command
HasForm lock_row command = IsOfNumber LockFilter command
HasForm join_row command = IsOfEndpoint Join command
HasForm filter_row command = IsOfFilter command

form_of : (line : List ℕ) (command : Command Source) → Spells line (change command) → HasForm (row_of command) command
form_of line (AddGroup key) spells = refl
form_of line (RemoveGroup key) spells = refl
form_of line (Join key id to) (fields, is, has) = (id, has.1, to, has.2, refl, refl, refl)
form_of line (Leave key id) (fields, is, has) = (id, has.1, refl, refl)
form_of line (SetSelector key (assembly text)) spells = (Some (assembly text), written text, refl, refl)
form_of line (SetSelector key (expression text)) (fields, is, has) = absurd has
form_of line (ClearSelector key) spells = (None, unwritten, refl, refl)
form_of line (SetFilter key id (assembly text)) (fields, is, has) = (id, has.1, Some (assembly text), refl, refl, refl)
form_of line (SetFilter key id (expression text)) (fields, is, has) = (id, has.1, Some (expression text), refl, refl, refl)
form_of line (ClearFilter key id) (fields, is, has) = (id, has.1, None, refl, refl, refl)
form_of line (LockFilter key id) (fields, is, has) = (id, has.1, refl, refl)

-- a line has the form of its word's row
pub form_at : (row : Row) (line : List ℕ) (command : Command Source) → Spells line (change command) → word_of command ≡ word_at row → HasForm row command
form_at row line command spells word = subst (λ r. HasForm r command) (one_row (row_of command) row word) (form_of line command spells)
