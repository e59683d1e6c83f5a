-- A form, the rest of a text, and one item, as contracts see them.
use Rattle.std.specs.Prelude.{◌≡◌, ◌≢◌, ◌+◌, ◌∷◌, ◌++◌, ◌⊎◌, List, None, Option, Some, [], length, ℕ}
use Rattle.std.specs.Borrow.{Bor}
use Rattle.bpf_formats.specs.declared.fault.FormatFault.{FormatFault}
use Rattle.bpf_formats.specs.declared.fault.FormatFault.TheVariants.{Count, OutOfMemory, Syntax}
use Rattle.bpf_formats.specs.declared.reading.Form.{Form}
use Rattle.bpf_formats.specs.declared.reading.Form.TheVariants.{Decimal, Hexadecimal}
use Rattle.bpf_formats.specs.declared.printing.Layout.{Layout}
use Rattle.bpf_formats.specs.declared.printing.Layout.TheVariants as layout
use Rattle.bpf_formats.specs.Ddd.{SpellsFields, ddd_line}
use Rattle.bpf_formats.specs.Hex.{SpellsDigits, hex_line}
use Rattle.bpf_formats.specs.Initialiser.{dd_line}
use Rattle.bpf_formats.specs.Item.{IsFirstOutOfForm, IsOutOfForm, items_of}

-- an item spells a word in the form
abbrev pub Spells : Form → List ℕ → ℕ → Type 0
Spells Decimal item word = SpellsFields item word
Spells Hexadecimal item word = SpellsDigits item word

-- the items of what is left of a text, none if its last item was taken
abbrev pub items_left : Option (Bor (List ℕ)) → List (List ℕ)
items_left None = []
items_left (Some text) = items_of text.now

-- how many bytes are left, and one more if an item is left
abbrev pub left_len : Option (Bor (List ℕ)) → ℕ
left_len None = 0
left_len (Some text) = length text.now + 1

-- the word of an item was added, if the item is not empty
abbrev pub AddsWord : Form → List ℕ → List ℕ → List ℕ → Type 0
AddsWord form item before after =
    ((item ≡ []) × (after ≡ before))
    ⊎ ((item ≢ []) × ((word : ℕ) × Spells form item word × (after ≡ before ++ word ∷ [])))

-- item n is out of form, unless memory was refused
abbrev pub IsFaultAt : Form → ℕ → List ℕ → FormatFault → Type 0
IsFaultAt form n item (Syntax line) = (line ≡ n) × IsOutOfForm (Spells form) item
IsFaultAt form n item Count = ⊥
IsFaultAt form n item OutOfMemory = Unit {0}

-- the first item out of form, unless memory was refused
abbrev pub IsFaultOfItems : Form → ℕ → List (List ℕ) → FormatFault → Type 0
IsFaultOfItems form n items (Syntax line) = IsFirstOutOfForm (Spells form) n items line
IsFaultOfItems form n items Count = ⊥
IsFaultOfItems form n items OutOfMemory = Unit {0}

-- a word as a line
abbrev pub line_of : Layout → ℕ → List ℕ
line_of layout.Fields word = ddd_line word
line_of layout.Digits word = hex_line word
line_of layout.Initialiser word = dd_line word
