-- The fault of a text that is no list of words (docs/MACHINE.md, "Programs as numbers").
use Rattle.std.specs.Prelude.{◌≡◌, ◌≢◌, ◌<◌, ◌^◌, ◌∷◌, ◌⊎◌, List, [], decimal, length, ℕ}
use Rattle.bpf_formats.specs.declared.fault.FormatFault.{FormatFault}
use Rattle.bpf_formats.specs.declared.fault.FormatFault.TheVariants.{Count, OutOfMemory, Syntax}
use Rattle.bpf_formats.specs.Ddd.{SpellsFields}
use Rattle.bpf_formats.specs.Hex.{SpellsDigits}
use Rattle.bpf_formats.specs.Item.{AreWords, IsFirstOutOfForm, items_of}

-- the item that has the number of words
abbrev pub IsCount : List ℕ → ℕ → Type 0
IsCount item count = (count < 2 ^ 32) × (item ≡ decimal count)

-- the first item out of form: the first of all if it is no count, else one after it
abbrev pub IsFirstOfDdd : List (List ℕ) → ℕ → Type 0
IsFirstOfDdd [] line = ⊥
IsFirstOfDdd (item ∷ items) line =
    ((line ≡ 1) × ((count : ℕ) → IsCount item count → ⊥))
    ⊎ (((count : ℕ) × IsCount item count) × IsFirstOutOfForm SpellsFields 2 items line)

-- each item is in form, but the count is not the number of words
pub record HasWrongCount (text : List ℕ) : Type 0 where
  pub count : ℕ
  pub items : List (List ℕ)
  pub words : List ℕ
  pub cut : items_of text ≡ decimal count ∷ items
  pub fits : count < 2 ^ 32
  pub are_words : AreWords SpellsFields items words
  pub wrong : count ≢ length words

abbrev pub IsFaultOfDdd : List ℕ → FormatFault → Type 0
IsFaultOfDdd text (Syntax line) = IsFirstOfDdd (items_of text) line
IsFaultOfDdd text Count = HasWrongCount text
IsFaultOfDdd text OutOfMemory = ⊥

abbrev pub IsFaultOfHex : List ℕ → FormatFault → Type 0
IsFaultOfHex text (Syntax line) = IsFirstOutOfForm SpellsDigits 1 (items_of text) line
IsFaultOfHex text Count = ⊥
IsFaultOfHex text OutOfMemory = ⊥

-- a text has at most one list of words in a form, at most one fault, and never both
pub record HasOneMeaning (Is : List ℕ → List ℕ → Type 0) (IsFault : List ℕ → FormatFault → Type 0) : Type 0 where
  pub one_value : (text a b : List ℕ) → Is text a → Is text b → a ≡ b
  pub one_fault : (text : List ℕ) (a b : FormatFault) → IsFault text a → IsFault text b → a ≡ b
  pub not_both : (text words : List ℕ) (fault : FormatFault) → Is text words → IsFault text fault → ⊥
