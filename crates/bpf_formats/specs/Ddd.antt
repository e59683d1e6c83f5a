-- Programs in decimal, as `tcpdump -ddd` prints them (docs/MACHINE.md, "Programs as numbers").
use Rattle.std.specs.Prelude.{◌≡◌, ◌<◌, ◌^◌, ◌∷◌, ◌++◌, List, [], decimal, length, ℕ}
use Rattle.std.specs.List.{flat_map}
use Rattle.bpf_insn.specs.Word.{code_of, constant_of, false_jump_of, true_jump_of, word}
use Rattle.bpf_formats.specs.Item.{AreWords, items_of}

-- the four fields, with one space between them
abbrev pub fields_text : ℕ → ℕ → ℕ → ℕ → List ℕ
fields_text code jt jf k = decimal code ++ 32 ∷ (decimal jt ++ 32 ∷ (decimal jf ++ 32 ∷ decimal k))

-- an item is a word: its fields in decimal without leading zeros, each within its range
pub record SpellsFields (item : List ℕ) (it : ℕ) : Type 0 where
  pub code : ℕ
  pub jt : ℕ
  pub jf : ℕ
  pub k : ℕ
  pub code_fits : code < 2 ^ 16
  pub jt_fits : jt < 2 ^ 8
  pub jf_fits : jf < 2 ^ 8
  pub k_fits : k < 2 ^ 32
  pub is_item : item ≡ fields_text code jt jf k
  pub is_word : it ≡ word code jt jf k

-- the first item is the number of words, the others are the words
pub record IsDdd (text words : List ℕ) : Type 0 where
  pub items : List (List ℕ)
  pub cut : items_of text ≡ decimal (length words) ∷ items
  pub count_fits : length words < 2 ^ 32
  pub are_words : AreWords SpellsFields items words

-- a word as a line
abbrev pub ddd_line : ℕ → List ℕ
ddd_line it = fields_text (code_of it) (true_jump_of it) (false_jump_of it) (constant_of it) ++ 10 ∷ []

-- the one text that is printed of words: their number, then each on a separate line
abbrev pub ddd_text : List ℕ → List ℕ
ddd_text words = (decimal (length words) ++ 10 ∷ []) ++ flat_map ddd_line words
