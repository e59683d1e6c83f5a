-- The items of a text, and the words that they spell (docs/MACHINE.md, "Programs as numbers").
use Rattle.std.specs.Prelude.{◌≡◌, ◌≢◌, ◌==◌, ◌+◌, ◌∷◌, ◌||◌, ◌⊎◌, Bool, List, [], if◌then◌else◌, ℕ}

-- LF and `,` end an item
abbrev pub ends_item : ℕ → Bool
ends_item b = (b == 10) || (b == 44)

-- the items with one more byte at the front of the first
abbrev pub with_front : ℕ → List (List ℕ) → List (List ℕ)
with_front b [] = (b ∷ []) ∷ []
with_front b (item ∷ items) = (b ∷ item) ∷ items

-- a text cut at each LF and each `,`: one item more than there are cuts
abbrev pub items_of : List ℕ → List (List ℕ)
items_of [] = [] ∷ []
items_of (b ∷ text) = if ends_item b then [] ∷ items_of text else with_front b (items_of text)

-- the items are these words, each spelled in a form; an empty item is no word
abbrev pub AreWords : (List ℕ → ℕ → Type 0) → List (List ℕ) → List ℕ → Type 0
AreWords Spells [] [] = Unit {0}
AreWords Spells [] (word ∷ words) = ⊥
AreWords Spells ([] ∷ items) words = AreWords Spells items words
AreWords Spells ((b ∷ item) ∷ items) [] = ⊥
AreWords Spells ((b ∷ item) ∷ items) (word ∷ words) = Spells (b ∷ item) word × AreWords Spells items words

-- an item that is in the form: it is empty, or a word
abbrev pub IsInForm : (List ℕ → ℕ → Type 0) → List ℕ → Type 0
IsInForm Spells item = (item ≡ []) ⊎ ((word : ℕ) × Spells item word)

abbrev pub IsOutOfForm : (List ℕ → ℕ → Type 0) → List ℕ → Type 0
IsOutOfForm Spells item = (item ≢ []) × ((word : ℕ) → Spells item word → ⊥)

-- among items whose first one has the number n, the one with the number `line` is the first out of form
abbrev pub IsFirstOutOfForm : (List ℕ → ℕ → Type 0) → ℕ → List (List ℕ) → ℕ → Type 0
IsFirstOutOfForm Spells n [] line = ⊥
IsFirstOutOfForm Spells n (item ∷ items) line =
    ((line ≡ n) × IsOutOfForm Spells item) ⊎ (IsInForm Spells item × IsFirstOutOfForm Spells (n + 1) items line)
