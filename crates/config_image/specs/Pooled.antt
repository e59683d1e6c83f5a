-- The words in which the table stores a configuration if programs are in pages of a pool (docs/SWITCH.md, "The pooled form").
-- A row has its own first word, then what the image has before its programs, and in place of the programs a page table:
-- an entry for each part of the programs' words, with its page.
use Rattle.std.specs.Prelude.{◌≡◌, ◌*◌, ◌+◌, ◌-◌, ◌/◌, ◌<◌, ◌≤◌, ◌++◌, ◌∷◌, List, Some, [], drop, flat_map, length, map, replicate, slice_get, slice_index, suc, take, zero, ℕ}
use Rattle.std.specs.List.{All, sum_by}
use Rattle.bpf_verify.specs.Program.{ProgramValue}
use Rattle.member_group.specs.declared.TheConstants.{HEAD_WORDS}
use Rattle.member_group.specs.Charge.{charge_of, programs_of}
use Rattle.member_group.specs.Group.{IsConfig}
use Rattle.config_image.specs.declared.TheConstants.{PAGE_LIMIT, PAGE_WORDS, ROW_WORDS}
use Rattle.config_image.specs.Image.{Group, image, programs_begin, row}
use Rattle.config_image.specs.PageTable.{entry_word, header_begin, header_count, header_len, header_word, page_of}

-- so many parts of words: each has as many words as a page, as long as there are words; words after the last part are left out
abbrev pub parts_from : ℕ → List ℕ → List (List ℕ)
parts_from zero words = []
parts_from (suc n) words = take PAGE_WORDS words ∷ parts_from n (drop PAGE_WORDS words)

-- how many pages a program of so many words takes
abbrev pub pages_for : ℕ → ℕ
pages_for len = (len + (PAGE_WORDS - 1)) / PAGE_WORDS

-- the parts of a program's words: each has as many words as a page, and the last one has what is left (`IsCut`)
abbrev pub parts_of : List ℕ → List (List ℕ)
parts_of words = parts_from (pages_for (length words)) words

-- the parts of all programs, in the image's order: group by group, the selector and then the filters
abbrev pub parts : List Group → List (List ℕ)
parts config = flat_map (λ (program : ProgramValue). parts_of program.words) (programs_of config)

-- the page table entries of parts that are in these pages; the first part begins at this place
abbrev pub page_entries : ℕ → List (List ℕ) → List ℕ → List ℕ
page_entries place [] pages = []
page_entries place (part ∷ rest) [] = []
page_entries place (part ∷ rest) (page ∷ pages) = entry_word place page ∷ page_entries (place + length part) rest pages

-- the first word of a row: the image's length, the start of its programs, and how many parts there are
abbrev pub form_word : List Group → ℕ
form_word config = header_word (length (image config)) (programs_begin config) (length (parts config))

-- the row of a configuration whose parts are in these pages: the first word, the image's words before the programs, the entries,
-- and then zeros
unfoldable pub pooled_row : List Group → List ℕ → List ℕ
pooled_row config pages =
    take ROW_WORDS (form_word config ∷ (drop 1 (take (programs_begin config) (image config))
    ++ page_entries (programs_begin config) (parts config) pages ++ replicate ROW_WORDS 0))

-- the pages that the words of a row name, in the order of the entries
abbrev pub pages_of : List ℕ → List ℕ
pages_of words =
    map page_of (take (header_count (slice_index words 0)) (drop (header_begin (slice_index words 0)) words))

-- the place in the image of the first word of the part at an index; after the last part that is the image's length
abbrev pub part_begin : List Group → ℕ → ℕ
part_begin config index = programs_begin config + sum_by (λ (part : List ℕ). length part) (take index (parts config))

-- ---- the parts of a program, and their places in the image

-- the words of parts, one part after the other
abbrev pub joined : List (List ℕ) → List ℕ
joined cut = flat_map (λ (part : List ℕ). part) cut

-- words that are cut in parts of a page each: the parts make the words again, and each but the last fills a page
pub record IsCut (words : List ℕ) (cut : List (List ℕ)) : Type 0 where
  pub counted : length cut ≡ pages_for (length words)
  pub whole : joined cut ≡ words
  pub sized : (index : ℕ) (part : List ℕ) → slice_get cut index ≡ Some part → (1 ≤ length part) × (length part ≤ PAGE_WORDS)
  pub full : (index : ℕ) (part : List ℕ) → slice_get cut index ≡ Some part → index + 1 < length cut → length part ≡ PAGE_WORDS

-- the places of the parts in the image: one after the other from the programs' beginning to the end, each of 1 to 16 words. There
-- are as many as all programs take pages, and a quarter of the image's words at most. Each place of the image from the programs'
-- beginning on is in one of them, and the image's word there is the part's.
pub record PartsStand (config : List Group) : Type 0 where
  pub first : part_begin config 0 ≡ programs_begin config
  pub next : (index : ℕ) (part : List ℕ) → slice_get (parts config) index ≡ Some part → part_begin config (index + 1) ≡ part_begin config index + length part
  pub last : part_begin config (length (parts config)) ≡ length (image config)
  pub sized : (index : ℕ) (part : List ℕ) → slice_get (parts config) index ≡ Some part → (1 ≤ length part) × (length part ≤ PAGE_WORDS)
  pub words : (index k x : ℕ) (part : List ℕ) → slice_get (parts config) index ≡ Some part → slice_get part k ≡ Some x → slice_get (image config) (part_begin config index + k) ≡ Some x
  pub counted : length (parts config) ≡ sum_by (λ (program : ProgramValue). pages_for (length program.words)) (programs_of config)
  pub few : HEAD_WORDS + 4 * length (parts config) ≤ length (image config)
  pub covered : (i : ℕ) → programs_begin config ≤ i → i < length (image config)
      → (index : ℕ) × (index < length (parts config)) × (part_begin config index ≤ i) × (i < part_begin config (index + 1))
  pub found : (index i : ℕ) → index < length (parts config) → part_begin config index ≤ i → i < part_begin config (index + 1)
      → (part : List ℕ) × (slice_get (parts config) index ≡ Some part) × (i - part_begin config index < length part)
      × (slice_get (image config) i ≡ slice_get part (i - part_begin config index))

-- this is true of the words of each program, and in the image of each configuration
abbrev pub EachProgramIsCut : Type 0
EachProgramIsCut = (words : List ℕ) → IsCut words (parts_of words)

abbrev pub EachImageHasItsParts : Type 0
EachImageHasItsParts = (config : List Group) → PartsStand config

-- ---- what a row says

-- the pages of a configuration: one for each part, and each is a number of 16 bits
pub record ArePages (config : List Group) (pages : List ℕ) : Type 0 where
  pub counted : length pages ≡ length (parts config)
  pub below : All (λ page. page < 65536) pages

-- the words of a row, by the configuration and the pages
pub record PooledRowTells (config : List Group) (pages : List ℕ) : Type 0 where
  pub whole : length (pooled_row config pages) ≡ ROW_WORDS
  pub form : slice_get (pooled_row config pages) 0 ≡ Some (form_word config)
  pub length_part : header_len (form_word config) ≡ length (image config)
  pub begin_part : header_begin (form_word config) ≡ programs_begin config
  pub count_part : header_count (form_word config) ≡ length (parts config)
  pub short : length (image config) ≤ ROW_WORDS
  pub few : length (parts config) ≤ PAGE_LIMIT
  pub inside : programs_begin config + length (parts config) ≤ length (image config)
  pub image_words : (i : ℕ) → 0 < i → i < programs_begin config → slice_get (pooled_row config pages) i ≡ slice_get (image config) i
  pub entries : (index page : ℕ) → slice_get pages index ≡ Some page
      → slice_get (pooled_row config pages) (programs_begin config + index) ≡ Some (entry_word (part_begin config index) page)
  pub zeros : (i : ℕ) → programs_begin config + length (parts config) ≤ i → i < ROW_WORDS → slice_get (pooled_row config pages) i ≡ Some 0
  pub pages_are : pages_of (pooled_row config pages) ≡ pages
  pub parts_stand : PartsStand config

-- this is true if a row has room for the image
abbrev pub RowTellsItsPartsWithRoom : Type 0
RowTellsItsPartsWithRoom =
    (config : List Group) (pages : List ℕ) → length (image config) ≤ ROW_WORDS → ArePages config pages → PooledRowTells config pages

-- and so if the charge is not more than a row has words
abbrev pub RowTellsItsParts : Type 0
RowTellsItsParts = (config : List Group) (pages : List ℕ) → IsConfig config → charge_of config ≤ ROW_WORDS → ArePages config pages → PooledRowTells config pages

-- ---- a row and the pages of its parts

-- a row in the pooled form and the pages of its parts, each part from the page's first word on; `word q k` is word k of page q, and
-- the words after a part are not specified
pub record IsPooledForm (config : List Group) (stored pages : List ℕ) (word : ℕ → ℕ → ℕ) : Type 0 where
  pub are : ArePages config pages
  pub row_is : stored ≡ pooled_row config pages
  pub stands : (index page k x : ℕ) (part : List ℕ) → slice_get pages index ≡ Some page → slice_get (parts config) index ≡ Some part → slice_get part k ≡ Some x → word page k ≡ x

-- the row that has the image, by a row in the pooled form and its pages: its first word, the words before the programs, the programs'
-- words and the zeros. A place of the programs is in one part, and the part is in a page.
pub record PooledFormTells (config : List Group) (stored pages : List ℕ) (word : ℕ → ℕ → ℕ) : Type 0 where
  pub length_word : slice_index (row config) 0 ≡ length (image config)
  pub before : (i : ℕ) → 0 < i → i < programs_begin config → slice_index (row config) i ≡ slice_index stored i
  pub in_page : (i : ℕ) → programs_begin config ≤ i → i < length (image config)
      → (index : ℕ) × (page : ℕ) × (slice_get pages index ≡ Some page) × (part_begin config index ≤ i) × (i < part_begin config (index + 1))
  pub page_words : (index page i : ℕ) → slice_get pages index ≡ Some page → part_begin config index ≤ i → i < part_begin config (index + 1)
      → slice_index (row config) i ≡ word page (i - part_begin config index)
  pub zeros : (i : ℕ) → length (image config) ≤ i → i < ROW_WORDS → slice_index (row config) i ≡ 0

abbrev pub PooledFormTellsRow : Type 0
PooledFormTellsRow = (config : List Group) (stored pages : List ℕ) (word : ℕ → ℕ → ℕ) → length (image config) ≤ ROW_WORDS
    → IsPooledForm config stored pages word → PooledFormTells config stored pages word
