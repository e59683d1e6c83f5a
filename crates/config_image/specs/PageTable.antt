-- The two packed words of a row (docs/SWITCH.md, "The pooled form"): its header, and its page table entries.
use Rattle.std.specs.Prelude.{◌*◌, ◌+◌, ◌/◌, ◌%◌, ◌^◌, ℕ}

-- the header of a row: the image's length, the start of its programs, and in the low 16 bits the number of page table entries
abbrev pub header_word : ℕ → ℕ → ℕ → ℕ
header_word len begin count = len * 2 ^ 32 + begin * 65536 + count

abbrev pub header_len : ℕ → ℕ
header_len header = header / 2 ^ 32

abbrev pub header_begin : ℕ → ℕ
header_begin header = header / 65536 % 65536

abbrev pub header_count : ℕ → ℕ
header_count header = header % 65536

-- the page table entry of a part: the place in the image of its first word, and in the low 16 bits its page
abbrev pub entry_word : ℕ → ℕ → ℕ
entry_word start page = start * 65536 + page

abbrev pub start_of : ℕ → ℕ
start_of entry = entry / 65536

abbrev pub page_of : ℕ → ℕ
page_of entry = entry % 65536
