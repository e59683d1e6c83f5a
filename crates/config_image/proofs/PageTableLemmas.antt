-- What is packed into a row's two kinds of words is unpacked again.
use Rattle.std.proofs.Common.{◌≡◌, ◌<◌, arith, ℕ}
use Rattle.config_image.specs.PageTable.{entry_word, header_begin, header_count, header_len, header_word, page_of, start_of}

pub header_parts : (len begin count : ℕ) → begin < 65536 → count < 65536
    → (header_len (header_word len begin count) ≡ len) × (header_begin (header_word len begin count) ≡ begin) × (header_count (header_word len begin count) ≡ count)
header_parts len begin count small few = (omega arith, omega arith, omega arith)

pub start_told : (start page : ℕ) → page < 65536 → start_of (entry_word start page) ≡ start
start_told start page low = omega arith

pub page_told : (start page : ℕ) → page < 65536 → page_of (entry_word start page) ≡ page
page_told start page low = omega arith
