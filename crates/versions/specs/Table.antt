-- The shape of the switch's table (docs/TABLE.md, "The words").
use Rattle.std.specs.Prelude.{List}
use Rattle.config_image.specs.declared.TheConstants.{PAGE_WORDS, ROW_WORDS}
use Rattle.config_image.specs.Image.{Group}
use Rattle.config_image.specs.Pooled.{pages_of, parts, pooled_row}
use Rattle.member_group.specs.Charge.{charge_of}
use Rattle.versions.specs.declared.layout.TheConstants.{LAST_NUMBER, CHARGE_LIMIT, PAGES, ROWS, WORKERS}
use Rattle.versions.specs.Layout.{Form, Shape}

-- the pooled form (docs/SWITCH.md, "The pooled form"): the words of a row, the parts of all programs, and the pages of the row's
-- names
abbrev pub pooled_form : Form (List Group)
pooled_form = record { row = pooled_row; parts = parts; named = pages_of }

-- sixty-four workers, sixteen rows of 8192 words, 32,768 pages of 16 words, versions 0 to 2^48, configurations of charge at most
-- 8192
unfoldable pub the_shape : Shape (List Group)
the_shape =
    record { workers = WORKERS; rows = ROWS; row_words = ROW_WORDS; pages = PAGES; page_words = PAGE_WORDS; last_number = LAST_NUMBER; charge_limit = CHARGE_LIMIT; charge = charge_of; form = pooled_form }

-- the same table, with configurations stored in another form
abbrev pub stored_by : Form (List Group) → Shape (List Group)
stored_by form = record the_shape { form = form }
