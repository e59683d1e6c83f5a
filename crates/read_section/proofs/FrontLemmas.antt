-- A word before the programs, where the row's first word is known: one fetch in the row.
use Rattle.std.proofs.Common.{◌≡◌, ℕ, ◌+◌, ◌*◌, ◌<◌, Some, length, slice_get}
use Rattle.config_image.specs.declared.TheConstants.{ROW_WORDS}
use Rattle.versions.specs.declared.layout.TheConstants.{ROWS_BEGIN, TABLE_WORDS}
use Rattle.versions.specs.Safety.{IsHeldPlace}
use Rattle.versions.specs.View.{after_fetch}
use Rattle.versions.specs.Table.{the_shape}
use Rattle.config_image.specs.declared.pages.cache.Extent.{Extent}
use Rattle.read_section.specs.Reads.{Reads}
use Rattle.read_section.specs.Section.{held_words}
use Rattle.read_section.specs.Worker.{WorkerValue, steps}
use Rattle.read_section.specs.body.Found.{Knows}
use Rattle.read_section.specs.body.Steps.{SeesWord}
use Rattle.read_section.proofs.HeldWordLemmas.{held_stage, known_there, row_place_held, row_place_within, small_in_row}
use Rattle.read_section.proofs.ReadLemmas.{none_fetched, read_last}
use Rattle.read_section.proofs.RowReadLemmas.{head_newest, head_word}

module _ (worker : WorkerValue) (row heads : ℕ) (extent : Extent) (i : ℕ) (knows : Knows worker.view row heads extent) (held : i < length (held_words worker)) (some : 0 < i) (low : i < heads) where
  pub front_held : IsHeldPlace the_shape worker.view (ROWS_BEGIN + row * ROW_WORDS + i)
  front_held = let t = held_stage worker.view.stage worker.view.seen i held in let known = known_there worker t.0 t.1 t.2 t.3 row heads extent knows in
      row_place_held worker t.0 t.1 t.2 t.3 row i known.1.0.0 known.1.0.1 (small_in_row worker t.0 t.1 t.2 t.3 i held)

  pub front_within : ROWS_BEGIN + row * ROW_WORDS + i < TABLE_WORDS
  front_within = let t = held_stage worker.view.stage worker.view.seen i held in let known = known_there worker t.0 t.1 t.2 t.3 row heads extent knows in
      row_place_within worker t.0 t.1 t.2 t.3 row i known.1.0.0 known.1.0.1 (small_in_row worker t.0 t.1 t.2 t.3 i held)

  pub front_value : (x : ℕ) → SeesWord worker (ROWS_BEGIN + row * ROW_WORDS + i) x → slice_get (held_words worker) i ≡ Some x
  front_value x sees = head_word worker row heads extent i knows held some low x sees

  pub front_reads : (most x : ℕ) (after : WorkerValue) → 0 < most → after ≡ steps (after_fetch (ROWS_BEGIN + row * ROW_WORDS + i) x) worker → Reads most i x worker after
  front_reads most x after any e = read_last 0 worker worker (none_fetched worker) after (ROWS_BEGIN + row * ROW_WORDS + i) x e front_held most i x any (head_newest worker row heads extent i knows held some low x)
