use Rattle.std.proofs.Common.{◌*◌, ◌+◌, ◌∙◌, ap, arith, subst, sym, ℕ}
use Rattle.config_image.specs.declared.TheConstants.{ROW_WORDS}
use Rattle.config_image.specs.PageTable.{entry_word}
use Rattle.versions.specs.declared.layout.TheConstants.{ROWS_BEGIN}
use Rattle.versions.specs.Safety.{IsHeldPlace}
use Rattle.versions.specs.Table.{the_shape}
use Rattle.read_section.specs.body.Sought.{IsEntryOf}
use Rattle.read_section.specs.body.Steps.{SeesWord}
use Rattle.read_section.proofs.ReadLemmas.{fetched_more, none_fetched}
use Rattle.read_section.proofs.SoughtLemmas.{config, is_end_entry, is_entry, entry_place_held, pages, told_of}
use Rattle.read_section.proofs.reading.read_entry.Goals as goal

pub fetch-requires-clause-held : goal.fetch-requires-clause-held
fetch-requires-clause-held c = let w = c.args.worker.now in let s = c.requires.row in let e = c.entries.ensures in let low = c.if-index-entries.true in
    rw c.row_place.ensures (subst (λ (h : ℕ). IsHeldPlace the_shape w.view (ROWS_BEGIN + c.args.row * ROW_WORDS + (h + c.args.index))) (sym c.programs_at.ensures) (entry_place_held w c.args.row c.args.form.0 s.0 s.1 c.args.index (omega arith)))

pub returns-then-index-entries-clause-entry : goal.returns-then-index-entries-clause-entry
returns-then-index-entries-clause-entry c = let w = c.args.worker.now in let s = c.requires.row in let e = c.entries.ensures in let low = c.if-index-entries.true in
    let sees = subst (λ (h : ℕ). SeesWord w (ROWS_BEGIN + c.args.row * ROW_WORDS + (h + c.args.index)) c.fetch.result) c.programs_at.ensures (rw c.row_place.ensures at c.fetch.ensures.word) in
    told_of w c.args.row c.args.form.0 s.0 s.1 (λ config pages. IsEntryOf config pages c.args.index c.fetch.result) (is_entry w c.args.row c.args.form.0 s.0 s.1 c.args.index (omega arith) c.fetch.result sees)

pub returns-then-index-entries-clause-few : goal.returns-then-index-entries-clause-few
returns-then-index-entries-clause-few c = let w = c.args.worker.now in let s = c.requires.row in let e = c.entries.ensures in let low = c.if-index-entries.true in
    let held = subst (λ (h : ℕ). IsHeldPlace the_shape w.view (ROWS_BEGIN + c.args.row * ROW_WORDS + (h + c.args.index))) (sym c.programs_at.ensures) (entry_place_held w c.args.row c.args.form.0 s.0 s.1 c.args.index (omega arith)) in
    (1, omega arith, fetched_more 0 w w (none_fetched w) c.fetch.new.self _ c.fetch.result (rw c.row_place.ensures at c.fetch.ensures.one_fetch) held)

pub returns-else-index-entries-clause-entry : goal.returns-else-index-entries-clause-entry
returns-else-index-entries-clause-entry c = let w = c.args.worker.now in let s = c.requires.row in let e = c.entries.ensures in let high = c.if-index-entries.false in let most = c.requires.index in
    told_of w c.args.row c.args.form.0 s.0 s.1 (λ config pages. IsEntryOf config pages c.args.index c.new.result.0)
    (subst (λ (entry : ℕ). IsEntryOf (config w c.args.row c.args.form.0 s.0 s.1) (pages w c.args.row c.args.form.0 s.0 s.1) c.args.index entry) (sym (c.new.ensures ∙ ap (λ (l : ℕ). entry_word l 0) c.image_len.ensures)) (is_end_entry w c.args.row c.args.form.0 s.0 s.1 c.args.index (omega arith)))
