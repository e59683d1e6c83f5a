use Rattle.std.proofs.Common.{◌*◌, ◌+◌, ◌-◌, [], Some, arith, slice_get, slice_index_or, subst, suc, sym, ℕ, ◌<◌, ◌∙◌, ◌≡◌}
use Rattle.config_image.specs.declared.TheConstants.{ROW_WORDS}
use Rattle.config_image.specs.PageTable.{header_count, header_len, page_of, start_of}
use Rattle.config_image.specs.Search.{HoldsPlace, IsSearchOf, IsWithin}
use Rattle.versions.specs.declared.layout.TheConstants.{ROWS_BEGIN}
use Rattle.versions.specs.Layout.{page_begin}
use Rattle.versions.specs.Safety.{IsHeldPlace}
use Rattle.versions.specs.Table.{the_shape}
use Rattle.read_section.specs.Reads.{Fetched}
use Rattle.read_section.specs.Worker.{WorkerValue}
use Rattle.read_section.specs.body.Found.{IsExtentOf}
use Rattle.read_section.specs.body.Sought.{IsEntryOf, IsSought, TellsEntry, entries_of}
use Rattle.read_section.specs.body.Steps.{SeesWord}
use Rattle.read_section.proofs.HeldWordLemmas.{config_held, same_version}
use Rattle.read_section.proofs.ReadLemmas.{fetched_further, fetched_more, held_after, none_fetched, sees_before}
use Rattle.read_section.proofs.SoughtLemmas.{entries_fit, found_below, found_is, found_low, found_next, further, goes_on, length_is, entry_place_held, entry_small, entry_there, entries_counted, entries_within, told_of}
use Rattle.read_section.proofs.WorkerSeatLemmas.{page_place_is}
use Rattle.read_section.proofs.reading.search_extent.Goals as goal

pub new-search-requires-clause-entries_fit : goal.new-search-requires-clause-entries_fit
new-search-requires-clause-entries_fit c = let e = c.entries.ensures in let fit = entries_fit c.args.worker.now c.args.row c.args.form.0 c.args.i c.requires in omega arith

pub loop-index-init : goal.loop-index-init
loop-index-init c = let w = c.args.worker.now in let s = c.requires in let entries = entries_of (config_held w s.1) w.view.pages in record {
  few = (let most = c.new-search.ensures.at_most in omega arith);
  fetched = none_fetched w;
  is_search = λ k n r e. subst (λ (m : ℕ). IsSearchOf (entries_of (slice_index_or w.view.seen m []) w.view.pages) (header_len c.args.form.0) c.args.i c.new-search.result) (same_version w.view.stage s.0 s.1 s.2 k n r s.3 e)
      (subst (λ (end : ℕ). IsSearchOf entries end c.args.i c.new-search.result) c.image_len.ensures
      (c.new-search.ensures.begun entries (entries_counted w c.args.row c.args.form.0 c.args.i s ∙ sym c.entries.ensures) (subst (λ (end : ℕ). IsWithin entries end c.args.i) (sym c.image_len.ensures) (entries_within w c.args.row c.args.form.0 c.args.i s))));
}

pub fetch-requires-clause-held : goal.fetch-requires-clause-held
fetch-requires-clause-held c = let w = c.args.worker.now in let s = c.requires in let inv = c.loop-index.invariant in
    let inside = c.in-Some.ensures.among _ _ _ (inv.is_search s.0 s.1 s.2 s.3) in let counted = entries_counted w c.args.row c.args.form.0 c.args.i s in
    held_after c.loop-index.reads w c.loop-index.worker inv.fetched _ (rw c.row_place.ensures (subst (λ (h : ℕ). IsHeldPlace the_shape w.view (ROWS_BEGIN + c.args.row * ROW_WORDS + (h + c.in-Some.index))) (sym c.programs_at.ensures) (entry_place_held w c.args.row c.args.form.0 c.args.i s c.in-Some.index (omega arith))))

pub overflow_add-reads : goal.overflow_add-reads
overflow_add-reads c = let few = c.loop-index.invariant.few in omega arith

pub loop-index-preserved : goal.loop-index-preserved
loop-index-preserved c = let w = c.args.worker.now in let s = c.requires in let inv = c.loop-index.invariant in let entries = entries_of (config_held w s.1) w.view.pages in
    let search = inv.is_search s.0 s.1 s.2 s.3 in let inside = c.in-Some.ensures.among _ _ _ search in let counted = entries_counted w c.args.row c.args.form.0 c.args.i s in
    let held = subst (λ (h : ℕ). IsHeldPlace the_shape w.view (ROWS_BEGIN + c.args.row * ROW_WORDS + (h + c.in-Some.index))) (sym c.programs_at.ensures) (entry_place_held w c.args.row c.args.form.0 c.args.i s c.in-Some.index (omega arith)) in
    let sees = subst (λ (h : ℕ). SeesWord w (ROWS_BEGIN + c.args.row * ROW_WORDS + (h + c.in-Some.index)) c.fetch.result) c.programs_at.ensures (sees_before c.loop-index.reads w c.loop-index.worker inv.fetched _ c.fetch.result (rw c.row_place.ensures at c.fetch.ensures.word)) in
    let there = entry_there w c.args.row c.args.form.0 c.args.i s c.in-Some.index (omega arith) c.fetch.result sees in record {
      few = (let few = inv.few in let fewer = c.tell.ensures.fewer in omega arith);
      fetched = (let n = c.loop-index.reads in let more = fetched_more n w c.loop-index.worker inv.fetched c.fetch.new.self _ c.fetch.result (rw c.row_place.ensures at c.fetch.ensures.one_fetch) held in subst (λ (m : ℕ). Fetched m w c.fetch.new.self) (let g : suc n ≡ n + 1 = omega arith in g) more);
      is_search = λ k n r e. subst (λ (m : ℕ). IsSearchOf (entries_of (slice_index_or w.view.seen m []) w.view.pages) (header_len c.args.form.0) c.args.i c.tell.new.self) (same_version w.view.stage s.0 s.1 s.2 k n r s.3 e)
          (c.tell.ensures.told entries (header_len c.args.form.0) c.args.i search (subst (λ (m : ℕ). slice_get entries m ≡ Some c.fetch.result) c.in-Some.ensures.asked there));
    }

pub found-found-requires-clause-begun : goal.found-found-requires-clause-begun
found-found-requires-clause-begun c = let s = c.requires in (_, _, _, c.loop-index.invariant.is_search s.0 s.1 s.2 s.3)

pub overflow_sub-shift : goal.overflow_sub-shift
overflow_sub-shift c = let w = c.args.worker.now in let s = c.requires in let f = c.found-found.result in let holds = subst (λ (end : ℕ). HoldsPlace (entries_of (config_held w s.1) w.view.pages) end c.args.i f) (length_is w c.args.row c.args.form.0 c.args.i s) (c.found-found.ensures.found _ _ _ (c.loop-index.invariant.is_search s.0 s.1 s.2 s.3)) in
    let low = found_low w c.args.row c.args.form.0 c.args.i s f holds in let start = c.start-at.ensures.start in let page = c.page_begin.ensures in omega arith

pub overflow_add-index : goal.overflow_add-index
overflow_add-index c = let w = c.args.worker.now in let s = c.requires in let f = c.found-found.result in let holds = subst (λ (end : ℕ). HoldsPlace (entries_of (config_held w s.1) w.view.pages) end c.args.i f) (length_is w c.args.row c.args.form.0 c.args.i s) (c.found-found.ensures.found _ _ _ (c.loop-index.invariant.is_search s.0 s.1 s.2 s.3)) in
    let below = found_below w c.args.row c.args.form.0 c.args.i s f holds in omega arith

pub loop-reads-init : goal.loop-reads-init
loop-reads-init c = let w = c.args.worker.now in let s = c.requires in let f = c.found-found.result in let holds = subst (λ (end : ℕ). HoldsPlace (entries_of (config_held w s.1) w.view.pages) end c.args.i f) (length_is w c.args.row c.args.form.0 c.args.i s) (c.found-found.ensures.found _ _ _ (c.loop-index.invariant.is_search s.0 s.1 s.2 s.3)) in let start = c.start-at.ensures.start in let page = c.page_begin.ensures in record {
  made = c.loop-index.reads;
  counted = (let few = c.loop-index.invariant.few in (omega arith, omega arith));
  fetched = c.loop-index.invariant.fetched;
  below = found_below w c.args.row c.args.form.0 c.args.i s f holds;
  entry = told_of w c.args.row c.args.form.0 c.args.i s (λ config pages. IsEntryOf config pages (f.index + 1) f.next.0) (found_next w c.args.row c.args.form.0 c.args.i s f holds);
  extent = told_of w c.args.row c.args.form.0 c.args.i s (λ config pages. IsExtentOf config pages (record { version = 0; at = c.start-at.result; end = start_of f.next.0; shift = c.page_begin.result - c.start-at.result }))
      (subst (λ (a : ℕ). IsExtentOf (config_held w s.1) w.view.pages (record { version = 0; at = a; end = start_of f.next.0; shift = c.page_begin.result - c.start-at.result })) (sym start) (found_is w c.args.row c.args.form.0 c.args.i s f holds _ (omega arith)));
  there = (let from = holds.from in let to = holds.to in (omega arith, to));
}

pub overflow_add-start : goal.overflow_add-start
overflow_add-start c = let w = c.args.worker.now in let s = c.requires in let inv = c.loop-reads.invariant in let start = c.start.ensures.start in let page = c.page_begin.ensures in let place = page_place_is (page_of c.found-found.result.entry.0) 0 in
    let small = entry_small w c.args.row c.args.form.0 c.args.i s c.loop-reads.index c.loop-reads.next.0 inv.below (inv.entry s.0 s.1 s.2 s.3) in omega arith

pub read_entry-next-requires-clause-row : goal.read_entry-next-requires-clause-row
read_entry-next-requires-clause-row c = let w = c.args.worker.now in let inv = c.loop-reads.invariant in (c.args.i, subst (λ (v : WorkerValue). IsSought v.view c.args.row c.args.form.0 c.args.i) (sym inv.fetched.only) c.requires)

pub loop-reads-preserved : goal.loop-reads-preserved
loop-reads-preserved c = let w = c.args.worker.now in let s = c.requires in let inv = c.loop-reads.invariant in let few = c.read_entry-next.ensures.few in
    let read = subst (λ (v : WorkerValue). TellsEntry v.view (c.loop-reads.index + 1) c.read_entry-next.result.0) inv.fetched.only c.read_entry-next.ensures.entry in
    let at = c.start-at.result in let shift = c.page_begin.result - c.start-at.result in let index = c.loop-reads.index in let next = c.loop-reads.next.0 in let behind = c.read_entry-next.result.0 in
    let low : index < header_count c.args.form.0 = (let e = c.entries-in-loop-reads.ensures in let t = c.if-index-entries.true in omega arith) in
    let entry = inv.entry s.0 s.1 s.2 s.3 in let entry' = read s.0 s.1 s.2 s.3 in let is = inv.extent s.0 s.1 s.2 s.3 in
    let follows : page_begin the_shape (page_of next) ≡ start_of next + shift = (let e = c.page_begin-then-index-entries.ensures in let start = c.start.ensures.start in let t = c.if-page_begin-start.true in omega arith) in record {
      made = few.0 + inv.made;
      counted = (let one = few.1 in let before = inv.counted.0 in let most = c.loop-reads-test.true in (omega arith, omega arith));
      fetched = fetched_further inv.made few.0 w c.loop-reads.worker c.read_entry-next.new.worker inv.fetched few.2;
      below = (let g = low in omega arith);
      entry = read;
      extent = told_of w c.args.row c.args.form.0 c.args.i s (λ config pages. IsExtentOf config pages (record { version = 0; at = at; end = start_of behind; shift = shift })) (goes_on w c.args.row c.args.form.0 c.args.i s at shift index next behind low entry is follows entry');
      there = (inv.there.0, (let more = further w c.args.row c.args.form.0 c.args.i s at shift index next behind low entry is follows entry' in let before = inv.there.1 in omega arith));
    }

pub returns-clause-found : goal.returns-clause-found
returns-clause-found c = let w = c.args.worker.now in let s = c.requires in let inv = c.loop-reads.invariant in
    (s.0, s.1, s.2, s.3, subst (λ (e : ℕ). IsExtentOf (config_held w s.1) w.view.pages (record { version = 0; at = c.start-at.result; end = e; shift = c.page_begin.result - c.start-at.result })) (sym c.start-2.ensures.start) (inv.extent s.0 s.1 s.2 s.3))

pub returns-clause-there : goal.returns-clause-there
returns-clause-there c = let inv = c.loop-reads.invariant in let end = c.start-2.ensures.start in let to = inv.there.1 in (inv.there.0, omega arith)

pub returns-clause-few : goal.returns-clause-few
returns-clause-few c = let inv = c.loop-reads.invariant in (inv.made, (let a = inv.counted.0 in let b = inv.counted.1 in omega arith), inv.fetched)
