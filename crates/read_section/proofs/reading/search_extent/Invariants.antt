use Rattle.std.proofs.Common.{◌≡◌, ◌+◌, ◌-◌, ◌<◌, ◌≤◌, [], slice_index_or, ℕ}
use Rattle.config_image.specs.PageTable.{header_count, header_len, start_of}
use Rattle.config_image.specs.Search.{IsSearchOf, reads_left}
use Rattle.versions.specs.declared.view.Stage.TheVariants.{Inside}
use Rattle.read_section.specs.Reads.{Fetched}
use Rattle.read_section.specs.body.Found.{TellsExtent}
use Rattle.read_section.specs.body.Sought.{TellsEntry, entries_of}
use Rattle.read_section.proofs.reading.search_extent.Given as goal

abbrev pub invariant-loop-index : goal.invariant-loop-index
invariant-loop-index l = record {
  few : l.reads + reads_left l.search ≤ 11;
  fetched : Fetched l.reads l.fn.worker l.worker;
  is_search : (k n r : ℕ) → l.fn.worker.view.stage ≡ Inside k n r → IsSearchOf (entries_of (slice_index_or l.fn.worker.view.seen n []) l.fn.worker.view.pages) (header_len l.form.0) l.i l.search;
}

abbrev pub decreases-loop-index : goal.decreases-loop-index
decreases-loop-index l = reads_left l.search

abbrev pub invariant-loop-reads : goal.invariant-loop-reads
invariant-loop-reads l = record {
  made : ℕ;
  counted : (made ≤ l.reads) × (l.reads ≤ 11);
  fetched : Fetched made l.fn.worker l.worker;
  below : l.index ≤ header_count l.form.0;
  entry : TellsEntry l.fn.worker.view l.index l.next.0;
  extent : TellsExtent l.fn.worker.view (record { version = 0; at = l.at; end = start_of l.next.0; shift = l.shift });
  there : (l.at ≤ l.i) × (l.i < start_of l.next.0);
}

abbrev pub decreases-loop-reads : goal.decreases-loop-reads
decreases-loop-reads l = 11 - l.reads
