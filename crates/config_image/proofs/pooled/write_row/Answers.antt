use Rattle.std.proofs.Common.{◌≡◌, ◌+◌, List, ap, arith, length, ℕ}
use Rattle.std.specs.List.{flat_map}
use Rattle.config_image.specs.Pooled.{parts_of}
use Rattle.config_image.proofs.LengthLemmas.{within_charge}
use Rattle.config_image.proofs.PartsLemmas.{size_of}
use Rattle.config_image.proofs.PooledRowLemmas.{row_written, size_of_records}
use Rattle.config_image.proofs.ProgramLemmas.{image_limited, length-by_words, entries_fit, parts-by_words}
use Rattle.config_image.proofs.pooled.write_row.Goals as goal

pub write_group_records-requires-clause-room : goal.write_group_records-requires-clause-room
write_group_records-requires-clause-room g c =
    let size = size_of_records c.args.groups.now c.args.pages.now in
    let room = c.requires.room in
    let first : g.S.WordSink.room c.write_words.new.sink + 2 ≡ g.S.WordSink.room c.args.sink.now = c.write_words.ensures.room in
    rw c.members_in.ensures.members (omega arith)

pub write_members-requires-clause-room : goal.write_members-requires-clause-room
write_members-requires-clause-room g c =
    let size = size_of_records c.args.groups.now c.args.pages.now in
    let room = c.requires.room in
    let first : g.S.WordSink.room c.write_words.new.sink + 2 ≡ g.S.WordSink.room c.args.sink.now = c.write_words.ensures.room in
    let second = rw c.members_in.ensures.members at c.write_group_records.ensures.room in
    rw c.members_in.ensures.members (omega arith)

pub write_entries-requires-clause-pages : goal.write_entries-requires-clause-pages
write_entries-requires-clause-pages g c =
    let walked = ap (λ (all : List (List ℕ)). length (flat_map parts_of all)) c.of_groups.ensures.all in
    let same = ap (λ (all : List (List ℕ)). length all) (parts-by_words c.args.groups.now) in
    let counted = c.requires.pages.counted in omega arith

pub write_entries-requires-clause-limited : goal.write_entries-requires-clause-limited
write_entries-requires-clause-limited g c =
    let walked = ap size_of c.of_groups.ensures.all in
    let size = length-by_words c.args.groups.now in
    let limited = image_limited c.args.groups.now c.requires.config in
    let members = c.members_in.ensures.members in omega arith

pub write_entries-requires-clause-room : goal.write_entries-requires-clause-room
write_entries-requires-clause-room g c =
    let size = size_of_records c.args.groups.now c.args.pages.now in
    let room = c.requires.room in
    let counted = c.requires.pages.counted in
    let first : g.S.WordSink.room c.write_words.new.sink + 2 ≡ g.S.WordSink.room c.args.sink.now = c.write_words.ensures.room in
    let second = rw c.members_in.ensures.members at c.write_group_records.ensures.room in
    let third = rw c.members_in.ensures.members at c.write_members.ensures.room in omega arith

pub returns-clause-written : goal.returns-clause-written
returns-clause-written g c =
    let entries = entries_fit c.args.groups.now in
    let within = within_charge c.args.groups.now c.requires.config in
    let charged = c.requires.charge in
    let first = rw c.form_word-first.ensures at c.write_words.ensures.taken in
    let second = rw c.members_in.ensures.members at c.write_group_records.ensures.taken in
    let third = rw c.members_in.ensures.members at c.write_members.ensures.taken in
    let fourth = rw (c.members_in.ensures.members, c.of_groups.ensures.all) at c.write_entries.ensures.taken in
    row_written c.args.groups.now c.args.pages.now _ _ _ _ _ c.requires.pages.counted (omega arith) first second third fourth

pub returns-clause-room : goal.returns-clause-room
returns-clause-room g c =
    let size = size_of_records c.args.groups.now c.args.pages.now in
    let counted = c.requires.pages.counted in
    let first : g.S.WordSink.room c.write_words.new.sink + 2 ≡ g.S.WordSink.room c.args.sink.now = c.write_words.ensures.room in
    let second = rw c.members_in.ensures.members at c.write_group_records.ensures.room in
    let third = rw c.members_in.ensures.members at c.write_members.ensures.room in
    let fourth = c.write_entries.ensures.room in omega arith
