use Rattle.std.proofs.Common.{arith, rules}
use Rattle.config_image.proofs.EntryLemmas.{length-entries_from, entries_written}
use Rattle.config_image.proofs.WritingLemmas.{writing_first}
use Rattle.config_image.proofs.pooled.write_program_entries.Goals as goal

pub loop-page-init : goal.loop-page-init
loop-page-init g c =
    let size = length-entries_from c.args.place c.split_at.result.0.now in
    let own = c.split_at.ensures.front_len in
    let counted = c.pages_for.ensures in
    let room = c.requires.room in
    (writing_first _ _ _ (omega arith), omega arith)

pub returns-clause-taken : goal.returns-clause-taken
returns-clause-taken g c =
    (entries_written _ _ _ _ c.args.words.now c.split_at.result.0.now c.args.pages.now c.args.place _ _ _ c.loop-page.invariant.0 c.loop-page-test.false c.split_at.ensures.front c.pages_for.ensures c.requires.enough).0

pub returns-clause-room : goal.returns-clause-room
returns-clause-room g c =
    (entries_written _ _ _ _ c.args.words.now c.split_at.result.0.now c.args.pages.now c.args.place _ _ _ c.loop-page.invariant.0 c.loop-page-test.false c.split_at.ensures.front c.pages_for.ensures c.requires.enough).1

pub returns-clause-left : goal.returns-clause-left
returns-clause-left g c = search rules
