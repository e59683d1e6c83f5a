use Rattle.std.proofs.Common.{◌∙◌, ◌+◌, ap, arith, refl, slice_index, ℕ}
use Rattle.std.proofs.lemmas.Option.{slice_get-get_or}
use Rattle.config_image.specs.PageTable.{entry_word, start_of}
use Rattle.read_section.proofs.FilledLemmas.{row_inside}
use Rattle.retire.proofs.RowReuseLemmas.{all_named, none_named, one_named_more}
use Rattle.retire.proofs.row_reuse.fill_names.Goals as goal

pub loop-index-init : goal.loop-index-init
loop-index-init c = none_named c.args.operator.now c.args.row c.args.from c.args.begin c.args.pages.now c.requires.free

pub loop-index-preserved : goal.loop-index-preserved
loop-index-preserved c = let inside = c.requires.inside in let test = c.loop-index-test.true in
    one_named_more c.args.operator.now _ _ c.args.row c.args.from (c.args.begin + c.loop-index.index) _ (row_inside c.args.row c.requires.free.0) c.requires.from c.requires.other (omega arith) c.fill_other.ensures c.args.begin c.args.pages.now c.loop-index.index
    (slice_index c.args.pages.now c.loop-index.index) refl (slice_get-get_or c.args.pages.now c.loop-index.index 0 test) (c.new-renamed.ensures ∙ ap (λ (s : ℕ). entry_word s (slice_index c.args.pages.now c.loop-index.index)) (c.start.ensures.start ∙ ap start_of c.row_word.ensures.word)) c.loop-index.invariant

pub new-renamed-requires : goal.new-renamed-requires
new-renamed-requires c = let start = c.start.ensures.range in let page = c.requires.pages.1.below c.loop-index.index 0 c.loop-index-test.true in omega arith

pub returns : goal.returns
returns c = all_named c.args.operator.now c.loop-index.operator c.args.row c.args.from c.args.begin c.args.pages.now c.loop-index.index c.loop-index-test.false c.loop-index.invariant
