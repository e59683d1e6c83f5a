use Rattle.std.proofs.Common.{arith, sym, ◌-◌, ◌<◌, ◌≤◌, length}
use Rattle.config_image.specs.declared.TheConstants.{ROW_WORDS}
use Rattle.config_image.specs.Pooled.{pooled_row}
use Rattle.member_group.specs.Charge.{charge_of}
use Rattle.versions.proofs.WorldLemmas.{has_room}
use Rattle.read_section.proofs.FilledLemmas.{row_inside}
use Rattle.retire.proofs.FillingLemmas.{front_kept, holds_all, length-all, one_other_more, one_zero_more, zero_behind}
use Rattle.retire.proofs.row.fill_row.Goals as goal

pub zeros_from-end-requires : goal.zeros_from-end-requires
zeros_from-end-requires c = row_inside c.args.row c.fill_words-len.ensures.fills.still_free.0

pub loop-place-init : goal.loop-place-init
loop-place-init c = (c.fill_words-len.ensures.fills, c.fill_words-len.ensures.front, λ i up small. c.zeros_from-end.ensures.zeros i (omega arith) small)

pub fill_other-requires-clause-free : goal.fill_other-requires-clause-free
fill_other-requires-clause-free c = c.loop-place.invariant.0.still_free

pub fill_other-requires-clause-place : goal.fill_other-requires-clause-place
fill_other-requires-clause-place c = let t = c.zeros_from-end.result - 1 - (c.loop-place.place - c.fill_words-len.result) in let within = c.zeros_from-end.ensures.within in let test = c.loop-place-test.true in let past = c.loop-place.auto.place in omega arith

pub loop-place-preserved : goal.loop-place-preserved
loop-place-preserved c = let config = c.args.config.now in let pages = c.args.pages.now in let p = c.requires.publishable in let room = has_room config (charge_of config) p.0 Rattle.std.proofs.Common.refl p.1 in
    let t = c.zeros_from-end.result - 1 - (c.loop-place.place - c.fill_words-len.result) in let within = c.zeros_from-end.ensures.within in let test = c.loop-place-test.true in let past = c.loop-place.auto.place in
    let small : t < ROW_WORDS = omega arith in let up : c.fill_words-len.result ≤ t = omega arith in let len = c.fill_words-len.ensures.len in
    let h = c.loop-place.invariant in let stored = c.fill_other.ensures in let low = row_inside c.args.row h.0.still_free.0 in let whole = length-all config pages room c.requires.pages in (
      one_other_more c.args.operator.now _ _ c.args.row t 0 low small stored (pooled_row config pages) h.0 (omega arith) (sym (zero_behind config pages room c.requires.pages t (omega arith) small)),
      front_kept _ _ c.args.row t low small stored c.fill_words-len.result (pooled_row config pages) up h.1,
      λ i far inside. one_zero_more _ _ c.args.row t low small stored (λ j more below. h.2 j (omega arith) below) i (omega arith) inside,
    )

pub returns-clause-fills : goal.returns-clause-fills
returns-clause-fills c = c.loop-place.invariant.0

pub returns-clause-holds : goal.returns-clause-holds
returns-clause-holds c = let config = c.args.config.now in let pages = c.args.pages.now in let p = c.requires.publishable in let room = has_room config (charge_of config) p.0 Rattle.std.proofs.Common.refl p.1 in
    let h = c.loop-place.invariant in let stop = c.loop-place-test.false in let past = c.loop-place.auto.place in
    holds_all config pages room c.requires.pages c.loop-place.operator c.args.row c.fill_words-len.result c.fill_words-len.ensures.len h.1 (λ i up small. h.2 i (omega arith) small)
