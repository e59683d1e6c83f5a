use Rattle.std.proofs.Common.{arith, length, slice_index_or, ◌≡◌, ◌<◌}
use Rattle.filter_emit.specs.declared.fixup.Side.TheVariants.{WhenTrue}
use Rattle.filter_emit.proofs.FillLemmas.{IsBound-filling, IsFilling-none, IsFilling-one, has_later, item_is}
use Rattle.filter_emit.proofs.code.fill_all.Goals as goal

pub loop-fixup-init : goal.loop-fixup-init
loop-fixup-init g c = IsFilling-none _ _ _

pub fill-requires-clause-there : goal.fill-requires-clause-there
fill-requires-clause-there g c =
    let fixups = c.args.fixups.now in
    let low : c.loop-fixup.fixup-index < length fixups = let l = c.loop-fixup-test.true in omega arith in
    (has_later fixups c.loop-fixup.fixup-index _ _ c.loop-fixup.words.items c.loop-fixup.invariant _ _
    (c.requires.within _ (item_is fixups c.loop-fixup.fixup-index (record { place = 0; side = WhenTrue }) low).0)
    (c.requires.there _ (item_is fixups c.loop-fixup.fixup-index (record { place = 0; side = WhenTrue }) low).0))

pub fill-requires-clause-within : goal.fill-requires-clause-within
fill-requires-clause-within g c =
    let fixups = c.args.fixups.now in
    let low : c.loop-fixup.fixup-index < length fixups = let l = c.loop-fixup-test.true in omega arith in
    rw c.loop-fixup.invariant.same_length (c.requires.within _ (item_is fixups c.loop-fixup.fixup-index (record { place = 0; side = WhenTrue }) low).0)

pub fill-requires-clause-behind : goal.fill-requires-clause-behind
fill-requires-clause-behind g c =
    let fixups = c.args.fixups.now in
    let low : c.loop-fixup.fixup-index < length fixups = let l = c.loop-fixup-test.true in omega arith in
    let long : c.len-to.result ≡ length c.args.words.now.items = let e1 = c.len-to.ensures in let e2 = c.args.words.now.ok.0 in omega arith in
    rw long (c.requires.within _ (item_is fixups c.loop-fixup.fixup-index (record { place = 0; side = WhenTrue }) low).0)

pub fill-requires-clause-near : goal.fill-requires-clause-near
fill-requires-clause-near g c =
    let fixups = c.args.fixups.now in
    let low : c.loop-fixup.fixup-index < length fixups = let l = c.loop-fixup-test.true in omega arith in
    let long : c.len-to.result ≡ length c.args.words.now.items = let e1 = c.len-to.ensures in let e2 = c.args.words.now.ok.0 in omega arith in
    rw long (c.requires.near _ (item_is fixups c.loop-fixup.fixup-index (record { place = 0; side = WhenTrue }) low).0)

pub loop-fixup-preserved : goal.loop-fixup-preserved
loop-fixup-preserved g c =
    let fixups = c.args.fixups.now in let i = c.loop-fixup.fixup-index in
    let low : c.loop-fixup.fixup-index < length fixups = let l = c.loop-fixup-test.true in omega arith in
    let fixup = slice_index_or fixups i (record { place = 0; side = WhenTrue }) in
    let is = item_is fixups i (record { place = 0; side = WhenTrue }) low in
    let inside = c.requires.within fixup is.0 in
    let long : c.len-to.result ≡ length c.args.words.now.items = let e1 = c.len-to.ensures in let e2 = c.args.words.now.ok.0 in omega arith in
    IsFilling-one fixups i (length c.args.words.now.items) c.args.words.now.items c.loop-fixup.words.items c.fill.new.words.items fixup c.loop-fixup.invariant is.1 is.0
    (rw c.loop-fixup.invariant.same_length inside) inside
    (rw (← long) c.fill.ensures.filled)
    (has_later fixups i _ _ c.loop-fixup.words.items c.loop-fixup.invariant _ _ inside (c.requires.there fixup is.0))

pub returns : goal.returns
returns g c = record {
  bound = IsBound-filling c.args.fixups.now c.args.words.now.items c.loop-fixup.words.items c.loop-fixup.fixup-index
      (let f = c.loop-fixup-test.false in let t = c.loop-fixup.auto.fixup-index-end in omega arith) c.loop-fixup.invariant;
}
