use Rattle.std.proofs.Common.{arith, slice_set, subst, sym, ℕ, ◌<◌, rules}
use Rattle.versions.specs.Free.{IsFreeRow}
use Rattle.versions.specs.Table.{the_shape}
use Rattle.versions.proofs.ShapeLemmas.{row_words_is}
use Rattle.read_section.specs.body.OperatorKept.{IsKeptBy}
use Rattle.read_section.specs.Operator.{OperatorValue}
use Rattle.read_section.proofs.FilledLemmas.{place_stored, row_inside}
use Rattle.read_section.proofs.KeeperLemmas.{IsKeptBy-filled}
use Rattle.read_section.proofs.operator.Operator.fill.Goals as goal

pub row_place-requires-clause-row : goal.row_place-requires-clause-row
row_place-requires-clause-row c = row_inside c.args.row c.requires.free.0

pub index_mut-requires : goal.index_mut-requires
index_mut-requires c = let at = c.row_place.ensures in let low = place_stored c.args.row c.args.place (row_inside c.args.row c.requires.free.0) c.requires.place in let long = c.self.invariant.words_length in let len = c.self.inside.words.ok.0 in omega arith

pub offset_bounds-self-inside-row : goal.offset_bounds-self-inside-row
offset_bounds-self-inside-row c = let low = row_inside c.args.row c.requires.free.0 in omega arith

pub bounds-self-inside-row : goal.bounds-self-inside-row
bounds-self-inside-row c = row_inside c.args.row c.requires.free.0

pub offset_bounds-self-inside-row-2 : goal.offset_bounds-self-inside-row-2
offset_bounds-self-inside-row-2 c = let low = row_inside c.args.row c.requires.free.0 in omega arith

pub bounds-self-inside-row-2 : goal.bounds-self-inside-row-2
bounds-self-inside-row-2 c = row_inside c.args.row c.requires.free.0

pub fill-requires-clause-free : goal.fill-requires-clause-free
fill-requires-clause-free c = subst (λ (o : OperatorValue). IsFreeRow the_shape o.view c.args.row) (sym c.self.view_is) c.requires.free

pub fill-requires-clause-place : goal.fill-requires-clause-place
fill-requires-clause-place c = subst (λ (n : ℕ). c.args.place < n) (sym row_words_is) c.requires.place

pub zeros_begin-requires-clause-from : goal.zeros_begin-requires-clause-from
zeros_begin-requires-clause-from c = c.self.invariant.zeros_limited c.args.row (row_inside c.args.row c.requires.free.0)

pub invariant_of-self : goal.invariant_of-self
invariant_of-self c = let zeros = c.zeros_begin.ensures in
    subst (λ o. IsKeptBy o.view c.self.inside.config c.self.inside.book c.self.inside.reported (slice_set c.self.inside.zeros c.args.row c.zeros_begin.result) (slice_set c.self.inside.words.items c.row_place.result c.args.word) c.self.inside.pages) (sym c.fill.ensures)
    (IsKeptBy-filled _ _ _ _ _ _ _ c.self.invariant c.args.row c.args.place c.args.word c.zeros_begin.result c.row_place.result (subst (λ (o : OperatorValue). IsFreeRow the_shape o.view c.args.row) (sym c.self.view_is) c.requires.free) (row_inside c.args.row c.requires.free.0) c.requires.place zeros.zeros zeros.within c.row_place.ensures)

pub returns-clause-one_fill : goal.returns-clause-one_fill
returns-clause-one_fill c = search rules

pub returns-clause-all_stored : goal.returns-clause-all_stored
returns-clause-all_stored c = search rules
