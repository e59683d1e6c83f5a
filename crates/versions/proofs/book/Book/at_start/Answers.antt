use Rattle.std.proofs.Common.{◌≡◌, ◌∙◌, ◌+◌, ◌-◌, ap, arith, refl, ℕ}
use Rattle.std.specs.List.{range_with_len}
use Rattle.versions.specs.Book.{used_by}
use Rattle.versions.specs.Table.{the_shape}
use Rattle.versions.specs.World.{first_pages}
use Rattle.versions.proofs.BookLemmas.{used_first, used_none}
use Rattle.versions.proofs.book.Book.at_start.Goals as goal

pub loop-page-init : goal.loop-page-init
loop-page-init g c = ap (λ (n : ℕ). used_by 1 (range_with_len 0 n) c.in_ok-last_use.last_use) (let g : c.args.count - 0 ≡ c.args.count = omega arith in g) ∙ ap (used_by 1 (first_pages c.args.count)) c.in_ok-last_use.ensures.none

pub loop-page-preserved : goal.loop-page-preserved
loop-page-preserved g c = ap (used_by 1 (range_with_len (c.loop-page.page + 1) (c.args.count - (c.loop-page.page + 1)))) c.name.ensures
    ∙ (used_first c.loop-page.page c.args.count c.loop-page.last_use c.loop-page-test.true ∙ c.loop-page.invariant)

pub returns : goal.returns
unfolding the_shape
returns g c = record { at_start = record { number = refl; last = refl; last_use = used_none c.loop-page.page c.args.count c.loop-page.last_use c.loop-page-test.false ∙ c.loop-page.invariant; cleared = refl; free = refl } }
