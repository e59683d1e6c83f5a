use Rattle.std.proofs.Common.{◌+◌, ◌∙◌, ◌≡◌, ap, arith, drop, get_or, map, refl, set, ℕ}
use Rattle.std.proofs.lemmas.List.{get_or-map, length-map}
use Rattle.config_image.specs.PageTable.{page_of}
use Rattle.versions.specs.Book.{used_by}
use Rattle.versions.proofs.BookLemmas.{counted_version, used_more}
use Rattle.versions.proofs.FormLemmas.{page_at}
use Rattle.versions.proofs.book.Book.count_version.Goals as goal

pub loop-name-init : goal.loop-name-init
loop-name-init g c = (refl, ap (set c.args.self.now.last c.args.row) (let e : c.args.self.now.number + 1 + 1 ≡ c.args.self.now.number + 2 = omega arith in e), refl, refl, refl)

pub loop-name-preserved : goal.loop-name-preserved
loop-name-preserved g c = let was = c.loop-name.invariant in let low = c.loop-name-test.true in let number = c.args.self.now.number in let pages = map page_of c.args.names.now in (
  was.0,
  was.1,
  was.2,
  was.3,
  ap (used_by (number + 2) (drop (c.loop-name.name-index + 1) pages)) (c.name.ensures ∙ ap (λ (q : ℕ). set c.loop-name.self.last_use q (number + 1 + 1)) (c.page.ensures.page ∙ Rattle.std.proofs.Common.sym (get_or-map page_of c.args.names.now c.loop-name.name-index 0 0 low)))
      ∙ (used_more (number + 2) (number + 1 + 1) pages c.loop-name.self.last_use c.loop-name.name-index (omega (arith, length-map c.args.names.now page_of)) (omega arith) ∙ was.4),
)

pub returns : goal.returns
returns g c = let was = c.loop-name.invariant in
    record { counted = counted_version c.args.row c.loop-name.name-index (map page_of c.args.names.now) c.args.self.now c.loop-name.self was.0 was.1 was.2 was.3 (let end = c.loop-name-test.false in omega (arith, length-map c.args.names.now page_of)) was.4 }

pub name-requires : goal.name-requires
name-requires g c = rw c.page.ensures.page (c.requires.pages c.loop-name.name-index _ (page_at c.args.names.now c.loop-name.name-index c.loop-name-test.true))
