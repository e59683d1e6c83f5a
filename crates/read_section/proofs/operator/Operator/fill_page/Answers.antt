use Rattle.std.proofs.Common.{subst, sym, ℕ, ◌<◌}
use Rattle.versions.specs.Free.{IsFreePage}
use Rattle.versions.specs.Table.{the_shape}
use Rattle.versions.proofs.ShapeLemmas.{page_words_is}
use Rattle.read_section.specs.body.OperatorKept.{IsKeptBy}
use Rattle.read_section.specs.Operator.{OperatorValue}
use Rattle.read_section.proofs.KeeperLemmas.{IsKeptBy-filled_page}
use Rattle.read_section.proofs.operator.Operator.fill_page.Goals as goal

pub fill_page-requires-clause-free : goal.fill_page-requires-clause-free
fill_page-requires-clause-free c = subst (λ (o : OperatorValue). IsFreePage the_shape o.view c.args.page) (sym c.self.view_is) c.requires.free

pub fill_page-requires-clause-place : goal.fill_page-requires-clause-place
fill_page-requires-clause-place c = subst (λ (n : ℕ). c.args.place < n) (sym page_words_is) c.requires.place

pub invariant_of-self : goal.invariant_of-self
invariant_of-self c = subst (λ o. IsKeptBy o.view c.self.inside.config c.self.inside.book c.self.inside.reported c.self.inside.zeros c.self.inside.words.items c.self.inside.pages) (sym c.fill_page.ensures)
    (IsKeptBy-filled_page _ _ _ _ _ _ _ c.self.invariant c.args.page c.args.place c.args.word (subst (λ (o : OperatorValue). IsFreePage the_shape o.view c.args.page) (sym c.self.view_is) c.requires.free) c.requires.place)
