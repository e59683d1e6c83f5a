use Rattle.std.proofs.Common.{◌∙◌, ◌++◌, ◌∷◌, [], ap, arith, length, rules}
use Rattle.read_section.proofs.FilledLemmas.{first_pages-more}
use Rattle.read_section.proofs.current_pages.CurrentPages.first.Goals as goal

pub push_reserved-requires : goal.push_reserved-requires
push_reserved-requires c = let h = c.loop-page.invariant in let low = c.loop-page-test.true in let few = c.requires in let is = c.loop-page.pages.ok.0 in let room = h.1 in omega (arith, ap length h.0, Rattle.std.proofs.lemmas.List.FromFn.length-range_with_len 0 c.loop-page.page)

pub loop-page-preserved : goal.loop-page-preserved
loop-page-preserved c = let h = c.loop-page.invariant in let e = c.push_reserved.ensures in let room = h.1 in let same = e.capacity in (
  e.items ∙ (ap (λ l. l ++ c.loop-page.page ∷ []) h.0 ∙ first_pages-more c.loop-page.page),
  omega arith,
)

pub returns : goal.returns
returns c = search rules
