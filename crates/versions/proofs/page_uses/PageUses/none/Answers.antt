use Rattle.std.proofs.Common.{[], ap, arith, length, replicate, sym, ◌++◌, ◌-◌, ◌∙◌, ◌≡◌, List, ℕ, take}
use Rattle.std.proofs.lemmas.List.{take_all}
use Rattle.versions.specs.declared.layout.TheConstants.{PAGES}
use Rattle.versions.proofs.ShapeLemmas.{pages_is}
use Rattle.versions.proofs.page_uses.PageUses.none.Goals as goal

-- a vector that was empty, filled up with zeros
filled_up : (n len : ℕ) (before after : List ℕ) → before ≡ [] → len ≡ length before → after ≡ take n before ++ replicate (n - len) 0 → after ≡ replicate n 0
filled_up n len before after none long is =
    let nothing : take n before ≡ [] = take_all n before (omega (arith, ap length none)) ∙ none in
    is ∙ (ap (λ l. l ++ replicate (n - len) 0) nothing ∙ ap (λ (k : ℕ). replicate k 0) (let g : n - len ≡ n = omega (arith, ap length none) in g))

pub returns : goal.returns
returns g c = record {
  none = filled_up PAGES c.in_ok-uses.uses.len c.in_ok-uses.uses.items c.resize.new.self.items c.in_ok-uses.ensures.items c.in_ok-uses.uses.ok.0 c.in_ok-resize.ensures.items
      ∙ ap (λ (n : ℕ). replicate n 0) (sym pages_is);
}
