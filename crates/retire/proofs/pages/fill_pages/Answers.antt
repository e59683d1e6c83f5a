use Rattle.std.proofs.Common.{◌≡◌, ◌∙◌, ◌+◌, ◌-◌, IfSome, ap, arith, drop, length, subst, sym, take, ℕ}
use Rattle.config_image.specs.Pooled.{pages_for}
use Rattle.config_image.specs.Walk.{words_of_programs}
use Rattle.read_section.specs.Operator.{OperatorValue}
use Rattle.retire.specs.body.Filling.{AreFreeBelow}
use Rattle.retire.specs.body.Allocation.{IsBehindNoneFree}
use Rattle.retire.proofs.OneNewLemmas.{only_filled, own_inside, own_ready}
use Rattle.retire.proofs.PageLemmas.{none_to_fill}
use Rattle.retire.proofs.SharingLemmas.{true_false}
use Rattle.retire.proofs.pages.fill_pages.Goals.{in-Some+else-fill_last, in_default}
use Rattle.retire.proofs.pages.fill_pages.Goals as goal

pub returns-then-end-eq0 : goal.returns-then-end-eq0
returns-then-end-eq0 c = let none = c.if-end-eq0.true in
    none_to_fill c.args.operator.now c.args.pages.now (words_of_programs c.args.config.now) c.requires.ready c.requires.counted (λ index page at free. let low = c.requires.below index page at free in omega arith)

pub slice_bounds-own-end : goal.slice_bounds-own-end
slice_bounds-own-end c = let all = words_of_programs c.args.config.now in
    let first = subst (λ o. IfSome o (λ first. IsBehindNoneFree c.args.operator.now.view all c.args.pages.now first.0.now first.1)) c.in-Some.is c.requires.first in
    let inside = own_inside c.args.operator.now c.args.operator.now c.args.pages.now all c.requires.ready c.requires.counted c.in-Some.words.now c.in-Some.at first in let count = c.pages_for.ensures in omega arith

pub fill_last-requires-clause-ready : goal.fill_last-requires-clause-ready
fill_last-requires-clause-ready c = let all = words_of_programs c.args.config.now in
    let first = subst (λ o. IfSome o (λ first. IsBehindNoneFree c.args.operator.now.view all c.args.pages.now first.0.now first.1)) c.in-Some.is c.requires.first in
    own_ready c.args.operator.now c.args.operator.now c.args.pages.now all c.requires.ready c.requires.counted c.in-Some.words.now c.in-Some.at first _
    (ap (λ (n : ℕ). take n (drop c.in-Some.at c.args.pages.now)) (let g : (c.in-Some.at + c.pages_for.result) - c.in-Some.at ≡ pages_for (length c.in-Some.words.now) = omega (arith, c.pages_for.ensures) in g))

pub returns-then-fill_last : goal.returns-then-fill_last
returns-then-fill_last c = let all = words_of_programs c.args.config.now in
    let first = subst (λ o. IfSome o (λ first. IsBehindNoneFree c.args.operator.now.view all c.args.pages.now first.0.now first.1)) c.in-Some.is c.requires.first in
    only_filled c.args.operator.now c.fill_last.new.operator c.args.pages.now all c.requires.ready c.requires.counted c.in-Some.words.now c.in-Some.at first _ c.args.end
    (ap (λ (n : ℕ). take n (drop c.in-Some.at c.args.pages.now)) (let g : (c.in-Some.at + c.pages_for.result) - c.in-Some.at ≡ pages_for (length c.in-Some.words.now) = omega (arith, c.pages_for.ensures) in g))
    c.requires.below (c.fill_last.ensures.filled c.if-fill_last.true)

pub fill_programs-requires-clause-below : goal.fill_programs-requires-clause-below
fill_programs-requires-clause-below c =
    let same : c.match-first.operator ≡ c.args.operator.now = elim c.match-first.branch [
      | in-Some+else-fill_last w ↦ w.operator-is ∙ w.fill_last.ensures.kept (λ t. true_false (sym t ∙ w.if-fill_last.false))
      | in_default w ↦ w.operator-is
    ] in
    subst (λ (o : OperatorValue). AreFreeBelow o.view c.args.pages.now c.args.end) (sym same) c.requires.below
