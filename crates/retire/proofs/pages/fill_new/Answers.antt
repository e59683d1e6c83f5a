use Rattle.std.proofs.Common.{◌∙◌, ap, arith, length, refl, slice_get, subst, sym, take, ℕ}
use Rattle.std.proofs.lemmas.Option.{slice_get_within}
use Rattle.config_image.specs.Pooled.{pages_for}
use Rattle.retire.specs.body.Filling.{FillsNew, IsReady}
use Rattle.retire.proofs.PageLemmas.{first_free, stays}
use Rattle.retire.proofs.SharingLemmas.{in_front, true_false}
use Rattle.retire.proofs.pages.fill_new.Goals as goal

pub fill_program-requires-clause-free : goal.fill_program-requires-clause-free
fill_program-requires-clause-free c = let t = c.begins_free.ensures.0 c.if-begins_free.true in
    let own_is = c.split_at.ensures.front ∙ ap (λ (n : ℕ). take n c.args.pages.now) c.pages_for.ensures in
    first_free c.args.operator.now c.args.words.now c.split_at.result.0.now t.0 (subst (IsReady c.args.operator.now c.args.words.now) (sym own_is) c.requires.ready) t.1 t.2

pub returns-clause-fills : goal.returns-clause-fills
returns-clause-fills c =
    let own_is = c.split_at.ensures.front ∙ ap (λ (n : ℕ). take n c.args.pages.now) c.pages_for.ensures in
    subst (FillsNew c.args.operator.now c.args.operator.now c.args.words.now) own_is
    (stays c.args.operator.now c.args.operator.now c.args.words.now c.split_at.result.0.now (subst (IsReady c.args.operator.now c.args.words.now) (sym own_is) c.requires.ready)
    (λ page at free. true_false (sym (c.begins_free.ensures.1 (page, at, free)) ∙ c.if-begins_free.false)) (c.split_at.ensures.front_len ∙ c.pages_for.ensures) refl)

pub returns-then-begins_free-clause-filled : goal.returns-then-begins_free-clause-filled
returns-then-begins_free-clause-filled c = λ index page at.
    let t = c.begins_free.ensures.0 c.if-begins_free.true in
    let own_is = c.split_at.ensures.front ∙ ap (λ (n : ℕ). take n c.args.pages.now) c.pages_for.ensures in
    let free = first_free c.args.operator.now c.args.words.now c.split_at.result.0.now t.0 (subst (IsReady c.args.operator.now c.args.words.now) (sym own_is) c.requires.ready) t.1 t.2 in
    let long = c.split_at.ensures.front_len ∙ c.pages_for.ensures in (
      in_front (pages_for (length c.args.words.now)) c.args.pages.now index page (ap (λ l. slice_get l index) (sym own_is) ∙ at),
      omega (arith, long, slice_get_within c.split_at.result.0.now index page at),
      free.free index page at,
    )
