use Rattle.std.proofs.Common.{◌∙◌, ◌+◌, ap, arith, refl, subst, sym, ℕ}
use Rattle.config_image.specs.Pooled.{pooled_row}
use Rattle.retire.specs.body.Filling.{HoldsFront}
use Rattle.member_group.specs.Charge.{charge_of}
use Rattle.versions.proofs.WorldLemmas.{has_room}
use Rattle.retire.proofs.FillingLemmas.{front_fills, front_holds}
use Rattle.retire.proofs.LikeRowLemmas.{apart, as_many_pages, inside, row_made, still_free, whole}
use Rattle.retire.proofs.row.fill_words.Goals as goal

pub returns-then-not-is_like-clause-fills : goal.returns-then-not-is_like-clause-fills
returns-then-not-is_like-clause-fills c = let config = c.args.config.now in let p = c.requires.publishable in
    front_fills config c.args.pages.now (has_room config (charge_of config) p.0 refl p.1) c.requires.pages _ _ c.args.row c.fill_front.ensures.front.fills

pub returns-then-not-is_like-clause-front : goal.returns-then-not-is_like-clause-front
returns-then-not-is_like-clause-front c = let config = c.args.config.now in let p = c.requires.publishable in let len = c.fill_front.ensures.len in
    λ i low. front_holds config c.args.pages.now (has_room config (charge_of config) p.0 refl p.1) c.requires.pages c.fill_front.new.operator c.args.row c.fill_front.ensures.front.front i (omega arith)

pub copy_front-requires-clause-other : goal.copy_front-requires-clause-other
copy_front-requires-clause-other c = let config = c.args.config.now in let p = c.requires.publishable in let like = c.requires.like c.if-not-is_like.false in
    apart c.args.operator.now config _ c.args.pages.now _ like.2 (c.current_pages-names.ensures.stands like.0 like.1) (has_room config (charge_of config) p.0 refl p.1) c.requires.pages _ c.current_row-from.ensures.current c.args.row c.requires.free

pub copy_front-requires-clause-inside : goal.copy_front-requires-clause-inside
copy_front-requires-clause-inside c = let config = c.args.config.now in let p = c.requires.publishable in let like = c.requires.like c.if-not-is_like.false in
    omega (arith, inside c.args.operator.now config _ c.args.pages.now _ like.2 (c.current_pages-names.ensures.stands like.0 like.1) (has_room config (charge_of config) p.0 refl p.1) c.requires.pages _ c.current_row-from.ensures.current _ _ c.row_word.ensures.word c.programs_at-begin.ensures)

pub fill_names-requires-clause-free : goal.fill_names-requires-clause-free
fill_names-requires-clause-free c = let config = c.args.config.now in let p = c.requires.publishable in let like = c.requires.like c.if-not-is_like.false in
    still_free c.args.operator.now config _ c.args.pages.now _ like.2 (c.current_pages-names.ensures.stands like.0 like.1) (has_room config (charge_of config) p.0 refl p.1) c.requires.pages _ c.current_row-from.ensures.current _ _ c.row_word.ensures.word c.programs_at-begin.ensures
    c.args.row c.current_row-from.ensures.a_row c.requires.free c.copy_front.new.operator c.copy_front.ensures

pub fill_names-requires-clause-other : goal.fill_names-requires-clause-other
fill_names-requires-clause-other c = let config = c.args.config.now in let p = c.requires.publishable in let like = c.requires.like c.if-not-is_like.false in
    apart c.args.operator.now config _ c.args.pages.now _ like.2 (c.current_pages-names.ensures.stands like.0 like.1) (has_room config (charge_of config) p.0 refl p.1) c.requires.pages _ c.current_row-from.ensures.current c.args.row c.requires.free

pub fill_names-requires-clause-pages : goal.fill_names-requires-clause-pages
fill_names-requires-clause-pages c = (c.args.config.now, c.requires.pages)

pub fill_names-requires-clause-inside : goal.fill_names-requires-clause-inside
fill_names-requires-clause-inside c = let config = c.args.config.now in let p = c.requires.publishable in let like = c.requires.like c.if-not-is_like.false in
    inside c.args.operator.now config _ c.args.pages.now _ like.2 (c.current_pages-names.ensures.stands like.0 like.1) (has_room config (charge_of config) p.0 refl p.1) c.requires.pages _ c.current_row-from.ensures.current _ _ c.row_word.ensures.word c.programs_at-begin.ensures

pub returns-clause-fills : goal.returns-clause-fills
returns-clause-fills c = let config = c.args.config.now in let p = c.requires.publishable in let like = c.requires.like c.if-not-is_like.false in
    (row_made c.args.operator.now config _ c.args.pages.now _ like.2 (c.current_pages-names.ensures.stands like.0 like.1) (has_room config (charge_of config) p.0 refl p.1) c.requires.pages _ c.current_row-from.ensures.current _ _ c.row_word.ensures.word c.programs_at-begin.ensures
    c.args.row c.current_row-from.ensures.a_row c.requires.free c.copy_front.new.operator c.copy_front.ensures c.fill_names.new.operator c.fill_names.ensures).0

pub returns-clause-front : goal.returns-clause-front
returns-clause-front c = let config = c.args.config.now in let p = c.requires.publishable in let like = c.requires.like c.if-not-is_like.false in
    let many = as_many_pages c.args.operator.now config _ c.args.pages.now _ like.2 (c.current_pages-names.ensures.stands like.0 like.1) (has_room config (charge_of config) p.0 refl p.1) c.requires.pages _ c.current_row-from.ensures.current in
    subst (HoldsFront c.fill_names.new.operator c.args.row (pooled_row config c.args.pages.now)) (ap (λ (n : ℕ). c.programs_at-begin.result + n) many) (row_made c.args.operator.now config _ c.args.pages.now _ like.2 (c.current_pages-names.ensures.stands like.0 like.1) (has_room config (charge_of config) p.0 refl p.1) c.requires.pages _ c.current_row-from.ensures.current _ _ c.row_word.ensures.word c.programs_at-begin.ensures
    c.args.row c.current_row-from.ensures.a_row c.requires.free c.copy_front.new.operator c.copy_front.ensures c.fill_names.new.operator c.fill_names.ensures).1

pub returns-clause-len : goal.returns-clause-len
returns-clause-len c = let config = c.args.config.now in let p = c.requires.publishable in let like = c.requires.like c.if-not-is_like.false in
    let many = as_many_pages c.args.operator.now config _ c.args.pages.now _ like.2 (c.current_pages-names.ensures.stands like.0 like.1) (has_room config (charge_of config) p.0 refl p.1) c.requires.pages _ c.current_row-from.ensures.current in
    sym (ap (λ (n : ℕ). c.programs_at-begin.result + n) many) ∙ whole c.args.operator.now config _ c.args.pages.now _ like.2 (c.current_pages-names.ensures.stands like.0 like.1) (has_room config (charge_of config) p.0 refl p.1) c.requires.pages _ c.current_row-from.ensures.current _ _ c.row_word.ensures.word c.programs_at-begin.ensures
