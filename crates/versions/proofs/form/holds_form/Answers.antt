use Rattle.std.proofs.Common.{◌≡◌, ◌∙◌, arith, false, length, sym, take, true}
use Rattle.config_image.proofs.PooledLemmas.{few_in_row}
use Rattle.versions.proofs.FormLemmas.{held_below, held_by_both, held_counted, length-own_row, names_of_row, own_are_pages, parts_of_held, row_of_held}
use Rattle.versions.proofs.form.holds_form.Goals as goal

false_true : false ≡ true → ⊥
false_true e = cc

pub returns-then-names-page_count : goal.returns-then-names-page_count
returns-then-names-page_count g c = record {
  holds = (
    (λ e. absurd (false_true e)),
    λ h. absurd (c.if-names-page_count.true (held_counted c.args.words.now c.args.row c.args.config.now c.requires.table c.requires.row c.requires.room c.row_of-row_words.result.now c.row_names-names.result.now c.row_of-row_words.ensures.words c.row_names-names.ensures.pages h ∙ sym c.page_count.ensures.exact)),
  );
}

pub pages_of_names-requires : goal.pages_of_names-requires
pages_of_names-requires g c = omega (arith, c.if-names-page_count.false, c.page_count.ensures.exact, few_in_row c.args.config.now c.requires.room)

pub returns-in_default : goal.returns-in_default
returns-in_default g c = record {
  holds = (
    (λ e. absurd (false_true e)),
    λ h. let t = c.in_default.ensures in let up = t.3 in let low = held_below c.args.words.now c.args.row c.args.config.now c.requires.table c.requires.row c.requires.room c.row_of-row_words.result.now c.row_names-names.result.now c.row_of-row_words.ensures.words c.row_names-names.ensures.pages h t.0 t.1 t.2 in absurd (omega arith),
  );
}

pub row_stands-requires-clause-row : goal.row_stands-requires-clause-row
row_stands-requires-clause-row g c = length-own_row c.args.words.now c.args.row c.args.config.now c.requires.table c.requires.row c.requires.room c.row_of-row_words.result.now c.row_names-names.result.now c.row_of-row_words.ensures.words c.row_names-names.ensures.pages

pub row_stands-requires-clause-pages : goal.row_stands-requires-clause-pages
row_stands-requires-clause-pages g c = own_are_pages c.args.words.now c.args.row c.args.config.now c.requires.table c.requires.row c.requires.room c.row_of-row_words.result.now c.row_names-names.result.now c.row_of-row_words.ensures.words c.row_names-names.ensures.pages
    (take (length c.row_names-names.result.now) c.in-Some.pages) c.in-Some.ensures.0 (c.if-names-page_count.false ∙ c.page_count.ensures.exact) c.in-Some.ensures.1

pub parts_stand-requires-clause-names : goal.parts_stand-requires-clause-names
parts_stand-requires-clause-names g c = names_of_row c.args.words.now c.args.row c.args.config.now c.requires.table c.requires.row c.requires.room c.row_of-row_words.result.now c.row_names-names.result.now c.row_of-row_words.ensures.words c.row_names-names.ensures.pages
    (take (length c.row_names-names.result.now) c.in-Some.pages) c.in-Some.ensures.0 (c.if-names-page_count.false ∙ c.page_count.ensures.exact) c.in-Some.ensures.1 c.row_names-names.ensures.names (c.row_stands.ensures.0 c.if-row_stands.true)

pub returns-then-row_stands : goal.returns-then-row_stands
returns-then-row_stands g c = record {
  holds = (
    (λ e. held_by_both c.args.words.now c.args.row c.args.config.now c.requires.table c.requires.row c.requires.room c.row_of-row_words.result.now c.row_names-names.result.now c.row_of-row_words.ensures.words c.row_names-names.ensures.pages
        (take (length c.row_names-names.result.now) c.in-Some.pages) c.in-Some.ensures.0 (c.if-names-page_count.false ∙ c.page_count.ensures.exact) c.in-Some.ensures.1 (c.row_stands.ensures.0 c.if-row_stands.true) (c.parts_stand.ensures.0 e)),
    λ h. c.parts_stand.ensures.1 (parts_of_held c.args.words.now c.args.row c.args.config.now c.requires.table c.requires.row c.requires.room c.row_of-row_words.result.now c.row_names-names.result.now c.row_of-row_words.ensures.words c.row_names-names.ensures.pages
        (take (length c.row_names-names.result.now) c.in-Some.pages) c.in-Some.ensures.0 (c.if-names-page_count.false ∙ c.page_count.ensures.exact) c.in-Some.ensures.1 h),
  );
}

pub returns-else-row_stands : goal.returns-else-row_stands
returns-else-row_stands g c = record {
  holds = (
    (λ e. absurd (false_true (sym c.if-row_stands.false ∙ e))),
    λ h. c.row_stands.ensures.1 (row_of_held c.args.words.now c.args.row c.args.config.now c.requires.table c.requires.row c.requires.room c.row_of-row_words.result.now c.row_names-names.result.now c.row_of-row_words.ensures.words c.row_names-names.ensures.pages
        (take (length c.row_names-names.result.now) c.in-Some.pages) c.in-Some.ensures.0 (c.if-names-page_count.false ∙ c.page_count.ensures.exact) c.in-Some.ensures.1 h),
  );
}
