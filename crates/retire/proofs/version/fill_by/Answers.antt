use Rattle.std.proofs.Common.{◌≡◌, ◌++◌, ◌∷◌, List, [], subst, sym}
use Rattle.config_image.specs.Image.{Group}
use Rattle.retire.specs.body.Alike.{AreAlike}
use Rattle.config_image.proofs.ProgramLemmas.{parts-by_words}
use Rattle.versions.proofs.FormLemmas.{are_pages}
use Rattle.retire.specs.body.Filling.{FillsParts}
use Rattle.retire.specs.body.Allocation.{ChoosesPages}
use Rattle.retire.proofs.ReadyLemmas.{chosen_counted, chosen_ready}
use Rattle.retire.proofs.version.fill_by.Goals as goal

pub fill_pages-requires-clause-ready : goal.fill_pages-requires-clause-ready
fill_pages-requires-clause-ready g c =
    chosen_ready c.args.operator.now c.args.config.now c.as_slice-pages.result.now (subst (ChoosesPages c.args.operator.now.view c.args.config.now) (sym c.as_slice-pages.ensures) c.choose_pages-chosen.ensures.chosen)

pub fill_pages-requires-clause-below : goal.fill_pages-requires-clause-below
fill_pages-requires-clause-below g c = rw (c.as_slice-pages.ensures, c.end.ensures) c.choose_pages-chosen.ensures.below

pub fill_row-requires-clause-free : goal.fill_row-requires-clause-free
fill_row-requires-clause-free g c = c.fill_pages.ensures.fills.steps.free_rows c.args.row c.requires.free

pub fill_row-requires-clause-pages : goal.fill_row-requires-clause-pages
fill_row-requires-clause-pages g c = let pages = c.as_slice-pages.result.now in let chosen = subst (ChoosesPages c.args.operator.now.view c.args.config.now) (sym c.as_slice-pages.ensures) c.choose_pages-chosen.ensures.chosen in
    are_pages c.args.config.now pages (chosen_counted c.args.operator.now c.args.config.now pages chosen) (chosen_ready c.args.operator.now c.args.config.now pages chosen).low

pub returns : goal.returns
returns g c = let pages = c.as_slice-pages.result.now in let chosen = subst (ChoosesPages c.args.operator.now.view c.args.config.now) (sym c.as_slice-pages.ensures) c.choose_pages-chosen.ensures.chosen in
    let low = (chosen_ready c.args.operator.now c.args.config.now pages chosen).low in (
      pages,
      record {
        chosen = chosen;
        low = low;
        middle = c.fill_pages.new.operator;
        parts_filled = subst (FillsParts c.args.operator.now c.fill_pages.new.operator pages) (sym (parts-by_words c.args.config.now)) c.fill_pages.ensures;
        row_filled = c.fill_row.ensures.fills;
        row_held = c.fill_row.ensures.holds;
        are = are_pages c.args.config.now pages (chosen_counted c.args.operator.now c.args.config.now pages chosen) low;
      },
    )

pub fill_row-requires-clause-like : goal.fill_row-requires-clause-like
fill_row-requires-clause-like g c = λ like. let h = c.choose_pages-chosen.ensures.like like in
    subst (λ l. (current : List Group) × ((older : List (List Group)) × (l ≡ older ++ current ∷ [])) × AreAlike c.args.config.now current) (sym c.fill_pages.ensures.fills.steps.published) h
