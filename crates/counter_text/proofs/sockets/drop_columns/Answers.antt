use Rattle.std.proofs.Common.{◌∙◌, ◌∷◌, ◌++◌, [], ap, ap₂, map, sym, take}
use Rattle.std.specs.List.{filter}
use Rattle.counter_text.specs.Sockets.{drop_columns, is_at, last_column}
use Rattle.counter_text.proofs.DropLemmas.{drops-append, text_at, texts, texts-next}
use Rattle.counter_text.proofs.sockets.drop_columns.Goals as goal

pub loop-line-preserved : goal.loop-line-preserved
loop-line-preserved c =
    let items = c.deref-line-items.result.now in
    let i = c.loop-line.line-index in
    let row = ap texts c.deref.ensures.value ∙ c.in_ok-row.ensures in
    c.in_ok-push_drops.ensures
    ∙ ap₂ (λ before line. before ++ map last_column (filter (is_at c.args.front) (line ∷ []))) c.loop-line.invariant row
    ∙ sym (drops-append c.args.front (texts (take i items)) (text_at items i ∷ []))
    ∙ ap (drop_columns c.args.front) (sym (texts-next items i c.loop-line-test.true))
