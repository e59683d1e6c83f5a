use Rattle.std.proofs.Common.{List, ap, arith, length, sym, ◌==◌, ◌∙◌, ℕ}
use Rattle.std.proofs.lemmas.Bool.{both_ways}
use Rattle.control_client.specs.Carried.{split, too_long}
use Rattle.control_client.proofs.CarriedLemmas.{line_broken, line_too_long}
use Rattle.control_client.proofs.carrying.line_unsent.Goals as goal

pub returns-then-text-gt-LINE_LIMIT : goal.returns-then-text-gt-LINE_LIMIT
returns-then-text-gt-LINE_LIMIT c =
    too_long (line_too_long c.args.text.now c.args.first.now c.args.rest.now c.requires.cut c.requires.no_head c.if-text-gt-LINE_LIMIT.true)

pub returns-then-not-is_empty : goal.returns-then-not-is_empty
returns-then-not-is_empty c =
    let rest = c.args.rest.now in
    split (line_broken c.args.text.now c.args.first.now rest c.requires.cut c.requires.no_head
    (λ none. both_ways (length rest == 0) (sym c.is_empty.ensures ∙ c.if-not-is_empty.true) (ap (λ (r : List ℕ). length r == 0) none)) (omega arith))
