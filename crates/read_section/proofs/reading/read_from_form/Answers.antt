use Rattle.std.proofs.Common.{Some, ap, arith, inl, inr, sym, ◌∙◌}
use Rattle.read_section.proofs.ReadLemmas.{none_fetched, read_behind, read_last}
use Rattle.read_section.proofs.RowReadLemmas.{first_held, first_newest, first_word, zero_word}
use Rattle.read_section.proofs.reading.read_from_form.Goals as goal

pub returns-then-i-eq0-clause-value : goal.returns-then-i-eq0-clause-value
returns-then-i-eq0-clause-value c = first_word c.args.worker.now c.args.row c.args.i c.requires.known c.requires.held c.fetch_form-form.result.0 c.fetch_form-form.ensures.word c.if-i-eq0.true ∙ ap Some (sym c.image_len.ensures)

pub returns-then-i-eq0-clause-few_fetches : goal.returns-then-i-eq0-clause-few_fetches
returns-then-i-eq0-clause-few_fetches c = let w = c.args.worker.now in
    read_last 0 w w (none_fetched w) c.fetch_form-form.new.worker _ c.fetch_form-form.result.0 c.fetch_form-form.ensures.one_fetch (first_held w c.args.row c.args.i c.requires.known c.requires.held) 13 c.args.i _ (omega arith)
    (first_newest w c.args.row c.args.i c.requires.known c.requires.held c.fetch_form-form.result.0 c.fetch_form-form.ensures.word _ (inl c.if-i-eq0.true))

pub returns-then-image_len-i-clause-value : goal.returns-then-image_len-i-clause-value
returns-then-image_len-i-clause-value c = zero_word c.args.worker.now c.args.row c.args.i c.requires.known c.requires.held c.fetch_form-form.result.0 c.fetch_form-form.ensures.word (let e = c.image_len-2.ensures in let low = c.if-image_len-i.true in omega arith)

pub returns-then-image_len-i-clause-few_fetches : goal.returns-then-image_len-i-clause-few_fetches
returns-then-image_len-i-clause-few_fetches c = let w = c.args.worker.now in
    read_last 0 w w (none_fetched w) c.fetch_form-form.new.worker _ c.fetch_form-form.result.0 c.fetch_form-form.ensures.one_fetch (first_held w c.args.row c.args.i c.requires.known c.requires.held) 13 c.args.i _ (omega arith)
    (first_newest w c.args.row c.args.i c.requires.known c.requires.held c.fetch_form-form.result.0 c.fetch_form-form.ensures.word _ (inr (let e = c.image_len-2.ensures in let low = c.if-image_len-i.true in omega arith)))

pub returns-clause-few_fetches : goal.returns-clause-few_fetches
returns-clause-few_fetches c = let w = c.args.worker.now in
    read_behind 12 c.args.i _ _ c.fetch_form-form.result.0 w c.fetch_form-form.new.worker _ c.fetch_form-form.ensures.one_fetch (first_held w c.args.row c.args.i c.requires.known c.requires.held) c.read_image.ensures.few_fetches
