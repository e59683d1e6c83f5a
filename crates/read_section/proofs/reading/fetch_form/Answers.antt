use Rattle.std.proofs.Common.{subst, sym}
use Rattle.read_section.specs.body.Found.{IsFormIn}
use Rattle.read_section.specs.Worker.{WorkerValue}
use Rattle.read_section.proofs.RowReadLemmas.{first_form, first_held}
use Rattle.read_section.proofs.reading.fetch_form.Goals as goal

pub fetch-requires-clause-held : goal.fetch-requires-clause-held
fetch-requires-clause-held c = rw c.row_begin.ensures (first_held c.args.worker.now c.args.row c.args.i c.requires.known c.requires.held)

pub set_form-requires : goal.set_form-requires
set_form-requires c = subst (λ (w : WorkerValue). IsFormIn w.view c.fetch.result) (sym c.fetch.ensures.one_fetch) (first_form c.args.worker.now c.args.row c.args.i c.requires.known c.requires.held c.fetch.result (rw c.row_begin.ensures at c.fetch.ensures.word))

pub returns-clause-form : goal.returns-clause-form
returns-clause-form c = first_form c.args.worker.now c.args.row c.args.i c.requires.known c.requires.held c.fetch.result (rw c.row_begin.ensures at c.fetch.ensures.word)
