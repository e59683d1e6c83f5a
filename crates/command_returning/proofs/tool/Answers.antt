use Rattle.std.proofs.Common.{◌∙◌, inl, inr, map, string_bytes, sym}
use Rattle.command_returning.proofs.FailureLemmas.{asks_to_wait, ok_kept, status_of}
use Rattle.command_returning.proofs.tool.Goals as goal

pub returns-clause-waits : goal.returns-clause-waits
returns-clause-waits g c = λ none. asks_to_wait (map string_bytes c.args.words.now) c.run_returning.result c.run_returning.ensures.waits (sym c.ok.ensures.value ∙ none)

pub returns-clause-status : goal.returns-clause-status
returns-clause-status g c = status_of c.run_returning.result c.ok.result c.ok.ensures.value c.run_returning.ensures.status

pub returns-clause-done_written : goal.returns-clause-done_written
returns-clause-done_written g c = λ zero. c.run_returning.ensures.done_written (ok_kept c.run_returning.result 0 (sym c.ok.ensures.value ∙ zero))

pub returns-clause-refused_written : goal.returns-clause-refused_written
returns-clause-refused_written g c = λ one. c.run_returning.ensures.refused_written (ok_kept c.run_returning.result 1 (sym c.ok.ensures.value ∙ one))

pub returns-clause-failed : goal.returns-clause-failed
returns-clause-failed g c = λ three. c.run_returning.ensures.failed (ok_kept c.run_returning.result 3 (sym c.ok.ensures.value ∙ three))

pub returns-clause-counted : goal.returns-clause-counted
returns-clause-counted g c = λ either. c.run_returning.ensures.counted (elim either [
  | inl zero ↦ inl (ok_kept c.run_returning.result 0 (sym c.ok.ensures.value ∙ zero))
  | inr one ↦ inr (ok_kept c.run_returning.result 1 (sym c.ok.ensures.value ∙ one))
])
