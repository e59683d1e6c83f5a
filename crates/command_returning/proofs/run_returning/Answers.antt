use Rattle.std.proofs.Common.{◌≡◌, ◌∙◌, ap, map, rules, string_bytes}
use Rattle.command_line.specs.declared.ending.Status.{Status}
use Rattle.command_line.specs.declared.ending.Status.TheVariants.{Done, Refused}
use Rattle.command_returning.specs.Request.{EndsInFailure, WritesAnswerTo}
use Rattle.command_replay.proofs.CauseLemmas.{reads_once}
use Rattle.command_returning.proofs.FailureLemmas.{known_of_new, of_streams, words_then_flush}
use Rattle.command_returning.proofs.run_returning.Goals as goal

pub returns-clause-done_written : goal.returns-clause-done_written
returns-clause-done_written g c = λ zero none.
    of_streams (λ known before after. WritesAnswerTo (map string_bytes c.args.words.now) known Done before after) _ _ _ _ _ _
    (ap (λ v. v.coming) c.new.ensures.opened) (ap (λ v. g.W.Write.contents v.writer) c.new-writer.ensures.opened) (search rules)
    (c.run_over-ended.ensures.done_written zero none)

pub returns-clause-refused_written : goal.returns-clause-refused_written
returns-clause-refused_written g c = λ one.
    of_streams (λ known before after. WritesAnswerTo (map string_bytes c.args.words.now) known Refused before after) _ _ _ _ _ _
    (ap (λ v. v.coming) c.new.ensures.opened) (ap (λ v. g.W.Write.contents v.writer) c.new-writer.ensures.opened) (search rules)
    (c.run_over-ended.ensures.refused_written one)

pub returns-clause-nothing_written : goal.returns-clause-nothing_written
returns-clause-nothing_written g c = λ either.
    let kept : c.run_over-ended.new.out.writer ≡ c.args.out.now = ap (λ v. v.writer) (c.run_over-ended.ensures.nothing_written either) ∙ ap (λ v. v.writer) c.new-writer.ensures.opened in
    search (rules, kept)

pub returns-clause-failed : goal.returns-clause-failed
returns-clause-failed g c = λ three.
    let ends = c.run_over-ended.ensures.device_failed three in
    of_streams (λ known before after. EndsInFailure (map string_bytes c.args.words.now) known before after (g.E.Write.contents c.args.errs.now) (g.E.Write.contents c.run_over-ended.new.errs)) _ _ _ _ _ _
    (known_of_new c.new.result c.run_over-ended.new.input (ap (λ v. v.failures) c.new.ensures.opened)
    (reads_once Status ends.ends.failure _ _ _ _ (words_then_flush (map string_bytes c.args.words.now) _ _ _ _ _ ends.cause)) ∙ ap (λ v. v.coming) c.new.ensures.opened)
    (ap (λ v. g.W.Write.contents v.writer) c.new-writer.ensures.opened) (search rules)
    ends.ends

pub returns-clause-counted : goal.returns-clause-counted
returns-clause-counted g c = λ either none port also.
    rw (ap (λ v. v.coming) c.new.ensures.opened) at (c.run_over-ended.ensures.counted either none port also)
