use Rattle.std.proofs.Common.{◌∙◌, Result, [], refl, rules, subst, sym, take}
use Rattle.control.specs.declared.fault.ReplayFault.{ReplayFault}
use Rattle.control.specs.body.ScriptSoFar.{Advances, Ends}
use Rattle.control.proofs.ReplayLemmas.{all_lines_answered, cut_in_end, cut_in_take, gave_nothing, nothing_answered, replayed_if, replaying_begins, replaying_on, stopped_in_end, stopped_in_take}
use Rattle.control.proofs.WritingLemmas.{err_is}
use Rattle.control.proofs.replaying.replay.Goals as goal

pub returns-in_err-script-clause-text_before_no_memory : goal.returns-in_err-script-clause-text_before_no_memory
returns-in_err-script-clause-text_before_no_memory g c = λ is. nothing_answered (g.R.Input.state c.args.reader.now) (g.W.Output.state c.args.writer.now)

pub loop-size-init : goal.loop-size-init
loop-size-init g c =
    let opened = c.in_ok-script.ensures in
    (replaying_begins (g.R.Input.state c.args.reader.now) (g.W.Output.state c.args.writer.now) c.in_ok-script.script (opened.at_start (g.W.Output.state c.args.writer.now).taken) opened.outside, refl)

pub returns-in-Err-clause-text_before_failed_read : goal.returns-in-Err-clause-text_before_failed_read
returns-in-Err-clause-text_before_failed_read g c = λ is.
    all_lines_answered (g.R.Input.state c.args.reader.now) (g.R.Input.state c.loop-size.reader) (g.W.Output.state c.args.writer.now) (g.W.Output.state c.loop-size.writer) c.loop-size.script c.loop-size.invariant.0
    (g.R.Input.state c.read.new.self) c.in-Err.ensures.gives_next

pub returns-then-size-eq0-clause-script_text : goal.returns-then-size-eq0-clause-script_text
returns-then-size-eq0-clause-script_text g c =
    let gave = c.in-Ok.ensures.gives_next in let none = c.if-size-eq0.true in let room = c.read.auto.buf in
    replayed_if (g.R.Input.state c.args.reader.now) (g.R.Input.state c.loop-size.reader) (g.R.Input.state c.read.new.self) (g.W.Output.state c.args.writer.now) (g.W.Output.state c.loop-size.writer) (g.W.Output.state c.end.new.writer)
    c.loop-size.script c.loop-size.invariant.0 (gave_nothing _ _ c.in-Ok.size c.read.new.buf (search rules) gave.0) (gave.1 (search rules) (search rules)) c.end.result c.end.ensures.ends

pub returns-then-size-eq0-clause-text_before_failed_write : goal.returns-then-size-eq0-clause-text_before_failed_write
returns-then-size-eq0-clause-text_before_failed_write g c = λ is.
    let gave = c.in-Ok.ensures.gives_next in
    cut_in_end (g.R.Input.state c.args.reader.now) (g.R.Input.state c.loop-size.reader) (g.W.Output.state c.args.writer.now) (g.W.Output.state c.loop-size.writer) c.loop-size.script c.loop-size.invariant.0
    (g.R.Input.state c.read.new.self) (gave_nothing _ _ c.in-Ok.size c.read.new.buf (search rules) gave.0) (gave.1 (search rules) (search rules)) (g.W.Output.state c.end.new.writer)
    (subst (λ (r : Result (Unit {0}) ReplayFault). Ends (g.W.Output.state c.end.new.writer).failures c.loop-size.script (g.W.Output.state c.loop-size.writer).taken (g.W.Output.state c.end.new.writer).taken r) is c.end.ensures.ends)

pub returns-then-size-eq0-clause-text_before_no_memory : goal.returns-then-size-eq0-clause-text_before_no_memory
returns-then-size-eq0-clause-text_before_no_memory g c = λ is.
    let gave = c.in-Ok.ensures.gives_next in
    stopped_in_end (g.R.Input.state c.args.reader.now) (g.R.Input.state c.loop-size.reader) (g.W.Output.state c.args.writer.now) (g.W.Output.state c.loop-size.writer) c.loop-size.script c.loop-size.invariant.0
    (g.R.Input.state c.read.new.self) (gave_nothing _ _ c.in-Ok.size c.read.new.buf (search rules) gave.0) (gave.1 (search rules) (search rules)) (g.W.Output.state c.end.new.writer)
    (subst (λ (r : Result (Unit {0}) ReplayFault). Ends (g.W.Output.state c.end.new.writer).failures c.loop-size.script (g.W.Output.state c.loop-size.writer).taken (g.W.Output.state c.end.new.writer).taken r) is c.end.ensures.ends)

pub loop-size-preserved : goal.loop-size-preserved
loop-size-preserved g c =
    let gave = c.in-Ok.ensures in let took = c.in_ok-take.ensures in let before = c.loop-size.invariant in (
      replaying_on (g.R.Input.state c.args.reader.now) (g.R.Input.state c.loop-size.reader) (g.W.Output.state c.args.writer.now) (g.W.Output.state c.loop-size.writer) c.loop-size.script before.0
          (g.R.Input.state c.read.new.self) (take c.in-Ok.size c.read.new.buf) gave.gives_next.0 gave.device_failed c.take.new.self (g.W.Output.state c.take.new.writer) took.advances took.outside took.device_failed,
      took.rest_kept ∙ before.1,
    )

pub returns-in_err-take-clause-text_before_failed_write : goal.returns-in_err-take-clause-text_before_failed_write
returns-in_err-take-clause-text_before_failed_write g c = λ is.
    let gave = c.in-Ok.ensures in let fault = c.in_err-take.field-0.0 in
    cut_in_take (g.R.Input.state c.args.reader.now) (g.R.Input.state c.loop-size.reader) (g.W.Output.state c.args.writer.now) (g.W.Output.state c.loop-size.writer) c.loop-size.script c.loop-size.invariant.0
    (g.R.Input.state c.read.new.self) (take c.in-Ok.size c.read.new.buf) gave.gives_next.0 gave.device_failed c.take.new.self (g.W.Output.state c.take.new.writer)
    (subst (λ (r : Result (Unit {0}) ReplayFault). Advances (g.W.Output.state c.take.new.writer).failures (take c.in-Ok.size c.read.new.buf) c.loop-size.script c.take.new.self (g.W.Output.state c.loop-size.writer).taken [] (g.W.Output.state c.take.new.writer).taken [] r)
    (sym (err_is c.from_residual-in_err-take.result fault c.from_residual-in_err-take.ensures.1) ∙ is) c.in_err-take.ensures.advances)

pub returns-in_err-take-clause-text_before_no_memory : goal.returns-in_err-take-clause-text_before_no_memory
returns-in_err-take-clause-text_before_no_memory g c = λ is.
    let gave = c.in-Ok.ensures in let fault = c.in_err-take.field-0.0 in
    stopped_in_take (g.R.Input.state c.args.reader.now) (g.R.Input.state c.loop-size.reader) (g.W.Output.state c.args.writer.now) (g.W.Output.state c.loop-size.writer) c.loop-size.script c.loop-size.invariant.0
    (g.R.Input.state c.read.new.self) (take c.in-Ok.size c.read.new.buf) gave.gives_next.0 gave.device_failed c.take.new.self (g.W.Output.state c.take.new.writer)
    (subst (λ (r : Result (Unit {0}) ReplayFault). Advances (g.W.Output.state c.take.new.writer).failures (take c.in-Ok.size c.read.new.buf) c.loop-size.script c.take.new.self (g.W.Output.state c.loop-size.writer).taken [] (g.W.Output.state c.take.new.writer).taken [] r)
    (sym (err_is c.from_residual-in_err-take.result fault c.from_residual-in_err-take.ensures.1) ∙ is) c.in_err-take.ensures.advances)

pub returns-in-Err-clause-device_failed : goal.returns-in-Err-clause-device_failed
returns-in-Err-clause-device_failed g c = search rules

pub returns-in-Err-clause-script_text : goal.returns-in-Err-clause-script_text
returns-in-Err-clause-script_text g c = search rules

pub returns-in-Err-clause-text_before_failed_write : goal.returns-in-Err-clause-text_before_failed_write
returns-in-Err-clause-text_before_failed_write g c = search rules

pub returns-in-Err-clause-text_before_no_memory : goal.returns-in-Err-clause-text_before_no_memory
returns-in-Err-clause-text_before_no_memory g c = search rules

pub returns-then-size-eq0-clause-device_failed : goal.returns-then-size-eq0-clause-device_failed
returns-then-size-eq0-clause-device_failed g c = search rules

pub returns-then-size-eq0-clause-text_before_failed_read : goal.returns-then-size-eq0-clause-text_before_failed_read
returns-then-size-eq0-clause-text_before_failed_read g c = search rules
