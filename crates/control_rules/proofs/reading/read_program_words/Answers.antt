use Rattle.std.proofs.Common.{◌∙◌, ◌++◌, ap, arith, refl, subst, sym}
use Rattle.control_rules.specs.body.Progress.{AreFirstWords}
use Rattle.control_rules.proofs.AddedLemmas.{words_done, words_more_at}
use Rattle.control_rules.proofs.FoundLemmas.{some_holds}
use Rattle.control_rules.proofs.LearnLemmas.{if_some_all, learns_nothing, learns_then, learns_weaker}
use Rattle.control_rules.specs.declared.ask_failure.AskFailure.TheVariants.{OutOfMemory}
use Rattle.control_rules.proofs.StopLemmas.{err_is, stops_after, stops_unstored}
use Rattle.control_rules.proofs.reading.read_program_words.Goals as goal

pub loop-turn-init : goal.loop-turn-init
loop-turn-init g c = learns_nothing c.args.client.now _ (λ history are program found. rw c.new-words.ensures.items refl)

pub returns-then-len-count : goal.returns-then-len-count
returns-then-len-count g c =
    learns_weaker c.args.client.now c.loop-turn.client _ _
    (λ history are first. if_some_all _ _ (λ all it. words_done (history c.args.version) c.args.program.0 c.args.program.1 c.args.count c.loop-turn.words.items all.items first it.0 it.1) c.finished.result c.finished.ensures)
    c.loop-turn.invariant

pub returns-in_default : goal.returns-in_default
returns-in_default g c =
    learns_weaker c.args.client.now c.ask_words.new.client _ _ (λ history are both. tt)
    (learns_then c.args.client.now c.loop-turn.client c.ask_words.new.client _ _ c.loop-turn.invariant c.in_ok-shown.ensures)

pub returns-then-shown-version : goal.returns-then-shown-version
returns-then-shown-version g c =
    learns_weaker c.args.client.now c.ask_words.new.client _ _ (λ history are both. tt)
    (learns_then c.args.client.now c.loop-turn.client c.ask_words.new.client _ _ c.loop-turn.invariant c.in_ok-shown.ensures)

pub returns-then-shown-place : goal.returns-then-shown-place
returns-then-shown-place g c =
    learns_weaker c.args.client.now c.ask_words.new.client _ _ (λ history are both. tt)
    (learns_then c.args.client.now c.loop-turn.client c.ask_words.new.client _ _ c.loop-turn.invariant c.in_ok-shown.ensures)

pub loop-turn-preserved : goal.loop-turn-preserved
loop-turn-preserved g c =
    let words = c.loop-turn.words.items in
    learns_weaker c.args.client.now c.ask_words.new.client _ _
    (λ history are both.
    subst (AreFirstWords (history c.args.version) c.args.program.0 c.args.program.1)
    (sym (c.in_ok-extend_from_slice.ensures.items ∙ ap (λ more. words ++ more) c.deref.ensures.value))
    (words_more_at history c.args.version c.args.program.0 c.args.program.1 words c.in-Some.shown c.if-shown-version.false
    (omega (arith, c.len-place.ensures, c.if-len-count.false)) both.0 (some_holds _ _ c.in-Some.shown both.1 c.in-Some.is)))
    (learns_then c.args.client.now c.loop-turn.client c.ask_words.new.client _ _ c.loop-turn.invariant c.in_ok-shown.ensures)

pub returns : goal.returns
returns g c =
    learns_weaker c.args.client.now c.loop-turn.client _ _
    (λ history are first. if_some_all _ _ (λ all it. words_done (history c.args.version) c.args.program.0 c.args.program.1 c.args.count c.loop-turn.words.items all.items first it.0 it.1) c.finished-2.result c.finished-2.ensures)
    c.loop-turn.invariant

pub returns-in_err-shown : goal.returns-in_err-shown
returns-in_err-shown g c =
    rw (err_is c.from_residual.result c.in_err-shown.field-0.0 c.from_residual.ensures.1)
    (stops_after c.in_err-shown.field-0.0 c.args.client.now c.loop-turn.client c.ask_words.new.client _ c.loop-turn.invariant c.in_err-shown.ensures)

pub returns-in_err-extend_from_slice : goal.returns-in_err-extend_from_slice
returns-in_err-extend_from_slice g c =
    rw (err_is c.from_residual-in_err-extend_from_slice.result OutOfMemory c.from_residual-in_err-extend_from_slice.ensures.1)
    (stops_unstored c.args.client.now c.ask_words.new.client _
    (learns_then c.args.client.now c.loop-turn.client c.ask_words.new.client _ _ c.loop-turn.invariant c.in_ok-shown.ensures))
