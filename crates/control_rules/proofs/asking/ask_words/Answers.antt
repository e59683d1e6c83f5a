use Rattle.std.proofs.Common.{subst, inr}
use Rattle.std.specs.Prelude.{IfSome}
use Rattle.control_rules.specs.body.Lines.{words_reading}
use Rattle.control_rules.specs.body.Replies.{IsWordsReply}
use Rattle.control_rules.proofs.LearnLemmas.{if_some_all, learns_asked}
use Rattle.control_rules.proofs.ShownLemmas.{words_true}
use Rattle.control_rules.specs.History.{IsReadLine}
use Rattle.control_rules.specs.declared.ask_failure.AskFailure.TheVariants.{OutOfMemory}
use Rattle.control_rules.proofs.StopLemmas.{err_is, stops_at, stops_unstored}
use Rattle.control_rules.proofs.asking.ask_words.Goals as goal

pub returns : goal.returns
returns g c =
    let line = c.bytes.result.now in
    let reply = c.in_ok-reply.reply.items in
    let shown = c.in_ok-read_words.field-0 in
    learns_asked c.args.client.now c.ask.new.self line reply _ c.ask.ensures.switch (inr (words_reading c.args.program.0 c.args.program.1 c.args.place, rw c.bytes.ensures.line c.words_line-line.ensures)) c.in_ok-reply.ensures.asked
    (λ history are true. if_some_all (IsWordsReply reply) _
    (λ it of. words_true history are line reply true c.args.program.0 c.args.program.1 c.args.place it of (rw c.bytes.ensures.line c.words_line-line.ensures))
    shown (subst (λ text. IfSome shown (IsWordsReply text)) c.deref.ensures.value c.in_ok-read_words.ensures))

pub returns-in_err-reply : goal.returns-in_err-reply
returns-in_err-reply g c =
    rw (err_is c.from_residual.result c.in_err-reply.field-0.0 c.from_residual.ensures.1)
    (stops_at IsReadLine c.bytes.result.now c.in_err-reply.field-0.0 c.args.client.now c.ask.new.self (inr (words_reading c.args.program.0 c.args.program.1 c.args.place, rw c.bytes.ensures.line c.words_line-line.ensures))
    c.in_err-reply.ensures.unasked c.ask.ensures.switch)

pub returns-in_err-read_words : goal.returns-in_err-read_words
returns-in_err-read_words g c =
    rw (err_is c.from_residual-in_err-read_words.result OutOfMemory c.from_residual-in_err-read_words.ensures.1)
    (stops_unstored c.args.client.now c.ask.new.self _
    (learns_asked c.args.client.now c.ask.new.self c.bytes.result.now c.in_ok-reply.reply.items (λ history. Unit {0}) c.ask.ensures.switch
    (inr (words_reading c.args.program.0 c.args.program.1 c.args.place, rw c.bytes.ensures.line c.words_line-line.ensures)) c.in_ok-reply.ensures.asked (λ history are true. tt)))
