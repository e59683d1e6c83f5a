use Rattle.std.proofs.Common.{rules}
use Rattle.std.proofs.lemmas.Bool.{false≢true}
use Rattle.control_line.proofs.RequestLemmas.{none_programs}
use Rattle.control_line.proofs.request.read_program.Goals as goal

pub returns : goal.returns
returns c =
    none_programs c.args.fields.now c.in_ok-kind.kind.now c.in_ok-kind.text.now (λ e. false≢true (c.if-is_word.ensures.1 e)) c.in_ok-kind.ensures
    (λ e. false≢true (c.if-is_word-2.ensures.1 e)) (λ e. false≢true (c.if-is_word-3.ensures.1 e))

pub returns-then-is_word : goal.returns-then-is_word
returns-then-is_word c = search rules

pub returns-then-is_word-2 : goal.returns-then-is_word-2
returns-then-is_word-2 c = search rules

pub returns-then-is_word-3 : goal.returns-then-is_word-3
returns-then-is_word-3 c = search rules
