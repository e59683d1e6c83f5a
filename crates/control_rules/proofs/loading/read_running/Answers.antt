use Rattle.std.proofs.Common.{◌≡◌, ◌∙◌, subst}
use Rattle.control_line.specs.Rules.{IsConfigOf}
use Rattle.control_rules.specs.Rules.{rules_file}
use Rattle.control_rules.proofs.FoundLemmas.{some_holds}
use Rattle.control_rules.proofs.LearnLemmas.{learns_weaker}
use Rattle.control_rules.proofs.MeaningLemmas.{file_words}
use Rattle.control_rules.proofs.StopLemmas.{err_is, stops_unstored}
use Rattle.control_rules.proofs.loading.read_running.Goals as goal

pub returns-in-Ok : goal.returns-in-Ok
returns-in-Ok g c =
    learns_weaker c.args.client.now c.read_rules.new.client _ _
    (λ history are has.
    let version = c.in-Some.read.version in
    let text = some_holds (λ read. read.text.items ≡ rules_file read.version (history read.version)) _ c.in-Some.read has c.in-Some.is in
    file_words c.one_request.ensures.line c.one_value.ensures.one_value version (history version) c.in-Ok.config (are version)
    (subst (λ it. IsConfigOf it c.in-Ok.config) (c.deref.ensures.value ∙ text) c.in-Ok.ensures))
    c.in_ok-read.ensures.read

pub returns-in_err-read : goal.returns-in_err-read
returns-in_err-read g c =
    rw (err_is c.from_residual.result c.in_err-read.field-0.0 c.from_residual.ensures.1)
    (c.in_err-read.ensures.failed)

pub returns-in-Err-OutOfMemory : goal.returns-in-Err-OutOfMemory
returns-in-Err-OutOfMemory g c = stops_unstored c.args.client.now c.read_rules.new.client _ c.in_ok-read.ensures.read
