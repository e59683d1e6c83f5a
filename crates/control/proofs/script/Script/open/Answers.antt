use Rattle.control.proofs.ScriptLemmas.{opened}
use Rattle.control.proofs.script.Script.open.Goals as goal

pub returns-clause-at_start : goal.returns-clause-at_start
returns-clause-at_start c = λ start. opened start (record { switch = c.in_ok-open.field-0; held = c.new.result }) c.new.ensures c.in_ok-open.ensures.ready
