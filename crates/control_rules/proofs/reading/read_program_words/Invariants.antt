use Rattle.control_rules.specs.History.{Learns}
use Rattle.control_rules.specs.body.Progress.{AreFirstWords}
use Rattle.control_rules.proofs.reading.read_program_words.Given as goal

abbrev pub invariant-loop-turn : goal.invariant-loop-turn
invariant-loop-turn g l = Learns l.fn.client l.client (λ history. AreFirstWords (history l.version) l.program.0 l.program.1 l.words.items)
