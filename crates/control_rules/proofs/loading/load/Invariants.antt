use Rattle.config_diff.specs.Words.{words_config}
use Rattle.control_rules.specs.Load.{AreTries}
use Rattle.control_rules.proofs.loading.load.Given as goal

abbrev pub invariant-loop-turn : goal.invariant-loop-turn
invariant-loop-turn g l = AreTries l.file (words_config l.config) l.fn.client l.client
