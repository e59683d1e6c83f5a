use Rattle.filter_parse.proofs.FaultLemmas.{one-fault}
use Rattle.filter_parse.proofs.ParseLemmas.{one-tree, tree-or-fault, unambiguous}
use Rattle.filter_parse.proofs.one_value.Goals as goal

pub returns : goal.returns
returns c = record { one_value = one-tree; unambiguous = unambiguous; no_fault = tree-or-fault; one_fault = one-fault }
