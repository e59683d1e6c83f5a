use Rattle.filter_program.proofs.MeaningLemmas.{not_both, one_fault, one_program}
use Rattle.filter_program.proofs.one_meaning.Goals as goal

pub returns-clause-one_program : goal.returns-clause-one_program
returns-clause-one_program c = one_program (record { one_tree = c.one_value.ensures.one_value; no_fault = c.one_value.ensures.no_fault; one_fault = c.one_value.ensures.one_fault })

pub returns-clause-one_fault : goal.returns-clause-one_fault
returns-clause-one_fault c = one_fault (record { one_tree = c.one_value.ensures.one_value; no_fault = c.one_value.ensures.no_fault; one_fault = c.one_value.ensures.one_fault })

pub returns-clause-not_both : goal.returns-clause-not_both
returns-clause-not_both c = not_both (record { one_tree = c.one_value.ensures.one_value; no_fault = c.one_value.ensures.no_fault; one_fault = c.one_value.ensures.one_fault })
