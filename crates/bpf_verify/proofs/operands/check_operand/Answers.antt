use Rattle.std.proofs.Common.{rules}
use Rattle.bpf_verify.proofs.operands.check_operand.Goals as goal

pub returns-in-Div-clause-fault : goal.returns-in-Div-clause-fault
returns-in-Div-clause-fault c = search rules

pub returns-in-Div-clause-fault_place : goal.returns-in-Div-clause-fault_place
returns-in-Div-clause-fault_place c = search rules

pub returns-in-Mod-clause-fault : goal.returns-in-Mod-clause-fault
returns-in-Mod-clause-fault c = search rules

pub returns-in-Mod-clause-fault_place : goal.returns-in-Mod-clause-fault_place
returns-in-Mod-clause-fault_place c = search rules

pub returns-in-Lsh-clause-fault : goal.returns-in-Lsh-clause-fault
returns-in-Lsh-clause-fault c = search rules

pub returns-in-Lsh-clause-fault_place : goal.returns-in-Lsh-clause-fault_place
returns-in-Lsh-clause-fault_place c = search rules

pub returns-in-Rsh-clause-fault : goal.returns-in-Rsh-clause-fault
returns-in-Rsh-clause-fault c = search rules

pub returns-in-Rsh-clause-fault_place : goal.returns-in-Rsh-clause-fault_place
returns-in-Rsh-clause-fault_place c = search rules

pub returns-in_default : goal.returns-in_default
returns-in_default c = search rules

pub returns-in-X-clause-fault : goal.returns-in-X-clause-fault
returns-in-X-clause-fault c = search rules

pub returns-in-X-clause-fault_place : goal.returns-in-X-clause-fault_place
returns-in-X-clause-fault_place c = search rules
