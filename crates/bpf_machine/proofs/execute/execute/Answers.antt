use Rattle.std.proofs.Common.{rules}
use Rattle.bpf_machine.proofs.execute.execute.Goals as goal

pub returns-in-LoadAbsolute-clause-effect : goal.returns-in-LoadAbsolute-clause-effect
returns-in-LoadAbsolute-clause-effect c = search rules

pub returns-in-LoadAbsolute-clause-cells : goal.returns-in-LoadAbsolute-clause-cells
returns-in-LoadAbsolute-clause-cells c = search rules

pub returns-in-LoadIndexed-clause-effect : goal.returns-in-LoadIndexed-clause-effect
returns-in-LoadIndexed-clause-effect c = search rules

pub returns-in-LoadIndexed-clause-cells : goal.returns-in-LoadIndexed-clause-cells
returns-in-LoadIndexed-clause-cells c = search rules

pub returns-in-LoadConstant-clause-effect : goal.returns-in-LoadConstant-clause-effect
returns-in-LoadConstant-clause-effect c = search rules

pub returns-in-LoadConstant-clause-cells : goal.returns-in-LoadConstant-clause-cells
returns-in-LoadConstant-clause-cells c = search rules

pub returns-in-LoadCell-clause-effect : goal.returns-in-LoadCell-clause-effect
returns-in-LoadCell-clause-effect c = search rules

pub returns-in-LoadCell-clause-cells : goal.returns-in-LoadCell-clause-cells
returns-in-LoadCell-clause-cells c = search rules

pub returns-in-LoadLength-clause-effect : goal.returns-in-LoadLength-clause-effect
returns-in-LoadLength-clause-effect c = search rules

pub returns-in-LoadLength-clause-cells : goal.returns-in-LoadLength-clause-cells
returns-in-LoadLength-clause-cells c = search rules

pub returns-in-LoadXConstant-clause-effect : goal.returns-in-LoadXConstant-clause-effect
returns-in-LoadXConstant-clause-effect c = search rules

pub returns-in-LoadXConstant-clause-cells : goal.returns-in-LoadXConstant-clause-cells
returns-in-LoadXConstant-clause-cells c = search rules

pub returns-in-LoadXCell-clause-effect : goal.returns-in-LoadXCell-clause-effect
returns-in-LoadXCell-clause-effect c = search rules

pub returns-in-LoadXCell-clause-cells : goal.returns-in-LoadXCell-clause-cells
returns-in-LoadXCell-clause-cells c = search rules

pub returns-in-LoadXLength-clause-effect : goal.returns-in-LoadXLength-clause-effect
returns-in-LoadXLength-clause-effect c = search rules

pub returns-in-LoadXLength-clause-cells : goal.returns-in-LoadXLength-clause-cells
returns-in-LoadXLength-clause-cells c = search rules

pub returns-in-LoadXHeader-clause-effect : goal.returns-in-LoadXHeader-clause-effect
returns-in-LoadXHeader-clause-effect c = search rules

pub returns-in-LoadXHeader-clause-cells : goal.returns-in-LoadXHeader-clause-cells
returns-in-LoadXHeader-clause-cells c = search rules

pub returns-in-Store-clause-effect : goal.returns-in-Store-clause-effect
returns-in-Store-clause-effect c = search rules

pub returns-in-Store-clause-cells : goal.returns-in-Store-clause-cells
returns-in-Store-clause-cells c = search rules

pub returns-in-StoreX-clause-effect : goal.returns-in-StoreX-clause-effect
returns-in-StoreX-clause-effect c = search rules

pub returns-in-StoreX-clause-cells : goal.returns-in-StoreX-clause-cells
returns-in-StoreX-clause-cells c = search rules

pub returns-in-Alu-clause-effect : goal.returns-in-Alu-clause-effect
returns-in-Alu-clause-effect c = search rules

pub returns-in-Alu-clause-cells : goal.returns-in-Alu-clause-cells
returns-in-Alu-clause-cells c = search rules

pub returns-in-Negate-clause-effect : goal.returns-in-Negate-clause-effect
returns-in-Negate-clause-effect c = search rules

pub returns-in-Negate-clause-cells : goal.returns-in-Negate-clause-cells
returns-in-Negate-clause-cells c = search rules

pub returns-in-CopyToX-clause-effect : goal.returns-in-CopyToX-clause-effect
returns-in-CopyToX-clause-effect c = search rules

pub returns-in-CopyToX-clause-cells : goal.returns-in-CopyToX-clause-cells
returns-in-CopyToX-clause-cells c = search rules

pub returns-in-CopyFromX-clause-effect : goal.returns-in-CopyFromX-clause-effect
returns-in-CopyFromX-clause-effect c = search rules

pub returns-in-CopyFromX-clause-cells : goal.returns-in-CopyFromX-clause-cells
returns-in-CopyFromX-clause-cells c = search rules

pub returns-in-Jump-clause-effect : goal.returns-in-Jump-clause-effect
returns-in-Jump-clause-effect c = search rules

pub returns-in-Jump-clause-cells : goal.returns-in-Jump-clause-cells
returns-in-Jump-clause-cells c = search rules

pub returns-in-Equal-clause-effect : goal.returns-in-Equal-clause-effect
returns-in-Equal-clause-effect c = search rules

pub returns-in-Equal-clause-cells : goal.returns-in-Equal-clause-cells
returns-in-Equal-clause-cells c = search rules

pub returns-in-Greater-clause-effect : goal.returns-in-Greater-clause-effect
returns-in-Greater-clause-effect c = search rules

pub returns-in-Greater-clause-cells : goal.returns-in-Greater-clause-cells
returns-in-Greater-clause-cells c = search rules

pub returns-in-GreaterOrEqual-clause-effect : goal.returns-in-GreaterOrEqual-clause-effect
returns-in-GreaterOrEqual-clause-effect c = search rules

pub returns-in-GreaterOrEqual-clause-cells : goal.returns-in-GreaterOrEqual-clause-cells
returns-in-GreaterOrEqual-clause-cells c = search rules

pub returns-in-CommonBit-clause-effect : goal.returns-in-CommonBit-clause-effect
returns-in-CommonBit-clause-effect c = search rules

pub returns-in-CommonBit-clause-cells : goal.returns-in-CommonBit-clause-cells
returns-in-CommonBit-clause-cells c = search rules

pub returns-in-ReturnConstant-clause-effect : goal.returns-in-ReturnConstant-clause-effect
returns-in-ReturnConstant-clause-effect c = search rules

pub returns-in-ReturnConstant-clause-cells : goal.returns-in-ReturnConstant-clause-cells
returns-in-ReturnConstant-clause-cells c = search rules

pub returns-in-ReturnA-clause-effect : goal.returns-in-ReturnA-clause-effect
returns-in-ReturnA-clause-effect c = search rules

pub returns-in-ReturnA-clause-cells : goal.returns-in-ReturnA-clause-cells
returns-in-ReturnA-clause-cells c = search rules
