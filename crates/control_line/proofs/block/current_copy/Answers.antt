use Rattle.std.proofs.Common.{refl}
use Rattle.control_line.proofs.block.current_copy.Goals as goal

pub returns-in-Ok : goal.returns-in-Ok
returns-in-Ok c = (c.config.result.now, c.config.ensures.current_configuration, c.in-Ok.ensures.copied)

pub returns-in-Err : goal.returns-in-Err
returns-in-Err c = (c.config.result.now, c.config.ensures.current_configuration, refl)
