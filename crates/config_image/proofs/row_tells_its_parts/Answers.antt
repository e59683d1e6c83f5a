use Rattle.config_image.proofs.PooledLemmas.{row_tells, row_tells_with_room}
use Rattle.config_image.proofs.row_tells_its_parts.Goals as goal

pub returns-clause-room : goal.returns-clause-room
returns-clause-room c = row_tells_with_room

pub returns-clause-charged : goal.returns-clause-charged
returns-clause-charged c = row_tells
