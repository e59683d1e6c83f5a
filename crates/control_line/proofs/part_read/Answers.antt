use Rattle.std.proofs.Common.{arith, subst, sym}
use Rattle.member_group.specs.Group.{IsConfig}
use Rattle.control_line.specs.body.Making.{IsShort}
use Rattle.control_line.specs.body.Reading.{reading_of}
use Rattle.control_line.proofs.ShortLemmas.{is_short}
use Rattle.control_line.proofs.part_read.Goals as goal

pub returns-clause-short : goal.returns-clause-short
returns-clause-short c =
    let limited = c.number.ensures.limited in
    subst IsShort (sym c.read_back.ensures) (is_short c.number.result (omega arith) c.groups.result.now (subst IsConfig (sym c.groups.ensures.groups) c.groups.ensures.config) (reading_of c.args.reading))
