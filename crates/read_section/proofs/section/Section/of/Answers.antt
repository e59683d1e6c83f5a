use Rattle.read_section.specs.body.Found.{no_extent}
use Rattle.read_section.proofs.EnterLemmas.{row_known}
use Rattle.read_section.proofs.RowReadLemmas.{heads_found}
use Rattle.read_section.proofs.section.Section.of.Goals as goal

pub invariant_of-result : goal.invariant_of-result
invariant_of-result c = record { known = heads_found c.args.worker.now c.args.row 0 no_extent _ c.args.version c.args.row c.requires.inside (row_known c.args.worker.now c.args.version c.args.row c.requires.inside c.requires.row c.requires.last_seen) _ c.form.ensures c.programs_at-heads.result c.programs_at-heads.ensures }
