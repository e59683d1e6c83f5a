use Rattle.std.proofs.Common.{arith}
use Rattle.config_image.proofs.LengthLemmas.{within_charge}
use Rattle.config_image.proofs.PooledLemmas.{few_pages, pages_cost}
use Rattle.retire.proofs.version.fill_version.Goals as goal

pub fill_by-requires-clause-enough : goal.fill_by-requires-clause-enough
fill_by-requires-clause-enough c =
    let config = c.args.config.now in
    omega (arith, pages_cost config, within_charge config c.requires.publishable.0, c.requires.charge)

pub fill_by-requires-clause-limit : goal.fill_by-requires-clause-limit
fill_by-requires-clause-limit c = omega arith

pub fill_by-requires-else-charge-le-FEW_CHARGE-clause-enough : goal.fill_by-requires-else-charge-le-FEW_CHARGE-clause-enough
fill_by-requires-else-charge-le-FEW_CHARGE-clause-enough c =
    let config = c.args.config.now in
    few_pages config c.requires.publishable.0 (omega (arith, c.requires.publishable.1))
