use Rattle.command_operating.proofs.PrintingLemmas.{if_unasked}
use Rattle.command_operating.proofs.loading.print_changes.Goals as goal

pub returns-clause-shown : goal.returns-clause-shown
returns-clause-shown g c = rw c.in-Ok.ensures at c.print_differences.ensures.shown

pub returns-clause-begun : goal.returns-clause-begun
returns-clause-begun g c = rw c.in-Ok.ensures at c.print_differences.ensures.begun

pub returns-clause-fault : goal.returns-clause-fault
returns-clause-fault g c = if_unasked c.args.reach.address c.print_differences.result c.print_differences.ensures.fault
