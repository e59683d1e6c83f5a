use Rattle.command_operating.proofs.loading.print_replaced.Goals as goal

pub returns-in-Refused-clause-printed : goal.returns-in-Refused-clause-printed
returns-in-Refused-clause-printed g c = (c.in-Ok.loaded, c.in_ok-status.ensures.status, c.in-Ok.ensures.loaded, c.in_ok-status.ensures.printed)

pub returns-in_default-clause-printed : goal.returns-in_default-clause-printed
returns-in_default-clause-printed g c = (c.in-Ok.loaded, c.in_ok-status.ensures.status, c.in-Ok.ensures.loaded, c.in_ok-status.ensures.printed)
