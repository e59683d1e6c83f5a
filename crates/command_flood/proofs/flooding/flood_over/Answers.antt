use Rattle.std.proofs.Common.{rules}
use Rattle.command_flood.proofs.flooding.flood_over.Goals as goal

pub returns-clause-no_socket : goal.returns-clause-no_socket
returns-clause-no_socket g c = search rules

pub returns-clause-nothing_written : goal.returns-clause-nothing_written
returns-clause-nothing_written g c = search rules

pub returns-clause-totals_line : goal.returns-clause-totals_line
returns-clause-totals_line g c = search rules

pub returns-in_err-totals-clause-no_socket : goal.returns-in_err-totals-clause-no_socket
returns-in_err-totals-clause-no_socket g c = search rules

pub returns-in_err-totals-clause-nothing_written : goal.returns-in_err-totals-clause-nothing_written
returns-in_err-totals-clause-nothing_written g c = search rules

pub returns-in_err-totals-clause-totals_line : goal.returns-in_err-totals-clause-totals_line
returns-in_err-totals-clause-totals_line g c = search rules
