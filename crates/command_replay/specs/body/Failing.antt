-- How a replay that failed ends its command.
use Rattle.control.specs.declared.fault.ReplayFault.{ReplayFault}
use Rattle.control.specs.declared.fault.ReplayFault.TheVariants as replay_fault
use Rattle.command_line.specs.declared.ending.Failure.{Failure}
use Rattle.command_line.specs.declared.ending.Failure.TheVariants.{OutOfMemory, ReadFailed, WriteFailed}

abbrev pub failure_of_replay : ReplayFault → Failure
failure_of_replay replay_fault.ReadFailed = ReadFailed
failure_of_replay replay_fault.WriteFailed = WriteFailed
failure_of_replay replay_fault.OutOfMemory = OutOfMemory
