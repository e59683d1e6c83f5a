use Rattle.std.proofs.Common.{rules}
use Rattle.control.proofs.script.write_waiting.Goals as goal

pub returns-clause-device_failed : goal.returns-clause-device_failed
returns-clause-device_failed g c = search rules

pub returns-clause-done : goal.returns-clause-done
returns-clause-done g c = search rules

pub returns-clause-written : goal.returns-clause-written
returns-clause-written g c = search rules

pub returns-in-Err-WriteFailed-clause-device_failed : goal.returns-in-Err-WriteFailed-clause-device_failed
returns-in-Err-WriteFailed-clause-device_failed g c = search rules

pub returns-in-Err-WriteFailed-clause-done : goal.returns-in-Err-WriteFailed-clause-done
returns-in-Err-WriteFailed-clause-done g c = search rules

pub returns-in-Err-WriteFailed-clause-written : goal.returns-in-Err-WriteFailed-clause-written
returns-in-Err-WriteFailed-clause-written g c = search rules

pub returns-in_default-write-clause-device_failed : goal.returns-in_default-write-clause-device_failed
returns-in_default-write-clause-device_failed g c = search rules

pub returns-in_default-write-clause-done : goal.returns-in_default-write-clause-done
returns-in_default-write-clause-done g c = search rules

pub returns-in_default-write-clause-written : goal.returns-in_default-write-clause-written
returns-in_default-write-clause-written g c = search rules
