-- A script that ends early, and how runs end.
use Rattle.std.specs.Prelude.{ℕ, ◌++◌, List, codes}
use Rattle.std.specs.Fmt.{decimal}
use Rattle.linkrun.specs.declared.fault.Fault.{Fault}
use Rattle.linkrun.specs.declared.fault.Fault.TheVariants.{InputFailed, NotAnEvent}
use Rattle.linkrun.specs.declared.status.Status.{Status}
use Rattle.linkrun.specs.declared.status.Status.TheVariants.{Complete, Failed, Stopped}

-- its text, without the line end
abbrev pub fault_text : Fault → List ℕ
fault_text (NotAnEvent number) = codes "line " ++ decimal number ++ codes ": not an event"
fault_text InputFailed = codes "input failed"

-- how the run ends
abbrev pub status_of : Fault → Status
status_of (NotAnEvent number) = Stopped
status_of InputFailed = Failed

-- the exit status
abbrev pub code_of : Status → ℕ
code_of Complete = 0
code_of Failed = 1
code_of Stopped = 2
