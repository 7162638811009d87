-- The fault with which a line ends a run, and the exit status of such a run.
use Rattle.std.specs.Prelude.{ℕ}
use Rattle.trace_words.specs.declared.fault.TraceFault.{TraceFault}
use Rattle.trace_words.specs.declared.fault.TraceFault.TheVariants as fault
use Rattle.trace_words.specs.declared.fault.TraceFault.TheVariants.{UnknownWord, FieldCount, BadNumber, BadHex, TooLong, Order, Provision}
use Rattle.identity_slots.specs.declared.provision.ProvisionFault.{ProvisionFault}
use Rattle.identity_slots.specs.declared.provision.ProvisionFault.TheVariants as provision
use Rattle.trace_progress.specs.declared.fault.PlayFault.{PlayFault}
use Rattle.trace_progress.specs.declared.fault.PlayFault.TheVariants.{Trace, Read, Write, NoMemory}

-- the fault of a line whose subscriber or vector was not added
abbrev pub in_provision : ℕ → ProvisionFault → PlayFault
in_provision line provision.RepeatedImsi = Trace line Provision
in_provision line provision.RepeatedAddress = Trace line Provision
in_provision line provision.Full = Trace line Provision
in_provision line provision.NoMemory = NoMemory

-- the fault of a line, with its number
abbrev pub in_line : ℕ → TraceFault → PlayFault
in_line line fault.NoMemory = NoMemory
in_line line UnknownWord = Trace line UnknownWord
in_line line FieldCount = Trace line FieldCount
in_line line BadNumber = Trace line BadNumber
in_line line BadHex = Trace line BadHex
in_line line TooLong = Trace line TooLong
in_line line Order = Trace line Order
in_line line Provision = Trace line Provision

-- the exit status of a run that ends with a fault
abbrev pub status_of : PlayFault → ℕ
status_of (Trace line fault) = 1
status_of Read = 3
status_of Write = 3
status_of NoMemory = 4
