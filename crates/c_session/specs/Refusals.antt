-- The numbers of refusals, and which refusal a fault of the MME or of a trace is.
use Rattle.std.specs.Prelude.{ℕ, Result, Ok, Err}
use Rattle.identity_slots.specs.declared.provision.ProvisionFault.{ProvisionFault}
use Rattle.identity_slots.specs.declared.provision.ProvisionFault.TheVariants as provision
use Rattle.mme_core.specs.declared.event.StepFault.{StepFault}
use Rattle.mme_core.specs.declared.event.StepFault.TheVariants as step
use Rattle.trace_words.specs.declared.fault.TraceFault.{TraceFault}
use Rattle.trace_words.specs.declared.fault.TraceFault.TheVariants as line
use Rattle.trace_progress.specs.declared.fault.PlayFault.{PlayFault}
use Rattle.trace_progress.specs.declared.fault.PlayFault.TheVariants as play
use Rattle.c_session.specs.declared.refusal.Refusal.{Refusal}
use Rattle.c_session.specs.declared.refusal.Refusal.TheVariants.{NotUp, AlreadyUp, ClockSpent, NoMemory, UnknownImsi, UnknownWord, FieldCount, BadNumber, BadOctets, TooLong, Order, Provision, NoMme, InUse, NoOutput, NoRoom, Lost, NotSaved, OtherVersion, NoSnapshot, TooMuchWork}

-- the number of a refusal
abbrev pub number_of : Refusal → ℕ
number_of NotUp = 1
number_of AlreadyUp = 2
number_of ClockSpent = 3
number_of NoMemory = 4
number_of UnknownImsi = 5
number_of UnknownWord = 11
number_of FieldCount = 12
number_of BadNumber = 13
number_of BadOctets = 14
number_of TooLong = 15
number_of Order = 16
number_of Provision = 17
number_of NoMme = 21
number_of InUse = 22
number_of NoOutput = 23
number_of NoRoom = 24
number_of Lost = 25
number_of NotSaved = 26
number_of OtherVersion = 27
number_of NoSnapshot = 28
number_of TooMuchWork = 29

-- the refusal of an event
abbrev pub of_step : StepFault → Refusal
of_step step.NotUp = NotUp
of_step step.AlreadyUp = AlreadyUp
of_step step.ClockSpent = ClockSpent
of_step step.NoMemory = NoMemory
of_step step.UnknownImsi = UnknownImsi

-- the refusal of a subscriber or a vector, by an MME that runs
abbrev pub of_provision : ProvisionFault → Refusal
of_provision provision.RepeatedImsi = Provision
of_provision provision.RepeatedAddress = Provision
of_provision provision.Full = Provision
of_provision provision.NoMemory = NoMemory

-- the refusal of a line or an argument
abbrev pub of_line : TraceFault → Refusal
of_line line.UnknownWord = UnknownWord
of_line line.FieldCount = FieldCount
of_line line.BadNumber = BadNumber
of_line line.BadHex = BadOctets
of_line line.TooLong = TooLong
of_line line.Order = Order
of_line line.Provision = Provision
of_line line.NoMemory = NoMemory

-- the refusal of what a step of provisioning answered, which neither reads nor writes
abbrev pub of_play : PlayFault → Refusal
of_play (play.Trace number fault) = of_line fault
of_play play.Read = NoMemory
of_play play.Write = NoMemory
of_play play.NoMemory = NoMemory

abbrev pub told : Result (Unit {0}) PlayFault → Result (Unit {0}) Refusal
told (Ok _) = Ok tt
told (Err fault) = Err (of_play fault)

-- the refusal of what the start of an MME answered: where memory ran out, what was provisioned is lost
abbrev pub told_of_start : Result (Unit {0}) PlayFault → Result (Unit {0}) Refusal
told_of_start (Ok _) = Ok tt
told_of_start (Err play.NoMemory) = Err Lost
told_of_start (Err (play.Trace number fault)) = Err (of_line fault)
told_of_start (Err play.Read) = Err NoMemory
told_of_start (Err play.Write) = Err NoMemory

-- a field of a line, as an argument
abbrev pub of_field : {A : Type 0} → Result A TraceFault → Result A Refusal
of_field (Ok x) = Ok x
of_field (Err fault) = Err (of_line fault)

-- what follows where nothing is refused
infixl 10 ◌>>=◌
abbrev pub ◌>>=◌ : {A B : Type 0} → Result A Refusal → (A → Result B Refusal) → Result B Refusal
Ok x >>= f = f x
Err refusal >>= f = Err refusal
