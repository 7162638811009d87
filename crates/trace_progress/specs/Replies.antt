-- What is written of the reply to an event.
use Rattle.std.specs.Prelude.{ℕ, List, Result, Ok, Err}
use Rattle.mme_core.specs.mme_answering.declared.out.Out.{Out}
use Rattle.mme_core.specs.declared.event.StepFault.{StepFault}
use Rattle.mme_core.specs.declared.event.StepFault.TheVariants.{NotUp, AlreadyUp, ClockSpent, NoMemory, UnknownImsi}
use Rattle.trace_answers.specs.Words.{answers_of, refused_text}

-- the number that a refusal is written with
abbrev pub refusal_number : StepFault → ℕ
refusal_number NotUp = 1
refusal_number AlreadyUp = 2
refusal_number ClockSpent = 3
refusal_number NoMemory = 4
refusal_number UnknownImsi = 5

abbrev pub reply_text : Result (List Out) StepFault → List ℕ
reply_text (Ok outs) = answers_of outs
reply_text (Err fault) = refused_text (refusal_number fault)
