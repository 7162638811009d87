-- What functions of the code returned.
use Rattle.std.specs.Prelude.{ℕ, List, None}
use Rattle.mme_signalling.specs.Messages.{attach_reject, service_reject, update_reject}
use Rattle.stranger_machine.specs.declared.entering.Rejected.{Rejected}
use Rattle.stranger_machine.specs.declared.entering.Rejected.TheVariants as rejected
use Rattle.stranger_machine.specs.declared.entering.Welcome.{Welcome as WelcomeInCode}
use Rattle.stranger_machine.specs.declared.entering.Welcome.TheVariants as code
use Rattle.stranger_machine.specs.Machine.{Welcome, Ask, Refuse, TurnAway}

abbrev pub refusal_of : Rejected → List ℕ
refusal_of (rejected.Attach cause) = attach_reject cause None
refusal_of (rejected.AreaUpdate cause) = update_reject cause
refusal_of (rejected.Service cause) = service_reject cause

abbrev pub welcome_of : WelcomeInCode → Welcome
welcome_of code.Ask = Ask
welcome_of (code.Refuse r) = Refuse (refusal_of r)
welcome_of code.TurnAway = TurnAway
