-- Phases.
use Rattle.std.specs.Prelude.{Bool, true, false}
use Rattle.emm_state.specs.declared.solo.Phase.{Phase}
use Rattle.emm_state.specs.declared.solo.Phase.TheVariants.{Deregistered, Authenticating, SecurityMode, EsmInformation, Accepting, Updating, Registered, Detaching}

-- whether a phase is this one
abbrev pub is : Phase → Phase → Bool
is Deregistered Deregistered = true
is Authenticating Authenticating = true
is SecurityMode SecurityMode = true
is EsmInformation EsmInformation = true
is Accepting Accepting = true
is Updating Updating = true
is Registered Registered = true
is Detaching Detaching = true
is _ _ = false
