-- EMM causes (TS 24.301 annex A and clause 9.9.3.9).
use Rattle.std.specs.Prelude.{ℕ, Option, Some, None}
use Rattle.nas_elements.specs.declared.fault.NasFault.{NasFault}
use Rattle.nas_elements.specs.declared.fault.NasFault.TheVariants as faults
use Rattle.mme_signalling.specs.declared.cause.EmmCause.{EmmCause}
use Rattle.mme_signalling.specs.declared.cause.EmmCause.TheVariants.{ServicesNotAllowed, IdentityNotDerived, ImplicitlyDetached, NetworkFailure, CsDomainNotAvailable, EsmFailure, SynchFailure, InvalidMandatory, UnknownType, NotCompatible, ProtocolError}

abbrev pub emm_cause_code : EmmCause → ℕ
emm_cause_code ServicesNotAllowed = 8
emm_cause_code IdentityNotDerived = 9
emm_cause_code ImplicitlyDetached = 10
emm_cause_code NetworkFailure = 17
emm_cause_code CsDomainNotAvailable = 18
emm_cause_code EsmFailure = 19
emm_cause_code SynchFailure = 21
emm_cause_code InvalidMandatory = 96
emm_cause_code UnknownType = 97
emm_cause_code NotCompatible = 98
emm_cause_code ProtocolError = 111

-- the cause of the status that answers octets with a fault (TS 24.301 clause 7)
abbrev pub cause_of_fault : NasFault → Option EmmCause
cause_of_fault faults.TooShort = None
cause_of_fault faults.Mandatory = Some InvalidMandatory
cause_of_fault faults.UnknownType = Some UnknownType
cause_of_fault faults.OptionalPart = Some InvalidMandatory
cause_of_fault faults.NoMemory = None
