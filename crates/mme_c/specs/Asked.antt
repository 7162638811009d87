-- What the calls that ask something tell of what a handle holds.
use Rattle.std.specs.Prelude.{◌≡◌, ◌⊎◌, ℕ, ◌<◌, ◌≤◌, List, [], ◌++◌, length, drop, Option, Some, None, Result, Ok, Err}
use Rattle.emm_machine.specs.declared.subscriber.EmmState.{EmmState}
use Rattle.emm_machine.specs.declared.subscriber.EmmState.TheVariants.{Deregistered, CommonProcedureInitiated, Registered, DeregisteredInitiated}
use Rattle.emm_machine.specs.declared.subscriber.EcmState.{EcmState}
use Rattle.emm_machine.specs.declared.subscriber.EcmState.TheVariants.{Idle, Connected}
use Rattle.emm_machine.specs.declared.subscriber.States.{States}
use Rattle.esm_machine.specs.declared.bearer.BearerState.{BearerState}
use Rattle.esm_machine.specs.declared.bearer.BearerState.TheVariants.{Inactive, ActivePending, Active}
use Rattle.mme_answering.specs.declared.out.Out.{Out}
use Rattle.mme_answering.specs.declared.out.Owner.{Owner}
use Rattle.mme_answering.specs.declared.out.Owner.TheVariants.{Station, Stranger, Subscriber}
use Rattle.c_session.specs.declared.refusal.Refusal.{Refusal}
use Rattle.c_session.specs.declared.refusal.Refusal.TheVariants.{NoMme}
use Rattle.c_session.specs.declared.session.Session.{Session}
use Rattle.c_session.specs.Asked.{states_of}
use Rattle.c_session.specs.Kept.{message_at}
use Rattle.c_session.specs.Refusals.{number_of}
use Rattle.mme_c.specs.declared.replies.Output.{Output}
use Rattle.mme_c.specs.declared.replies.SubscriberStates.{SubscriberStates}

-- ---- what is asked of a session

-- of an empty handle nothing is known
abbrev pub asked_of : {A : Type 0} → (Session → Result A Refusal) → Option Session → Result A Refusal
asked_of ask None = Err NoMme
asked_of ask (Some s) = ask s

-- it is told, or refused, with the number why, and what was to be written stays
abbrev pub IsTold : {A : Type 0} → Result A Refusal → A → ℕ → A → Type 0
IsTold (Ok x) old answer new = (answer ≡ 0) × (new ≡ x)
IsTold (Err refusal) old answer new = (answer ≡ number_of refusal) × (new ≡ old)

-- how many replies there are
abbrev pub replies_of : Option Session → ℕ
replies_of None = 0
replies_of (Some s) = length s.replies

-- ---- states, as numbers

abbrev pub emm_number : EmmState → ℕ
emm_number Deregistered = 0
emm_number CommonProcedureInitiated = 1
emm_number Registered = 2
emm_number DeregisteredInitiated = 3

abbrev pub ecm_number : EcmState → ℕ
ecm_number Idle = 0
ecm_number Connected = 1

abbrev pub esm_number : BearerState → ℕ
esm_number Inactive = 0
esm_number ActivePending = 1
esm_number Active = 2

abbrev pub states_numbers : States → SubscriberStates
states_numbers s = record { emm = emm_number s.emm; ecm = ecm_number s.ecm; esm = esm_number s.esm }

abbrev pub numbered : Result States Refusal → Result SubscriberStates Refusal
numbered (Ok states) = Ok (states_numbers states)
numbered (Err refusal) = Err refusal

-- ---- messages

-- for whom a message is: 1 the station, 2 a stranger, 3 a subscriber
abbrev pub owner_kind : Owner → ℕ
owner_kind (Station e) = 1
owner_kind (Stranger id) = 2
owner_kind (Subscriber slot) = 3

abbrev pub owner_number : Owner → ℕ
owner_number (Station e) = e
owner_number (Stranger id) = id
owner_number (Subscriber slot) = slot

abbrev pub output_of : Out → Output
output_of out = record {
  owner = owner_kind out.owner;
  number = owner_number out.owner;
  station = out.station;
  length = length out.octets;
}

-- octets are copied to the start of a buffer, or there is no room for them (24)
abbrev pub IsCopied : List ℕ → List ℕ → ℕ → List ℕ → Type 0
IsCopied octets buffer answer buffer' =
    ((answer ≡ 0) × (length octets ≤ length buffer) × (buffer' ≡ octets ++ drop (length octets) buffer))
    ⊎ ((answer ≡ 24) × (length buffer < length octets) × (buffer' ≡ buffer))

-- a message is described and copied; without one nothing is written (23)
abbrev pub IsOutput : Option Out → Output → List ℕ → ℕ → Output → List ℕ → Type 0
IsOutput None output buffer answer output' buffer' = (answer ≡ 23) × (output' ≡ output) × (buffer' ≡ buffer)
IsOutput (Some out) output buffer answer output' buffer' = (output' ≡ output_of out) × IsCopied out.octets buffer answer buffer'

-- the message at this place of the reply at that place; of an empty handle nothing is known (21)
abbrev pub IsOutputOf : Option Session → ℕ → ℕ → Output → List ℕ → ℕ → Output → List ℕ → Type 0
IsOutputOf None reply index output buffer answer output' buffer' = (answer ≡ 21) × (output' ≡ output) × (buffer' ≡ buffer)
IsOutputOf (Some s) reply index output buffer answer output' buffer' =
    IsOutput (message_at s.replies reply index) output buffer answer output' buffer'
