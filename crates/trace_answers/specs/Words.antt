-- The lines of answers, as functions on what they say.
use Rattle.std.specs.Prelude.{ℕ, List, [], ◌∷◌, ◌++◌, codes}
use Rattle.std.specs.Fmt.{decimal}
use Rattle.nas_elements.specs.Digits.{imsi_text}
use Rattle.identity_slots.specs.Ids.{number_in, station_in}
use Rattle.esm_machine.specs.declared.bearer.BearerState.{BearerState}
use Rattle.esm_machine.specs.declared.bearer.BearerState.TheVariants.{Inactive, ActivePending, Active}
use Rattle.emm_machine.specs.declared.subscriber.EmmState.{EmmState}
use Rattle.emm_machine.specs.declared.subscriber.EmmState.TheVariants.{Deregistered, CommonProcedureInitiated, Registered, DeregisteredInitiated}
use Rattle.emm_machine.specs.declared.subscriber.EcmState.{EcmState}
use Rattle.emm_machine.specs.declared.subscriber.EcmState.TheVariants.{Idle, Connected}
use Rattle.emm_machine.specs.declared.subscriber.States.{States}
use Rattle.mme_answering.specs.declared.out.Out.{Out}
use Rattle.mme_answering.specs.declared.out.Owner.{Owner}
use Rattle.mme_answering.specs.declared.out.Owner.TheVariants.{Station, Stranger, Subscriber}
use Rattle.trace_words.specs.Trace.{◌␣◌, octets_text}
use Rattle.trace_answers.specs.declared.answer.Answer.{Answer}
use Rattle.trace_answers.specs.declared.answer.Answer.TheVariants.{Sent, Refused, State}

-- ---- messages and refusals

-- whom a message is for: of a stranger its station, and its eNB UE S1AP ID
abbrev pub owner_text : Owner → List ℕ
owner_text (Station e) = codes "out e" ++ decimal e ++ codes " "
owner_text (Stranger id) = codes "out x" ++ decimal (station_in id) ++ codes "." ++ decimal (number_in id) ++ codes " "
owner_text (Subscriber slot) = codes "out s" ++ decimal slot ++ codes " "

unfoldable pub sent_text : Owner → ℕ → List ℕ → List ℕ
sent_text owner e octets = owner_text owner ++ (decimal e ++ codes " ") ++ octets_text octets ++ codes "\n"

unfoldable pub refused_text : ℕ → List ℕ
refused_text k = codes "refused " ++ decimal k ++ codes "\n"

-- ---- the states of a subscriber

-- the word for how a subscriber is registered (TS 24.301 clause 5.1.3)
abbrev pub emm_word : EmmState → List ℕ
emm_word Deregistered = codes "DEREGISTERED"
emm_word CommonProcedureInitiated = codes "COMMON-PROCEDURE-INITIATED"
emm_word Registered = codes "REGISTERED"
emm_word DeregisteredInitiated = codes "DEREGISTERED-INITIATED"

-- the word for whether a subscriber has a connection (TS 23.401 clause 4.6.3)
abbrev pub ecm_word : EcmState → List ℕ
ecm_word Idle = codes "IDLE"
ecm_word Connected = codes "CONNECTED"

-- the word for how far a subscriber's default bearer is (TS 24.301 clause 6.1.3)
abbrev pub esm_word : BearerState → List ℕ
esm_word Inactive = codes "INACTIVE"
esm_word ActivePending = codes "ACTIVE-PENDING"
esm_word Active = codes "ACTIVE"

unfoldable pub states_text : List ℕ → States → List ℕ
states_text imsi s = (codes "state" ␣ imsi_text imsi ␣ emm_word s.emm ␣ ecm_word s.ecm ␣ esm_word s.esm) ++ codes "\n"

-- ---- answers

-- the line of an answer, with its LF
abbrev pub answer_text : Answer → List ℕ
answer_text (Sent owner e octets) = sent_text owner e octets.now
answer_text (Refused k) = refused_text k
answer_text (State imsi states) = states_text imsi states

-- ---- the messages of an event

abbrev pub out_text : Out → List ℕ
out_text out = sent_text out.owner out.station out.octets

abbrev pub answers_of : List Out → List ℕ
answers_of [] = []
answers_of (out ∷ outs) = out_text out ++ answers_of outs
