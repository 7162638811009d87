-- Which radio keys stations are handed for a phone: KeNB in INITIAL CONTEXT SETUP REQUEST, and the next hop in PATH SWITCH REQUEST
-- ACKNOWLEDGE (TS 33.401 clauses 7.2.8.1, 7.2.8.4.2, A.3, A.4; TS 36.413 clauses 9.1.4.1, 9.1.5.9).
use Rattle.std.specs.Prelude.{◌≡◌, ◌⊎◌, ◌<◌, ◌≤◌, ℕ, ◌%◌, ◌^◌, List, [], ◌∷◌, ◌++◌, AllPairs, flat_map, slice_get, Option, Some, Result, Ok, Err, if◌then◌else◌}
use Rattle.std.specs.List.{AllZip}
use Rattle.s1ap_pdus.specs.declared.pdu.Pdu.{Pdu}
use Rattle.s1ap_pdus.specs.declared.pdu.Pdu.TheVariants as pdu
use Rattle.s1ap_pdus.specs.Pdus.{decoded}
use Rattle.eps_keys.specs.Hmac.{hop_at, kenb}
use Rattle.identity_slots.specs.declared.profile.Vector.{Vector}
use Rattle.mme_types.specs.declared.connection.Connection.{Connection}
use Rattle.mme_types.specs.declared.octets.Answer.{Answer}
use Rattle.mme_types.specs.Events.{Item}
use Rattle.emm_state.specs.declared.draft.Draft.{Draft}
use Rattle.emm_state.specs.declared.setting.Setting.{Setting}
use Rattle.emm_state.specs.declared.solo.Solo.{Solo}
use Rattle.emm_machine.specs.Steps.{solo_step}
use Rattle.emm_machine.specs.Words.{fresh_solo}
use Rattle.laws_subscriber.specs.Keys.{IsForConnection, has_radio_key}

-- ---- keys in their order

-- a radio key: of the vector at a place, the KeNB of an uplink NAS COUNT or a hop after it; a hop has its whole number, and KeNB
-- stands before the first
pub record RadioKey : Type 0 where
  pub place : ℕ
  pub count : ℕ
  pub hop : ℕ

-- earlier by the vector's place, of one vector by the count, of one count by the hop
abbrev pub IsBefore : RadioKey → RadioKey → Type 0
IsBefore j k =
    (j.place < k.place) ⊎ ((j.place ≡ k.place) × ((j.count < k.count) ⊎ ((j.count ≡ k.count) × (j.hop < k.hop))))

-- ---- what is handed out

-- a message has that key under a KASME: KeNB, or the next hop, which is the second of the chain or a later one, with its number
-- modulo 8
abbrev pub HasKey : List ℕ → RadioKey → Pdu (List ℕ) → Type 0
HasKey kasme k (pdu.InitialContextSetupRequest m) = (k.hop ≡ 0) × (m.key ≡ kenb kasme k.count)
HasKey kasme k (pdu.PathSwitchRequestAcknowledge m) =
    (2 ≤ k.hop) × (m.context.next_hop ≡ hop_at k.hop kasme (kenb kasme k.count)) × (m.context.chaining_count ≡ k.hop % 8)
HasKey kasme k _ = ⊥

-- a message with a radio key, the station that it goes to, and the phone's connection when it is sent
pub record Handing : Type 0 where
  pub station : ℕ
  pub message : Pdu (List ℕ)
  pub connection : Option Connection

-- it has the key of the slot's vector at its place, by a count of 24 bits, and goes to the station of the phone's connection, with
-- its ids
pub record IsHandedAs (vectors : List Vector) (k : RadioKey) (h : Handing) : Type 0 where
  pub vector : Vector
  pub there : slice_get vectors k.place ≡ Some vector
  pub fits : k.count < 2 ^ 24
  pub key : HasKey vector.kasme k h.message
  pub connection : Connection
  pub stands : h.connection ≡ Some connection
  pub station : h.station ≡ connection.station
  pub ids : IsForConnection connection h.message

-- the message in octets, where it is one with a radio key
abbrev pub handed_in : {F : Type 0} → Option Connection → ℕ → Result (Pdu (List ℕ)) F → List Handing
handed_in connection station (Ok m) =
    if has_radio_key m then (record { station = station; message = m; connection = connection }) ∷ [] else []
handed_in connection station (Err fault) = []

-- those in what is sent
abbrev pub handed_of : Option Connection → List Answer → List Handing
handed_of connection sent = flat_map (λ a. handed_in connection a.station (decoded a.octets)) sent

-- at a step, by the phone's connection after it
abbrev pub handed_by : Draft → List Handing
handed_by d = handed_of d.solo.connection d.sent

-- over a list of items
abbrev pub handed_along : Setting → Solo → List Item → List Handing
handed_along s solo [] = []
handed_along s solo (item ∷ items) = handed_by (solo_step s solo item) ++ handed_along s (solo_step s solo item).solo items

-- ---- the law

-- one for one and in order they have these keys, of which each is before all later ones
pub record AreFresh (vectors : List Vector) (handed : List Handing) : Type 0 where
  pub keys : List RadioKey
  pub each : AllZip (IsHandedAs vectors) keys handed
  pub rising : AllPairs IsBefore keys

-- of a subscriber who was never seen, over every list of items
abbrev pub KeysAreFresh : Type 0
KeysAreFresh = (s : Setting) (items : List Item) → AreFresh s.vectors (handed_along s fresh_solo items)
