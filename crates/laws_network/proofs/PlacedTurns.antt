-- One stranger's turn: where it was placed it stays so, what it sends goes to stations that are set up, and from there comes whom
-- it calls.
use Rattle.std.proofs.Common.{◌≡◌, ◌≢◌, ℕ, ◌-◌, Bool, true, false, List, [], ◌∷◌, All, Option, Some, None, refl, sym, subst}
use Rattle.std.specs.Prelude.{◌==◌, nat_lt, option_map}
use Rattle.std.proofs.lemmas.Bool.{eqb-true}
use Rattle.std.proofs.lemmas.List.Elements.{All-append, All-cons, All-nil}
use Rattle.s1ap_causes.specs.declared.cause.Cause.{Cause}
use Rattle.s1ap_pdus.specs.declared.pdu.Pdu.{Pdu}
use Rattle.s1ap_pdus.specs.Pdus.{encoded}
use Rattle.identity_slots.specs.declared.profile.Profile.{Profile}
use Rattle.identity_slots.specs.Ids.{station_in}
use Rattle.identity_slots.specs.Provisioned.{slot_of_imsi}
use Rattle.sorted_list.specs.Ordered.{Every, put, without}
use Rattle.mme_types.specs.declared.event.Entry.{Entry}
use Rattle.mme_types.specs.declared.event.UeBody.{UeBody}
use Rattle.mme_types.specs.declared.event.UeBody.TheVariants as bodies
use Rattle.mme_types.specs.declared.event.UeMessage.{UeMessage}
use Rattle.mme_types.specs.declared.octets.Answer.{Answer}
use Rattle.mme_types.specs.declared.connection.Connection.{Connection}
use Rattle.mme_types.specs.declared.stations.StationState.{StationState}
use Rattle.mme_types.specs.Answers.{answer_of}
use Rattle.stranger_machine.specs.declared.state.KeptEntry.{KeptEntry}
use Rattle.stranger_machine.specs.declared.state.Stranger.{Stranger}
use Rattle.stranger_machine.specs.declared.state.Stranger.TheVariants.{Waiting, Held}
use Rattle.stranger_machine.specs.declared.table.Known.{Known}
use Rattle.stranger_machine.specs.declared.turn.Notice.{Notice}
use Rattle.stranger_machine.specs.declared.turn.Notice.TheVariants.{Tick, Gone, Listed}
use Rattle.stranger_machine.specs.Machine as machine
use Rattle.stranger_machine.specs.Machine.{Input, Welcome, Ask, Refuse, TurnAway, stranger_step}
use Rattle.stranger_machine.specs.Table.{known_id, known_if, noted, stranger_at, with_stranger}
use Rattle.stranger_machine.specs.Turns.{Call, Turn, as_kept, closing, identity_asked, place_of, refused, released, sent_to, stays}
use Rattle.laws_subscriber.specs.Choices.{either, either_by}
use Rattle.laws_network.specs.Placed.{IsReady, IsStrangerPlaced}
use Rattle.laws_network.proofs.PlacedSteps.{ComesFromReady, not_same}

-- ---- what a turn leaves

abbrev pub IsPlacedIf : List StationState → ℕ → Option Stranger → Type 0
IsPlacedIf stations id None = Unit {0}
IsPlacedIf stations id (Some s) = IsStrangerPlaced stations (record { id = id; stranger = s })

abbrev pub CallsFrom : List StationState → Option Call → Type 0
CallsFrom stations None = Unit {0}
CallsFrom stations (Some c) = ComesFromReady stations c.item

-- to a station that is set up
abbrev pub ToReady : List StationState → Answer → Type 0
ToReady stations a = IsReady stations a.station

pub record IsTurnPlaced (stations : List StationState) (id : ℕ) (t : Turn) : Type 0 where
  pub stranger : IsPlacedIf stations id t.stranger
  pub sent : All (ToReady stations) t.sent
  pub call : CallsFrom stations t.call

-- a notice that all associations at a station end
abbrev pub is_gone : Notice → Bool
is_gone (Gone e) = true
is_gone _ = false

module _ (stations : List StationState) where
  -- ---- what is sent

  answered : (e : ℕ) (o : Option (List ℕ)) → IsReady stations e → All (ToReady stations) (answer_of e None o)
  answered e None ready = All-nil (ToReady stations)
  answered e (Some octets) ready = All-cons (ToReady stations) _ [] ready (All-nil (ToReady stations))

  told : (e : ℕ) (message : Pdu (List ℕ)) → IsReady stations e → All (ToReady stations) (sent_to e message)
  told e message ready = answered e (encoded message) ready

  released_so : (k : Connection) (cause : Cause) → IsReady stations k.station → All (ToReady stations) (released k cause)
  unfolding released
  released_so k cause ready = told k.station _ ready

  refused_so : (k : Connection) (nas : List ℕ) → IsReady stations k.station → All (ToReady stations) (refused k nas)
  unfolding refused
  refused_so k nas ready = All-append (ToReady stations) _ _ (told k.station _ ready) (released_so k _ ready)

  asked_so : (k : Connection) → IsReady stations k.station → All (ToReady stations) (identity_asked k)
  unfolding identity_asked
  asked_so k ready = told k.station _ ready

  unknown_so : (body : UeBody (List ℕ)) (m : UeMessage (List ℕ)) → IsReady stations m.station
      → All (ToReady stations) (machine.unknown body m)
  unfolding machine.unknown
  unknown_so bodies.UeContextReleaseComplete m ready = All-nil (ToReady stations)
  unknown_so bodies.PathSwitch m ready = told m.station _ ready
  unknown_so (bodies.Uplink nas tai) m ready = told m.station _ ready
  unknown_so (bodies.UeContextReleaseRequest cause) m ready = told m.station _ ready
  unknown_so bodies.InitialContextSetupFailure m ready = told m.station _ ready
  unknown_so bodies.Notice m ready = told m.station _ ready

  -- ---- an INITIAL UE MESSAGE

  closes_so : (id : ℕ) (sent : List Answer) → All (ToReady stations) sent → IsTurnPlaced stations id (closing sent)
  closes_so id sent h = record { stranger = tt; sent = h; call = tt }

  stays_so : (id : ℕ) (s : Option Stranger) (sent : List Answer) → IsPlacedIf stations id s → All (ToReady stations) sent
      → IsTurnPlaced stations id (stays s sent)
  stays_so id s sent h all = record { stranger = h; sent = all; call = tt }

  welcomed_so : (id : ℕ) (m : Entry (List ℕ)) (w : Welcome) → IsReady stations m.station → m.station ≡ station_in id
      → IsTurnPlaced stations id (machine.welcomed id (as_kept m) w)
  unfolding machine.welcomed
  welcomed_so id m Ask ready own =
      stays_so id _ _ (record { own = own; ready = subst (IsReady stations) own ready }) (asked_so (place_of id (as_kept m)) ready)
  welcomed_so id m (Refuse nas) ready own = closes_so id _ (refused_so (place_of id (as_kept m)) nas ready)
  welcomed_so id m TurnAway ready own = closes_so id _ (released_so (place_of id (as_kept m)) _ ready)

  displaced_so : (id : ℕ) (s : Option Stranger) → CallsFrom stations (machine.displaced_by id s)
  displaced_so id None = tt
  displaced_so id (Some (Waiting k left repeats)) = tt
  displaced_so id (Some (Held slot)) = tt

  begun : (id : ℕ) (s : Option Stranger) (m : Entry (List ℕ)) → IsReady stations m.station → m.station ≡ station_in id
      → IsTurnPlaced stations id (machine.begins id s m)
  unfolding machine.begins
  begun id s m ready own =
      let w = welcomed_so id m (machine.meet m.nas) ready own in
      record { stranger = w.stranger; sent = w.sent; call = displaced_so id s }

  -- ---- a message with the id

  module _ (id : ℕ) (k : KeptEntry) (ready : IsReady stations k.station) where
    claimed_so : (o : Option ℕ) (n : ℕ) → IsReady stations (station_in id) → IsTurnPlaced stations id (machine.claimed_by o n k)
    unfolding machine.claimed_by
    claimed_so None n there = closes_so id _ (refused_so (place_of n k) _ ready)
    claimed_so (Some slot) n there =
        record { stranger = record { own = tt; ready = there }; sent = All-nil (ToReady stations); call = ready }

    module _ (s : Stranger) (h : IsStrangerPlaced stations (record { id = id; stranger = s })) where
      identified_so : (o : Option (List ℕ)) (ps : List Profile) (n : ℕ) → IsTurnPlaced stations id (machine.identified o ps n k s)
      unfolding machine.identified
      identified_so None ps n = stays_so id (Some s) [] h (All-nil (ToReady stations))
      identified_so (Some imsi) ps n = claimed_so (slot_of_imsi imsi ps) n h.ready

      own_so : (body : UeBody (List ℕ)) (ps : List Profile) (n : ℕ) → IsTurnPlaced stations id (machine.receives_own body ps n k s)
      unfolding machine.receives_own
      own_so (bodies.Uplink nas tai) ps n = identified_so _ ps n
      own_so (bodies.UeContextReleaseRequest cause) ps n = closes_so id _ (released_so (place_of n k) _ ready)
      own_so _ ps n = stays_so id (Some s) [] h (All-nil (ToReady stations))

      paired_so : (ps : List Profile) (m : UeMessage (List ℕ)) → IsReady stations m.station
          → IsTurnPlaced stations id (machine.checked_for_pair ps m k s)
      unfolding machine.checked_for_pair
      paired_so ps m from =
          either (IsTurnPlaced stations id) _ (own_so m.body ps m.mme_ue_id) (stays_so id (Some s) _ h (told m.station _ from))

      waiting_so : (body : UeBody (List ℕ)) (ps : List Profile) (m : UeMessage (List ℕ)) → IsReady stations m.station
          → IsTurnPlaced stations id (machine.receives_waiting body ps m k s)
      unfolding machine.receives_waiting
      waiting_so bodies.UeContextReleaseComplete ps m from = stays_so id (Some s) [] h (All-nil (ToReady stations))
      waiting_so bodies.PathSwitch ps m from = stays_so id (Some s) _ h (unknown_so bodies.PathSwitch m from)
      waiting_so _ ps m from = paired_so ps m from

  received : (id : ℕ) (ps : List Profile) (s : Option Stranger) (m : UeMessage (List ℕ)) → IsReady stations m.station
      → IsPlacedIf stations id s → IsTurnPlaced stations id (machine.receives ps s m)
  unfolding machine.receives
  received id ps None m from h = closes_so id _ (unknown_so m.body m from)
  received id ps (Some (Waiting k left repeats)) m from h =
      waiting_so id k (subst (IsReady stations) (sym h.own) h.ready) (Waiting k left repeats) h m.body ps m from
  received id ps (Some (Held slot)) m from h = record { stranger = h; sent = All-nil (ToReady stations); call = from }

  -- ---- what comes to all, but for a station that is gone

  ticked : (id : ℕ) (s : Stranger) → IsStrangerPlaced stations (record { id = id; stranger = s })
      → IsTurnPlaced stations id (machine.ticks id (Some s))
  unfolding machine.ticks machine.waits
  ticked id (Waiting k left repeats) h =
      let ready : IsReady stations k.station = subst (IsReady stations) (sym h.own) h.ready in
      let same = λ (l r : ℕ) (sent : List Answer) (all : All (ToReady stations) sent).
      stays_so id (Some (Waiting k l r)) sent (record { own = h.own; ready = h.ready }) all in
      either (IsTurnPlaced stations id) (nat_lt 1 left) (same (left - 1) repeats [] (All-nil (ToReady stations)))
      (either (IsTurnPlaced stations id) (nat_lt 0 repeats) (same _ (repeats - 1) _ (asked_so (place_of id k) ready))
      (closes_so id _ (released_so (place_of id k) _ ready)))
  ticked id (Held slot) h = stays_so id (Some (Held slot)) [] h (All-nil (ToReady stations))

  pub noted_so : (id : ℕ) (s : Stranger) (notice : Notice) → is_gone notice ≡ false
      → IsStrangerPlaced stations (record { id = id; stranger = s }) → IsTurnPlaced stations id (machine.notes id (Some s) notice)
  unfolding machine.notes machine.unlists
  noted_so id s Tick other h = ticked id s h
  noted_so id s (Gone e) other h = absurd (cc other)
  noted_so id s (Listed e items) other h =
      either (IsTurnPlaced stations id) (machine.is_meant id e items) (closes_so id [] (All-nil (ToReady stations)))
      (stays_so id (Some s) [] h (All-nil (ToReady stations)))

  -- ---- in the table

  placed_at : (id : ℕ) (ks : List Known) → Every (IsStrangerPlaced stations) ks → IsPlacedIf stations id (stranger_at id ks)
  placed_at id [] each = tt
  placed_at id (k ∷ ks) each =
      either_by (λ (o : Option Known). IsPlacedIf stations id (option_map (λ x. x.stranger) o)) (known_id k == id)
      (λ is. subst (λ (n : ℕ). IsStrangerPlaced stations (record { id = n; stranger = k.stranger })) (eqb-true k.id id is) each.0)
      (λ other. placed_at id ks each.1)

  -- the input of one stranger, at an input of its own
  abbrev pub InputFrom : ℕ → Input → Type 0
  InputFrom id (machine.Begins m) = IsReady stations m.station × (m.station ≡ station_in id)
  InputFrom id (machine.Receives m) = IsReady stations m.station
  InputFrom id machine.Nothing = Unit {0}
  InputFrom id (machine.Notes notice) = ⊥

  pub turned : (ps : List Profile) (id : ℕ) (input : Input) (ks : List Known) → InputFrom id input
      → Every (IsStrangerPlaced stations) ks → IsTurnPlaced stations id (stranger_step ps id (stranger_at id ks) input)
  unfolding stranger_step
  turned ps id machine.Nothing ks from each = stays_so id (stranger_at id ks) [] (placed_at id ks each) (All-nil (ToReady stations))
  turned ps id (machine.Begins m) ks from each = begun id (stranger_at id ks) m from.0 from.1
  turned ps id (machine.Receives m) ks from each = received id ps (stranger_at id ks) m from (placed_at id ks each)
  turned ps id (machine.Notes notice) ks from each = absurd from

pub every_put : (P : Known → Type 0) (k : Known) (ks : List Known) → P k → Every P ks → Every P (put known_id k ks)
every_put P k [] h each = (h, tt)
every_put P k (y ∷ ys) h each =
    either (Every P) (nat_lt (known_id y) (known_id k)) (each.0, every_put P k ys h each.1)
    (either (Every P) (known_id y == known_id k) (h, each.1) (h, each))

pub every_without : (P : Known → Type 0) (id : ℕ) (ks : List Known) → Every P ks → Every P (without known_id id ks)
every_without P id [] each = tt
every_without P id (y ∷ ys) each = either (Every P) (known_id y == id) each.1 (each.0, every_without P id ys each.1)

pub every_with : (stations : List StationState) (id : ℕ) (s : Option Stranger) (ks : List Known) → IsPlacedIf stations id s
    → Every (IsStrangerPlaced stations) ks → Every (IsStrangerPlaced stations) (with_stranger id s ks)
every_with stations id None ks h each = every_without (IsStrangerPlaced stations) id ks each
every_with stations id (Some s) ks h each = every_put (IsStrangerPlaced stations) _ ks h each

pub every_if : (stations : List StationState) (id : ℕ) (s : Option Stranger) (ks : List Known) → IsPlacedIf stations id s
    → Every (IsStrangerPlaced stations) ks → Every (IsStrangerPlaced stations) (known_if id s ks)
every_if stations id None ks h each = each
every_if stations id (Some s) ks h each = (h, each)

-- ---- a station is gone

-- of those who are left each is elsewhere, and placed as it was
pub left_by : (stations : List StationState) (e : ℕ) (ks : List Known)
    → Every (λ (k : Known). station_in k.id ≢ e) (noted (Gone e) ks)
    × (Every (IsStrangerPlaced stations) ks → Every (IsStrangerPlaced stations) (noted (Gone e) ks))
unfolding machine.notes machine.loses
left_by stations e [] = (tt, λ each. tt)
left_by stations e (k ∷ ks) =
    let rest = left_by stations e ks in
    either_by
    (λ (t : Turn). Every (λ (x : Known). station_in x.id ≢ e) (known_if k.id t.stranger (noted (Gone e) ks))
    × (Every (IsStrangerPlaced stations) (k ∷ ks) → Every (IsStrangerPlaced stations) (known_if k.id t.stranger (noted (Gone e) ks))))
    (station_in k.id == e)
    (λ here. (rest.0, λ each. rest.1 each.1))
    (λ other. ((not_same (station_in k.id) e other, rest.0), λ each. (each.0, rest.1 each.1)))

-- and nothing is sent
pub silent_gone : (id : ℕ) (s : Option Stranger) (e : ℕ) → (machine.notes id s (Gone e)).sent ≡ []
unfolding machine.notes machine.loses
silent_gone id s e = either (λ (t : Turn). t.sent ≡ []) (station_in id == e) refl refl
