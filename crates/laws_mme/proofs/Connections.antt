-- A connection stays but for those who can end it: item by item.
use Rattle.std.proofs.Common.{◌≡◌, ◌⊎◌, ℕ, Bool, true, false, not, inl, inr, List, Option, Some, None, Result, Ok, Err, unwrap_or, refl, sym, ◌∙◌, ap, subst}
use Rattle.std.specs.Prelude.{◌==◌, ◌&&◌, is_ok}
use Rattle.std.specs.Option.{option_map_or}
use Rattle.std.proofs.lemmas.Bool.{eqb-true}
use Rattle.std.proofs.lemmas.Option.{none-some, same_Some}
use Rattle.s1ap_pdus.specs.declared.pdu.Pdu.{Pdu}
use Rattle.nas_security.specs.declared.fault.SecurityFault.{SecurityFault}
use Rattle.nas_security.specs.Accepting.{Acceptance}
use Rattle.mme_types.specs.declared.connection.Connection.{Connection}
use Rattle.mme_types.specs.declared.event.Entry.{Entry}
use Rattle.mme_types.specs.declared.event.UeBody.{UeBody}
use Rattle.mme_types.specs.declared.event.UeBody.TheVariants as bodies
use Rattle.mme_types.specs.declared.event.UeMessage.{UeMessage}
use Rattle.mme_types.specs.Events as events
use Rattle.mme_types.specs.Events.{Item}
use Rattle.mme_types.specs.declared.stations.StationState.{StationState}
use Rattle.mme_types.specs.Listed.{ToReset, is_listed}
use Rattle.mme_signalling.specs.declared.heard.Heard.{Heard}
use Rattle.mme_signalling.specs.declared.heard.Heard.TheVariants as heards
use Rattle.mme_signalling.specs.Hearing.{heard, initial_octets}
use Rattle.emm_state.specs.declared.draft.Draft.{Draft}
use Rattle.emm_state.specs.declared.setting.Setting.{Setting}
use Rattle.emm_state.specs.declared.solo.Context.{Context}
use Rattle.emm_state.specs.declared.solo.Phase.{Phase}
use Rattle.emm_state.specs.declared.solo.Phase.TheVariants.{Deregistered, Authenticating, SecurityMode, EsmInformation, Accepting, Updating, Registered, Detaching}
use Rattle.emm_state.specs.declared.solo.Solo.{Solo}
use Rattle.emm_state.specs.Actions.{association_counted, emit, is_registered, refuse, start, turn_away, untouched}
use Rattle.emm_state.specs.Phases.{is}
use Rattle.emm_machine.specs.Connected as connected
use Rattle.emm_machine.specs.Messages as messages
use Rattle.emm_machine.specs.Idle as idle
use Rattle.emm_machine.specs.Serving as serving
use Rattle.emm_machine.specs.Steps as steps
use Rattle.laws_subscriber.specs.Sound.{HasConnection, IsSound}
use Rattle.laws_subscriber.specs.Unproved.{is_attach_request, is_proved_entry, is_proved_message}
use Rattle.laws_mme.specs.Connections.{Attach, ConnectionsStay, IsOfItsStation, IsProvedBy, IsSwitchOf, ItsStation, MayEnd, Network, Proved, Switch}
use Rattle.laws_mme.specs.Holds.{page_solo}
use Rattle.laws_subscriber.specs.Choices.{at_some, either_by}

true_of : (b : Bool) → not b ≡ false → b ≡ true
true_of true e = refl
true_of false e = cc

both : (b c : Bool) → (b && c) ≡ true → (b ≡ true) × (c ≡ true)
both true c is = (refl, is)
both false c is = absurd (cc is)

module _ (s : Setting) (solo : Solo) (item : Item) (k : Connection) (at : solo.connection ≡ Some k) where
  -- the connection is as it was, or the item can end it
  StaysOr : Draft → Type 0
  StaysOr d = (d.solo.connection ≡ Some k) ⊎ MayEnd solo item k

  -- the same of a row
  RowStaysOr : Option Draft → Type 0
  RowStaysOr o = ((d : Draft) × (o ≡ Some d) × (d.solo.connection ≡ Some k)) ⊎ MayEnd solo item k

  stays_here : StaysOr (untouched solo)
  unfolding StaysOr
  stays_here = inl at

  row_of : (d : Draft) → StaysOr d → RowStaysOr (Some d)
  unfolding StaysOr RowStaysOr
  row_of d h = elim h [
    | inl stays ↦ inl (d, refl, stays)
    | inr may ↦ inr may
  ]

  -- ---- a refused request leaves it

  refused : (m : Entry (List ℕ)) (nas : List ℕ) → StaysOr (refuse s.slot m.station m.enb_ue_id nas (untouched solo))
  unfolding StaysOr refuse emit association_counted
  refused m nas = inl at

  turned_away : (m : Entry (List ℕ)) → StaysOr (turn_away s.slot m.station m.enb_ue_id (untouched solo))
  unfolding StaysOr turn_away emit association_counted
  turned_away m = inl at

  -- ---- INITIAL UE MESSAGE

  module _ (m : Entry (List ℕ)) (is_initial : item ≡ events.Initial m) where
    -- the context accepts it
    proved : (x : Context) (o : Heard (List ℕ)) → solo.context ≡ Some x → heard (initial_octets m.nas) ≡ o
        → is_proved_entry x m.nas o ≡ true → MayEnd solo item k
    proved x o has told ok =
        Proved (subst (λ (c : Option Context). IsProvedBy c item) (sym has)
        (subst (λ (i : Item). is_proved_message x i ≡ true) (sym is_initial) (ap (is_proved_entry x m.nas) told ∙ ok)))

    served_by : (r : Result ℕ SecurityFault) (x : Context) → (is_ok r ≡ true → MayEnd solo item k)
        → StaysOr (serving.served_by r s x m (untouched solo))
    unfolding StaysOr serving.served_by
    served_by (Ok count) x may = inr (may refl)
    served_by (Err fault) x may = refused m _

    service : (octets : List ℕ) → heard (initial_octets m.nas) ≡ heards.ServiceRequest octets
        → StaysOr (serving.service s m octets (untouched solo))
    unfolding serving.service
    service octets told =
        either_by StaysOr (is_registered solo.phase)
        (λ r. at_some StaysOr solo.context (λ x has. served_by _ x (λ ok. proved x _ has told ok)) (λ none. refused m _))
        (λ r. refused m _)

    updated_by : (r : Acceptance) (x : Context) (combined : Bool) → (is_ok r ≡ true → MayEnd solo item k)
        → RowStaysOr (serving.updated_by r s x m combined (untouched solo))
    unfolding RowStaysOr serving.updated_by
    updated_by (Ok found) x combined may = inr (may refl)
    updated_by (Err fault) x combined may = row_of _ (refused m _)

    update : (combined : Bool) → heard (initial_octets m.nas) ≡ heards.TrackingAreaUpdateRequest combined
        → RowStaysOr (serving.initial_update s m combined (untouched solo))
    unfolding serving.initial_update
    update combined told =
        either_by RowStaysOr (is_registered solo.phase)
        (λ r. at_some RowStaysOr solo.context (λ x has. updated_by _ x combined (λ ok. proved x _ has told ok)) (λ none. row_of _ (refused m _)))
        (λ r. row_of _ (refused m _))

    detached_by : (r : Acceptance) (x : Context) (switch_off : Bool) → (is_ok r ≡ true → MayEnd solo item k)
        → RowStaysOr (serving.detached_by r s x m switch_off (untouched solo))
    unfolding RowStaysOr serving.detached_by
    detached_by (Ok found) x switch_off may = inr (may refl)
    detached_by (Err fault) x switch_off may = row_of _ (turned_away m)

    detach : (switch_off : Bool) → heard (initial_octets m.nas) ≡ heards.DetachRequest switch_off
        → (is Deregistered solo.phase ≡ true → ⊥) → RowStaysOr (serving.initial_detach s m switch_off (untouched solo))
    unfolding serving.initial_detach
    detach switch_off told never =
        either_by RowStaysOr (is Deregistered solo.phase) (λ was. absurd (never was))
        (λ other. at_some RowStaysOr solo.context (λ x has. detached_by _ x switch_off (λ ok. proved x _ has told ok)) (λ none. row_of _ (turned_away m)))

    entered : (o : Heard (List ℕ)) → heard (initial_octets m.nas) ≡ o → (is Deregistered solo.phase ≡ true → ⊥)
        → (is_attach_request o ≡ true → MayEnd solo item k) → RowStaysOr (serving.entered o s m (untouched solo))
    unfolding RowStaysOr serving.entered
    entered (heards.AttachRequest combined capability esm) told never begins = inr (begins refl)
    entered (heards.ServiceRequest octets) told never begins = row_of _ (service octets told)
    entered (heards.TrackingAreaUpdateRequest combined) told never begins = update combined told
    entered (heards.DetachRequest switch_off) told never begins = detach switch_off told never
    entered _ told never begins = row_of _ stays_here

  claimed : (id : ℕ) (m : Entry (List ℕ)) (o : Heard (List ℕ)) → (is_attach_request o ≡ true → MayEnd solo item k)
      → StaysOr (serving.claimed o s id m (untouched solo))
  unfolding StaysOr serving.claimed
  claimed id m (heards.AttachRequest combined capability esm) begins = inr (begins refl)
  claimed id m _ begins = inl at

  -- ---- a message on an association

  module _ (m : UeMessage (List ℕ)) where
    emitted : (station : ℕ) (message : Pdu (List ℕ)) → StaysOr (emit station message None (untouched solo))
    unfolding StaysOr emit
    emitted station message = inl at

    -- the id is the connection's
    same_id : not (connected.has_connection_id m (untouched solo)) ≡ false → m.mme_ue_id ≡ k.id
    same_id has =
        let told : not (k.id == m.mme_ue_id) ≡ false =
        ap (λ (o : Option Connection). not (option_map_or (λ c. c.id == m.mme_ue_id) o false)) (sym at) ∙ has in
        sym (eqb-true k.id m.mme_ue_id (true_of (k.id == m.mme_ue_id) told))

    -- and so are the station and the number there
    same_pair : connected.has_pair m (untouched solo) ≡ true → (m.station ≡ k.station) × (m.enb_ue_id ≡ k.enb_ue_id)
    same_pair has =
        let told : (k.station == m.station && k.enb_ue_id == m.enb_ue_id) ≡ true =
        ap (λ (o : Option Connection). option_map_or (λ c. c.station == m.station && c.enb_ue_id == m.enb_ue_id) o false) (sym at) ∙ has in
        let two = both (k.station == m.station) (k.enb_ue_id == m.enb_ue_id) told in
        (sym (eqb-true k.station m.station two.0), sym (eqb-true k.enb_ue_id m.enb_ue_id two.1))

    path_switch : item ≡ events.Message m → m.body ≡ bodies.PathSwitch → StaysOr (connected.path_switch m (untouched solo))
    unfolding connected.path_switch connected.not_switched StaysOr
    path_switch is_message switches =
        either_by StaysOr (not (connected.has_connection_id m (untouched solo))) (λ none. emitted m.station _)
        (λ has. inr (Switch (subst (λ (i : Item). IsSwitchOf i k) (sym is_message) (switches, same_id has))))

    checked : item ≡ events.Message m → RowStaysOr (messages.checked s m (untouched solo))
    unfolding messages.checked connected.indicate RowStaysOr
    checked is_message =
        either_by RowStaysOr (not (connected.has_connection_id m (untouched solo))) (λ none. row_of _ (emitted m.station _))
        (λ has. either_by RowStaysOr (connected.has_pair m (untouched solo))
        (λ pair. inr (ItsStation (subst (λ (i : Item). IsOfItsStation i k) (sym is_message) (same_id has, (same_pair pair).0, (same_pair pair).1))))
        (λ other. row_of _ (emitted m.station _)))

    message_of : (body : UeBody (List ℕ)) → item ≡ events.Message m → m.body ≡ body
        → RowStaysOr (messages.message_of body s m (untouched solo))
    unfolding messages.message_of
    message_of bodies.UeContextReleaseComplete is_message body = row_of _ stays_here
    message_of bodies.PathSwitch is_message body = row_of _ (path_switch is_message body)
    message_of _ is_message body = checked is_message

  -- ---- what ends a connection without a message

  -- (the connection is that one)
  same_connection : (c : Connection) → solo.connection ≡ Some c → c ≡ k
  same_connection c is = same_Some c k (sym is ∙ at)

  displaced : (id : ℕ) → item ≡ events.Displaced id → StaysOr (connected.displaced id (untouched solo))
  unfolding connected.displaced StaysOr
  displaced id is_displaced =
      at_some StaysOr solo.connection
      (λ c is. either_by StaysOr (c.id == id)
      (λ here.
      let same : id ≡ k.id = sym (eqb-true c.id id here) ∙ ap (λ (x : Connection). x.id) (same_connection c is) in
      inr (ItsStation (subst (λ (i : Item). IsOfItsStation i k) (sym is_displaced) same)))
      (λ other. inl at))
      (λ none. inl at)

  station_gone : (e : ℕ) → item ≡ events.StationGone e → StaysOr (connected.station_gone e (untouched solo))
  unfolding connected.station_gone connected.strike StaysOr
  station_gone e is_gone =
      at_some StaysOr solo.connection
      (λ c is. either_by StaysOr (c.station == e)
      (λ here.
      let same : e ≡ k.station = sym (eqb-true c.station e here) ∙ ap (λ (x : Connection). x.station) (same_connection c is) in
      inr (ItsStation (subst (λ (i : Item). IsOfItsStation i k) (sym is_gone) same)))
      (λ other. inl at))
      (λ none. inl at)

  connections_gone : (e : ℕ) (items : ToReset) → item ≡ events.ConnectionsGone e items
      → StaysOr (connected.connections_gone e items (untouched solo))
  unfolding connected.connections_gone StaysOr
  connections_gone e items is_gone =
      at_some StaysOr solo.connection
      (λ c is. either_by StaysOr (c.station == e && is_listed c.id c.enb_ue_id items)
      (λ here.
      let two = both (c.station == e) (is_listed c.id c.enb_ue_id items) here in
      let same = same_connection c is in
      let listed : is_listed k.id k.enb_ue_id items ≡ true = ap (λ (x : Connection). is_listed x.id x.enb_ue_id items) (sym same) ∙ two.1 in
      let station : e ≡ k.station = sym (eqb-true c.station e two.0) ∙ ap (λ (x : Connection). x.station) same in
      inr (ItsStation (subst (λ (i : Item). IsOfItsStation i k) (sym is_gone) (station, listed))))
      (λ other. inl at))
      (λ none. inl at)

  data_waits : (stations : List StationState) → StaysOr (idle.data_waits s stations (untouched solo))
  unfolding idle.data_waits idle.paged start StaysOr
  data_waits stations =
      either_by StaysOr (idle.may_page (untouched solo))
      (λ may. inl (ap (λ (x : Solo). x.connection) (page_solo s _ (untouched solo)) ∙ at)) (λ other. inl at)

  -- ---- the step

  of_row : (o : Option Draft) (d : Draft) → RowStaysOr o → ((unwrap_or o d).solo.connection ≡ Some k) ⊎ MayEnd solo item k
  unfolding RowStaysOr
  of_row o d h = elim h [
    | inl stays ↦ inl (ap (λ (r : Option Draft). (unwrap_or r d).solo.connection) stays.1 ∙ stays.2)
    | inr may ↦ inr may
  ]

-- who has a connection isn't deregistered
not_deregistered : (phase : Phase) (o : Option Connection) (k : Connection) → HasConnection phase o → o ≡ Some k
    → is Deregistered phase ≡ true → ⊥
not_deregistered Deregistered o k h at was = none-some k (sym h ∙ at)
not_deregistered Authenticating o k h at was = absurd (cc was)
not_deregistered SecurityMode o k h at was = absurd (cc was)
not_deregistered EsmInformation o k h at was = absurd (cc was)
not_deregistered Accepting o k h at was = absurd (cc was)
not_deregistered Updating o k h at was = absurd (cc was)
not_deregistered Registered o k h at was = absurd (cc was)
not_deregistered Detaching o k h at was = absurd (cc was)

row_stays : (s : Setting) (solo : Solo) (item : Item) (k : Connection) (at : solo.connection ≡ Some k) → IsSound s solo
    → RowStaysOr s solo item k at (steps.row s item (untouched solo))
unfolding steps.row serving.initial serving.claim RowStaysOr
row_stays s solo events.Nothing k at sound = inl (untouched solo, refl, at)
row_stays s solo (events.Initial m) k at sound =
    entered s solo (events.Initial m) k at m refl (heard (initial_octets m.nas)) refl
    (not_deregistered solo.phase solo.connection k sound.connection at) (λ is. Attach is)
row_stays s solo (events.Claim id m) k at sound =
    row_of s solo (events.Claim id m) k at _
    (claimed s solo (events.Claim id m) k at id m (heard (initial_octets m.nas)) (λ is. Attach is))
row_stays s solo (events.Message m) k at sound = message_of s solo (events.Message m) k at m m.body refl refl
row_stays s solo (events.Displaced id) k at sound =
    row_of s solo (events.Displaced id) k at _ (displaced s solo (events.Displaced id) k at id refl)
row_stays s solo (events.StationGone e) k at sound =
    row_of s solo (events.StationGone e) k at _ (station_gone s solo (events.StationGone e) k at e refl)
row_stays s solo (events.ConnectionsGone e items) k at sound =
    row_of s solo (events.ConnectionsGone e items) k at _ (connections_gone s solo (events.ConnectionsGone e items) k at e items refl)
row_stays s solo events.Tick k at sound = inr (Network refl)
row_stays s solo (events.Data stations) k at sound =
    row_of s solo (events.Data stations) k at _ (data_waits s solo (events.Data stations) k at stations)
row_stays s solo events.Cancel k at sound = inr (Network refl)

pub connections_stay : ConnectionsStay
unfolding steps.solo_step
connections_stay s solo item k sound at =
    of_row s solo item k at (steps.row s item (untouched solo)) (steps.spent solo) (row_stays s solo item k at sound)
