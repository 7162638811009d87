-- Each action leaves a state in range, and sends its message.
use Rattle.std.proofs.Common.{◌≡◌, ℕ, ◌+◌, ◌^◌, ◌<◌, Bool, false, List, [], Option, Some, None, refl, sym, ◌∙◌, ap, subst, arith}
use Rattle.std.specs.Prelude.{◌||◌, is_none}
use Rattle.std.specs.Option.{option_map_or}
use Rattle.std.proofs.lemmas.Option.{same_Some}
use Rattle.per_streams.specs.Octet.{AreBytes, all_below}
use Rattle.esm_machine.specs.declared.request.Request.{Request}
use Rattle.esm_machine.specs.Sessions.{transaction_of}
use Rattle.identity_slots.specs.Ids.{id_of_slot, next_counter, slots}
use Rattle.identity_slots.specs.declared.profile.Profile.{Profile}
use Rattle.nas_messages.specs.declared.protection.SecurityHeader.{SecurityHeader}
use Rattle.eps_keys.specs.declared.direction.DirectionBit.TheVariants.{Downlink}
use Rattle.s1ap_causes.specs.declared.cause.Cause.{Cause}
use Rattle.s1ap_causes.specs.declared.cause.Cause.TheVariants.{Nas}
use Rattle.s1ap_causes.specs.declared.cause.NasCause.TheVariants.{NormalRelease}
use Rattle.s1ap_elements.specs.declared.phone.Tai.{Tai}
use Rattle.s1ap_pdus.specs.declared.pdu.Pdu.{Pdu}
use Rattle.mme_types.specs.declared.connection.Connection.{Connection}
use Rattle.mme_types.specs.declared.network.Network.{Network}
use Rattle.mme_types.specs.declared.octets.Mark.{Mark}
use Rattle.mme_signalling.specs.Pdus.{context_setup, downlink, error_indication, is_extended, paging, path_switch_acknowledge, path_switch_failure, release_command}
use Rattle.emm_state.specs.declared.draft.Draft.{Draft}
use Rattle.emm_state.specs.declared.draft.Sealed.{Sealed}
use Rattle.emm_state.specs.declared.setting.Setting.{Setting}
use Rattle.emm_state.specs.declared.solo.Context.{Context}
use Rattle.emm_state.specs.declared.solo.NasTimer.{NasTimer}
use Rattle.emm_state.specs.declared.solo.Repeat.{Repeat}
use Rattle.emm_state.specs.declared.solo.Solo.{Solo}
use Rattle.emm_state.specs.Actions.{association_counted, connect, connect_on, disconnected, emit, ended, fall, fallen, is_at, is_registered, leave_old, lost, mac_of, next_id, protect, refuse, release, resting, seal, sealed_under, send, set_up, set_up_with, start, turn_away, wipe}
use Rattle.emm_machine.specs.Attaching.{took}
use Rattle.laws_subscriber.specs.Choices.{Whenever, at_some, either, nothing, some, then}
use Rattle.laws_network.specs.KeyLaws.{brief_mac}
use Rattle.laws_network.specs.NasLaws.{brief_none, brief_protected, brief_within}
use Rattle.laws_network.specs.Ranges.{ConnectionInRange, IsBrief, IsBriefIf, IsWritten, NetworkInRange, ProfileInRange, TaiInRange}
use Rattle.laws_network.specs.SubscriberRanges.{ConnectionInRangeIf, ContextInRange, ContextInRangeIf, RepeatInRange, SettingInRange, SoloInRange}

-- what written_messages' law says of each message
pub record AreWritten : Type 0 where
  pub nas : (k : Connection) (nas : List ℕ) → ConnectionInRange k → IsBrief 15000 nas → IsWritten (downlink k nas)
  pub release : (id enb_ue_id : ℕ) (c : Cause) → id < 2 ^ 32 → enb_ue_id < 2 ^ 24 → is_extended c ≡ false
      → IsWritten (release_command id enb_ue_id c)
  pub indication : (id enb_ue_id : ℕ) (c : Cause) → id < 2 ^ 32 → enb_ue_id < 2 ^ 24 → is_extended c ≡ false
      → IsWritten (error_indication id enb_ue_id c)
  pub not_switched : (id enb_ue_id : ℕ) (c : Cause) → id < 2 ^ 32 → enb_ue_id < 2 ^ 24 → is_extended c ≡ false
      → IsWritten (path_switch_failure id enb_ue_id c)
  pub switched : (k : Connection) (hop : List ℕ) (count : ℕ) → ConnectionInRange k → AreBytes 32 hop → count < 8
      → IsWritten (path_switch_acknowledge k hop count)
  pub page : (n : Network) (imsi : List ℕ) (tmsi : ℕ) (tai : Tai) → NetworkInRange n → TaiInRange tai
      → IsWritten (paging n imsi tmsi tai)
  pub set_up : (n : Network) (p : Profile) (capability : List ℕ) (k : Connection) (kenb : List ℕ) (nas : Option (List ℕ))
      → NetworkInRange n → ProfileInRange p → ConnectionInRange k
      → AreBytes 32 kenb → IsBriefIf 15000 nas → IsWritten (context_setup n p capability k kenb nas)

-- ---- steps under way

-- the state is in range, and each message so far was sent
pub record IsFit (d : Draft) : Type 0 where
  pub solo : SoloInRange d.solo
  pub sent : d.unwritten ≡ false

-- and what is sealed is brief
abbrev pub IsFitSealed : Sealed × Draft → Type 0
IsFitSealed x = IsFit x.1 × IsBrief 1100 x.0.form

-- ---- what is in range

record Parts : Type 0 where
  connection : Option Connection
  context : Option Context
  tai : Tai
  capability : List ℕ
  request : Option Request
  repeat : Option Repeat
  unwritten : Bool

abbrev parts : Draft → Parts
parts d = record {
  connection = d.solo.connection;
  context = d.solo.context;
  tai = d.solo.tai;
  capability = d.solo.asked.capability;
  request = d.solo.bearer.request;
  repeat = d.solo.repeat;
  unwritten = d.unwritten;
}

-- it stays so
pub fit_by : {d e : Draft} → parts e ≡ parts d → IsFit d → IsFit e
fit_by same h = record {
  solo = record {
    connection = subst (λ (p : Parts). ConnectionInRangeIf p.connection) (sym same) h.solo.connection;
    context = subst (λ (p : Parts). ContextInRangeIf p.context) (sym same) h.solo.context;
    tai = subst (λ (p : Parts). TaiInRange p.tai) (sym same) h.solo.tai;
    capability = ap (λ (p : Parts). all_below 256 p.capability) same ∙ h.solo.capability;
    transaction = subst (λ (p : Parts). transaction_of p.request < 256) (sym same) h.solo.transaction;
    repeat = subst (λ (p : Parts). RepeatInRange p.repeat) (sym same) h.solo.repeat;
  };
  sent = ap (λ (p : Parts). p.unwritten) same ∙ h.sent;
}

-- ---- the connection

pub connection_at : (o : Option Connection) (k : Connection) → o ≡ Some k → ConnectionInRangeIf o → ConnectionInRange k
connection_at None k is h = absurd (cc is)
connection_at (Some j) k is h = subst ConnectionInRange (same_Some j k is) h

-- the state with another connection
pub connected_in : (solo : Solo) (o : Option Connection) → ConnectionInRangeIf o → SoloInRange solo
    → SoloInRange (record solo { connection = o })
connected_in solo o fits h = record { connection = fits; context = h.context; tai = h.tai; capability = h.capability; transaction = h.transaction; repeat = h.repeat }

pub fit_disconnected : {d : Draft} → IsFit d → IsFit (disconnected d)
unfolding disconnected
fit_disconnected {d} h = record { solo = connected_in d.solo None tt h.solo; sent = h.sent }

pub fit_association_counted : {d : Draft} → IsFit d → IsFit (association_counted d)
unfolding association_counted
fit_association_counted h = fit_by refl h

-- ids of slots are below those of strangers
pub id_in_range : (slot counter : ℕ) → slot < slots → id_of_slot slot (next_counter counter) < 2 ^ 32
id_in_range slot counter low = omega (arith, low)

-- ---- the registration

pub fit_wipe : {d : Draft} → IsFit d → IsFit (wipe d)
unfolding wipe
fit_wipe h = let r = h.solo in
    record { solo = record { connection = r.connection; context = tt; tai = r.tai; capability = r.capability; transaction = omega arith; repeat = tt }; sent = h.sent }

pub fit_ended : {d : Draft} → IsFit d → IsFit (ended d)
unfolding ended
fit_ended h = let r = h.solo in
    record { solo = record { connection = r.connection; context = r.context; tai = r.tai; capability = r.capability; transaction = r.transaction; repeat = tt }; sent = h.sent }

fit_resting : {d : Draft} → IsFit d → IsFit (resting d)
unfolding resting ended
fit_resting h = let r = h.solo in
    record { solo = record { connection = r.connection; context = r.context; tai = r.tai; capability = r.capability; transaction = r.transaction; repeat = tt }; sent = h.sent }

pub fit_fallen : {d : Draft} → IsFit d → IsFit (fallen d)
fit_fallen {d} h = either IsFit (is_registered d.solo.phase) (fit_resting h) (fit_wipe h)

pub fit_lost : {d : Draft} → IsFit d → IsFit (lost d)
unfolding lost
fit_lost h = fit_fallen (fit_disconnected h)

pub fit_start : {d : Draft} (timer : NasTimer) (repeat : Repeat) → RepeatInRange (Some repeat) → IsFit d
    → IsFit (start timer repeat d)
unfolding start
fit_start timer repeat fits h = let r = h.solo in
    record { solo = record { connection = r.connection; context = r.context; tai = r.tai; capability = r.capability; transaction = r.transaction; repeat = fits }; sent = h.sent }

-- ---- messages

pub fit_emit : {d : Draft} (station : ℕ) (message : Pdu (List ℕ)) (under : Option Mark) → IsWritten message → IsFit d
    → IsFit (emit station message under d)
unfolding emit
fit_emit {d} station message under w h =
    record { solo = h.solo; sent = ap (λ (o : Option (List ℕ)). is_none o || d.unwritten) w.1 ∙ h.sent }

-- ---- protected messages

pub known_in : (o : Option Context) (x : Context) → o ≡ Some x → ContextInRangeIf o → ContextInRange x
known_in None x is h = absurd (cc is)
known_in (Some y) x is h = subst ContextInRange (same_Some y x is) h

pub with_context : (solo : Solo) (x : Context) → ContextInRange x → SoloInRange solo
    → SoloInRange (record solo { context = Some x })
with_context solo x fits h = record { connection = h.connection; context = fits; tai = h.tai; capability = h.capability; transaction = h.transaction; repeat = h.repeat }

sealed_at : (header : SecurityHeader) (nas : List ℕ) (d : Draft) (o : Option Context) → d.solo.context ≡ o → IsBrief 1000 nas
    → IsFit d
    → Whenever IsFitSealed (option_map_or (sealed_under header nas d) o (Some (record { form = []; under = None }, d)))
sealed_at header nas d None is brief h =
    some (h, brief_within brief_none (omega arith))
sealed_at header nas d (Some x) is brief h =
    let known : ContextInRange x = known_in d.solo.context x is h.solo.context in
    either (Whenever IsFitSealed) _ (some (
      record { solo = with_context d.solo (record x { security = record x.security { down_next = x.security.down_next + 1 } }) (record { integrity = known.integrity; radio = known.radio }) h.solo; sent = h.sent },
      brief_protected (mac_of x) x.security.down_next header nas (λ octets. brief_mac x.security.integrity known.integrity x.security.down_next Downlink octets) brief,
    )) nothing

pub fit_seal : {d : Draft} (header : SecurityHeader) (nas : List ℕ) → IsBrief 1000 nas → IsFit d → Whenever IsFitSealed (seal header nas d)
unfolding seal
fit_seal {d} header nas brief h = sealed_at header nas d d.solo.context refl brief h

-- an uplink message was accepted by this context
pub fit_took : {d : Draft} (x : Context) (count : ℕ) → ContextInRange x → IsFit d → IsFit (took x count d)
unfolding took
fit_took {d} x count fits h = record { solo = with_context d.solo x fits h.solo; sent = h.sent }

brief_if : (nas : Option (List ℕ)) → IsBriefIf 1100 nas → IsBriefIf 15000 nas
brief_if None h = tt
brief_if (Some nas) h = brief_within h (omega arith)

-- ---- what is sent

module _ (written : AreWritten) where
  pub fit_send : {d : Draft} (nas : List ℕ) → IsBrief 1000 nas → IsFit d → IsFit (send nas d)
  unfolding send
  fit_send {d} nas brief h =
      at_some IsFit d.solo.connection
      (λ k is. fit_emit k.station _ None (written.nas k nas (connection_at d.solo.connection k is h.solo.connection) (brief_within brief (omega arith))) h) (λ is. h)

  pub fit_release : {d : Draft} (cause : Cause) → is_extended cause ≡ false → IsFit d → IsFit (release cause d)
  unfolding release
  fit_release {d} cause known h =
      at_some IsFit d.solo.connection
      (λ k is. let ids = connection_at d.solo.connection k is h.solo.connection in fit_disconnected (fit_emit k.station _ None (written.release k.id k.enb_ue_id cause ids.id ids.enb_ue_id known) h))
      (λ is. h)

  pub fit_leave_old : {d : Draft} (station enb_ue_id : ℕ) → IsFit d → IsFit (leave_old station enb_ue_id d)
  unfolding leave_old
  fit_leave_old {d} station enb_ue_id h =
      at_some IsFit d.solo.connection
      (λ k is. let ids = connection_at d.solo.connection k is h.solo.connection in
      either IsFit (is_at k station enb_ue_id) h
      (fit_emit k.station _ None (written.release k.id k.enb_ue_id (Nas NormalRelease) ids.id ids.enb_ue_id refl) h))
      (λ is. h)

  pub fit_connect_on : {d : Draft} (id station enb_ue_id : ℕ) → id < 2 ^ 32 → enb_ue_id < 2 ^ 24 → IsFit d
      → IsFit (connect_on id station enb_ue_id d)
  unfolding connect_on
  fit_connect_on {d} id station enb_ue_id low less h =
      let left = fit_leave_old {d = d} station enb_ue_id h in
      record { solo = connected_in (leave_old station enb_ue_id d).solo (Some (record { id = id; station = station; enb_ue_id = enb_ue_id })) (record { id = low; enb_ue_id = less }) left.solo; sent = left.sent }

  pub fit_connect : {d : Draft} (s : Setting) (station enb_ue_id : ℕ) → SettingInRange s → enb_ue_id < 2 ^ 24 → IsFit d
      → IsFit (connect s.slot station enb_ue_id d)
  unfolding connect
  fit_connect {d} s station enb_ue_id setting less h =
      fit_connect_on _ station enb_ue_id (id_in_range s.slot d.solo.associations setting.slot) less (fit_association_counted h)

  pub fit_turn_away : {d : Draft} (s : Setting) (station enb_ue_id : ℕ) → SettingInRange s → enb_ue_id < 2 ^ 24 → IsFit d
      → IsFit (turn_away s.slot station enb_ue_id d)
  unfolding turn_away
  fit_turn_away {d} s station enb_ue_id setting less h =
      fit_emit station _ None (written.release (next_id s.slot d) enb_ue_id (Nas NormalRelease) (id_in_range s.slot d.solo.associations setting.slot) less refl) (fit_association_counted h)

  pub fit_refuse : {d : Draft} (s : Setting) (station enb_ue_id : ℕ) (nas : List ℕ) → SettingInRange s → enb_ue_id < 2 ^ 24
      → IsBrief 1000 nas → IsFit d → IsFit (refuse s.slot station enb_ue_id nas d)
  unfolding refuse
  fit_refuse {d} s station enb_ue_id nas setting less brief h =
      let low = id_in_range s.slot d.solo.associations setting.slot in
      let k : Connection = record { id = next_id s.slot d; station = station; enb_ue_id = enb_ue_id } in
      fit_emit station _ None (written.release (next_id s.slot d) enb_ue_id (Nas NormalRelease) low less refl)
      (fit_emit station _ None (written.nas k nas (record { id = low; enb_ue_id = less }) (brief_within brief (omega arith))) (fit_association_counted h))

  pub fit_forgotten : {d : Draft} (cause : Cause) → is_extended cause ≡ false → IsFit d → IsFit (wipe (release cause d))
  fit_forgotten cause known h = fit_wipe (fit_release cause known h)

  pub fit_fall : {d : Draft} (cause : Cause) → is_extended cause ≡ false → IsFit d → IsFit (fall cause d)
  unfolding fall
  fit_fall cause known h = fit_fallen (fit_release cause known h)

  pub fit_protect : {d : Draft} (header : SecurityHeader) (nas : List ℕ) → IsBrief 1000 nas → IsFit d → Whenever IsFit (protect header nas d)
  unfolding protect
  fit_protect header nas brief h =
      then _ (fit_seal header nas brief h)
      (λ x r. at_some IsFit x.1.solo.connection
      (λ k is. fit_emit k.station _ x.0.under (written.nas k x.0.form (connection_at x.1.solo.connection k is r.0.solo.connection) (brief_within r.1 (omega arith))) r.0) (λ is. r.0))

  pub fit_set_up : {d : Draft} (s : Setting) (kenb : List ℕ) (nas : Option (List ℕ)) (under : Option Mark) → SettingInRange s
      → AreBytes 32 kenb → IsBriefIf 1100 nas → IsFit d
      → IsFit (set_up s kenb nas under d)
  unfolding set_up
  fit_set_up {d} s kenb nas under setting key brief h =
      at_some IsFit d.solo.connection
      (λ k is. fit_emit k.station _ under
      (written.set_up s.network s.profile d.solo.asked.capability k kenb nas setting.network setting.profile (connection_at d.solo.connection k is h.solo.connection) key (brief_if nas brief)) h)
      (λ is. h)

  pub fit_set_up_with : {d : Draft} (s : Setting) (kenb nas : List ℕ) → SettingInRange s → AreBytes 32 kenb → IsBrief 1000 nas
      → IsFit d → Whenever IsFit (set_up_with s kenb nas d)
  unfolding set_up_with
  fit_set_up_with s kenb nas setting key brief h =
      then _ (fit_seal _ nas brief h) (λ x r. fit_set_up s kenb (Some x.0.form) x.0.under setting key r.1 r.0)
