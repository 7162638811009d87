-- With another list of vectors that is the same where a step looks, the rows of what a phone says are the same.
use Rattle.std.proofs.Common.{◌≡◌, ℕ, ◌-◌, Bool, true, false, cond, List, Option, Some, None, Result, Ok, Err, refl, sym, ap, subst, ◌∙◌}
use Rattle.std.specs.Option.{option_map_or}
use Rattle.s1ap_elements.specs.declared.phone.Tai.{Tai}
use Rattle.esm_machine.specs.declared.reaction.Reaction.{Reaction}
use Rattle.esm_machine.specs.declared.reaction.Reaction.TheVariants as reactions
use Rattle.identity_slots.specs.declared.profile.Vector.{Vector}
use Rattle.nas_security.specs.declared.fault.SecurityFault.{SecurityFault}
use Rattle.nas_security.specs.Accepting.{Acceptance}
use Rattle.mme_types.specs.declared.event.Entry.{Entry}
use Rattle.mme_signalling.specs.declared.heard.Heard.{Heard}
use Rattle.mme_signalling.specs.declared.heard.Heard.TheVariants as heards
use Rattle.mme_signalling.specs.Hearing.{heard, is_esm}
use Rattle.emm_state.specs.declared.draft.Draft.{Draft}
use Rattle.emm_state.specs.declared.setting.Setting.{Setting}
use Rattle.emm_state.specs.declared.solo.Context.{Context}
use Rattle.emm_state.specs.declared.solo.Phase.{Phase}
use Rattle.emm_state.specs.declared.solo.Phase.TheVariants.{Deregistered, Authenticating, SecurityMode, EsmInformation, Accepting, Updating, Registered, Detaching}
use Rattle.emm_state.specs.declared.solo.Solo.{Solo}
use Rattle.emm_state.specs.Actions.{association_counted, connect, connect_on, emit, is_at, is_registered, leave_old, next_id, set_up}
use Rattle.emm_state.specs.Phases.{is}
use Rattle.emm_machine.specs.Attaching as attaching
use Rattle.emm_machine.specs.Serving as serving
use Rattle.laws_subscriber.specs.Unproved.{is_attach_request}
use Rattle.laws_mme.specs.Challenges.{fails_to_synchronise}
use Rattle.emm_machine.specs.Given.{having}
use Rattle.laws_mme.proofs.LooksAtAttach.{SameAt, accept, attach, if_false, if_true, in_authenticating, in_security_mode, map_or}

-- ---- what a new connection leaves as it is

at_some : {K D : Type 0} (Q : D → Type 0) {f : K → D} {d : D} (o : Option K) → ((k : K) → Q (f k)) → Q d → Q (option_map_or f o d)
at_some Q None each none = none
at_some Q (Some k) each none = each k

either : {D : Type 0} (Q : D → Type 0) {x y : D} (b : Bool) → Q x → Q y → Q (cond b x y)
either Q true f g = f
either Q false f g = g

left_solo : (station enb_ue_id : ℕ) (d : Draft) → (leave_old station enb_ue_id d).solo ≡ d.solo
unfolding leave_old emit
left_solo station enb_ue_id d =
    at_some (λ (e : Draft). e.solo ≡ d.solo) d.solo.connection
    (λ k. either (λ (e : Draft). e.solo ≡ d.solo) (is_at k station enb_ue_id) refl refl) refl

connect_on_next : (id station enb_ue_id : ℕ) (d : Draft) → (connect_on id station enb_ue_id d).solo.next_vector ≡ d.solo.next_vector
unfolding connect_on
connect_on_next id station enb_ue_id d = ap (λ (solo : Solo). solo.next_vector) (left_solo station enb_ue_id d)

connect_next : (slot station enb_ue_id : ℕ) (d : Draft) → (connect slot station enb_ue_id d).solo.next_vector ≡ d.solo.next_vector
unfolding connect association_counted
connect_next slot station enb_ue_id d = connect_on_next (next_id slot d) station enb_ue_id (association_counted d)

module _ (s : Setting) (vs : List Vector) where
  abbrev t : Setting
  t = having vs s

  -- ---- INITIAL UE MESSAGE

  update : (tai : Tai) (combined initial : Bool) (d : Draft)
      → serving.update t tai combined initial d ≡ serving.update s tai combined initial d
  unfolding serving.update attaching.given_tmsi
  update tai combined initial d = refl

  served_by : (r : Result ℕ SecurityFault) (x : Context) (m : Entry (List ℕ)) (d : Draft)
      → serving.served_by r t x m d ≡ serving.served_by r s x m d
  unfolding serving.served_by serving.served set_up
  served_by (Ok count) x m d = refl
  served_by (Err fault) x m d = refl

  service : (m : Entry (List ℕ)) (octets : List ℕ) (d : Draft) → serving.service t m octets d ≡ serving.service s m octets d
  unfolding serving.service
  service m octets d = if_true _ _ _ (is_registered d.solo.phase) (λ is. map_or _ _ _ d.solo.context (λ x. served_by _ x m d))

  updated_by : (r : Acceptance) (x : Context) (m : Entry (List ℕ)) (combined : Bool) (d : Draft)
      → serving.updated_by r t x m combined d ≡ serving.updated_by r s x m combined d
  unfolding serving.updated_by
  updated_by (Ok found) x m combined d = update _ _ _ _
  updated_by (Err fault) x m combined d = refl

  initial_update : (m : Entry (List ℕ)) (combined : Bool) (d : Draft)
      → serving.initial_update t m combined d ≡ serving.initial_update s m combined d
  unfolding serving.initial_update
  initial_update m combined d =
      if_true _ _ _ (is_registered d.solo.phase) (λ is. map_or _ _ _ d.solo.context (λ x. updated_by _ x m combined d))

  detached_by : (r : Acceptance) (x : Context) (m : Entry (List ℕ)) (switch_off : Bool) (d : Draft)
      → serving.detached_by r t x m switch_off d ≡ serving.detached_by r s x m switch_off d
  unfolding serving.detached_by
  detached_by (Ok found) x m switch_off d = refl
  detached_by (Err fault) x m switch_off d = refl

  initial_detach : (m : Entry (List ℕ)) (switch_off : Bool) (d : Draft)
      → serving.initial_detach t m switch_off d ≡ serving.initial_detach s m switch_off d
  unfolding serving.initial_detach
  initial_detach m switch_off d =
      if_false _ _ _ (is Deregistered d.solo.phase) (map_or _ _ _ d.solo.context (λ x. detached_by _ x m switch_off d))

  -- (where the connection is made the next vector is the same)
  connected_at : (slot station enb_ue_id : ℕ) (d : Draft) → SameAt s vs d.solo.next_vector
      → SameAt s vs (connect slot station enb_ue_id d).solo.next_vector
  connected_at slot station enb_ue_id d same = subst (SameAt s vs) (sym (connect_next slot station enb_ue_id d)) same

  connected_on_at : (id station enb_ue_id : ℕ) (d : Draft) → SameAt s vs d.solo.next_vector
      → SameAt s vs (connect_on id station enb_ue_id d).solo.next_vector
  connected_on_at id station enb_ue_id d same = subst (SameAt s vs) (sym (connect_on_next id station enb_ue_id d)) same

  pub entered : (h : Heard (List ℕ)) (m : Entry (List ℕ)) (d : Draft) → (is_attach_request h ≡ true → SameAt s vs d.solo.next_vector)
      → serving.entered h t m d ≡ serving.entered h s m d
  unfolding serving.entered
  entered (heards.AttachRequest combined capability esm) m d next =
      ap Some (attach s vs combined capability esm m.tai (connect s.slot m.station m.enb_ue_id d)
      (connected_at s.slot m.station m.enb_ue_id d (next refl)))
  entered (heards.ServiceRequest octets) m d next = ap Some (service m octets d)
  entered (heards.TrackingAreaUpdateRequest combined) m d next = initial_update m combined d
  entered (heards.DetachRequest switch_off) m d next = initial_detach m switch_off d
  entered _ m d next = refl

  pub claimed : (h : Heard (List ℕ)) (id : ℕ) (m : Entry (List ℕ)) (d : Draft)
      → (is_attach_request h ≡ true → SameAt s vs d.solo.next_vector) → serving.claimed h t id m d ≡ serving.claimed h s id m d
  unfolding serving.claimed
  claimed (heards.AttachRequest combined capability esm) id m d next =
      attach s vs combined capability esm m.tai (connect_on id m.station m.enb_ue_id d)
      (connected_on_at id m.station m.enb_ue_id d (next refl))
  claimed _ id m d next = refl

  -- ---- protected messages on the connection

  inner_emm : (h : Heard (List ℕ)) (tai : Tai) (d : Draft) → serving.inner_emm h t tai d ≡ serving.inner_emm h s tai d
  unfolding serving.inner_emm
  inner_emm (heards.AttachComplete esm) tai d = refl
  inner_emm heards.TrackingAreaUpdateComplete tai d = refl
  inner_emm (heards.TrackingAreaUpdateRequest combined) tai d =
      if_true _ _ _ (is Registered d.solo.phase) (λ is. update tai combined false d)
  inner_emm (heards.DetachRequest switch_off) tai d = refl
  inner_emm heards.DetachAccept tai d = refl
  inner_emm heards.Unasked tai d = refl
  inner_emm (heards.Unreadable fault) tai d = refl
  inner_emm _ tai d = refl

  reacted : (r : Reaction (List ℕ)) (d : Draft) → serving.reacted r t d ≡ serving.reacted r s d
  unfolding serving.reacted serving.information_came
  reacted reactions.Nothing d = refl
  reacted reactions.Informed d = map_or _ _ _ d.solo.context (λ x. accept s vs _ d)
  reacted (reactions.Answer octets) d = refl

  inner_message : (octets : List ℕ) (tai : Tai) (d : Draft) → serving.inner_message octets t tai d ≡ serving.inner_message octets s tai d
  unfolding serving.inner_message serving.inner_esm
  inner_message octets tai d =
      if_true _ _ _ (is_esm octets) (λ esm. reacted _ d) ∙ if_false _ _ _ (is_esm octets) (inner_emm (heard octets) tai d)

  inner_message_by : (r : Acceptance) (x : Context) (tai : Tai) (d : Draft)
      → serving.inner_message_by r t x tai d ≡ serving.inner_message_by r s x tai d
  unfolding serving.inner_message_by
  inner_message_by (Ok found) x tai d = inner_message _ tai _
  inner_message_by (Err fault) x tai d = refl

  in_later : (tai : Tai) (nas : List ℕ) (d : Draft) → serving.in_later t tai nas d ≡ serving.in_later s tai nas d
  unfolding serving.in_later
  in_later tai nas d = map_or _ _ _ d.solo.context (λ x. inner_message_by _ x tai d)

  pub uplink : (phase : Phase) (tai : Tai) (nas : List ℕ) (d : Draft) → (phase ≡ Authenticating → SameAt s vs (d.solo.next_vector - 1))
      → (fails_to_synchronise phase (Some nas) ≡ true → SameAt s vs d.solo.next_vector)
      → serving.uplink phase t tai nas d ≡ serving.uplink phase s tai nas d
  unfolding serving.uplink
  uplink Deregistered tai nas d own next = refl
  uplink Authenticating tai nas d own next = in_authenticating s vs nas d (own refl) next
  uplink SecurityMode tai nas d own next = in_security_mode s vs nas d
  uplink EsmInformation tai nas d own next = in_later tai nas d
  uplink Accepting tai nas d own next = in_later tai nas d
  uplink Updating tai nas d own next = in_later tai nas d
  uplink Registered tai nas d own next = in_later tai nas d
  uplink Detaching tai nas d own next = in_later tai nas d
