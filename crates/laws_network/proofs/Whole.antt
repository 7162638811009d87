-- Each action sends its message whole, and so is the challenge of whoever has proved itself.
use Rattle.std.proofs.Common.{◌≡◌, ℕ, ◌%◌, Bool, true, false, cond, List, [], ◌∷◌, ◌++◌, Option, Some, None, refl, sym, ap, subst, ◌∙◌, append_assoc, arith}
use Rattle.std.specs.Prelude.{map}
use Rattle.std.specs.Option.{option_map_or}
use Rattle.std.proofs.lemmas.List.{append-nil}
use Rattle.std.proofs.lemmas.Option.{same_Some}
use Rattle.s1ap_causes.specs.declared.cause.Cause.TheVariants.{Nas}
use Rattle.s1ap_causes.specs.declared.cause.NasCause.TheVariants.{NormalRelease}
use Rattle.s1ap_pdus.specs.declared.pdu.Pdu.{Pdu}
use Rattle.s1ap_pdus.specs.Pdus.{encoded}
use Rattle.nas_messages.specs.declared.protection.SecurityHeader.{SecurityHeader}
use Rattle.eps_keys.specs.declared.direction.DirectionBit.TheVariants.{Downlink}
use Rattle.mme_types.specs.declared.connection.Connection.{Connection}
use Rattle.mme_types.specs.declared.octets.Answer.{Answer}
use Rattle.mme_types.specs.declared.octets.Mark.{Mark}
use Rattle.mme_types.specs.Answers.{answer_of}
use Rattle.mme_types.specs.Events.{Item}
use Rattle.mme_signalling.specs.Pdus.{context_setup, downlink, paging, path_switch_acknowledge, release_command}
use Rattle.emm_state.specs.declared.draft.Draft.{Draft}
use Rattle.emm_state.specs.declared.draft.Sealed.{Sealed}
use Rattle.emm_state.specs.declared.solo.Context.{Context}
use Rattle.emm_state.specs.Actions.{association_counted, disconnected, emit, is_at, leave_old, mac_of, next_id, protect, refuse, release, seal, sealed_under, send, set_up, turn_away}
use Rattle.emm_state.specs.Does.{◌>>=◌}
use Rattle.emm_machine.specs.Connected.{connection_of, hop_after, hopped, indicate, next_chaining_count, not_switched, switched}
use Rattle.emm_machine.specs.Idle.{emit_each, page}
use Rattle.emm_machine.specs.Steps.{solo_after, solo_step}
use Rattle.laws_network.specs.KeyLaws.{brief_mac}
use Rattle.laws_network.specs.NasLaws.{brief_authentication_request, brief_none, brief_protected, brief_within}
use Rattle.laws_network.specs.Ranges.{ConnectionInRange, IsBrief, IsBriefIf, IsWritten}
use Rattle.laws_network.specs.SubscriberRanges.{ContextInRange, EachInRange, SoloInRange}
use Rattle.laws_network.specs.Whole.{IndicateIsWhole, LeaveIsWhole, NotSwitchedIsWhole, PageIsWhole, ProtectIsWhole, RefuseIsWhole, ReleaseIsWhole, SendIsWhole, SendsWhole, SetUpIsWhole, SwitchedIsWhole, TheProvedWereChallenged, TurnAwayIsWhole}
use Rattle.laws_network.proofs.FitActions.{AreWritten, connection_at, id_in_range, known_in}
use Rattle.laws_network.proofs.FitRows.{fit_step, hop_bytes, stays_in_range}
use Rattle.laws_network.proofs.Heard.{DecodedEsmIsSpelled, DecodedIsSpelled}

-- ---- at a connection that is there

with_some : {K : Type 0} (Q : Draft → Type 0) (f : K → Draft) (d : Draft) (o : Option K) (k : K) → o ≡ Some k → Q (f k)
    → Q (option_map_or f o d)
with_some Q f d o k is h = subst (λ (p : Option _). Q (option_map_or f p d)) (sym is) h

with_false : (Q : Draft → Type 0) (b : Bool) (x y : Draft) → b ≡ false → Q y → Q (cond b x y)
with_false Q false x y is h = h
with_false Q true x y is h = absurd (cc is)

-- ---- the actions

emit_whole : (d : Draft) (station : ℕ) (message : Pdu (List ℕ)) (under : Option Mark) → IsWritten message
    → SendsWhole station under message d (emit station message under d)
unfolding emit
emit_whole d station message under w = (w.0, w.1, ap (λ (o : Option (List ℕ)). d.sent ++ answer_of station under o) w.1)

module _ (written : AreWritten) where
  pub send_whole : SendIsWhole
  unfolding send
  send_whole d k nas range is brief =
      let ids = connection_at d.solo.connection k is range.connection in
      with_some (SendsWhole k.station None (downlink k nas) d)
      (λ k. emit k.station (downlink k nas) None d) d d.solo.connection k is
      (emit_whole d k.station (downlink k nas) None (written.nas k nas ids (brief_within brief (omega arith))))

  pub release_whole : ReleaseIsWhole
  unfolding release disconnected
  release_whole d k cause range is known =
      let ids = connection_at d.solo.connection k is range.connection in
      with_some (SendsWhole k.station None (release_command k.id k.enb_ue_id cause) d)
      (λ k. disconnected (emit k.station (release_command k.id k.enb_ue_id cause) None d)) d d.solo.connection k is
      (emit_whole d k.station (release_command k.id k.enb_ue_id cause) None (written.release k.id k.enb_ue_id cause ids.id ids.enb_ue_id known))

  pub leave_whole : LeaveIsWhole
  unfolding leave_old
  leave_whole d k station enb_ue_id range is away =
      let ids = connection_at d.solo.connection k is range.connection in
      let message = release_command k.id k.enb_ue_id (Nas NormalRelease) in
      with_some (SendsWhole k.station None message d) (λ k. cond (is_at k station enb_ue_id) d (emit k.station (release_command k.id k.enb_ue_id (Nas NormalRelease)) None d)) d d.solo.connection k is
      (with_false (SendsWhole k.station None message d) (is_at k station enb_ue_id) d (emit k.station message None d) away
      (emit_whole d k.station message None (written.release k.id k.enb_ue_id (Nas NormalRelease) ids.id ids.enb_ue_id refl)))

  pub turn_away_whole : TurnAwayIsWhole
  unfolding turn_away association_counted
  turn_away_whole s d station enb_ue_id setting less =
      emit_whole (association_counted d) station (release_command (next_id s.slot d) enb_ue_id (Nas NormalRelease)) None
      (written.release (next_id s.slot d) enb_ue_id (Nas NormalRelease) (id_in_range s.slot d.solo.associations setting.slot) less refl)

  pub refuse_whole : RefuseIsWhole
  unfolding refuse association_counted
  refuse_whole s d station enb_ue_id nas setting less brief =
      let low = id_in_range s.slot d.solo.associations setting.slot in
      let k : Connection = record { id = next_id s.slot d; station = station; enb_ue_id = enb_ue_id } in
      let between = emit station (downlink k nas) None (association_counted d) in (
        between,
        emit_whole (association_counted d) station (downlink k nas) None (written.nas k nas (record { id = low; enb_ue_id = less }) (brief_within brief (omega arith))),
        emit_whole between station (release_command (next_id s.slot d) enb_ue_id (Nas NormalRelease)) None
            (written.release (next_id s.slot d) enb_ue_id (Nas NormalRelease) low less refl),
      )

  brief_if : (nas : Option (List ℕ)) → IsBriefIf 1100 nas → IsBriefIf 15000 nas
  brief_if None h = tt
  brief_if (Some nas) h = brief_within h (omega arith)

  pub set_up_whole : SetUpIsWhole
  unfolding set_up
  set_up_whole s d k kenb nas under setting range is key brief =
      let ids = connection_at d.solo.connection k is range.connection in
      let message = context_setup s.network s.profile d.solo.asked.capability k kenb nas in
      with_some (SendsWhole k.station under message d)
      (λ k. emit k.station (context_setup s.network s.profile d.solo.asked.capability k kenb nas) under d) d d.solo.connection k is
      (emit_whole d k.station message under (written.set_up s.network s.profile d.solo.asked.capability k kenb nas setting.network setting.profile ids key (brief_if nas brief)))

  pub indicate_whole : IndicateIsWhole
  unfolding indicate
  indicate_whole d m cause fits known =
      emit_whole d m.station _ None (written.indication m.mme_ue_id m.enb_ue_id cause fits.mme_ue_id fits.enb_ue_id known)

  pub not_switched_whole : NotSwitchedIsWhole
  unfolding not_switched
  not_switched_whole d m cause fits known =
      emit_whole d m.station _ None (written.not_switched m.mme_ue_id m.enb_ue_id cause fits.mme_ue_id fits.enb_ue_id known)

  pub switched_whole : SwitchedIsWhole
  unfolding switched
  switched_whole d m x fits known =
      let count = next_chaining_count x.radio.chaining_count in
      emit_whole (record d { solo = record d.solo { connection = Some (connection_of m); context = Some (record x { radio = hopped x }) } }) m.station (path_switch_acknowledge (connection_of m) (hop_after x) count) None
      (written.switched (connection_of m) (hop_after x) count (record { id = fits.mme_ue_id; enb_ue_id = fits.enb_ue_id }) (hop_bytes x) (omega arith))

  -- to each station in turn
  each_whole : (message : Pdu (List ℕ)) (octets : List ℕ) → encoded message ≡ Some octets → (stations : List ℕ) (d : Draft)
      → (emit_each message stations d).sent ≡ d.sent ++ map (λ station. record { station = station; octets = octets; under = None }) stations
  unfolding emit
  each_whole message octets is [] d = sym (append-nil d.sent)
  each_whole message octets is (e ∷ es) d =
      let one : Answer = record { station = e; octets = octets; under = None } in
      let more : List Answer = map (λ station. record { station = station; octets = octets; under = None }) es in
      each_whole message octets is es (emit e message None d)
      ∙ ap (λ (o : Option (List ℕ)). (d.sent ++ answer_of e None o) ++ more) is
      ∙ append_assoc d.sent (one ∷ []) more

  pub page_whole : PageIsWhole
  unfolding page
  page_whole s d tmsi stations setting range is =
      let message = paging s.network s.profile.imsi tmsi d.solo.tai in
      let w = written.page s.network s.profile.imsi tmsi d.solo.tai setting.network range.tai in (
        w.0,
        w.1,
        with_some (λ (e : Draft). e.sent ≡ d.sent ++ map (λ station. record { station = station; octets = w.0; under = None }) stations)
            (λ t. emit_each (paging s.network s.profile.imsi t d.solo.tai) stations d) d d.solo.tmsi tmsi is (each_whole message w.0 w.1 stations d),
      )

  -- ---- protected messages

  -- what is sealed is brief, and nothing was sent so far
  record SealsBriefly (d : Draft) (o : Option (Sealed × Draft)) : Type 0 where
    at : (x : Sealed × Draft) → o ≡ Some x → (x.1.solo.connection ≡ d.solo.connection) × (x.1.sent ≡ d.sent) × IsBrief 1100 x.0.form

  seals : (d : Draft) (x : Sealed) (f : Draft) → f.solo.connection ≡ d.solo.connection → f.sent ≡ d.sent → IsBrief 1100 x.form
      → SealsBriefly d (Some (x, f))
  seals d x f connection sent brief =
      record { at = λ y is. subst (λ (z : Sealed × Draft). (z.1.solo.connection ≡ d.solo.connection) × (z.1.sent ≡ d.sent) × IsBrief 1100 z.0.form) (same_Some (x, f) y is) (connection, sent, brief) }

  seals_if : (b : Bool) (d : Draft) (o : Option (Sealed × Draft)) → SealsBriefly d o → SealsBriefly d (cond b o None)
  seals_if true d o h = h
  seals_if false d o h = record { at = λ y is. absurd (cc is) }

  seals_at : (header : SecurityHeader) (nas : List ℕ) (d : Draft) (o : Option Context) → d.solo.context ≡ o → SoloInRange d.solo
      → IsBrief 1000 nas
      → SealsBriefly d (option_map_or (sealed_under header nas d) o (Some (record { form = []; under = None }, d)))
  seals_at header nas d None is range brief =
      seals d (record { form = []; under = None }) d refl refl (brief_within brief_none (omega arith))
  seals_at header nas d (Some x) is range brief =
      let known : ContextInRange x = known_in d.solo.context x is range.context in
      seals_if _ d _ (seals d _ _ refl refl (brief_protected (mac_of x) x.security.down_next header nas (λ octets. brief_mac x.security.integrity known.integrity x.security.down_next Downlink octets) brief))

  seal_briefly : (header : SecurityHeader) (nas : List ℕ) (d : Draft) → SoloInRange d.solo → IsBrief 1000 nas
      → SealsBriefly d (seal header nas d)
  unfolding seal
  seal_briefly header nas d range brief = seals_at header nas d d.solo.context refl range brief

  protect_by : (d e : Draft) (k : Connection) (o : Option (Sealed × Draft)) → ConnectionInRange k → d.solo.connection ≡ Some k
      → SealsBriefly d o
      → (o >>= λ x. Some (option_map_or (λ k. emit k.station (downlink k x.0.form) x.0.under x.1) x.1.solo.connection x.1)) ≡ Some e
      → (x : Sealed) × (f : Draft) × (o ≡ Some (x, f)) × SendsWhole k.station x.under (downlink k x.form) d e
  protect_by d e k None ids is h same = absurd (cc same)
  protect_by d e k (Some x) ids is h same =
      let facts = h.at x refl in
      let w = written.nas k x.0.form ids (brief_within facts.2 (omega arith)) in
      let whole = with_some (SendsWhole k.station x.0.under (downlink k x.0.form) x.1) (λ k. emit k.station (downlink k x.0.form) x.0.under x.1) x.1 x.1.solo.connection k (facts.0 ∙ is)
      (emit_whole x.1 k.station (downlink k x.0.form) x.0.under w) in (
        x.0,
        x.1,
        refl,
        subst (SendsWhole k.station x.0.under (downlink k x.0.form) d) (same_Some _ e same)
            (whole.0, whole.1, whole.2 ∙ ap (λ (sent : List Answer). sent ++ record { station = k.station; octets = whole.0; under = x.0.under } ∷ []) facts.1),
      )

  pub protect_whole : ProtectIsWhole
  unfolding protect
  protect_whole d e k header nas range is brief same =
      protect_by d e k (seal header nas d) (connection_at d.solo.connection k is range.connection) is
      (seal_briefly header nas d range brief) same

  -- ---- over a run

  each_front : (xs ys : List Item) → EachInRange (xs ++ ys) → EachInRange xs × EachInRange ys
  each_front [] ys h = (tt, h)
  each_front (x ∷ xs) ys h = let rest = each_front xs ys h.1 in ((h.0, rest.0), rest.1)

  pub proved_were_challenged : DecodedIsSpelled → DecodedEsmIsSpelled → TheProvedWereChallenged
  proved_were_challenged spelled esm_spelled s solo items place setting h fits p =
      let all =
      each_front (p.before ++ p.challenge ∷ p.between ++ p.response ∷ p.waiting) (p.completion ∷ p.since)
      (subst EachInRange p.whole fits) in
      let most = each_front (p.before ++ p.challenge ∷ p.between) (p.response ∷ p.waiting) all.0 in
      let parts = each_front p.before (p.challenge ∷ p.between) most.0 in
      let before = stays_in_range written spelled esm_spelled s solo p.before setting h parts.0 in
      let after = (fit_step written spelled esm_spelled setting (solo_after s solo p.before) p.challenge parts.1.0 before).solo in
      let c = p.challenged in
      let ids = connection_at (solo_step s (solo_after s solo p.before) p.challenge).solo.connection c.0 c.2 after.connection in
      let v = setting.vectors place p.vector p.there in
      let w = written.nas c.0 _ ids (brief_within (brief_authentication_request (place % 7) p.vector.rand p.vector.autn (omega arith) v.rand v.autn) (omega arith)) in
      (c.0, c.1, w.0, c.2, w.1, c.3 ∙ ap (λ (o : Option (List ℕ)). c.1 ++ answer_of c.0.station None o) w.1)
