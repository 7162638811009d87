-- What each action leaves of what is known of the radio keys, from stage to stage; it hands out one key at most, and so does the step.
use Rattle.std.proofs.Common.{◌≡◌, ℕ, ◌-◌, ◌^◌, ◌<◌, ◌≤◌, Bool, true, false, inl, inr, List, [], ◌∷◌, Option, Some, None, Result, Ok, Err, refl, sym, ◌∙◌, ap, subst, arith}
use Rattle.std.specs.Prelude.{nat_lt, length}
use Rattle.std.proofs.lemmas.List.Elements.{All-nil}
use Rattle.std.proofs.lemmas.Option.{same_Some}
use Rattle.esm_machine.specs.declared.reaction.Reaction.{Reaction}
use Rattle.esm_machine.specs.declared.reaction.Reaction.TheVariants as reactions
use Rattle.esm_machine.specs.declared.request.Request.{Request}
use Rattle.esm_machine.specs.Reactions.{reaction, reaction_by, reaction_to, reaction_to_fault}
use Rattle.esm_machine.specs.Sessions.{Session}
use Rattle.nas_elements.specs.declared.fault.NasFault.{NasFault}
use Rattle.nas_elements.specs.declared.fault.NasFault.TheVariants as faults
use Rattle.nas_messages.specs.declared.esm_types.Esm.{Esm}
use Rattle.nas_messages.specs.declared.esm_types.EsmBody.{EsmBody}
use Rattle.nas_messages.specs.declared.esm_types.EsmBody.TheVariants as esm
use Rattle.nas_messages.specs.declared.protection.SecurityHeader.{SecurityHeader}
use Rattle.nas_messages.specs.declared.protection.SecurityHeader.TheVariants.{IntegrityProtectedCiphered}
use Rattle.nas_messages.specs.EsmMessages.{decoded_esm}
use Rattle.nas_security.specs.Accepting.{accepted, short_accepted}
use Rattle.nas_security.specs.Context.{Mac}
use Rattle.nas_security.specs.Counts.{first_after}
use Rattle.s1ap_pdus.specs.declared.pdu.Pdu.{Pdu}
use Rattle.mme_types.specs.declared.event.UeMessage.{UeMessage}
use Rattle.mme_types.specs.Events.{Item}
use Rattle.mme_signalling.specs.Pdus.{error_indication, paging, path_switch_failure}
use Rattle.emm_state.specs.declared.draft.Draft.{Draft}
use Rattle.emm_state.specs.declared.setting.Setting.{Setting}
use Rattle.emm_state.specs.declared.solo.Context.{Context}
use Rattle.emm_state.specs.declared.solo.NasTimer.{NasTimer}
use Rattle.emm_state.specs.declared.solo.Phase.{Phase}
use Rattle.emm_state.specs.declared.solo.Phase.TheVariants.{EsmInformation, Accepting, Updating}
use Rattle.emm_state.specs.declared.solo.Solo.{Solo}
use Rattle.emm_state.specs.Actions.{emit, ended, protect, protect_and_await, send, set_up_with, untouched}
use Rattle.emm_state.specs.Phases.{is}
use Rattle.emm_machine.specs.Attaching as attaching
use Rattle.emm_machine.specs.Attaching.{counted_up}
use Rattle.emm_machine.specs.Connected as connected
use Rattle.emm_machine.specs.Freshness.{HasVector, next_place}
use Rattle.emm_machine.specs.Idle as idle
use Rattle.emm_machine.specs.Serving as serving
use Rattle.emm_machine.specs.Steps as steps
use Rattle.laws_subscriber.specs.Choices.{Whenever, at_some, either, then}
use Rattle.laws_subscriber.specs.Keeps.{Asked, Begun, Cleared, Counted, Ended, ForAttach, ForSynch, Indicates, Keeps, Keyed, Known, Linked, MayAccept, Moving, Stage, TakesVector, Told, WithInformation, WithKeys, may_close, may_protect, may_say, may_update}
use Rattle.laws_subscriber.specs.Sound.{is_past_proof}
use Rattle.laws_subscriber.specs.Walk.{step_keeps}
use Rattle.laws_mme.specs.Handed.{RadioKey}
use Rattle.laws_mme.proofs.Holding.{Due, HeldIn, IsHeld, floor_of, part_of, registered_past}
use Rattle.laws_mme.proofs.KeyActions.{IsDone, IsDue, IsQuiet, IsReady, Silent, done_set_up, done_start, done_switched, due_keyed, past_held, quiet, quiet_active, quiet_connect, quiet_connect_on, quiet_emit, quiet_fall, quiet_lost, quiet_protect, quiet_refuse, quiet_release, quiet_send, quiet_start, quiet_taking, quiet_took, quiet_turn_away, quiet_wipe, seals_ready}
use Rattle.laws_mme.proofs.KeyOrder.{IsUpTo, first_of}

-- what nas_security's law says of what is accepted
abbrev pub WholeIsFresh : Type 0
WholeIsFresh = (mac : Mac) (last : Option ℕ) (allowed : List SecurityHeader) (octets : List ℕ) (count : ℕ) (message : List ℕ)
    → accepted mac last allowed octets ≡ Ok (count, message) → (first_after last ≤ count) × (count < 2 ^ 24)

abbrev pub ShortIsFresh : Type 0
ShortIsFresh = (mac : Mac) (last : Option ℕ) (ksi : ℕ) (octets : List ℕ) (count : ℕ)
    → short_accepted mac last ksi octets ≡ Ok count → (first_after last ≤ count) × (count < 2 ^ 24)

-- ---- ESM information

-- it comes only where it is awaited
abbrev IsNoInformation : Reaction (List ℕ) → Type 0
IsNoInformation reactions.Informed = ⊥
IsNoInformation _ = Unit {0}

body_informs : (request : Option Request) (bearer transaction : ℕ) (body : EsmBody (List ℕ))
    → IsNoInformation (reaction_to request false bearer transaction body)
body_informs request bearer transaction (esm.ActivateRequest m) = tt
body_informs request bearer transaction esm.ActivateAccept = tt
body_informs request bearer transaction (esm.ActivateReject cause) = tt
body_informs request bearer transaction (esm.ConnectivityRequest request_type pdn_type information) = tt
body_informs request bearer transaction (esm.ConnectivityReject cause) = tt
body_informs request bearer transaction (esm.DisconnectRequest linked) = tt
body_informs request bearer transaction (esm.DisconnectReject cause) = tt
body_informs request bearer transaction esm.InformationRequest = tt
body_informs request bearer transaction esm.InformationResponse = tt
body_informs request bearer transaction (esm.EsmStatus cause) = tt

fault_informs : (bearer transaction : ℕ) (fault : NasFault) → IsNoInformation (reaction_to_fault bearer transaction fault)
fault_informs bearer transaction faults.TooShort = tt
fault_informs bearer transaction faults.Mandatory = tt
fault_informs bearer transaction faults.UnknownType = tt
fault_informs bearer transaction faults.OptionalPart = tt
fault_informs bearer transaction faults.NoMemory = tt

read_informs : (session : Session) (octets : List ℕ) (r : Result (Esm (List ℕ)) NasFault)
    → IsNoInformation (reaction_by session false octets r)
read_informs session octets (Ok m) = body_informs session.request m.bearer m.transaction m.body
read_informs session octets (Err fault) = fault_informs _ _ fault

unasked : (session : Session) (octets : List ℕ) → IsNoInformation (reaction session false octets)
unfolding reaction
unasked session octets = either IsNoInformation (nat_lt (length octets) 3) tt (read_informs session octets (decoded_esm octets))

informs_asked : (session : Session) (waiting : Bool) (octets : List ℕ) → reaction session waiting octets ≡ reactions.Informed
    → waiting ≡ true
informs_asked session true octets told = refl
informs_asked session false octets told = absurd (subst IsNoInformation told (unasked session octets))

in_information : (phase : Phase) → is EsmInformation phase ≡ true → phase ≡ EsmInformation
in_information EsmInformation h = refl
in_information _ h = absurd (cc h)

past_accepting : (phase : Phase) → is Accepting phase ≡ true → is_past_proof phase ≡ true
past_accepting Accepting h = refl
past_accepting _ h = absurd (cc h)

past_updating : (phase : Phase) → is Updating phase ≡ true → is_past_proof phase ≡ true
past_updating Updating h = refl
past_updating _ h = absurd (cc h)

-- ---- what each action keeps

module _ (whole : WholeIsFresh) (short : ShortIsFresh) (s : Setting) (f : RadioKey) (b : Solo) (item : Item) (found : IsHeld s f b) where
  -- until a context gives radio keys nothing with one was sent; then its KeNB is due
  abbrev P : Stage → Draft → Type 0
  P Keyed d = (kenb : List ℕ) × IsDue s f b kenb d
  P (Moving Accepting) d = (kenb : List ℕ) × IsReady s f b kenb d
  P Ended d = IsDone s f b d
  P _ d = IsQuiet s f d

  says : (at : Stage) (nas : List ℕ) (d : Draft) → may_say at ≡ true → P at d → P at (send nas d)
  says Begun nas d may h = quiet_send nas h
  says Linked nas d may h = quiet_send nas h
  says Cleared nas d may h = quiet_send nas h
  says Asked nas d may h = quiet_send nas h
  says Told nas d may h = quiet_send nas h
  says Known nas d may h = quiet_send nas h
  says Counted nas d may h = quiet_send nas h
  says _ nas d may h = absurd (cc may)

  guards : (at : Stage) (header : SecurityHeader) (nas : List ℕ) (d : Draft) → may_protect at ≡ true → P at d
      → Whenever (P at) (protect header nas d)
  guards Told header nas d may h = quiet_protect header nas h
  guards Known header nas d may h = quiet_protect header nas h
  guards Counted header nas d may h = quiet_protect header nas h
  guards _ header nas d may h = absurd (cc may)

  quiet_at : (at : Stage) (d : Draft) → may_say at ≡ true → P at d → IsQuiet s f d
  quiet_at Begun d may h = h
  quiet_at Linked d may h = h
  quiet_at Cleared d may h = h
  quiet_at Asked d may h = h
  quiet_at Told d may h = h
  quiet_at Known d may h = h
  quiet_at Counted d may h = h
  quiet_at _ d may h = absurd (cc may)

  close_says : (at : Stage) → may_close at ≡ true → may_say at ≡ true
  close_says Begun may = refl
  close_says Told may = refl
  close_says _ may = absurd (cc may)

  update_says : (at : Stage) → may_update at ≡ true → may_say at ≡ true
  update_says Told may = refl
  update_says Known may = refl
  update_says _ may = absurd (cc may)

  taken_at : (at : Stage) (d : Draft) → TakesVector b item at d.solo → P at d → IsQuiet s f d
  taken_at at d (ForAttach is next combined esm request has) h = subst (λ (a : Stage). P a d) is h
  taken_at at d (ForSynch nas is same phase on plain told) h = subst (λ (a : Stage). P a d) is h

  awaits : {d : Draft} (timer : NasTimer) (header : SecurityHeader) (nas : List ℕ) → IsQuiet s f d
      → Whenever (IsDone s f b) (protect_and_await timer header nas d)
  awaits timer header nas h = then _ (quiet_protect header nas h) (λ e g. Silent (quiet_start timer _ g))

  -- KeNB is due with the security mode, and once ESM information has come
  due_at : (at : Stage) (d : Draft) → MayAccept b item at d → P at d → (kenb : List ℕ) × IsDue s f b kenb d
  unfolding attaching.took
  due_at at d (WithKeys stage) h = subst (λ (a : Stage). P a d) stage h
  due_at at d (WithInformation x count octets stage a later now came) h =
      let q : IsQuiet s f (attaching.took (counted_up x count) count (untouched b)) =
      subst (IsQuiet s f) now (subst (λ (e : Stage). P e d) stage h) in
      let phase = in_information b.phase (informs_asked b.bearer (is EsmInformation b.phase) octets came) in
      let has : HeldIn s.vectors f Due b.next_vector (Some (counted_up x count)) =
      subst (λ (p : Phase). HeldIn s.vectors f (part_of p) (next_place p b.next_vector) (Some (counted_up x count))) phase q.held in
      let due : IsDue s f b x.radio.kenb (attaching.took (counted_up x count) count (untouched b)) = record {
        context = counted_up x count;
        stands = refl;
        facts = record {
          below = has.0;
          vector = has.1;
          due = has.2;
          key = refl;
          source = inr (record { asked = phase; context = x; stands = a.has; is_kenb = refl });
        };
        keyless = q.keyless;
      } in
      (x.radio.kenb, subst (IsDue s f b x.radio.kenb) (sym now) due)

  -- the KeNB that is due is that of the context
  due_is : (x : Context) (kenb : List ℕ) (d : Draft) → d.solo.context ≡ Some x → IsDue s f b kenb d → kenb ≡ x.radio.kenb
  due_is x kenb d has h = h.facts.key ∙ ap (λ (y : Context). y.radio.kenb) (same_Some h.context x (sym h.stands ∙ has))

  -- ---- paging

  quiet_emit_each : (message : Pdu (List ℕ)) (es : List ℕ) (d : Draft)
      → ((station : ℕ) (e : Draft) → IsQuiet s f e → IsQuiet s f (emit station message None e))
      → IsQuiet s f d → IsQuiet s f (idle.emit_each message es d)
  quiet_emit_each message [] d each h = h
  quiet_emit_each message (e ∷ es) d each h = quiet_emit_each message es (emit e message None d) each (each e d h)

  quiet_page : {d : Draft} (es : List ℕ) → IsQuiet s f d → IsQuiet s f (idle.page s es d)
  unfolding idle.page paging
  quiet_page {d} es h =
      at_some (IsQuiet s f) d.solo.tmsi (λ t is. quiet_emit_each _ es d (λ station e q. quiet_emit station _ None refl q) h)
      (λ is. h)

  indicated : (m : UeMessage (List ℕ)) (message : Pdu (List ℕ)) → Indicates m message → IsQuiet s f (untouched b)
      → IsQuiet s f (emit m.station message None (untouched b))
  unfolding error_indication path_switch_failure
  indicated m message may h = elim may.2 [
    | inl is ↦ subst (λ (n : Pdu (List ℕ)). IsQuiet s f (emit m.station n None (untouched b))) (sym is) (quiet_emit m.station _ None refl h)
    | inr is ↦ subst (λ (n : Pdu (List ℕ)). IsQuiet s f (emit m.station n None (untouched b))) (sym is) (quiet_emit m.station _ None refl h)
  ]

  keeps : Keeps s b item P
  unfolding attaching.requesting attaching.asking attaching.challenged attaching.new_context attaching.activating attaching.given_tmsi serving.active serving.updating serving.registered connected.strike idle.paged idle.lowered idle.restarted ended set_up_with
  keeps = record {
    sends = λ at nas d may to tells h. says at nas d may h;
    protects = λ at header nas d may tells h. guards at header nas d may h;
    commands = λ v r h. awaits _ _ _ h;
    asks_information = λ d h. awaits _ _ _ h;
    accepts_update = λ grant d same h. awaits _ _ _ h;
    tells_detach = λ d h. awaits _ _ _ h;
    sets_up = λ x d has phase h.
        let due : IsDue s f b x.radio.kenb d = subst (λ (k : List ℕ). IsDue s f b k d) (due_is x h.0 d has h.1) h.1 in
        done_set_up x.radio.kenb None None (record {
          due = due;
          vector = subst (λ (p : Phase). HasVector p d.solo.next_vector) (sym phase) tt;
          part = ap part_of phase;
          next = ap (λ (p : Phase). next_place p d.solo.next_vector) phase;
        });
    accepts_attach = λ x grant session d has same bearer h.
        let ready : IsReady s f b x.radio.kenb d = subst (λ (k : List ℕ). IsReady s f b k d) (due_is x h.0 d has h.1.due) h.1 in
        then _
        (then _ (seals_ready IntegrityProtectedCiphered _ x.radio.kenb d ready)
        (λ y r. done_set_up x.radio.kenb (Some y.0.form) y.0.under r))
        (λ e g. done_start _ _ g);
    closes = λ at d may left h. Silent (quiet_at at d (close_says at may) h);
    forgets = λ at cause d may known h. Silent (quiet_wipe (quiet_release cause (quiet_at at d may h)));
    falls = λ at cause d may known h. Silent (quiet_fall cause (quiet_at at d (close_says at may) h));
    loses = λ d h. Silent (quiet_lost h);
    drops = λ is none h. Silent (quiet_wipe h);
    spends = λ h. Silent (quiet_wipe (quiet_fall _ h));
    refuses = λ m nas is refuses h. Silent (quiet_refuse s.slot m.station m.enb_ue_id nas h);
    turns_away = λ m is h. Silent (quiet_turn_away s.slot m.station m.enb_ue_id h);
    emits = λ m message is may h. Silent (indicated m message may h);
    switches = λ m x w h. done_switched m x w.context w.registered h;
    connects = λ m is h. quiet_connect s.slot m.station m.enb_ue_id h;
    connects_on = λ id m is h. quiet_connect_on id m.station m.enb_ue_id h;
    clears = λ combined capability esm tai d asks h. quiet (quiet_wipe h) refl;
    asks = λ combined capability esm tai d asks has h. quiet h refl;
    challenges = λ at v d there takes h. Silent (quiet_start _ _ (quiet_send _ (quiet_taking (taken_at at d takes h))));
    makes_context = λ v r h.
        let taken : 0 < b.next_vector = subst (λ (p : Phase). HasVector p b.next_vector) r.phase found.vector in
        let floor : IsUpTo f (first_of (b.next_vector - 1)) =
        subst (λ (p : Phase). IsUpTo f (first_of (next_place p b.next_vector))) r.phase
        (floor_of s.vectors f (part_of b.phase) (next_place b.phase b.next_vector) b.context found.held) in
        record { vector = tt; held = (omega arith, (v, r.there, refl), floor); keyless = h.keyless };
    takes = λ headers x count inner a h. quiet_took x count a.has (whole _ _ _ _ count inner a.accepts).0 h;
    keys = λ x count inner phase a told h.
        let fresh = whole _ _ _ _ count inner a.accepts in (_, due_keyed x count a.has fresh.0 fresh.1 h);
    takes_on = λ m x count inner d is has a had h. quiet_took x count has (whole _ _ _ _ count inner a).0 h;
    serves = λ d registered phase h. quiet_active (ap is_past_proof phase ∙ registered_past b.phase registered) h;
    keys_on = λ x count octets d has phase had a h.
        let fresh = short _ _ _ _ count a in (_, due_keyed x count has fresh.0 fresh.1 h);
    activates = λ at d may on h.
        let r = due_at at d may h in (
          r.0,
          record {
            due = record {
              context = r.1.context;
              stands = r.1.stands;
              facts = record { below = r.1.facts.below; vector = r.1.facts.vector; due = r.1.facts.due; key = r.1.facts.key; source = r.1.facts.source };
              keyless = r.1.keyless;
            };
            vector = tt;
            part = refl;
            next = refl;
          },
        );
    waits = λ d h. record {
      vector = tt;
      held = subst (HeldIn s.vectors f Due d.solo.next_vector) (sym h.1.stands) (h.1.facts.below, h.1.facts.vector, h.1.facts.due);
      keyless = h.1.keyless;
    };
    updates = λ at tai initial d may h.
        let q = quiet_at at d (update_says at may.stage) h in
        record { vector = tt; held = past_held (registered_past d.solo.phase may.registered) q; keyless = q.keyless };
    attaches = λ esm d phase h. record { vector = tt; held = past_held (past_accepting d.solo.phase phase) h; keyless = h.keyless };
    updated = λ d phase h. record { vector = tt; held = past_held (past_updating d.solo.phase phase) h; keyless = h.keyless };
    detaches = λ is registered linked h.
        record { vector = tt; held = past_held (registered_past b.phase registered) h; keyless = h.keyless };
    pages = λ stations is may h. Silent (quiet_start _ _ (quiet_page _ h));
    strikes = λ station is h. quiet h refl;
    lowers = λ is h. quiet h refl;
    restarts = λ c is h. quiet h refl;
    pages_again = λ c es is was h. quiet_page es h;
    goes_on = λ d is h. h;
    gives_up = λ is h. quiet h refl;
    fails = λ cause is known h. quiet_fall cause h;
    passes = λ d is h. Silent h;
    times_out = λ n d is out h. Silent (quiet_wipe h);
  }

-- each step from such a state is done
pub done_step : WholeIsFresh → ShortIsFresh → {s : Setting} {f : RadioKey} (b : Solo) (item : Item) → IsHeld s f b
    → IsDone s f b (steps.solo_step s b item)
done_step whole short {s} {f} b item h =
    step_keeps s b item (keeps whole short s f b item h) (record { vector = h.vector; held = h.held; keyless = All-nil _ })
