-- What each action keeps of the countdowns as the phase has them, from stage to stage, and so each step but that of a tick.
use Rattle.std.proofs.Common.{◌≡◌, ℕ, ◌<◌, ◌==◌, ◌^◌, ◌&&◌, Bool, true, false, inl, inr, not, List, [], ◌∷◌, Option, Some, None, IsSome, nat_lt, is_some, refl, sym, subst, ap, ◌∙◌, true≢false, arith}
use Rattle.std.specs.Option.{option_map_or}
use Rattle.nas_messages.specs.declared.protection.SecurityHeader.{SecurityHeader}
use Rattle.s1ap_causes.specs.declared.cause.Cause.{Cause}
use Rattle.s1ap_pdus.specs.declared.pdu.Pdu.{Pdu}
use Rattle.mme_types.specs.declared.connection.Connection.{Connection}
use Rattle.mme_types.specs.declared.octets.Mark.{Mark}
use Rattle.mme_types.specs.Events.{Item, Tick}
use Rattle.emm_state.specs.declared.draft.Draft.{Draft}
use Rattle.emm_state.specs.declared.draft.Sealed.{Sealed}
use Rattle.emm_state.specs.declared.setting.Setting.{Setting}
use Rattle.emm_state.specs.declared.solo.Context.{Context}
use Rattle.emm_state.specs.declared.solo.Countdown.{Countdown}
use Rattle.emm_state.specs.declared.solo.NasTimer.{NasTimer}
use Rattle.emm_state.specs.declared.solo.NasTimer.TheVariants.{T3413, T3422, T3450, T3460, T3489}
use Rattle.emm_state.specs.declared.solo.Phase.{Phase}
use Rattle.emm_state.specs.declared.solo.Phase.TheVariants.{Deregistered, Authenticating, SecurityMode, EsmInformation, Accepting, Updating, Registered, Detaching}
use Rattle.emm_state.specs.declared.solo.Protection.TheVariants.{Plain, Under}
use Rattle.emm_state.specs.declared.solo.Repeat.{Repeat}
use Rattle.emm_state.specs.declared.solo.Repeat.TheVariants as repeats
use Rattle.emm_state.specs.declared.solo.Solo.{Solo}
use Rattle.emm_state.specs.Actions.{association_counted, connect, connect_on, disconnected, emit, ended, fall, fallen, is_registered, lost, protect, protect_and_await, refuse, release, resting, seal, sealed_under, send, set_up, set_up_with, start, turn_away, untouched, wipe}
use Rattle.emm_state.specs.Does.{◌>>=◌}
use Rattle.emm_state.specs.Phases as phases
use Rattle.emm_state.specs.Timers.{reachable_ticks, repeats_of, ticks_of}
use Rattle.emm_machine.specs.Attaching as attaching
use Rattle.emm_machine.specs.Connected as connected
use Rattle.emm_machine.specs.Idle as idle
use Rattle.emm_machine.specs.Serving as serving
use Rattle.emm_machine.specs.Steps as steps
use Rattle.laws_subscriber.specs.Choices.{Whenever, at_some, either, nothing, some, then}
use Rattle.laws_subscriber.specs.Clocked.{IsAtRest, IsClocked, IsClockedIn, IsCounting, IsPagedAtMost, IsUnderWay, NoneRuns, pages}
use Rattle.laws_subscriber.specs.Keeps.{Asked, Begun, Cleared, ForAttach, ForSynch, Keeps, Keyed, Known, Linked, MayAccept, Moving, Serving, Stage, TakesVector, Told, WithInformation, WithKeys, may_close}
use Rattle.laws_subscriber.specs.Walk.{linked_by, step_keeps}

-- what is said of a state's phase, connection and countdowns
abbrev pub Clocks : Type 1
Clocks = Phase → Option Connection → Option Countdown → Option Repeat → Option ℕ → Type 0

-- of a step under way it is said
pub record Holds (P : Clocks) (d : Draft) : Type 0 where
  pub holds : P d.solo.phase d.solo.connection d.solo.procedure d.solo.repeat d.solo.reachable

-- the phone is connected, and no reachable countdown runs
abbrev IsLinked : Clocks
IsLinked phase connection procedure repeat reachable = IsSome connection × (reachable ≡ None)

-- it is clocked, and connected
abbrev IsBusy : Clocks
IsBusy phase connection procedure repeat reachable = IsClockedIn phase connection procedure repeat reachable × IsSome connection

-- once the timer is started it is clocked
abbrev IsToStart : NasTimer → Repeat → Clocks
IsToStart timer again phase connection procedure repeat reachable =
    IsClockedIn phase connection (Some (record { timer = timer; left = ticks_of timer; repeats = repeats_of timer })) (Some again) reachable

abbrev pub Clocked : Draft → Type 0
Clocked = Holds IsClockedIn

-- ---- what a clocked state has

-- one that is connected has no reachable countdown
unawaited : (phase : Phase) (c : Option Connection) (p : Option Countdown) (r : Option Repeat) (n : Option ℕ)
    → IsClockedIn phase c p r n → IsSome c → n ≡ None
unawaited Deregistered c p r n h k = h.1.2
unawaited Authenticating c p r n h k = h.2
unawaited SecurityMode c p r n h k = h.2
unawaited EsmInformation c p r n h k = h.2
unawaited Accepting c p r n h k = h.2
unawaited Updating c p r n h k = h.2
unawaited Registered (Some c) p r n h k = h.2
unawaited Registered None p r n h k = absurd (true≢false (sym k))
unawaited Detaching c p r n h k = h.2

-- ---- actions that let the clocks be

module _ {P : Clocks} where
  kept_emit : {d : Draft} (station : ℕ) (message : Pdu (List ℕ)) (under : Option Mark) → Holds P d
      → Holds P (emit station message under d)
  unfolding emit
  kept_emit station message under h = record { holds = h.holds }

  kept_send : {d : Draft} (nas : List ℕ) → Holds P d → Holds P (send nas d)
  unfolding send
  kept_send {d} nas h = at_some (Holds P) d.solo.connection (λ k is. kept_emit k.station _ None h) (λ none. h)

  kept_turn_away : {d : Draft} (slot station enb_ue_id : ℕ) → Holds P d → Holds P (turn_away slot station enb_ue_id d)
  unfolding turn_away association_counted
  kept_turn_away slot station enb_ue_id h = kept_emit station _ None (record { holds = h.holds })

  kept_refuse : {d : Draft} (slot station enb_ue_id : ℕ) (nas : List ℕ) → Holds P d → Holds P (refuse slot station enb_ue_id nas d)
  unfolding refuse association_counted
  kept_refuse slot station enb_ue_id nas h = kept_emit station _ None (kept_emit station _ None (record { holds = h.holds }))

  sealed_at : (header : SecurityHeader) (nas : List ℕ) {d : Draft} (o : Option Context) → Holds P d
      → Whenever (λ (s : Sealed × Draft). Holds P s.1) (option_map_or (sealed_under header nas d) o (Some (record { form = []; under = None }, d)))
  sealed_at header nas None h = some h
  sealed_at header nas (Some x) h =
      either (Whenever (λ (s : Sealed × Draft). Holds P s.1)) (nat_lt x.security.down_next (2 ^ 24)) (some (record { holds = h.holds })) nothing

  kept_seal : {d : Draft} (header : SecurityHeader) (nas : List ℕ) → Holds P d
      → Whenever (λ (s : Sealed × Draft). Holds P s.1) (seal header nas d)
  unfolding seal
  kept_seal {d} header nas h = sealed_at header nas d.solo.context h

  kept_protect : {d : Draft} (header : SecurityHeader) (nas : List ℕ) → Holds P d → Whenever (Holds P) (protect header nas d)
  unfolding protect
  kept_protect header nas h =
      then _ (kept_seal header nas h) (λ s r. at_some (Holds P) s.1.solo.connection (λ k is. kept_emit k.station _ _ r) (λ none. r))

  kept_set_up : {d : Draft} (s : Setting) (kenb : List ℕ) (nas : Option (List ℕ)) (under : Option Mark) → Holds P d
      → Holds P (set_up s kenb nas under d)
  unfolding set_up
  kept_set_up {d} s kenb nas under h = at_some (Holds P) d.solo.connection (λ k is. kept_emit k.station _ under h) (λ none. h)

  kept_set_up_with : {d : Draft} (s : Setting) (kenb nas : List ℕ) → Holds P d → Whenever (Holds P) (set_up_with s kenb nas d)
  unfolding set_up_with
  kept_set_up_with s kenb nas h = then _ (kept_seal _ nas h) (λ x r. kept_set_up s kenb _ _ r)

  kept_emit_each : (message : Pdu (List ℕ)) (es : List ℕ) (d : Draft) → Holds P d → Holds P (idle.emit_each message es d)
  kept_emit_each message [] d h = h
  kept_emit_each message (e ∷ es) d h = kept_emit_each message es (emit e message None d) (kept_emit e message None h)

  kept_page : {d : Draft} (s : Setting) (es : List ℕ) → Holds P d → Holds P (idle.page s es d)
  unfolding idle.page
  kept_page {d} s es h = at_some (Holds P) d.solo.tmsi (λ t is. kept_emit_each _ es d h) (λ none. h)

  pub kept_again : {d : Draft} (r : Repeat) (s : Setting) → Holds P d → Whenever (Holds P) (idle.again r s d)
  unfolding idle.again
  kept_again (repeats.Nas Plain nas) s h = some (kept_send nas h)
  kept_again (repeats.Nas (Under header) nas) s h = kept_protect header nas h
  kept_again (repeats.Paging es) s h = some (kept_page s es h)

-- ---- the ends of a connection

-- it has no connection
abbrev IsUnlinked : Clocks
IsUnlinked phase connection procedure repeat reachable = connection ≡ None

unlinked_release : (cause : Cause) (d : Draft) → Holds IsUnlinked (release cause d)
unfolding release disconnected
unlinked_release cause d =
    at_some (Holds IsUnlinked) d.solo.connection (λ k is. record { holds = refl }) (λ none. record { holds = none })

-- what holds of a phone that is deregistered and of one that has just come to rest
module _ (P : Clocks) (gone : P Deregistered None None None None) where
  pub gone_wipe : {d : Draft} → Holds IsUnlinked d → Holds P (wipe d)
  unfolding wipe
  gone_wipe h = record { holds = subst (λ (c : Option Connection). P Deregistered c None None None) (sym h.holds) gone }

  pub gone_release : (cause : Cause) (d : Draft) → Holds P (wipe (release cause d))
  gone_release cause d = gone_wipe (unlinked_release cause d)

  module _ (idle : P Registered None None None (Some reachable_ticks)) where
    rests_fallen : {d : Draft} → Holds IsUnlinked d → Holds P (fallen d)
    unfolding resting ended
    rests_fallen {d} h =
        either (Holds P) (is_registered d.solo.phase)
        (record { holds = subst (λ (c : Option Connection). P Registered c None None (Some reachable_ticks)) (sym h.holds) idle }) (gone_wipe h)

    pub rests_fall : (cause : Cause) (d : Draft) → Holds P (fall cause d)
    unfolding fall
    rests_fall cause d = rests_fallen (unlinked_release cause d)

    pub rests_lost : (d : Draft) → Holds P (lost d)
    unfolding lost disconnected
    rests_lost d = rests_fallen (record { holds = refl })

clocked_wipe : {d : Draft} → Holds IsUnlinked d → Clocked (wipe d)
clocked_wipe h = gone_wipe IsClockedIn (refl, (refl, refl, refl)) h

clocked_release : (cause : Cause) (d : Draft) → Clocked (wipe (release cause d))
clocked_release cause d = gone_release IsClockedIn (refl, (refl, refl, refl)) cause d

clocked_fall : (cause : Cause) (d : Draft) → Clocked (fall cause d)
clocked_fall cause d = rests_fall IsClockedIn (refl, (refl, refl, refl)) (refl, (omega arith, omega arith)) cause d

clocked_lost : (d : Draft) → Clocked (lost d)
clocked_lost d = rests_lost IsClockedIn (refl, (refl, refl, refl)) (refl, (omega arith, omega arith)) d

-- where a count is spent
pub gone_spent : (P : Clocks) → P Deregistered None None None None → (solo : Solo) → Holds P (steps.spent solo)
gone_spent P gone solo = gone_wipe P gone (rests_fall IsUnlinked refl refl _ (untouched solo))

-- ---- starts

linked_wipe : {d : Draft} → Holds (λ phase c p r n. IsSome c) d → Holds IsLinked (wipe d)
unfolding wipe
linked_wipe h = record { holds = (h.holds, refl) }

linked_connect_on : (id station enb_ue_id : ℕ) (d : Draft) → Holds (λ phase c p r n. IsSome c) (connect_on id station enb_ue_id d)
unfolding connect_on
linked_connect_on id station enb_ue_id d = record { holds = refl }

linked_connect : (slot station enb_ue_id : ℕ) (d : Draft) → Holds (λ phase c p r n. IsSome c) (connect slot station enb_ue_id d)
unfolding connect
linked_connect slot station enb_ue_id d = linked_connect_on _ station enb_ue_id _

clocked_start : {d : Draft} (timer : NasTimer) (again : Repeat) → Holds (IsToStart timer again) d → Clocked (start timer again d)
unfolding start
clocked_start timer again h = record { holds = h.holds }

clocked_started : {o : Option Draft} (timer : NasTimer) (again : Repeat) → Whenever (Holds (IsToStart timer again)) o
    → Whenever Clocked (o >>= λ d. Some (start timer again d))
clocked_started timer again h = then _ h (λ d k. clocked_start timer again k)

pub full : (timer : NasTimer) → (0 < ticks_of timer)
full T3413 = omega arith
full T3422 = omega arith
full T3450 = omega arith
full T3460 = omega arith
full T3489 = omega arith

-- connected no countdown runs once a procedure is over
at_rest : (c : Option Connection) (p : Option Countdown) (r : Option Repeat) (n : Option ℕ) → IsSome c → NoneRuns p r n
    → IsAtRest c p r n
at_rest (Some k) p r n linked none = none
at_rest None p r n linked none = absurd (true≢false (sym linked))

-- where it moves to, all else being as it was
moved : (k : Connection) (phase : Phase) (c : Option Connection) (p : Option Countdown) (r : Option Repeat) (n : Option ℕ)
    → IsClockedIn phase c p r n → IsSome c
    → IsClockedIn phase (Some k) p r n
moved k Deregistered c p r n h linked = absurd (true≢false (sym linked ∙ ap (λ (o : Option Connection). is_some o) h.0))
moved k Authenticating c p r n h linked = (refl, h.1, h.2)
moved k SecurityMode c p r n h linked = (refl, h.1, h.2)
moved k EsmInformation c p r n h linked = (refl, h.1, h.2)
moved k Accepting c p r n h linked = (refl, h.1, h.2)
moved k Updating c p r n h linked = (refl, h.1, h.2)
moved k Registered (Some c) p r n h linked = h
moved k Registered None p r n h linked = absurd (true≢false (sym linked))
moved k Detaching c p r n h linked = (refl, h.1, h.2)

counting_struck : (timer : NasTimer) (station : ℕ) (p : Option Countdown) (r : Option Repeat) → IsCounting timer p r
    → IsCounting timer p (connected.struck station r)
counting_struck timer station None r h = h
counting_struck timer station (Some c) None h = h
counting_struck timer station (Some c) (Some (repeats.Nas protection nas)) h = h
counting_struck timer station (Some c) (Some (repeats.Paging es)) h = h

none_struck : (station : ℕ) (r : Option Repeat) → r ≡ None → connected.struck station r ≡ None
none_struck station r none = ap (λ (o : Option Repeat). connected.struck station o) none

paged_struck : (station : ℕ) (p : Option Countdown) (r : Option Repeat) → IsPagedAtMost p r
    → IsPagedAtMost p (connected.struck station r)
paged_struck station None r h = none_struck station r h
paged_struck station (Some c) r h = counting_struck T3413 station (Some c) r h

pub clocked_struck : (station : ℕ) (phase : Phase) (c : Option Connection) (p : Option Countdown) (r : Option Repeat) (n : Option ℕ)
    → IsClockedIn phase c p r n
    → IsClockedIn phase c p (connected.struck station r) n
clocked_struck station Deregistered c p r n h = (h.0, (h.1.0, none_struck station r h.1.1, h.1.2))
clocked_struck station Authenticating c p r n h = (h.0, counting_struck T3460 station p r h.1, h.2)
clocked_struck station SecurityMode c p r n h = (h.0, counting_struck T3460 station p r h.1, h.2)
clocked_struck station EsmInformation c p r n h = (h.0, counting_struck T3489 station p r h.1, h.2)
clocked_struck station Accepting c p r n h = (h.0, counting_struck T3450 station p r h.1, h.2)
clocked_struck station Updating c p r n h = (h.0, counting_struck T3450 station p r h.1, h.2)
clocked_struck station Registered (Some c) p r n h = (h.0, none_struck station r h.1, h.2)
clocked_struck station Registered None p r n h = (paged_struck station p r h.0, h.1)
clocked_struck station Detaching c p r n h = (h.0, counting_struck T3422 station p r h.1, h.2)

-- where paging may begin
to_page : (es : List ℕ) (phase : Phase) (c : Option Connection) (p : Option Countdown) (r : Option Repeat) (n : Option ℕ)
    → (phases.is Registered phase && not (is_some c) && not (is_some p)) ≡ true → IsClockedIn phase c p r n
    → IsToStart T3413 (repeats.Paging es) phase c p r n
to_page es Registered None p r n may h = ((refl, full T3413, omega arith, omega arith, refl), h.1)
to_page es Registered (Some k) p r n may h = absurd (cc)
to_page es _ c p r n may h = absurd (cc)

none_of : {K : Type 0} (o : Option K) → is_some o ≡ false → o ≡ None
none_of None e = refl
none_of (Some k) e = absurd (true≢false e)

abbrev pub is_tick : Item → Bool
is_tick Tick = true
is_tick _ = false

-- ---- what each action keeps, but at a tick

module _ (s : Setting) (solo : Solo) (item : Item) (other : is_tick item ≡ false) (clocked : IsClocked solo) where
  never : {A : Type 0} → item ≡ Tick → A
  never is = absurd (true≢false (sym (ap is_tick is) ∙ other))

  abbrev In : Stage → Clocks
  In Linked phase c p r n = IsSome c
  In Cleared phase c p r n = IsLinked phase c p r n
  In Asked phase c p r n = IsLinked phase c p r n
  In Told phase c p r n = IsBusy phase c p r n
  In Known phase c p r n = IsSome c
  In Serving phase c p r n = IsSome c × NoneRuns p r n
  In Keyed phase c p r n = IsLinked phase c p r n × (phase ≡ Registered → NoneRuns p r n)
  In (Moving q) phase c p r n = IsLinked phase c p r n × (phase ≡ q)
  In _ phase c p r n = IsClockedIn phase c p r n

  abbrev P : Stage → Draft → Type 0
  P at d = Holds (In at) d

  -- a connection that was found
  linked_so : (d : Draft) → d.solo.connection ≡ solo.connection → d.solo.reachable ≡ solo.reachable → IsSome solo.connection
      → IsLinked d.solo.phase d.solo.connection d.solo.procedure d.solo.repeat d.solo.reachable
  linked_so d same still linked = (
    ap (λ (o : Option Connection). is_some o) same ∙ linked,
    still ∙ unawaited solo.phase solo.connection solo.procedure solo.repeat solo.reachable clocked linked,
  )

  busy_linked : {d : Draft} → P Told d → IsLinked d.solo.phase d.solo.connection d.solo.procedure d.solo.repeat d.solo.reachable
  busy_linked {d} h =
      (h.holds.1, unawaited d.solo.phase d.solo.connection d.solo.procedure d.solo.repeat d.solo.reachable h.holds.0 h.holds.1)

  closes : (at : Stage) (d : Draft) → may_close at ≡ true → P at d → Clocked d
  closes Begun d may h = h
  closes Told d may h = record { holds = h.holds.0 }
  closes _ d may h = absurd (cc may)

  module _ (phase : Phase) (timer : NasTimer)
      (way : (c : Option Connection) (p : Option Countdown) (r : Option Repeat) (n : Option ℕ) → IsUnderWay timer c p r n
      → IsClockedIn phase c p r n) (pages_not : pages timer ≡ false) where
    -- the phase's timer may start
    to_start : {d : Draft} (header : SecurityHeader) (nas : List ℕ) → P (Moving phase) d
        → Holds (IsToStart timer (repeats.Nas (Under header) nas)) d
    to_start {d} header nas h = record {
      holds = subst
          (λ (q : Phase). IsToStart timer (repeats.Nas (Under header) nas) q d.solo.connection d.solo.procedure d.solo.repeat d.solo.reachable)
          (sym h.holds.1)
          (way d.solo.connection _ _ d.solo.reachable
          (h.holds.0.0, (refl, full timer, omega arith, omega arith, sym pages_not), h.holds.0.1));
    }

    awaits : {d : Draft} (header : SecurityHeader) (nas : List ℕ) → P (Moving phase) d
        → Whenever Clocked (protect_and_await timer header nas d)
    awaits header nas h = clocked_started timer _ (kept_protect header nas (to_start header nas h))

  linked_at : (at : Stage) (d : Draft) → TakesVector solo item at d.solo → P at d
      → IsLinked d.solo.phase d.solo.connection d.solo.procedure d.solo.repeat d.solo.reachable
  linked_at at d (ForAttach is next combined esm request has) h = (subst (λ (a : Stage). P a d) is h).holds
  linked_at at d (ForSynch nas is same phase on plain told) h =
      linked_so d (ap (λ (x : Solo). x.connection) same) (ap (λ (x : Solo). x.reachable) same) on.linked

  accepted_at : (at : Stage) (d : Draft) → MayAccept solo item at d → P at d
      → IsLinked d.solo.phase d.solo.connection d.solo.procedure d.solo.repeat d.solo.reachable
  accepted_at at d (WithKeys is) h = (subst (λ (a : Stage). P a d) is h).holds.0
  accepted_at at d (WithInformation x count octets is a later now came) h = busy_linked (subst (λ (a : Stage). P a d) is h)

  registers : (d e : Draft) → P Told d → e.solo.connection ≡ d.solo.connection → e.solo.reachable ≡ d.solo.reachable
      → P Told (serving.registered e)
  unfolding serving.registered ended
  registers d e h same still =
      let linked = busy_linked h in
      let there = ap (λ (o : Option Connection). is_some o) same ∙ linked.0 in
      record { holds = (at_rest e.solo.connection None None e.solo.reachable there (refl, refl, still ∙ linked.1), there) }

  keeps : Keeps s solo item P
  unfolding attaching.requesting attaching.asking attaching.challenged attaching.new_context attaching.took attaching.keyed attaching.activating attaching.given_tmsi serving.active serving.updating connected.switched connected.strike idle.paged ended
  keeps = record {
    sends = λ at nas d may to tells h. kept_send nas h;
    protects = λ at header nas d may tells h. kept_protect header nas h;
    commands = λ v r h. awaits SecurityMode T3460 (λ c p r n w. w) refl _ _ h;
    asks_information = λ d h. awaits EsmInformation T3489 (λ c p r n w. w) refl _ _ h;
    accepts_update = λ grant d same h. awaits Updating T3450 (λ c p r n w. w) refl _ _ h;
    tells_detach = λ d h. awaits Detaching T3422 (λ c p r n w. w) refl _ _ h;
    sets_up = λ x d has phase h. kept_set_up s _ None None (record {
      holds = subst (λ (q : Phase). IsClockedIn q d.solo.connection d.solo.procedure d.solo.repeat d.solo.reachable) (sym phase)
          (at_rest d.solo.connection d.solo.procedure d.solo.repeat d.solo.reachable h.holds.0.0 (h.holds.1 phase));
    });
    accepts_attach = λ x grant session d has same bearer h.
        clocked_started T3450 _ (kept_set_up_with s _ _ (to_start Accepting T3450 (λ c p r n w. w) refl _ _ h));
    closes = λ at d may left h. closes at d may h;
    forgets = λ at cause d may known h. clocked_release cause d;
    falls = λ at cause d may known h. clocked_fall cause d;
    loses = λ d h. clocked_lost d;
    drops = λ is none h. clocked_wipe (record { holds = none_of solo.connection none });
    spends = λ h. gone_spent IsClockedIn (refl, (refl, refl, refl)) solo;
    refuses = λ m nas is refuses h. kept_refuse s.slot m.station m.enb_ue_id nas h;
    turns_away = λ m is h. kept_turn_away s.slot m.station m.enb_ue_id h;
    emits = λ m message is may h. kept_emit m.station message None h;
    switches = λ m x w h.
        kept_emit m.station _ None (record {
          holds = moved (connected.connection_of m) solo.phase solo.connection solo.procedure solo.repeat solo.reachable h.holds
              (linked_by solo.connection (λ k. k.id == m.mme_ue_id) w.has);
        });
    connects = λ m is h. linked_connect s.slot m.station m.enb_ue_id (untouched solo);
    connects_on = λ id m is h. linked_connect_on id m.station m.enb_ue_id (untouched solo);
    clears = λ combined capability esm tai d asks h. record { holds = (linked_wipe h).holds };
    asks = λ combined capability esm tai d asks has h. record { holds = h.holds };
    challenges = λ at v d there takes h.
        let linked = linked_at at d takes h in
        clocked_start _ _ (kept_send _ (record { holds = (linked.0, (refl, full T3460, omega arith, omega arith, refl), linked.1) }));
    makes_context = λ v r h. record { holds = (linked_so (untouched solo) refl refl r.on.linked, refl) };
    takes = λ headers x count inner a h. record { holds = (h.holds, a.on.linked) };
    keys = λ x count inner phase a told h.
        record { holds = (linked_so (untouched solo) refl refl a.on.linked, λ is. absurd (cc (sym phase ∙ is))) };
    takes_on = λ m x count inner d is has a had h. record { holds = h.holds };
    serves = λ d registered phase h. record { holds = (h.holds, (refl, refl, refl)) };
    keys_on = λ x count octets d has phase had a h. record { holds = ((h.holds.0, h.holds.1.2), λ is. h.holds.1) };
    activates = λ at d may on h. record { holds = (accepted_at at d may h, refl) };
    waits = λ d h. record { holds = (h.holds.0, refl) };
    updates = λ at tai initial d may h. record { holds = ((may.linked, refl), refl) };
    attaches = λ esm d phase h. registers d _ h refl refl;
    updated = λ d phase h. registers d _ h refl refl;
    detaches = λ is registered linked h. record {
      holds = (
        elim linked [
          | inl there ↦ linked_so (untouched solo) refl refl there
          | inr updating ↦
              linked_so (untouched solo) refl refl
              (subst (λ (q : Phase). IsClockedIn q solo.connection solo.procedure solo.repeat solo.reachable) updating clocked).0
        ],
        refl,
      );
    };
    pages = λ stations is may h. clocked_start _ _ (kept_page s _ (record {
      holds = to_page _ solo.phase solo.connection solo.procedure solo.repeat solo.reachable may h.holds;
    }));
    strikes = λ station is h. record {
      holds = clocked_struck station solo.phase solo.connection solo.procedure solo.repeat solo.reachable h.holds;
    };
    lowers = λ is h. never is;
    restarts = λ c is h. never is;
    pages_again = λ c es is was h. never is;
    goes_on = λ d is h. never is;
    gives_up = λ is h. never is;
    fails = λ cause is known h. never is;
    passes = λ d is h. never is;
    times_out = λ n d is out h. never is;
  }

pub clocked_by : (s : Setting) (solo : Solo) (item : Item) → is_tick item ≡ false → IsClocked solo
    → Clocked (steps.solo_step s solo item)
clocked_by s solo item other h = step_keeps s solo item (keeps s solo item other h) (record { holds = h })
