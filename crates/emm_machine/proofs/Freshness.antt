-- Each action keeps what is sent and accepted fresh.
use Rattle.std.proofs.Common.{◌≡◌, ℕ, ◌+◌, ◌-◌, ◌<◌, ◌≤◌, ◌⊎◌, inl, inr, Bool, true, false, cond, List, [], ◌∷◌, ◌++◌, Option, Some, None, option_to_list, refl, sym, subst, append-nil, le_refl, arith}
use Rattle.std.specs.Option.{option_map_or}
use Rattle.std.proofs.lemmas.Grind.{flat_map-append}
use Rattle.std.proofs.lemmas.Option.{same_Some}
use Rattle.nas_messages.specs.declared.protection.SecurityHeader.{SecurityHeader}
use Rattle.s1ap_causes.specs.declared.cause.Cause.{Cause}
use Rattle.s1ap_pdus.specs.declared.pdu.Pdu.{Pdu}
use Rattle.s1ap_pdus.specs.Pdus.{encoded}
use Rattle.emm_state.specs.declared.draft.Draft.{Draft}
use Rattle.emm_state.specs.declared.draft.Sealed.{Sealed}
use Rattle.mme_types.specs.declared.octets.Answer.{Answer}
use Rattle.mme_types.specs.declared.octets.Mark.{Mark}
use Rattle.emm_state.specs.declared.setting.Setting.{Setting}
use Rattle.emm_state.specs.declared.solo.Context.{Context}
use Rattle.emm_state.specs.declared.solo.Phase.{Phase}
use Rattle.emm_state.specs.declared.solo.Phase.TheVariants.{Authenticating, SecurityMode, Registered}
use Rattle.mme_types.specs.declared.connection.RadioKeys.{RadioKeys}
use Rattle.emm_state.specs.declared.solo.Repeat.{Repeat}
use Rattle.emm_state.specs.declared.solo.Solo.{Solo}
use Rattle.emm_state.specs.declared.solo.NasTimer.{NasTimer}
use Rattle.mme_types.specs.Answers.{answer_of}
use Rattle.emm_state.specs.Actions.{connect, connect_on, association_counted, disconnected, emit, ended, fall, fallen, leave_old, lost, protect, refuse, release, resting, seal, sealed_under, send, set_up, set_up_with, start, turn_away, wipe}
use Rattle.emm_uplink.specs.Attaching.{counted_up, keyed, took}
use Rattle.emm_state.specs.Does.{◌>>=◌}
use Rattle.emm_machine.specs.Freshness.{HasVector, IsAhead, IsBefore, IsBelow, IsInUse, IsOfContext, marks_of, next_down, next_place, next_up}
use Rattle.emm_machine.proofs.Runs.{IsRun, run_append, run_front, run_narrow, run_onward}

-- what holds of a step under way that began at a state in use, before a message is sent under the pair
pub record IsUsed (b : Solo) (d : Draft) (under : Option Mark) : Type 0 where
  pub in_use : IsInUse d.solo
  pub sent : IsRun IsBefore (IsAhead next_down b) (IsAhead next_down d.solo) (marks_of d.sent ++ option_to_list under)
  pub accepted : IsRun IsBefore (IsAhead next_up b) (IsAhead next_up d.solo) (option_to_list d.accepted)

-- a step under way: from any state it asks for no vector that was spent, and from one in use it keeps what is above
pub record IsReady (b : Solo) (d : Draft) (under : Option Mark) : Type 0 where
  pub onward : next_place b.phase b.next_vector ≤ next_place d.solo.phase d.solo.next_vector
  pub used : IsInUse b → IsUsed b d under

abbrev pub IsFresh : Solo → Draft → Type 0
IsFresh b d = IsReady b d None

-- the same where a count may be spent, and where a message has its protected form
pub record IsFreshIf (b : Solo) (o : Option Draft) : Type 0 where
  pub fresh : (d : Draft) → o ≡ Some d → IsFresh b d

pub record IsSealed (b : Solo) (o : Option (Sealed × Draft)) : Type 0 where
  pub ready : (s : Sealed × Draft) → o ≡ Some s → IsReady b s.1 s.0.under

-- ---- numbers and lists

pub floor_le : (phase : Phase) (next : ℕ) → next_place phase next ≤ next
floor_le Authenticating next = omega arith
floor_le _ next = le_refl next

below_le : (o : Option Context) (i j : ℕ) → i ≤ j → IsBelow o i → IsBelow o j
below_le None i j l h = tt
below_le (Some x) i j l h = omega arith

marks_more : (sends : List Answer) (a : Answer) → marks_of (sends ++ a ∷ []) ++ [] ≡ marks_of sends ++ option_to_list a.under
marks_more sends a = simp (append-nil, flat_map-append)

sent_more : (f t : Mark → Type 0) (sends : List Answer) (under : Option Mark) (station : ℕ) (o : Option (List ℕ))
    → IsRun IsBefore f t (marks_of sends ++ option_to_list under)
    → IsRun IsBefore f t (marks_of (sends ++ answer_of station under o) ++ [])
sent_more f t sends under station None h = simp append-nil (run_front IsBefore f t (marks_of sends) (option_to_list under) h)
sent_more f t sends under station (Some octets) h =
    subst (IsRun IsBefore f t) (sym (marks_more sends (record { station = station; octets = octets; under = under }))) h

-- ---- what a step consists of

-- what freshness is about
record Kept : Type 0 where
  phase : Phase
  next_vector : ℕ
  context : Option Context
  sent : List Answer
  accepted : Option Mark

abbrev kept : Draft → Kept
kept d = record { phase = d.solo.phase; next_vector = d.solo.next_vector; context = d.solo.context; sent = d.sent; accepted = d.accepted }

abbrev having : Draft → Option Context → Draft
having d o = record d { solo = record d.solo { context = o } }

abbrev pub in_phase : Phase → Draft → Draft
in_phase phase d = record d { solo = record d.solo { phase = phase } }

abbrev KeptUse : Kept → Type 0
KeptUse k = IsBelow k.context (next_place k.phase k.next_vector) × HasVector k.phase k.next_vector

abbrev KeptAhead : (Context → ℕ) → Kept → Mark → Type 0
KeptAhead next k m = IsOfContext next k.context m ⊎ (next_place k.phase k.next_vector ≤ m.place)

module _ {b : Solo} where
  -- what freshness is about stays
  pub quiet : {d e : Draft} {under : Option Mark} → IsReady b d under → kept e ≡ kept d → IsReady b e under
  quiet {d} {e} {under} h same = record {
    onward = subst (λ (k : Kept). next_place b.phase b.next_vector ≤ next_place k.phase k.next_vector) (sym same) h.onward;
    used = λ begun.
        let u = h.used begun in
        record {
          in_use = subst KeptUse (sym same) u.in_use;
          sent = subst (λ (k : Kept). IsRun IsBefore (IsAhead next_down b) (KeptAhead next_down k) (marks_of k.sent ++ option_to_list under)) (sym same) u.sent;
          accepted = subst (λ (k : Kept). IsRun IsBefore (IsAhead next_up b) (KeptAhead next_up k) (option_to_list k.accepted)) (sym same) u.accepted;
        };
  }

  -- nothing is sent or accepted, and what lies ahead lay ahead
  later : {d e : Draft} → IsFresh b d → e.sent ≡ d.sent → e.accepted ≡ d.accepted → (IsInUse d.solo → IsInUse e.solo)
      → next_place d.solo.phase d.solo.next_vector ≤ next_place e.solo.phase e.solo.next_vector
      → ((next : Context → ℕ) (m : Mark) → IsOfContext next e.solo.context m → IsAhead next d.solo m) → IsFresh b e
  later {d} {e} h same_sent same_accepted stays further less =
      let ahead : (next : Context → ℕ) (m : Mark) → IsAhead next e.solo m → IsAhead next d.solo m =
      λ next m a. elim a [ inl q ↦ less next m q | inr y ↦ inr (omega arith) ] in
      record {
        onward = omega arith;
        used = λ begun.
            let u = h.used begun in
            record {
              in_use = stays u.in_use;
              sent =
                  subst (λ (sends : List Answer). IsRun IsBefore (IsAhead next_down b) (IsAhead next_down e.solo) (marks_of sends ++ []))
                  (sym same_sent)
                  (run_narrow IsBefore (IsAhead next_down b) (IsAhead next_down d.solo) (IsAhead next_down e.solo) (marks_of d.sent ++ []) u.sent (ahead next_down));
              accepted =
                  subst (λ (o : Option Mark). IsRun IsBefore (IsAhead next_up b) (IsAhead next_up e.solo) (option_to_list o))
                  (sym same_accepted)
                  (run_narrow IsBefore (IsAhead next_up b) (IsAhead next_up d.solo) (IsAhead next_up e.solo) (option_to_list d.accepted) u.accepted (ahead next_up));
            };
      }

  pub fresh_wipe : {d : Draft} → IsFresh b d → IsFresh b (wipe d)
  unfolding wipe
  fresh_wipe {d} h = later h refl refl (λ u. (tt, tt)) (floor_le d.solo.phase d.solo.next_vector) (λ next m q. absurd q)

  -- in a phase without a challenge
  pub fresh_in : {d : Draft} (phase : Phase) → next_place phase d.solo.next_vector ≡ d.solo.next_vector
      → HasVector phase d.solo.next_vector
      → IsFresh b d → IsFresh b (in_phase phase d)
  fresh_in {d} phase next vector h =
      let low = floor_le d.solo.phase d.solo.next_vector in
      later h refl refl
      (λ u. (rw next (below_le d.solo.context (next_place d.solo.phase d.solo.next_vector) d.solo.next_vector low u.0), vector))
      (rw next low) (λ next m q. inl q)

  -- a vector is taken
  pub fresh_taking : {d : Draft} → IsFresh b d
      → IsFresh b (record d { solo = record d.solo { phase = Authenticating; next_vector = d.solo.next_vector + 1 } })
  fresh_taking {d} h =
      let low = floor_le d.solo.phase d.solo.next_vector in
      let place : d.solo.next_vector + 1 - 1 ≡ d.solo.next_vector = omega arith in
      later h refl refl
      (λ u. (rw place (below_le d.solo.context (next_place d.solo.phase d.solo.next_vector) d.solo.next_vector low u.0), omega arith))
      (rw place low) (λ next m q. inl q)

  -- the vector that was taken last becomes a context
  pub fresh_context : {d : Draft} (x : Context) → d.solo.phase ≡ Authenticating → x.place ≡ d.solo.next_vector - 1 → IsFresh b d
      → IsFresh b (in_phase SecurityMode (having d (Some x)))
  fresh_context {d} x is place h =
      later h refl refl (λ u. let taken : 0 < d.solo.next_vector = (rw is at u).1 in (omega arith, tt)) (rw is (omega arith))
      (λ next m q. let same : m.place ≡ x.place = q.0 in inr (rw is (omega arith)))

  -- ---- sending

  pub fresh_emit : {d : Draft} {under : Option Mark} (station : ℕ) (message : Pdu (List ℕ)) → IsReady b d under
      → IsFresh b (emit station message under d)
  unfolding emit
  fresh_emit {d} {under} station message h = record {
    onward = h.onward;
    used = λ begun.
        let u = h.used begun in
        record {
          in_use = u.in_use;
          sent = sent_more (IsAhead next_down b) (IsAhead next_down d.solo) d.sent under station (encoded message) u.sent;
          accepted = u.accepted;
        };
  }

  -- a pair may also be left out
  pub unsent : {d : Draft} {under : Option Mark} → IsReady b d under → IsFresh b d
  unsent {d} {under} h = record {
    onward = h.onward;
    used = λ begun.
        let u = h.used begun in
        record {
          in_use = u.in_use;
          sent = rw append-nil (run_front IsBefore (IsAhead next_down b) (IsAhead next_down d.solo) (marks_of d.sent) (option_to_list under) u.sent);
          accepted = u.accepted;
        };
  }

  -- the context's next downlink count is spent
  spend : (d : Draft) (x : Context) → IsFresh b (having d (Some x))
      → IsReady b (having d (Some (record x { security = record x.security { down_next = x.security.down_next + 1 } }))) (Some (record { place = x.place; count = x.security.down_next }))
  spend d x h =
      let e : Draft = having d (Some (record x { security = record x.security { down_next = x.security.down_next + 1 } })) in
      let k : Mark = record { place = x.place; count = x.security.down_next } in
      record {
        onward = h.onward;
        used = λ begun.
            let u = h.used begun in
            let below : x.place < next_place d.solo.phase d.solo.next_vector = u.in_use.0 in
            record {
              in_use = u.in_use;
              sent =
                  run_append IsBefore (IsAhead next_down b) (IsAhead next_down (having d (Some x)).solo) (IsAhead next_down e.solo)
                  (marks_of d.sent) (k ∷ [])
                  (rw append-nil at u.sent) (
                    inl (refl, le_refl x.security.down_next),
                    λ m a. elim a [
                      | inl q ↦ let up : x.security.down_next + 1 ≤ m.count = q.1 in (inl (q.0, omega arith), inr (sym q.0, omega arith))
                      | inr y ↦ (inr y, inl (omega arith))
                    ],
                  );
              accepted = u.accepted;
            };
      }

  -- an uplink count above the last one is accepted
  take : (d : Draft) (x : Context) (radio : RadioKeys) (count : ℕ) → next_up x ≤ count → IsFresh b (having d (Some x))
      → IsFresh b (took (record x { radio = radio; security = record x.security { up_last = Some count } }) count d)
  unfolding took
  take d x radio count high h = record {
    onward = h.onward;
    used = λ begun.
        let u = h.used begun in
        let from =
        run_onward IsBefore (IsAhead next_up b) (IsAhead next_up (having d (Some x)).solo) (option_to_list d.accepted) u.accepted in
        let below : x.place < next_place d.solo.phase d.solo.next_vector = u.in_use.0 in
        record {
          in_use = u.in_use;
          sent = u.sent;
          accepted = (
            from (record { place = x.place; count = count }) (inl (refl, high)),
            λ m a. elim a [
              | inl q ↦ let up : count + 1 ≤ m.count = q.1 in (from m (inl (q.0, omega arith)), inr (sym q.0, omega arith))
              | inr y ↦ (from m (inr y), inl (omega arith))
            ],
          );
        };
  }

  -- the context as it is known to be
  at_context : {d : Draft} {x : Context} → d.solo.context ≡ Some x → IsFresh b d → IsFresh b (having d (Some x))
  at_context {d} {x} is h = subst (λ (o : Option Context). IsFresh b (having d o)) is h

  pub fresh_took : {d : Draft} (x : Context) (count : ℕ) → d.solo.context ≡ Some x → next_up x ≤ count → IsFresh b d
      → IsFresh b (took (counted_up x count) count d)
  fresh_took {d} x count is high h = take d x x.radio count high (at_context is h)

  pub fresh_keyed : {d : Draft} (x : Context) (count : ℕ) → d.solo.context ≡ Some x → next_up x ≤ count → IsFresh b d
      → IsFresh b (keyed (counted_up x count) count d)
  unfolding keyed
  fresh_keyed {d} x count is high h = take d x _ count high (at_context is h)

  pub fresh_radio : {d : Draft} (x : Context) (radio : RadioKeys) → d.solo.context ≡ Some x → IsFresh b d
      → IsFresh b (having d (Some (record x { radio = radio })))
  fresh_radio {d} x radio is h =
      let f = at_context is h in
      record {
        onward = f.onward;
        used = λ begun. let u = f.used begun in record { in_use = u.in_use; sent = u.sent; accepted = u.accepted };
      }

  -- ---- choices

  pub either : {x y : Draft} (t : Bool) → IsFresh b x → IsFresh b y → IsFresh b (cond t x y)
  either true f g = f
  either false f g = g

  pub either_if : {x y : Option Draft} (t : Bool) → IsFreshIf b x → IsFreshIf b y → IsFreshIf b (cond t x y)
  either_if true f g = f
  either_if false f g = g

  pub at_some : {K : Type 0} {f : K → Draft} {d : Draft} (o : Option K) → ((k : K) → o ≡ Some k → IsFresh b (f k)) → IsFresh b d
      → IsFresh b (option_map_or f o d)
  at_some None each h = h
  at_some (Some k) each h = each k refl

  pub at_some_if : {K : Type 0} {f : K → Option Draft} {d : Option Draft} (o : Option K)
      → ((k : K) → o ≡ Some k → IsFreshIf b (f k)) → IsFreshIf b d
      → IsFreshIf b (option_map_or f o d)
  at_some_if None each h = h
  at_some_if (Some k) each h = each k refl

  pub some : {d : Draft} → IsFresh b d → IsFreshIf b (Some d)
  some {d} h = record { fresh = λ e is. subst (IsFresh b) (same_Some d e is) h }

  pub then : {o : Option Draft} {f : Draft → Draft} → IsFreshIf b o → ((d : Draft) → IsFresh b d → IsFresh b (f d))
      → IsFreshIf b (o >>= λ d. Some (f d))
  then {o = None} h each = record { fresh = λ e is. absurd (cc) }
  then {o = Some d} h each = some (each d (h.fresh d refl))

  sealed_then : {o : Option (Sealed × Draft)} {f : Sealed × Draft → Draft} → IsSealed b o
      → ((s : Sealed × Draft) → IsReady b s.1 s.0.under → IsFresh b (f s))
      → IsFreshIf b (o >>= λ s. Some (f s))
  sealed_then {o = None} h each = record { fresh = λ e is. absurd (cc) }
  sealed_then {o = Some s} h each = some (each s (h.ready s refl))

  some_sealed : (s : Sealed × Draft) → IsReady b s.1 s.0.under → IsSealed b (Some s)
  some_sealed s h = record { ready = λ t is. subst (λ (t : Sealed × Draft). IsReady b t.1 t.0.under) (same_Some s t is) h }

  sealed_if : {o : Option (Sealed × Draft)} (t : Bool) → IsSealed b o → IsSealed b (cond t o None)
  sealed_if true h = h
  sealed_if false h = record { ready = λ t is. absurd (cc) }

  -- ---- plain messages and the connection

  pub fresh_send : {d : Draft} (nas : List ℕ) → IsFresh b d → IsFresh b (send nas d)
  unfolding send
  fresh_send {d} nas h = at_some d.solo.connection (λ k _. fresh_emit k.station _ h) h

  fresh_disconnected : {d : Draft} → IsFresh b d → IsFresh b (disconnected d)
  unfolding disconnected
  fresh_disconnected h = quiet h refl

  pub fresh_release : {d : Draft} (cause : Cause) → IsFresh b d → IsFresh b (release cause d)
  unfolding release
  fresh_release {d} cause h = at_some d.solo.connection (λ k _. fresh_disconnected (fresh_emit k.station _ h)) h

  fresh_leave_old : {d : Draft} (station enb_ue_id : ℕ) → IsFresh b d → IsFresh b (leave_old station enb_ue_id d)
  unfolding leave_old
  fresh_leave_old {d} station enb_ue_id h = at_some d.solo.connection (λ k _. either _ h (fresh_emit k.station _ h)) h

  pub fresh_connect_on : {d : Draft} (id station enb_ue_id : ℕ) → IsFresh b d → IsFresh b (connect_on id station enb_ue_id d)
  unfolding connect_on
  fresh_connect_on id station enb_ue_id h = quiet (fresh_leave_old station enb_ue_id h) refl

  fresh_counted : {d : Draft} → IsFresh b d → IsFresh b (association_counted d)
  unfolding association_counted
  fresh_counted h = quiet h refl

  pub fresh_connect : {d : Draft} (slot station enb_ue_id : ℕ) → IsFresh b d → IsFresh b (connect slot station enb_ue_id d)
  unfolding connect
  fresh_connect slot station enb_ue_id h = fresh_connect_on _ station enb_ue_id (fresh_counted h)

  pub fresh_turn_away : {d : Draft} (slot station enb_ue_id : ℕ) → IsFresh b d → IsFresh b (turn_away slot station enb_ue_id d)
  unfolding turn_away
  fresh_turn_away slot station enb_ue_id h = fresh_emit station _ (fresh_counted h)

  pub fresh_refuse : {d : Draft} (slot station enb_ue_id : ℕ) (nas : List ℕ) → IsFresh b d
      → IsFresh b (refuse slot station enb_ue_id nas d)
  unfolding refuse
  fresh_refuse slot station enb_ue_id nas h = fresh_emit station _ (fresh_emit station _ (fresh_counted h))

  fresh_resting : {d : Draft} → IsFresh b d → IsFresh b (resting d)
  unfolding resting ended
  fresh_resting h = quiet (fresh_in Registered refl tt h) refl

  fresh_fallen : {d : Draft} → IsFresh b d → IsFresh b (fallen d)
  fresh_fallen h = either _ (fresh_resting h) (fresh_wipe h)

  pub fresh_fall : {d : Draft} (cause : Cause) → IsFresh b d → IsFresh b (fall cause d)
  unfolding fall
  fresh_fall cause h = fresh_fallen (fresh_release cause h)

  pub fresh_lost : {d : Draft} → IsFresh b d → IsFresh b (lost d)
  unfolding lost
  fresh_lost h = fresh_fallen (fresh_disconnected h)

  pub fresh_start : {d : Draft} (timer : NasTimer) (repeat : Repeat) → IsFresh b d → IsFresh b (start timer repeat d)
  unfolding start
  fresh_start timer repeat h = quiet h refl

  -- ---- protected messages

  sealed_at : (header : SecurityHeader) (nas : List ℕ) (d : Draft) (o : Option Context) → IsFresh b (having d o)
      → IsSealed b (option_map_or (sealed_under header nas (having d o)) o (Some (record { form = []; under = None }, having d o)))
  sealed_at header nas d None h = some_sealed (record { form = []; under = None }, having d None) h
  sealed_at header nas d (Some x) h = sealed_if _ (some_sealed _ (spend d x h))

  fresh_seal : {d : Draft} (header : SecurityHeader) (nas : List ℕ) → IsFresh b d → IsSealed b (seal header nas d)
  unfolding seal
  fresh_seal {d} header nas h = sealed_at header nas d d.solo.context h

  pub fresh_protect : {d : Draft} (header : SecurityHeader) (nas : List ℕ) → IsFresh b d → IsFreshIf b (protect header nas d)
  unfolding protect
  fresh_protect header nas h =
      sealed_then (fresh_seal header nas h) (λ s r. at_some s.1.solo.connection (λ k _. fresh_emit k.station _ r) (unsent r))

  pub fresh_set_up : {d : Draft} {under : Option Mark} (s : Setting) (kenb : List ℕ) (nas : Option (List ℕ)) → IsReady b d under
      → IsFresh b (set_up s kenb nas under d)
  unfolding set_up
  fresh_set_up {d} s kenb nas r = at_some d.solo.connection (λ k _. fresh_emit k.station _ r) (unsent r)

  pub fresh_set_up_with : {d : Draft} (s : Setting) (kenb nas : List ℕ) → IsFresh b d → IsFreshIf b (set_up_with s kenb nas d)
  unfolding set_up_with
  fresh_set_up_with s kenb nas h = sealed_then (fresh_seal _ nas h) (λ x r. fresh_set_up s kenb _ r)
