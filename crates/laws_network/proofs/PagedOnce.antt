-- What is sent where data waits and at a tick goes to each station once; and who is asked the first time.
use Rattle.std.proofs.Common.{◌≡◌, ◌≤◌, ℕ, zero, suc, ◌+◌, ◌<◌, true, List, [], ◌∷◌, ◌++◌, length, All, AllPairs, Contains, Option, Some, None, unwrap_or, refl, sym, ◌∙◌, subst, append-nil, true≢false, arith}
use Rattle.std.specs.Prelude.{get_or}
use Rattle.std.proofs.lemmas.List.Elements.{All-head, All-nil, All-push, All-tail, All-weaker}
use Rattle.std.proofs.lemmas.List.Quantifiers.{all_pairs_push}
use Rattle.std.proofs.lemmas.Option.{same_Some}
use Rattle.s1ap_causes.specs.declared.cause.Cause.{Cause}
use Rattle.s1ap_elements.specs.declared.phone.Tai.{Tai}
use Rattle.s1ap_pdus.specs.declared.pdu.Pdu.{Pdu}
use Rattle.s1ap_pdus.specs.Pdus.{encoded}
use Rattle.mme_types.specs.declared.octets.Answer.{Answer}
use Rattle.mme_types.specs.declared.octets.Mark.{Mark}
use Rattle.mme_types.specs.declared.stations.StationState.{StationState}
use Rattle.mme_types.specs.Answers.{answer_of}
use Rattle.mme_types.specs.Events.{Data, Tick}
use Rattle.mme_types.specs.Stations.{station_at}
use Rattle.emm_state.specs.declared.draft.Draft.{Draft}
use Rattle.emm_state.specs.declared.setting.Setting.{Setting}
use Rattle.emm_state.specs.declared.solo.Countdown.{Countdown}
use Rattle.emm_state.specs.declared.solo.NasTimer.{NasTimer}
use Rattle.emm_state.specs.declared.solo.NasTimer.TheVariants.{T3413, T3422, T3450, T3460, T3489}
use Rattle.emm_state.specs.declared.solo.Repeat.{Repeat}
use Rattle.emm_state.specs.declared.solo.Repeat.TheVariants as repeats
use Rattle.emm_state.specs.declared.solo.Solo.{Solo}
use Rattle.emm_state.specs.Actions.{disconnected, emit, ended, fall, is_registered, release, resting, start, untouched, wipe}
use Rattle.emm_machine.specs.Idle as idle
use Rattle.emm_machine.specs.Idle.{emit_each, listening, listens, may_page, page}
use Rattle.emm_machine.specs.Steps.{row, solo_step, spent}
use Rattle.laws_subscriber.specs.Choices.{Whenever, at_some, either, either_by, some, then}
use Rattle.laws_network.proofs.PlacedSteps.{are_listening}
use Rattle.laws_network.specs.Paged.{AllWhoListen, GoesBefore}

-- ---- few messages

-- what is sent goes to rising stations
record IsOnce (d : Draft) : Type 0 where
  at : AllPairs GoesBefore d.sent

pub short_once : (sent : List Answer) → length sent ≤ 1 → AllPairs GoesBefore sent
short_once sent short i j d lt within = absurd (omega (arith, short, lt, within))

none_once : AllPairs GoesBefore []
none_once = short_once [] (omega arith)

answer_once : (station : ℕ) (under : Option Mark) (o : Option (List ℕ)) → AllPairs GoesBefore (answer_of station under o)
answer_once station under None = none_once
answer_once station under (Some octets) = short_once (record { station = station; octets = octets; under = under } ∷ []) (omega arith)

module _ (d : Draft) (silent : d.sent ≡ []) where
  still_once : IsOnce d
  still_once = record { at = subst (AllPairs GoesBefore) (sym silent) none_once }

  emit_once : (station : ℕ) (message : Pdu (List ℕ)) (under : Option Mark) → IsOnce (emit station message under d)
  unfolding emit
  emit_once station message under = record {
    at = subst (λ (sent : List Answer). AllPairs GoesBefore (sent ++ answer_of station under (encoded message))) (sym silent)
        (answer_once station under (encoded message));
  }

  release_once : (cause : Cause) → IsOnce (release cause d)
  unfolding release disconnected
  release_once cause =
      at_some IsOnce d.solo.connection (λ k is. let one = emit_once k.station _ None in record { at = one.at }) (λ is. still_once)

  fall_once : (cause : Cause) → IsOnce (fall cause d)
  unfolding fall resting ended wipe
  fall_once cause =
      let released = release_once cause in
      either IsOnce (is_registered (release cause d).solo.phase) (record { at = released.at }) (record { at = released.at })

wipe_once : (d : Draft) → IsOnce d → IsOnce (wipe d)
unfolding wipe
wipe_once d h = record { at = h.at }

-- ---- PAGING to each station

head_below : (e : ℕ) (es : List ℕ) → AllPairs ◌<◌ (e ∷ es) → All (λ n. e < n) es
head_below e es rising k d lt = rising zero (suc k) d (omega arith) (omega (arith, lt))

rest_rising : (e : ℕ) (es : List ℕ) → AllPairs ◌<◌ (e ∷ es) → AllPairs ◌<◌ es
rest_rising e es rising i j d lt within = rising (suc i) (suc j) d (omega (arith, lt)) (omega (arith, within))

-- all that was sent went to stations below these
abbrev AreBelow : List ℕ → List Answer → Type 0
AreBelow es sent = All (λ (a : Answer). All (λ n. a.station < n) es) sent

added_once : (e : ℕ) (es : List ℕ) (sent : List Answer) (o : Option (List ℕ)) → AllPairs GoesBefore sent → AreBelow (e ∷ es) sent
    → AllPairs GoesBefore (sent ++ answer_of e None o)
added_once e es sent None once below = subst (AllPairs GoesBefore) (sym (append-nil sent)) once
added_once e es sent (Some octets) once below =
    all_pairs_push GoesBefore sent _ once
    (λ k d lt. All-head (λ n. (get_or sent k d).station < n) e es (below k d lt))

added_below : (e : ℕ) (es : List ℕ) (sent : List Answer) (o : Option (List ℕ)) → All (λ n. e < n) es → AreBelow (e ∷ es) sent
    → AreBelow es (sent ++ answer_of e None o)
added_below e es sent None first below =
    subst (AreBelow es) (sym (append-nil sent))
    (All-weaker (λ (a : Answer). All (λ n. a.station < n) (e ∷ es)) (λ (a : Answer). All (λ n. a.station < n) es)
    (λ a. All-tail (λ n. a.station < n) e es) sent below)
added_below e es sent (Some octets) first below =
    All-push (λ (a : Answer). All (λ n. a.station < n) es) sent _
    (All-weaker (λ (a : Answer). All (λ n. a.station < n) (e ∷ es)) (λ (a : Answer). All (λ n. a.station < n) es)
    (λ a. All-tail (λ n. a.station < n) e es) sent below) first

each_once : (message : Pdu (List ℕ)) (es : List ℕ) (d : Draft) → AllPairs ◌<◌ es → IsOnce d → AreBelow es d.sent
    → IsOnce (emit_each message es d)
unfolding emit
each_once message [] d rising once below = once
each_once message (e ∷ es) d rising once below =
    each_once message es (emit e message None d) (rest_rising e es rising)
    (record { at = added_once e es d.sent (encoded message) once.at below })
    (added_below e es d.sent (encoded message) (head_below e es rising) below)

page_once : (s : Setting) (es : List ℕ) (d : Draft) → d.sent ≡ [] → AllPairs ◌<◌ es → IsOnce (page s es d)
unfolding page
page_once s es d silent rising =
    at_some IsOnce d.solo.tmsi
    (λ t is. each_once _ es d rising (still_once d silent) (subst (AreBelow es) (sym silent) (All-nil (λ (a : Answer). All (λ n. a.station < n) es))))
    (λ is. still_once d silent)

-- ---- data waits

data_page : (s : Setting) (solo : Solo) (stations : List StationState) → IsOnce (solo_step s solo (Data stations))
unfolding solo_step row idle.data_waits idle.paged start
data_page s solo stations =
    let paged = page_once s (listening solo.tai 0 stations) (untouched solo) refl (are_listening stations solo.tai).once in
    either IsOnce (may_page (untouched solo)) (record { at = paged.at }) (record { at = none_once })

pub data_once : (s : Setting) (solo : Solo) (stations : List StationState) → AllPairs GoesBefore (solo_step s solo (Data stations)).sent
data_once s solo stations = (data_page s solo stations).at

-- ---- a tick of a phone that is paged

or_else : (o : Option Draft) (d : Draft) → Whenever IsOnce o → IsOnce d → IsOnce (unwrap_or o d)
or_else None d w h = h
or_else (Some e) d w h = w.at e refl

module _ (s : Setting) (solo : Solo) (es : List ℕ) (was : solo.repeat ≡ Some (repeats.Paging es)) (rising : AllPairs ◌<◌ es) where
  given_up_once : (timer : NasTimer) → IsOnce (idle.given_up timer (idle.lowered (untouched solo)))
  unfolding idle.given_up idle.lowered ended
  given_up_once T3413 = record { at = none_once }
  given_up_once T3422 = fall_once _ refl _
  given_up_once T3450 = fall_once _ refl _
  given_up_once T3460 = fall_once _ refl _
  given_up_once T3489 = fall_once _ refl _

  pages_again : (c : Countdown) → Whenever IsOnce (idle.again (repeats.Paging es) s (idle.restarted c (idle.lowered (untouched solo))))
  unfolding idle.again idle.restarted idle.lowered
  pages_again c = some (page_once s es _ refl rising)

  expired_once : (c : Countdown) → Whenever IsOnce (idle.expired c s (idle.lowered (untouched solo)))
  unfolding idle.expired idle.lowered
  expired_once c =
      either (Whenever IsOnce) _ (some (given_up_once c.timer))
      (at_some (Whenever IsOnce) solo.repeat
      (λ r is. subst (λ (t : Repeat). Whenever IsOnce (idle.again t s (idle.restarted c (idle.lowered (untouched solo)))))
      (same_Some (repeats.Paging es) r (sym was ∙ is)) (pages_again c))
      (λ is. some (record { at = none_once })))

  tick_row : Whenever IsOnce (idle.tick s (untouched solo))
  unfolding idle.tick idle.procedure_ticks idle.reachable_ticks_out idle.lowered
  tick_row =
      let low : IsOnce (idle.lowered (untouched solo)) = record { at = none_once } in
      then _
      (at_some (Whenever IsOnce) (idle.lowered (untouched solo)).solo.procedure
      (λ c is. either (Whenever IsOnce) _ (expired_once c) (some low)) (λ is. some low))
      (λ e f. at_some IsOnce e.solo.reachable (λ n is. either IsOnce _ (wipe_once e f) f) (λ is. f))

  tick_page : IsOnce (solo_step s solo Tick)
  unfolding solo_step row
  tick_page = or_else (idle.tick s (untouched solo)) (spent solo) tick_row (wipe_once _ (fall_once (untouched solo) refl _))

  pub tick_once : AllPairs GoesBefore (solo_step s solo Tick).sent
  tick_once = tick_page.at

-- ---- who is asked the first time

there_too : (n m : ℕ) (xs : List ℕ) → Contains xs m → Contains (n ∷ xs) m
there_too n m xs h = let less = h.1 in (suc h.0, omega (arith, less), h.2)

listening_has : (tai : Tai) (n : ℕ) (states : List StationState) (i : ℕ) → listens tai (station_at states i) ≡ true
    → Contains (listening tai n states) (n + i)
listening_has tai n [] i is = absurd (cc is)
listening_has tai n (state ∷ states) zero is =
    let here : n ≡ n + 0 = omega arith in
    either_by (λ (es : List ℕ). Contains es (n + 0)) (listens tai state) (λ yes. (0, omega arith, here))
    (λ no. absurd (true≢false (sym is ∙ no)))
listening_has tai n (state ∷ states) (suc i) is =
    let same : n + 1 + i ≡ n + suc i = omega arith in
    let rest : Contains (listening tai (n + 1) states) (n + suc i) =
    subst (Contains (listening tai (n + 1) states)) same (listening_has tai (n + 1) states i is) in
    either (λ (es : List ℕ). Contains es (n + suc i)) (listens tai state) (there_too n (n + suc i) (listening tai (n + 1) states) rest) rest

repeats_to_all : (s : Setting) (solo : Solo) (stations : List StationState) → may_page (untouched solo) ≡ true
    → (solo_step s solo (Data stations)).solo.repeat ≡ Some (repeats.Paging (listening solo.tai 0 stations))
unfolding solo_step row idle.data_waits idle.paged start
repeats_to_all s solo stations may =
    either_by (λ (d : Draft). d.solo.repeat ≡ Some (repeats.Paging (listening solo.tai 0 stations))) (may_page (untouched solo))
    (λ yes. refl) (λ no. absurd (true≢false (sym may ∙ no)))

pub all_who_listen : AllWhoListen
all_who_listen s solo stations may = record {
  asked = listening solo.tai 0 stations;
  again = repeats_to_all s solo stations may;
  all = λ station is.
      let same : 0 + station ≡ station = omega arith in
      subst (Contains (listening solo.tai 0 stations)) same (listening_has solo.tai 0 stations station is);
}
