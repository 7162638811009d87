-- One subscriber's step: where it was placed it stays so, and what it sends goes to stations that are set up.
use Rattle.std.proofs.Common.{◌≡◌, ◌≢◌, ℕ, ◌+◌, ◌<◌, suc, Bool, true, false, cond, not, inl, inr, List, [], ◌∷◌, length, filter, All, AllPairs, Option, Some, None, refl, sym, ◌∙◌, ap, subst, arith}
use Rattle.std.specs.Prelude.{◌==◌, get_or}
use Rattle.std.proofs.lemmas.Bool.Decides.{nat_tests}
use Rattle.std.proofs.lemmas.List.Elements.{All-cons, All-filter, All-nil, All-weaker}
use Rattle.std.proofs.lemmas.List.Kept.{AllPairs-cons, AllPairs-filter}
use Rattle.std.proofs.lemmas.Option.{same_Some}
use Rattle.s1ap_elements.specs.declared.phone.Tai.{Tai}
use Rattle.mme_types.specs.declared.connection.Connection.{Connection}
use Rattle.mme_types.specs.declared.octets.Answer.{Answer}
use Rattle.mme_types.specs.declared.stations.StationState.{StationState}
use Rattle.mme_types.specs.declared.stations.StationState.TheVariants.{Down, Up, Ready}
use Rattle.mme_types.specs.Events.{Item, Initial, Claim, Message, StationGone, Data}
use Rattle.mme_types.specs.Stations.{station_at}
use Rattle.mme_signalling.specs.Pdus.{paging}
use Rattle.emm_state.specs.declared.draft.Draft.{Draft}
use Rattle.emm_state.specs.declared.setting.Setting.{Setting}
use Rattle.emm_state.specs.declared.solo.Repeat.{Repeat}
use Rattle.emm_state.specs.declared.solo.Repeat.TheVariants as repeats
use Rattle.emm_state.specs.declared.solo.Solo.{Solo}
use Rattle.emm_state.specs.Actions.{disconnected, ended, is_registered, lost, resting, untouched, wipe}
use Rattle.emm_machine.specs.Connected.{station_gone, strike, struck}
use Rattle.emm_machine.specs.Idle.{listening, listens}
use Rattle.emm_machine.specs.Steps.{row, solo_step}
use Rattle.laws_mme.specs.Holds.{IsHeld, KeepsState, MayConnect, MayPage, Says, Sends, step_holds}
use Rattle.laws_mme.specs.Premises.{station_of}
use Rattle.laws_subscriber.specs.Choices.{at_some, either_by}
use Rattle.laws_network.specs.Placed.{AreListening, IsAtReady, IsPagedThere, IsPlaced, IsReady, Listens, is_ready}
use Rattle.laws_network.specs.Spoken.{IsNotAt, PagesElsewhere}

-- ---- who listens

-- those who listen among the stations from number n on
record FromThere (stations : List StationState) (tai : Tai) (n : ℕ) (es : List ℕ) : Type 0 where
  all : All (Listens stations tai) es
  once : AllPairs ◌<◌ es
  above : All (λ e. n < e + 1) es

one_more : (stations : List StationState) (tai : Tai) (n : ℕ) (es : List ℕ) (b : Bool) → listens tai (station_at stations n) ≡ b
    → FromThere stations tai (n + 1) es → FromThere stations tai n (cond b (n ∷ es) es)
one_more stations tai n es true is h = record {
  all = All-cons (Listens stations tai) n es is h.all;
  once = AllPairs-cons ◌<◌ n es (All-weaker (λ e. n + 1 < e + 1) (λ e. n < e) (λ e lt. omega (arith, lt)) es h.above) h.once;
  above = All-cons (λ e. n < e + 1) n es (omega arith) (All-weaker (λ e. n + 1 < e + 1) (λ e. n < e + 1) (λ e lt. omega (arith, lt)) es h.above);
}
one_more stations tai n es false is h = record {
  all = h.all;
  once = h.once;
  above = All-weaker (λ e. n + 1 < e + 1) (λ e. n < e + 1) (λ e lt. omega (arith, lt)) es h.above;
}

-- the rest of the stations is theirs from number n on
abbrev IsRestFrom : List StationState → ℕ → List StationState → Type 0
IsRestFrom stations n rest = (i : ℕ) → i < length rest → station_at stations (n + i) ≡ get_or rest i Down

rest_of : (stations : List StationState) (n : ℕ) (state : StationState) (states : List StationState)
    → IsRestFrom stations n (state ∷ states) → IsRestFrom stations (n + 1) states
rest_of stations n state states is i lt =
    let next : n + 1 + i ≡ n + suc i = omega arith in
    ap (station_at stations) next ∙ is (suc i) (omega (arith, lt))

listening_from : (stations : List StationState) (tai : Tai) (n : ℕ) (states : List StationState) → IsRestFrom stations n states
    → FromThere stations tai n (listening tai n states)
listening_from stations tai n [] is =
    record { all = All-nil (Listens stations tai); once = λ i j d lt within. absurd (omega (arith, within)); above = All-nil (λ e. n < e + 1) }
listening_from stations tai n (state ∷ states) is =
    let here : n ≡ n + 0 = omega arith in
    let this : station_at stations n ≡ state = ap (station_at stations) here ∙ is 0 (omega arith) in
    one_more stations tai n (listening tai (n + 1) states) (listens tai state) (ap (listens tai) this)
    (listening_from stations tai (n + 1) states (rest_of stations n state states is))

pub are_listening : (stations : List StationState) (tai : Tai) → AreListening stations tai (listening tai 0 stations)
are_listening stations tai =
    let from = listening_from stations tai 0 stations (λ i lt. let same : 0 + i ≡ i = omega arith in ap (station_at stations) same) in
    record { all = from.all; once = from.once }

pub listens_ready : (tai : Tai) (state : StationState) → listens tai state ≡ true → is_ready state ≡ true
listens_ready tai Down is = absurd (cc is)
listens_ready tai Up is = absurd (cc is)
listens_ready tai (Ready tas) is = refl

-- ---- where an item comes from

-- from a station that is set up; data carries the stations, and the station is not gone
abbrev pub ComesFromReady : List StationState → Item → Type 0
ComesFromReady stations (Initial m) = IsReady stations m.station
ComesFromReady stations (Claim id m) = IsReady stations m.station
ComesFromReady stations (Message m) = IsReady stations m.station
ComesFromReady stations (Data now) = now ≡ stations
ComesFromReady stations (StationGone e) = ⊥
ComesFromReady stations _ = Unit {0}

from_ready : (stations : List StationState) (item : Item) (e : ℕ) → ComesFromReady stations item → station_of item ≡ Some e
    → IsReady stations e
from_ready stations (Initial m) e h is = subst (IsReady stations) (same_Some m.station e is) h
from_ready stations (Claim id m) e h is = subst (IsReady stations) (same_Some m.station e is) h
from_ready stations (Message m) e h is = subst (IsReady stations) (same_Some m.station e is) h
from_ready stations _ e h is = absurd (cc is)

data_of : (stations now : List StationState) (item : Item) → ComesFromReady stations item → item ≡ Data now → now ≡ stations
data_of stations now item h is = subst (ComesFromReady stations) is h

-- ---- a step

module _ (stations : List StationState) (s : Setting) (solo : Solo) (item : Item) (comes : ComesFromReady stations item) where
  at_ready : (x : Solo) (k : Connection) → IsPlaced stations x → x.connection ≡ Some k → IsReady stations k.station
  at_ready x k h at = subst (IsAtReady stations) at h.connected

  pub may_page : (x : Solo) (es : List ℕ) → MayPage solo x item es → IsPlaced stations x → AreListening stations x.tai es
  may_page x es may h = elim may [
    | inl first ↦
        let now : AreListening stations x.tai (listening x.tai 0 stations) = are_listening stations x.tai in
        let same : es ≡ listening x.tai 0 stations =
        first.2 ∙ ap (λ (y : Solo). listening y.tai 0 first.0) (sym first.3)
        ∙ ap (λ (ss : List StationState). listening x.tai 0 ss) (data_of stations first.0 item comes first.1) in
        subst (AreListening stations x.tai) (sym same) now
    | inr again ↦ subst (IsPagedThere stations x.tai) again.1.kept h.paged
  ]

  connects : (c : Option Connection) → MayConnect s item c → IsAtReady stations c
  connects None may = tt
  connects (Some k) may = from_ready stations item k.station comes may.station

  says_to_ready : Says s solo item (IsPlaced stations) (λ (a : Answer). IsReady stations a.station)
  says_to_ready = record {
    plain = λ nas x k may told h at octets is. at_ready x k h at;
    protected = λ header nas x k sealed may told h by at octets is. at_ready x k h at;
    setup = λ key x k h at octets is. at_ready x k h at;
    setup_with = λ key nas x k sealed told h by at octets is. at_ready x k h at;
    released = λ cause x k h at octets is. at_ready x k h at;
    refusal = λ m nas from told h octets is. from_ready stations item m.station comes (ap station_of from);
    turned = λ m from h octets is. from_ready stations item m.station comes (ap station_of from);
    indication = λ station message from may octets is. from_ready stations item station comes from;
    acknowledged = λ m c x from has h octets is. from_ready stations item m.station comes (ap station_of from);
    page = λ t es x may given h.
        All-weaker (Listens stations x.tai)
        (λ e. Sends (λ (a : Answer). IsReady stations a.station) e (paging s.network s.profile.imsi t x.tai) None)
        (λ e listens_to octets is. listens_ready x.tai (station_at stations e) listens_to) es (may_page x es may h).all;
  }

  pub keeps_placed : KeepsState s solo item (IsPlaced stations)
  keeps_placed = record {
    connection = λ c x may h. record { connected = connects c may; paged = h.paged };
    counted = λ n x h. record { connected = h.connected; paged = h.paged };
    context = λ c x h. record { connected = h.connected; paged = h.paged };
    counts = λ procedure reachable x h. record { connected = h.connected; paged = h.paged };
    wiped = λ x h. record { connected = h.connected; paged = tt };
    ended = λ x h. record { connected = h.connected; paged = tt };
    registers = λ reachable x h. record { connected = h.connected; paged = tt };
    updates = λ tai initial x from h. record { connected = h.connected; paged = tt };
    moves_on = λ phase x under h. record { connected = h.connected; paged = h.paged };
    tmsi = λ x on h. record { connected = h.connected; paged = h.paged };
    bears = λ bearer x may h. record { connected = h.connected; paged = h.paged };
    asks = λ combined capability tai x asked from phase repeat h.
        record { connected = h.connected; paged = subst (IsPagedThere stations tai) (sym repeat) tt };
    challenges = λ v procedure x there may h. record { connected = h.connected; paged = tt };
    secures = λ c phase h. record { connected = h.connected; paged = h.paged };
    awaits = λ header nas procedure c x may told h. record { connected = h.connected; paged = tt };
    pages = λ now procedure is may h. record {
      connected = h.connected;
      paged = subst (λ (ss : List StationState). AreListening stations solo.tai (listening solo.tai 0 ss))
          (sym (data_of stations now item comes is)) (are_listening stations solo.tai);
    };
    strikes = λ station x is h. absurd (subst (ComesFromReady stations) is comes);
  }

  pub step_placed : IsPlaced stations solo → IsHeld (IsPlaced stations) (λ (a : Answer). IsReady stations a.station) (solo_step s solo item)
  step_placed h = step_holds s solo item keeps_placed says_to_ready h

-- ---- a station is gone

-- nothing is sent, the connection and the paging are elsewhere, and what was placed is so
pub record IsGone (stations : List StationState) (e : ℕ) (before : Solo) (d : Draft) : Type 0 where
  pub silent : d.sent ≡ []
  pub connected : IsNotAt e d.solo.connection
  pub paged : PagesElsewhere e d.solo.repeat
  pub placed : IsPlaced stations before → IsPlaced stations d.solo

pub not_same : (n e : ℕ) → (n == e) ≡ false → n ≢ e
not_same n e is = grind (arith, nat_tests)

cons_if : (e n : ℕ) (es : List ℕ) (b : Bool) → (n == e) ≡ b → All (λ m. m ≢ e) es → All (λ m. m ≢ e) (cond (not b) (n ∷ es) es)
cons_if e n es true is h = h
cons_if e n es false is h = All-cons (λ m. m ≢ e) n es (not_same n e is) h

struck_away : (e : ℕ) (es : List ℕ) → All (λ n. n ≢ e) (filter (λ n. not (n == e)) es)
struck_away e [] = All-nil (λ n. n ≢ e)
struck_away e (n ∷ es) = cons_if e n (filter (λ m. not (m == e)) es) (n == e) refl (struck_away e es)

struck_elsewhere : (e : ℕ) (repeat : Option Repeat) → PagesElsewhere e (struck e repeat)
struck_elsewhere e None = tt
struck_elsewhere e (Some (repeats.Nas protection nas)) = tt
struck_elsewhere e (Some (repeats.Paging es)) = struck_away e es

struck_placed : (stations : List StationState) (tai : Tai) (e : ℕ) (repeat : Option Repeat) → IsPagedThere stations tai repeat
    → IsPagedThere stations tai (struck e repeat)
struck_placed stations tai e None h = tt
struck_placed stations tai e (Some (repeats.Nas protection nas)) h = tt
struck_placed stations tai e (Some (repeats.Paging es)) h = record {
  all = All-filter (λ n. not (n == e)) (Listens stations tai) es h.all;
  once = AllPairs-filter ◌<◌ (λ n. not (n == e)) es h.once;
}

-- the connection is gone, whatever the phase
lost_so : (stations : List StationState) (e : ℕ) (before : Solo) (d : Draft) → d.sent ≡ [] → IsGone stations e before (lost d)
unfolding lost disconnected resting ended wipe
lost_so stations e before d silent =
    either_by (IsGone stations e before) (is_registered d.solo.phase)
    (λ is. record { silent = silent; connected = tt; paged = tt; placed = λ h. record { connected = tt; paged = tt } })
    (λ is. record { silent = silent; connected = tt; paged = tt; placed = λ h. record { connected = tt; paged = tt } })

gone_row : (stations : List StationState) (e : ℕ) (solo : Solo) → IsGone stations e solo (station_gone e (untouched solo))
unfolding station_gone strike
gone_row stations e solo =
    at_some (IsGone stations e solo) solo.connection
    (λ k is. either_by (IsGone stations e solo) (k.station == e) (λ here. lost_so stations e solo _ refl)
    (λ other. record {
      silent = refl;
      connected = subst (IsNotAt e) (sym is) (not_same k.station e other);
      paged = struck_elsewhere e solo.repeat;
      placed = λ h. record { connected = h.connected; paged = struck_placed stations solo.tai e solo.repeat h.paged };
    }))
    (λ is. record {
      silent = refl;
      connected = subst (IsNotAt e) (sym is) tt;
      paged = struck_elsewhere e solo.repeat;
      placed = λ h. record { connected = h.connected; paged = struck_placed stations solo.tai e solo.repeat h.paged };
    })

pub step_gone : (stations : List StationState) (s : Setting) (solo : Solo) (e : ℕ)
    → IsGone stations e solo (solo_step s solo (StationGone e))
unfolding solo_step row
step_gone stations s solo e = gone_row stations e solo
