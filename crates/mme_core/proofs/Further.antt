-- What always holds of an MME holds where it has a subscriber or a vector more.
use Rattle.std.proofs.Common.{◌≡◌, ◌≢◌, ◌⊎◌, ◌↔◌, inl, inr, ℕ, zero, suc, ◌+◌, ◌-◌, ◌<◌, ◌≤◌, List, [], ◌∷◌, ◌++◌, length, Bool, true, false, cond, Option, Some, None, Result, Ok, Err, refl, sym, ◌∙◌, ap, subst, arith}
use Rattle.std.specs.Prelude.{map, slice_get, get_or, nat_le, is_some, if◌then◌else◌, IfSome, OnErr, OnOk}
use Rattle.std.proofs.lemmas.Bool.Decides.{nat_tests}
use Rattle.std.proofs.lemmas.List.{get_or_push, length_push}
use Rattle.std.proofs.lemmas.Option.{same_Some}
use Rattle.identity_slots.specs.declared.profile.Profile.{Profile}
use Rattle.identity_slots.specs.declared.profile.Vector.{Vector}
use Rattle.identity_slots.specs.declared.provision.ProvisionFault.{ProvisionFault}
use Rattle.identity_slots.specs.declared.provision.ProvisionFault.TheVariants.{RepeatedImsi, RepeatedAddress, Full, NoMemory}
use Rattle.identity_slots.specs.Ids.{slots}
use Rattle.identity_slots.specs.Provisioned.{Provisioned, add_fault, slot_of_address, slot_of_imsi, vectors_at, with_profile}
use Rattle.mme_types.specs.declared.connection.Connection.{Connection}
use Rattle.mme_types.specs.declared.network.Network.{Network}
use Rattle.emm_state.specs.declared.setting.Setting.{Setting}
use Rattle.emm_state.specs.declared.solo.Context.{Context}
use Rattle.emm_state.specs.declared.solo.Phase.{Phase}
use Rattle.emm_state.specs.declared.solo.Phase.TheVariants.{Deregistered, Authenticating, SecurityMode, EsmInformation, Accepting, Updating, Registered, Detaching}
use Rattle.emm_state.specs.declared.solo.Solo.{Solo}
use Rattle.emm_machine.specs.Freshness.{IsInUse}
use Rattle.emm_machine.specs.Given.{giving, with_given}
use Rattle.emm_machine.specs.SubscriberView.{SubscriberView}
use Rattle.emm_machine.specs.Words.{fresh_solo}
use Rattle.stranger_machine.specs.declared.table.Known.{Known}
use Rattle.laws_subscriber.specs.Sound.{HasChallenge, HasContext, IsOfVector, IsSound}
use Rattle.laws_subscriber.specs.Clocked.{IsClocked}
use Rattle.mme_owners.specs.Given.{given_at, is_stocked_at, TakesOneVector}
use Rattle.mme_owners.specs.Owners.{OwnersView}
use Rattle.sorted_list.specs.Ordered.{Every}
use Rattle.mme_core.specs.Apart.{AddedStaysApart, AreApart, GivenStaysApart}
use Rattle.mme_core.specs.FreshRuns.{AreInUse}
use Rattle.mme_core.specs.Kept.{AddedStaysKept, GivenStaysKept, HasNetwork, IsKept, profile_of}
use Rattle.mme_core.specs.Provisioning.{give_fault, sight_added, world_added, world_given}
use Rattle.mme_core.specs.Sight.{Sight}
use Rattle.mme_core.specs.World.{World, never_seen, world_of}
use Rattle.mme_core.proofs.Taken.{IsMme}

-- ---- one subscriber with a vector more

found : (vs more : List Vector) (n : ℕ) (v : Vector) → slice_get vs n ≡ Some v → slice_get (vs ++ more) n ≡ Some v
found [] more n v at = absurd (cc at)
found (w ∷ vs) more zero v at = at
found (w ∷ vs) more (suc n) v at = found vs more n v at

of_longer : (vs more : List Vector) (x : Context) (v : Vector) → IsOfVector vs x v → IsOfVector (vs ++ more) x v
of_longer vs more x v of =
    record { there = found vs more x.place v of.there; integrity = of.integrity; kasme = of.kasme; ksi = of.ksi }

has_longer : (vs more : List Vector) (context : Option Context) (phase : Phase) → HasContext phase vs context
    → HasContext phase (vs ++ more) context
has_longer vs more context Deregistered h = h
has_longer vs more context Authenticating h = h
has_longer vs more context SecurityMode h = (h.0, h.1, h.2, of_longer vs more h.0 h.1 h.3)
has_longer vs more context EsmInformation h = (h.0, h.1, h.2, of_longer vs more h.0 h.1 h.3, h.4)
has_longer vs more context Accepting h = (h.0, h.1, h.2, of_longer vs more h.0 h.1 h.3, h.4)
has_longer vs more context Updating h = (h.0, h.1, h.2, of_longer vs more h.0 h.1 h.3, h.4)
has_longer vs more context Registered h = (h.0, h.1, h.2, of_longer vs more h.0 h.1 h.3, h.4)
has_longer vs more context Detaching h = (h.0, h.1, h.2, of_longer vs more h.0 h.1 h.3, h.4)

challenged_longer : (vs more : List Vector) (next : ℕ) (phase : Phase) → HasChallenge phase vs next
    → HasChallenge phase (vs ++ more) next
challenged_longer vs more next Authenticating h = (h.0, h.1, h.2, found vs more h.0 h.1 h.3)
challenged_longer vs more next Deregistered h = tt
challenged_longer vs more next SecurityMode h = tt
challenged_longer vs more next EsmInformation h = tt
challenged_longer vs more next Accepting h = tt
challenged_longer vs more next Updating h = tt
challenged_longer vs more next Registered h = tt
challenged_longer vs more next Detaching h = tt

sound_given : (v : Vector) (s : Setting) (solo : Solo) → IsSound s solo → IsSound (giving v s) solo
sound_given v s solo h = record {
  context = has_longer s.vectors (v ∷ []) solo.context solo.phase h.context;
  connection = h.connection;
  challenge = challenged_longer s.vectors (v ∷ []) solo.next_vector solo.phase h.challenge;
  reachable = h.reachable;
  repeat = h.repeat;
}

-- ---- all of them

in_use_given : (k : ℕ) (v : Vector) (ws : List SubscriberView) → AreInUse ws → AreInUse (given_at k v ws)
in_use_given k v [] h = tt
in_use_given zero v (x ∷ ws) h = (h.0, sound_given v x.setting x.solo h.1, h.2, h.3)
in_use_given (suc k) v (x ∷ ws) h = (h.0, h.1, h.2, in_use_given k v ws h.3)

as_many_given : (k : ℕ) (v : Vector) (ws : List SubscriberView) → length (given_at k v ws) ≡ length ws
as_many_given k v [] = refl
as_many_given zero v (x ∷ ws) = refl
as_many_given (suc k) v (x ∷ ws) = ap suc (as_many_given k v ws)

in_use_push : (ws : List SubscriberView) (x : SubscriberView) → IsInUse x.solo → IsSound x.setting x.solo → IsClocked x.solo
    → AreInUse ws → AreInUse (ws ++ x ∷ [])
in_use_push [] x used sound clocked h = (used, sound, clocked, tt)
in_use_push (w ∷ ws) x used sound clocked h = (h.0, h.1, h.2, in_use_push ws x used sound clocked h.3)

profiles_given : (k : ℕ) (v : Vector) (ws : List SubscriberView) → map profile_of (given_at k v ws) ≡ map profile_of ws
profiles_given k v [] = refl
profiles_given zero v (x ∷ ws) = refl
profiles_given (suc k) v (x ∷ ws) = ap (λ (ps : List Profile). x.setting.profile ∷ ps) (profiles_given k v ws)

networks_given : (n : Network) (k : ℕ) (v : Vector) (ws : List SubscriberView) → Every (HasNetwork n) ws
    → Every (HasNetwork n) (given_at k v ws)
networks_given n k v [] h = tt
networks_given n zero v (x ∷ ws) h = (h.0, h.1)
networks_given n (suc k) v (x ∷ ws) h = (h.0, networks_given n k v ws h.1)

profiles_push : (ws : List SubscriberView) (x : SubscriberView) → map profile_of (ws ++ x ∷ []) ≡ map profile_of ws ++ profile_of x ∷ []
profiles_push [] x = refl
profiles_push (w ∷ ws) x = ap (λ (ps : List Profile). w.setting.profile ∷ ps) (profiles_push ws x)

networks_push : (n : Network) (ws : List SubscriberView) (x : SubscriberView) → HasNetwork n x → Every (HasNetwork n) ws
    → Every (HasNetwork n) (ws ++ x ∷ [])
networks_push n [] x one h = (one, tt)
networks_push n (w ∷ ws) x one h = (h.0, networks_push n ws x one h.1)

-- who stands at a place stood there before, with another list of vectors at the most
record WasThere (ws : List SubscriberView) (slot : ℕ) (x : SubscriberView) : Type 0 where
  before : SubscriberView
  there : slice_get ws slot ≡ Some before
  own : x.setting.slot ≡ before.setting.slot
  state : x.solo ≡ before.solo

was_there : (v : Vector) (k slot : ℕ) (ws : List SubscriberView) (x : SubscriberView)
    → slice_get (given_at k v ws) slot ≡ Some x → WasThere ws slot x
was_there v k slot [] x at = absurd (cc at)
was_there v zero zero (w ∷ ws) x at =
    let now = same_Some (with_given v w) x at in
    record {
      before = w;
      there = refl;
      own = ap (λ (y : SubscriberView). y.setting.slot) (sym now);
      state = ap (λ (y : SubscriberView). y.solo) (sym now);
    }
was_there v zero (suc slot) (w ∷ ws) x at = record { before = x; there = at; own = refl; state = refl }
was_there v (suc k) zero (w ∷ ws) x at = record { before = x; there = at; own = refl; state = refl }
was_there v (suc k) (suc slot) (w ∷ ws) x at =
    let was = was_there v k slot ws x at in
    record { before = was.before; there = was.there; own = was.own; state = was.state }

-- or is the last one
pushed : (ws : List SubscriberView) (slot : ℕ) (y x : SubscriberView) → slice_get (ws ++ y ∷ []) slot ≡ Some x
    → (slice_get ws slot ≡ Some x) ⊎ ((slot ≡ length ws) × (x ≡ y))
pushed [] zero y x at = inr (refl, sym (same_Some y x at))
pushed [] (suc slot) y x at = absurd (cc at)
pushed (w ∷ ws) zero y x at = inl at
pushed (w ∷ ws) (suc slot) y x at = elim (pushed ws slot y x at) [
  | inl before ↦ inl before
  | inr last ↦ inr (ap suc last.0, last.1)
]

-- ---- the MME with a vector more

pub given_kept : GivenStaysKept
given_kept w slot v h = record {
  stations = h.stations;
  rising = h.rising;
  timed = h.timed;
  in_use = in_use_given slot v w.subscribers h.in_use;
  provisioned = as_many_given slot v w.subscribers ∙ h.provisioned;
  profiles = profiles_given slot v w.subscribers ∙ h.profiles;
  networks = networks_given w.sight.config.network slot v w.subscribers h.networks;
}

pub given_apart : GivenStaysApart
given_apart w slot v h = record {
  few = subst (λ n. n ≤ slots) (sym (as_many_given slot v w.subscribers)) h.few;
  numbered = λ n x at. let was = was_there v slot n w.subscribers x at in was.own ∙ h.numbered n was.before was.there;
  rising = h.rising;
  waiting = h.waiting;
  apart = λ n x k at on.
      let was = was_there v slot n w.subscribers x at in
      h.apart n was.before k was.there (ap (λ (s : Solo). s.connection) (sym was.state) ∙ on);
}

-- and with a subscriber more
pub added_kept : IsInUse fresh_solo → ((s : Setting) → IsSound s fresh_solo) → IsClocked fresh_solo → AddedStaysKept
added_kept used sound clocked w p h = record {
  stations = h.stations;
  rising = h.rising;
  timed = h.timed;
  in_use = in_use_push w.subscribers _ used (sound _) clocked h.in_use;
  provisioned = length_push w.subscribers _ ∙ ap (λ n. n + 1) h.provisioned ∙ sym (length_push w.sight.profiles p);
  profiles = profiles_push w.subscribers _ ∙ ap (λ (ps : List Profile). ps ++ p ∷ []) h.profiles;
  networks = networks_push w.sight.config.network w.subscribers _ refl h.networks;
}

pub added_apart : AddedStaysApart
added_apart w p room h = record {
  few = subst (λ n. n ≤ slots) (sym (length_push w.subscribers _)) (omega (arith, room));
  numbered = λ n x at. elim (pushed w.subscribers n _ x at) [
    | inl before ↦ h.numbered n x before
    | inr last ↦ ap (λ (y : SubscriberView). y.setting.slot) last.1 ∙ sym last.0
  ];
  rising = h.rising;
  waiting = h.waiting;
  apart = λ n x k at on. elim (pushed w.subscribers n _ x at) [
    | inl before ↦ h.apart n x k before on
    | inr last ↦ let none : x.solo.connection ≡ None = ap (λ (y : SubscriberView). y.solo.connection) last.1 in absurd (cc (none, on))
  ];
}

-- ---- whatever is answered

moved_mme : (t : Sight) (q : OwnersView) (w : World) → world_of t q ≡ w → q.clock ≤ t.clock → IsKept w → AreApart w → IsMme t q
moved_mme t q w is le kept apart = (le, subst IsKept (sym is) kept, subst AreApart (sym is) apart)

pub added_mme : {T E : Type 0} (answer : Result T E) (p : Profile) (s t : Sight) (o q : OwnersView) → IsInUse fresh_solo
    → ((x : Setting) → IsSound x fresh_solo) → IsClocked fresh_solo → OnOk answer (length o.subscribers < slots)
    → OnOk answer (world_of t q ≡ world_added p (world_of s o)) → q.clock ≡ o.clock
    → OnErr answer (world_of t q ≡ world_of s o) → IsMme s o → IsMme t q
added_mme (Ok x) p s t o q used sound clocked room added clock err h =
    let le = h.0 in
    let own = ap (λ (w : World). w.sight.clock) added in
    moved_mme t q (world_added p (world_of s o)) added (omega (arith, le, own, clock))
    (added_kept used sound clocked (world_of s o) p h.1) (added_apart (world_of s o) p room h.2)
added_mme (Err x) p s t o q used sound clocked room added clock err h =
    let le = h.0 in
    let own = ap (λ (w : World). w.sight.clock) err in
    moved_mme t q (world_of s o) err (omega (arith, le, own, clock)) h.1 h.2

-- the owners alone have changed
given_world : (slot : ℕ) (v : Vector) (s : Sight) (o q : OwnersView) → q ≡ record o { subscribers = q.subscribers }
    → q.subscribers ≡ given_at slot v o.subscribers → world_of s q ≡ world_given slot v (world_of s o)
given_world slot v s o q rest given =
    ap (λ (x : OwnersView). world_of s x) rest
    ∙ ap (λ (ws : List SubscriberView). record { sight = s; strangers = o.strangers; subscribers = ws }) given

same_world : (s : Sight) (o q : OwnersView) → q ≡ record o { subscribers = q.subscribers } → q.subscribers ≡ o.subscribers
    → world_of s q ≡ world_of s o
same_world s o q rest same =
    ap (λ (x : OwnersView). world_of s x) rest
    ∙ ap (λ (ws : List SubscriberView). record { sight = s; strangers = o.strangers; subscribers = ws }) same

pub given_on_ok : (answer : Result (Unit {0}) ProvisionFault) (slot : ℕ) (v : Vector) (s : Sight) (o q : OwnersView)
    → q ≡ record o { subscribers = q.subscribers } → TakesOneVector slot v o.subscribers answer q.subscribers
    → OnOk answer (world_of s q ≡ world_given slot v (world_of s o))
given_on_ok (Ok x) slot v s o q rest takes = given_world slot v s o q rest takes.given
given_on_ok (Err x) slot v s o q rest takes = tt

pub same_on_err : (answer : Result (Unit {0}) ProvisionFault) (slot : ℕ) (v : Vector) (s : Sight) (o q : OwnersView)
    → q ≡ record o { subscribers = q.subscribers } → TakesOneVector slot v o.subscribers answer q.subscribers
    → OnErr answer (world_of s q ≡ world_of s o)
same_on_err (Ok x) slot v s o q rest takes = tt
same_on_err (Err x) slot v s o q rest takes = same_world s o q rest takes.err

pub given_mme : (answer : Result (Unit {0}) ProvisionFault) (slot : ℕ) (v : Vector) (s : Sight) (o q : OwnersView)
    → q ≡ record o { subscribers = q.subscribers } → TakesOneVector slot v o.subscribers answer q.subscribers → IsMme s o
    → IsMme s q
given_mme (Ok x) slot v s o q rest takes h =
    let le = h.0 in
    let own = ap (λ (x : OwnersView). x.clock) rest in
    moved_mme s q (world_given slot v (world_of s o)) (given_world slot v s o q rest takes.given) (omega (arith, le, own))
    (given_kept (world_of s o) slot v h.1) (given_apart (world_of s o) slot v h.2)
given_mme (Err x) slot v s o q rest takes h =
    let le = h.0 in
    let own = ap (λ (x : OwnersView). x.clock) rest in
    moved_mme s q (world_of s o) (same_world s o q rest takes.err) (omega (arith, le, own)) h.1 h.2

full_by : (b : Bool) → cond b (Some Full) None ≡ Some Full → b ≡ true
full_by true h = refl
full_by false h = absurd (cc h)

full_if : (b : Bool) → b ≡ true → cond b (Some Full) None ≡ Some Full
full_if true h = refl
full_if false h = absurd (cc h)

pub full_is_fault : (answer : Result (Unit {0}) ProvisionFault) (slot : ℕ) (w : World)
    → ((answer ≡ Err Full) ↔ (is_stocked_at slot w.subscribers ≡ true)) → (answer ≡ Err Full) ↔ (give_fault slot w ≡ Some Full)
full_is_fault answer slot w full = (
  λ is. full_if (is_stocked_at slot w.subscribers) (full.0 is),
  λ fault. full.1 (full_by (is_stocked_at slot w.subscribers) fault),
)
