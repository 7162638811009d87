-- In an MME each subscriber has its own slot, profile and M-TMSI, event by event.
use Rattle.std.proofs.Common.{◌≡◌, ℕ, zero, suc, ◌+◌, Bool, true, false, cond, List, [], ◌∷◌, Option, Some, None, refl, sym, ◌∙◌, ap, subst, arith}
use Rattle.std.specs.Prelude.{◌==◌, slice_get}
use Rattle.std.proofs.lemmas.Bool.{eq-eqb}
use Rattle.std.proofs.lemmas.Option.{same_Some}
use Rattle.nas_elements.specs.declared.identity.Guti.{Guti}
use Rattle.identity_slots.specs.declared.profile.Profile.{Profile}
use Rattle.identity_slots.specs.declared.profile.Vector.{Vector}
use Rattle.identity_slots.specs.Ids.{slot_in}
use Rattle.identity_slots.specs.Provisioned.{AreDistinct, Provisioned, address_key, address_number, place_from}
use Rattle.mme_types.specs.declared.network.Network.{Network}
use Rattle.mme_types.specs.Events.{Item}
use Rattle.emm_machine.specs.SubscriberView.{SubscriberView}
use Rattle.mme_core.specs.declared.config.Config.{Config}
use Rattle.mme_core.specs.declared.event.Event.{Event}
use Rattle.mme_core.specs.declared.event.StepFault.{StepFault}
use Rattle.mme_core.specs.World.{World, each_after, event_fault, fresh_subscribers, fresh_world, items_of, strangers_in, unless, world_after, world_moved, world_run}
use Rattle.laws_mme.specs.Addresses.{NoTwoHaveOneAddress}
use Rattle.laws_mme.specs.Tmsis.{IsNamed, NoTwoHaveOneGuti, NoTwoHaveOneTmsi}
use Rattle.laws_mme.proofs.Counters.{IsOfCounter, fresh_of_counter, own_slot, step_of_counter}

-- ---- each at its slot

record IsOfSlot (ps : List Profile) (slot : ℕ) (x : SubscriberView) : Type 0 where
  slot_is : x.setting.slot ≡ slot
  profile : slice_get ps slot ≡ Some x.setting.profile
  counter : IsOfCounter x.setting.slot x.solo

-- each of a list, whose first has this slot
abbrev EachAt : List Profile → ℕ → List SubscriberView → Type 0
EachAt ps n [] = Unit {0}
EachAt ps n (w ∷ ws) = IsOfSlot ps n w × EachAt ps (n + 1) ws

module _ (ps : List Profile) where
  found : (n : ℕ) (ws : List SubscriberView) (i : ℕ) (x : SubscriberView) → EachAt ps n ws → slice_get ws i ≡ Some x → IsOfSlot ps (n + i) x
  found n [] i x each at = absurd (cc at)
  found n (w ∷ ws) zero x each at =
      let here : n ≡ n + 0 = omega arith in
      subst (λ (m : ℕ). IsOfSlot ps m x) here (subst (IsOfSlot ps n) (same_Some w x at) each.0)
  found n (w ∷ ws) (suc i) x each at =
      let same : n + 1 + i ≡ n + suc i = omega arith in
      subst (λ (m : ℕ). IsOfSlot ps m x) same (found (n + 1) ws i x each.1 at)

  each_step : (items : ℕ → Item) (n : ℕ) (ws : List SubscriberView) → EachAt ps n ws → EachAt ps n (each_after items n ws)
  each_step items n [] each = tt
  each_step items n (w ∷ ws) each = (
    record {
      slot_is = each.0.slot_is;
      profile = each.0.profile;
      counter = step_of_counter w.setting w.solo (items n) each.0.counter;
    },
    each_step items (n + 1) ws each.1,
  )

  moved : (w : World) (event : Event) (o : Option StepFault) → EachAt ps 0 w.subscribers
      → EachAt ps 0 (unless o w (world_moved w event)).subscribers
  moved w event None each = each_step (items_of w.sight (strangers_in w) event) 0 w.subscribers each
  moved w event (Some fault) each = each

  along : (w : World) (events : List Event) → EachAt ps 0 w.subscribers → EachAt ps 0 (world_run w events).subscribers
  along w [] each = each
  along w (event ∷ events) each = along (world_after w event) events (moved w event (event_fault w.sight event) each)

  -- the profiles from a slot on
  abbrev AreFrom : ℕ → List Profile → Type 0
  AreFrom n rest = (i : ℕ) → slice_get ps (n + i) ≡ slice_get rest i

  from_next : (n : ℕ) (p : Profile) (rest : List Profile) → AreFrom n (p ∷ rest) → AreFrom (n + 1) rest
  from_next n p rest from i =
      let same : n + 1 + i ≡ n + suc i = omega arith in
      ap (slice_get ps) same ∙ from (suc i)

  fresh : (network : Network) (n : ℕ) (rest : List Profile) (vs : List (List Vector)) → AreFrom n rest
      → EachAt ps n (fresh_subscribers network n rest vs)
  fresh network n [] vs from = tt
  fresh network n (p ∷ rest) vs from =
      let here : n ≡ n + 0 = omega arith in (
        record { slot_is = refl; profile = ap (slice_get ps) here ∙ from 0; counter = fresh_of_counter n },
        fresh network (n + 1) rest vs (from_next n p rest from),
      )

all_at : (config : Config) (p : Provisioned) (events : List Event)
    → EachAt p.profiles 0 (world_run (fresh_world config p) events).subscribers
all_at config p events =
    along p.profiles (fresh_world config p) events
    (fresh p.profiles config.network 0 p.profiles p.vectors
    (λ i. let same : 0 + i ≡ i = omega arith in ap (slice_get p.profiles) same))

at_slot : (config : Config) (p : Provisioned) (events : List Event) (slot : ℕ) (x : SubscriberView)
    → slice_get (world_run (fresh_world config p) events).subscribers slot ≡ Some x → IsOfSlot p.profiles slot x
at_slot config p events slot x at =
    let same : 0 + slot ≡ slot = omega arith in
    subst (λ (n : ℕ). IsOfSlot p.profiles n x) same
    (found p.profiles 0 (world_run (fresh_world config p) events).subscribers slot x (all_at config p events) at)

-- ---- M-TMSIs

slot_of : (config : Config) (p : Provisioned) (events : List Event) (slot tmsi : ℕ)
    → IsNamed (world_run (fresh_world config p) events) slot tmsi → slot_in tmsi ≡ slot
slot_of config p events slot tmsi named =
    let here = at_slot config p events slot named.subscriber named.there in
    own_slot named.subscriber.setting.slot named.subscriber.solo tmsi here.counter named.named ∙ here.slot_is

pub no_two_have_one_tmsi : NoTwoHaveOneTmsi
no_two_have_one_tmsi config p events slot other tmsi one two =
    sym (slot_of config p events slot tmsi one) ∙ slot_of config p events other tmsi two

pub no_two_have_one_guti : NoTwoHaveOneGuti
no_two_have_one_guti config p events slot other tmsi second one two same =
    sym (slot_of config p events slot tmsi one) ∙ ap (λ (g : Guti). slot_in g.tmsi) same ∙ slot_of config p events other second two

-- ---- addresses

none_of : (b : Bool) (n : ℕ) (o : Option ℕ) → cond b (Some n) o ≡ None → (b ≡ false) × (o ≡ None)
none_of true n o is = absurd (cc is)
none_of false n o is = (refl, is)

not_there : (key : Profile → ℕ) (k n : ℕ) (ps : List Profile) (i : ℕ) (p : Profile) → place_from key k n ps ≡ None
    → slice_get ps i ≡ Some p → key p ≡ k → ⊥
not_there key k n [] i p none at same = absurd (cc at)
not_there key k n (q ∷ ps) zero p none at same =
    let here : key q ≡ k = ap key (same_Some q p at) ∙ same in
    let not : (key q == k) ≡ false = (none_of (key q == k) n (place_from key k (n + 1) ps) none).0 in
    absurd (let both = sym (eq-eqb (key q) k here) ∙ not in cc both)
not_there key k n (q ∷ ps) (suc i) p none at same =
    not_there key k (n + 1) ps i p (none_of (key q == k) n (place_from key k (n + 1) ps) none).1 at same

one_place : (key : Profile → ℕ) (ps : List Profile) (i j : ℕ) (a b : Profile) → AreDistinct key ps → slice_get ps i ≡ Some a
    → slice_get ps j ≡ Some b → key a ≡ key b → i ≡ j
one_place key [] i j a b distinct at also same = absurd (cc at)
one_place key (p ∷ ps) zero zero a b distinct at also same = refl
one_place key (p ∷ ps) zero (suc j) a b distinct at also same =
    absurd (not_there key (key p) 0 ps j b distinct.0 also (sym same ∙ ap key (sym (same_Some p a at))))
one_place key (p ∷ ps) (suc i) zero a b distinct at also same =
    absurd (not_there key (key p) 0 ps i a distinct.0 at (same ∙ ap key (sym (same_Some p b also))))
one_place key (p ∷ ps) (suc i) (suc j) a b distinct at also same = ap suc (one_place key ps i j a b distinct.1 at also same)

pub no_two_have_one_address : NoTwoHaveOneAddress
no_two_have_one_address config p events slot other address distinct one two =
    let here = at_slot config p events slot one.subscriber one.there in
    let there = at_slot config p events other two.subscriber two.there in
    one_place address_key p.profiles slot other one.subscriber.setting.profile two.subscriber.setting.profile distinct here.profile
    there.profile (ap address_number (one.addressed ∙ sym two.addressed))
