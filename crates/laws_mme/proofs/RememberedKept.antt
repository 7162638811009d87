-- What is remembered of an MME is as an MME always is.
use Rattle.std.proofs.Common.{◌≡◌, ℕ, zero, suc, ◌-◌, ◌<◌, ◌≤◌, List, [], ◌∷◌, map, Option, Some, refl, sym, ◌∙◌, ap, subst, arith}
use Rattle.std.specs.Prelude.{slice_get}
use Rattle.std.proofs.lemmas.Option.{same_Some}
use Rattle.eps_keys.specs.Hmac.{nas_integrity_key}
use Rattle.sorted_list.specs.Ordered.{Every}
use Rattle.identity_slots.specs.declared.profile.Profile.{Profile}
use Rattle.identity_slots.specs.declared.profile.Vector.{Vector}
use Rattle.identity_slots.specs.Ids.{slots}
use Rattle.mme_types.specs.declared.network.Network.{Network}
use Rattle.emm_state.specs.declared.setting.Setting.{Setting}
use Rattle.emm_state.specs.declared.solo.Context.{Context}
use Rattle.emm_state.specs.declared.solo.Phase.{Phase}
use Rattle.emm_state.specs.declared.solo.Phase.TheVariants.{Deregistered, Authenticating, SecurityMode, EsmInformation, Accepting, Updating, Registered, Detaching}
use Rattle.emm_state.specs.declared.solo.Solo.{Solo}
use Rattle.emm_state.specs.Taking.{next_place, vectors_spent}
use Rattle.emm_machine.specs.Freshness.{IsBelow, IsInUse}
use Rattle.emm_machine.specs.SubscriberView.{SubscriberView}
use Rattle.laws_subscriber.specs.Sound.{HasChallenge, HasContext, IsOfVector, IsSound}
use Rattle.mme_core.specs.FreshRuns.{AreInUse}
use Rattle.mme_core.specs.Kept.{HasNetwork, profile_of}
use Rattle.mme_core.specs.Remembered.{husk, husked, kasme_in, remembered_setting, remembered_view}
use Rattle.laws_mme.specs.Restarts.{RememberedStaysApart, RememberedStaysKept}
use Rattle.laws_mme.proofs.Husks.{get_past, get_within}
use Rattle.laws_mme.proofs.Remembering.{as_many}

-- ---- one subscriber

module _ (vs : List Vector) (context : Option Context) (k : ℕ) (below : IsBelow context k) where
  abbrev us : List Vector
  us = husked (husk (kasme_in context)) k vs

  of_husk : (x : Context) (v : Vector) → context ≡ Some x → IsOfVector vs x v → IsOfVector us x (husk (kasme_in context))
  of_husk x v is of =
      let lower : x.place < k = subst (λ (o : Option Context). IsBelow o k) is below in
      let own : kasme_in context ≡ x.kasme = ap kasme_in is in
      record {
        there = get_within (husk (kasme_in context)) k x.place vs v lower of.there;
        integrity = of.integrity ∙ ap nas_integrity_key (sym of.kasme ∙ sym own);
        kasme = sym own;
        ksi = of.ksi;
      }

  has : (phase : Phase) → HasContext phase vs context → HasContext phase us context
  has Deregistered h = h
  has Authenticating h = h
  has SecurityMode h = (h.0, husk (kasme_in context), h.2, of_husk h.0 h.1 h.2 h.3)
  has EsmInformation h = (h.0, husk (kasme_in context), h.2, of_husk h.0 h.1 h.2 h.3, h.4)
  has Accepting h = (h.0, husk (kasme_in context), h.2, of_husk h.0 h.1 h.2 h.3, h.4)
  has Updating h = (h.0, husk (kasme_in context), h.2, of_husk h.0 h.1 h.2 h.3, h.4)
  has Registered h = (h.0, husk (kasme_in context), h.2, of_husk h.0 h.1 h.2 h.3, h.4)
  has Detaching h = (h.0, husk (kasme_in context), h.2, of_husk h.0 h.1 h.2 h.3, h.4)

challenged : (h : Vector) (phase : Phase) (next : ℕ) (vs : List Vector) → HasChallenge phase vs next
    → HasChallenge phase (husked h (next_place phase next) vs) next
challenged h Authenticating next vs c =
    let last : next - 1 ≤ c.0 = let is = c.2 in omega (arith, is) in
    (c.0, c.1, c.2, get_past h (next - 1) c.0 vs last ∙ c.3)
challenged h Deregistered next vs c = tt
challenged h SecurityMode next vs c = tt
challenged h EsmInformation next vs c = tt
challenged h Accepting next vs c = tt
challenged h Updating next vs c = tt
challenged h Registered next vs c = tt
challenged h Detaching next vs c = tt

remembered_is_sound : (s : Setting) (solo : Solo) → IsInUse solo → IsSound s solo → IsSound (remembered_setting solo s) solo
remembered_is_sound s solo used h = record {
  context = has s.vectors solo.context (vectors_spent solo) used.0 solo.phase h.context;
  connection = h.connection;
  challenge = challenged (husk (kasme_in solo.context)) solo.phase solo.next_vector s.vectors h.challenge;
  reachable = h.reachable;
  repeat = h.repeat;
}

-- ---- all of them

all_in_use : (ws : List SubscriberView) → AreInUse ws → AreInUse (map remembered_view ws)
all_in_use [] h = tt
all_in_use (x ∷ ws) h = (h.0, remembered_is_sound x.setting x.solo h.0 h.1, h.2, all_in_use ws h.3)

same_profiles : (ws : List SubscriberView) → map profile_of (map remembered_view ws) ≡ map profile_of ws
same_profiles [] = refl
same_profiles (x ∷ ws) = ap (λ (ps : List Profile). x.setting.profile ∷ ps) (same_profiles ws)

same_networks : (n : Network) (ws : List SubscriberView) → Every (HasNetwork n) ws → Every (HasNetwork n) (map remembered_view ws)
same_networks n [] h = tt
same_networks n (x ∷ ws) h = (h.0, same_networks n ws h.1)

-- who stands at a place is remembered of who stood there
record IsOfBefore (ws : List SubscriberView) (slot : ℕ) (x : SubscriberView) : Type 0 where
  before : SubscriberView
  there : slice_get ws slot ≡ Some before
  is : remembered_view before ≡ x

of_before : (slot : ℕ) (ws : List SubscriberView) (x : SubscriberView) → slice_get (map remembered_view ws) slot ≡ Some x
    → IsOfBefore ws slot x
of_before slot [] x at = absurd (cc at)
of_before zero (w ∷ ws) x at = record { before = w; there = refl; is = same_Some (remembered_view w) x at }
of_before (suc slot) (w ∷ ws) x at =
    let before = of_before slot ws x at in record { before = before.before; there = before.there; is = before.is }

pub remembered_stays_kept : RememberedStaysKept
remembered_stays_kept w h = record {
  stations = h.stations;
  rising = h.rising;
  timed = h.timed;
  in_use = all_in_use w.subscribers h.in_use;
  provisioned = as_many w.subscribers ∙ h.provisioned;
  profiles = same_profiles w.subscribers ∙ h.profiles;
  networks = same_networks w.sight.config.network w.subscribers h.networks;
}

pub remembered_stays_apart : RememberedStaysApart
remembered_stays_apart w h = record {
  few = subst (λ n. n ≤ slots) (sym (as_many w.subscribers)) h.few;
  numbered = λ n x at.
      let of = of_before n w.subscribers x at in
      ap (λ (y : SubscriberView). y.setting.slot) (sym of.is) ∙ h.numbered n of.before of.there;
  rising = h.rising;
  waiting = h.waiting;
  apart = λ n x k at on.
      let of = of_before n w.subscribers x at in
      h.apart n of.before k of.there (ap (λ (y : SubscriberView). y.solo.connection) of.is ∙ on);
}
