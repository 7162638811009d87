-- A subscriber's part, and what it says of the subscriber.
use Rattle.std.proofs.Common.{◌≡◌, ℕ, zero, suc, ◌+◌, ◌≤◌, List, [], ◌∷◌, ◌++◌, length, map, drop, replicate, Bool, true, Option, Some, refl, sym, ◌∙◌, ap, subst, arith}
use Rattle.std.specs.Prelude.{nat_le, slice_get}
use Rattle.std.specs.List.{list_all}
use Rattle.std.proofs.lemmas.Bool.Decides.{nat_tests}
use Rattle.std.proofs.lemmas.List.{length-drop, length-map}
use Rattle.std.proofs.lemmas.Option.{same_Some}
use Rattle.sorted_list.specs.Ordered.{Every}
use Rattle.per_streams.specs.Each.{SpellsEach}
use Rattle.per_bits.specs.Formats.{Value}
use Rattle.per_bits.specs.Spelling.{Spells, SpellsWhole}
use Rattle.nas_elements.specs.Digits.{imsi_octets, is_imsi}
use Rattle.nas_elements.specs.DigitLaws.{imsi_again}
use Rattle.identity_slots.specs.declared.profile.Vector.{Vector}
use Rattle.mme_types.specs.declared.network.Network.{Network}
use Rattle.emm_state.specs.declared.solo.Solo.{Solo}
use Rattle.emm_state.specs.Taking.{vectors_spent}
use Rattle.emm_machine.specs.SubscriberView.{SubscriberView}
use Rattle.laws_apart.specs.Apart.{IdsApart}
use Rattle.laws_subscriber.specs.Sound.{IsSound}
use Rattle.mme_core.specs.FreshRuns.{AreInUse}
use Rattle.mme_core.specs.Kept.{HasNetwork, IsKept}
use Rattle.mme_core.specs.Remembered.{husk, husked, kasme_in, remembered_vectors, remembered_view}
use Rattle.mme_core.specs.World.{World}
use Rattle.snapshot_formats.specs.Formats.{saved_state, saved_subscriber, saved_vector}
use Rattle.snapshot_states.specs.Fit.{fits, fits_vector, is_within}
use Rattle.snapshot_states.specs.Saving.{HasOwnKey}
use Rattle.snapshot_states.specs.SavingLaws.{sound_has_own_key}
use Rattle.snapshot_states.specs.States.{named_state, named_vector}
use Rattle.mme_snapshot.specs.Images.{fits_subscriber, is_placed, subscriber_of, vectors_of}
use Rattle.mme_snapshot.specs.Saved.{IsSubscriber, IsSubscriberAt, subscriber_from}
use Rattle.mme_snapshot.specs.Stored.{stored_subscriber, stored_vector}
use Rattle.mme_snapshot.specs.declared.part.Part.{Part}

-- ---- what holds of a slot's subscriber

sound_at : (ws : List SubscriberView) (slot : ℕ) (x : SubscriberView) → AreInUse ws → slice_get ws slot ≡ Some x
    → IsSound x.setting x.solo
sound_at [] slot x h at = absurd (cc at)
sound_at (y ∷ ws) zero x h at = subst (λ (z : SubscriberView). IsSound z.setting z.solo) (same_Some y x at) h.1
sound_at (y ∷ ws) (suc slot) x h at = sound_at ws slot x h.3 at

pub own_key : (ws : List SubscriberView) (slot : ℕ) (x : SubscriberView) → AreInUse ws → slice_get ws slot ≡ Some x
    → HasOwnKey x.solo.context
own_key ws slot x h at = sound_has_own_key x.setting x.solo (sound_at ws slot x h at)

network_at : (n : Network) (ws : List SubscriberView) (slot : ℕ) (x : SubscriberView) → Every (HasNetwork n) ws
    → slice_get ws slot ≡ Some x → x.setting.network ≡ n
network_at n [] slot x h at = absurd (cc at)
network_at n (y ∷ ws) zero x h at = subst (HasNetwork n) (same_Some y x at) h.0
network_at n (y ∷ ws) (suc slot) x h at = network_at n ws slot x h.1 at

-- ---- its vectors

same_vectors : (vs : List Vector) → map named_vector (map stored_vector vs) ≡ vs
same_vectors [] = refl
same_vectors (v ∷ vs) = ap (λ (us : List Vector). v ∷ us) (same_vectors vs)

husks : (h : Vector) (k : ℕ) (vs : List Vector) → k ≤ length vs → replicate k h ++ drop k vs ≡ husked h k vs
husks h zero vs le = refl
husks h (suc k) [] le = absurd (omega (arith, le))
husks h (suc k) (v ∷ vs) le = ap (λ (us : List Vector). h ∷ us) (husks h k vs (omega (arith, le)))

within : (least most : ℕ) (os : List ℕ) → least ≤ length os → length os ≤ most → is_within least most os ≡ true
within least most os some few =
    let a : nat_le least (length os) ≡ true = grind (arith, nat_tests) in
    let b : nat_le (length os) most ≡ true = grind (arith, nat_tests) in
    rw (a, b) refl

-- a vector that is spelled has an expected response of a length that it may have
vector_fits : (v : Value saved_vector) (at : ℕ) (bs : List Bool) → Spells saved_vector v at bs → fits_vector v ≡ true
vector_fits v at bs s =
    let n = s.4.4.4.3.3 in
    let low = n.0 in
    let high = n.1 in
    within 4 16 v.1.1.0 low (omega (arith, low, high))

vectors_fit : (vs : List (Value saved_vector)) (at : ℕ) (bs : List Bool) → SpellsEach (Spells saved_vector) vs at bs
    → list_all fits_vector vs ≡ true
vectors_fit [] at bs s = refl
vectors_fit (v ∷ vs) at bs s = rw (vector_fits v at s.0 s.3, vectors_fit vs (at + length s.0) s.1 s.4) refl

spelled_fits : (v : Value saved_subscriber) (os : List ℕ) → SpellsWhole saved_subscriber v os
    → list_all fits_vector v.1.1.1.1.1.0 ≡ true
spelled_fits v os s =
    let each = s.2.4.4.4.4.4.4.3 in
    vectors_fit v.1.1.1.1.1.0 _ each.1 each.4

-- ---- the part

module _ (w : World) (slot spent unspent : ℕ) (x : SubscriberView) (state : Value saved_state) (os : List ℕ) where
  abbrev stored : Value saved_subscriber
  stored = stored_subscriber x.setting spent state

  abbrev made : Network → ℕ → List Vector → Solo → SubscriberView
  made n k vs s = record { setting = record { network = n; slot = k; profile = x.setting.profile; vectors = vs }; solo = s }

  module _ (is : spent ≡ vectors_spent x.solo) (all : spent + unspent ≡ length x.setting.vectors)
      (same : named_state spent state ≡ x.solo) where
    remembered_so : vectors_of stored ≡ remembered_vectors x.solo x.setting.vectors
    remembered_so =
        ap (λ (us : List Vector). replicate spent (husk (kasme_in (named_state spent state).context)) ++ us)
        (same_vectors (drop spent x.setting.vectors))
        ∙ ap (λ (s : Solo). replicate spent (husk (kasme_in s.context)) ++ drop spent x.setting.vectors) same
        ∙ husks (husk (kasme_in x.solo.context)) spent x.setting.vectors (omega (arith, all))
        ∙ ap (λ n. husked (husk (kasme_in x.solo.context)) n x.setting.vectors) is

    whole : x.setting.network ≡ w.sight.config.network → x.setting.slot ≡ slot
        → subscriber_of w.sight.config.network slot x.setting.profile stored ≡ remembered_view x
    whole network numbered =
        ap (λ (n : Network). made n slot (vectors_of stored) (named_state spent state)) (sym network)
        ∙ ap (λ k. made x.setting.network k (vectors_of stored) (named_state spent state)) (sym numbered)
        ∙ ap (λ (vs : List Vector). made x.setting.network x.setting.slot vs (named_state spent state)) remembered_so
        ∙ ap (made x.setting.network x.setting.slot (remembered_vectors x.solo x.setting.vectors)) same

    many : length (map stored_vector (drop spent x.setting.vectors)) ≡ unspent
    many =
        length-map (drop spent x.setting.vectors) stored_vector
        ∙ (let d = length-drop spent x.setting.vectors in omega (arith, d, all))

    fit : fits spent unspent state ≡ true → SpellsWhole saved_subscriber stored os → fits_subscriber stored ≡ true
    fit fits_state spelled =
        let state_fits : fits spent (length (map stored_vector (drop spent x.setting.vectors))) state ≡ true =
        ap (λ n. fits spent n state) many ∙ fits_state in
        rw (spelled_fits stored os spelled, state_fits) refl

    pub subscriber_saved : slice_get w.subscribers slot ≡ Some x → IsKept w → IdsApart w.strangers w.subscribers
        → is_imsi x.setting.profile.imsi ≡ true → fits spent unspent state ≡ true
        → is_placed w.strangers slot x.solo.connection ≡ true → SpellsWhole saved_subscriber stored os → IsSubscriber w slot x os
    subscriber_saved at kept apart imsi fits_state placed spelled = record {
      stored = stored;
      imsi = imsi_again (imsi_octets x.setting.profile.imsi) x.setting.profile.imsi (refl, imsi);
      profile = refl;
      is = whole (network_at w.sight.config.network w.subscribers slot x kept.networks at) (apart.numbered slot x at);
      fits = fit fits_state spelled;
      placed = placed;
      spelled = spelled;
    }

pub subscriber_at : (w : World) (slot : ℕ) (x : SubscriberView) (os : List ℕ) (next : Option Part)
    → slice_get w.subscribers slot ≡ Some x → IsSubscriber w slot x os → next ≡ subscriber_from w (slot + 1)
    → IsSubscriberAt w slot (slice_get w.subscribers slot) os next
subscriber_at w slot x os next at one after = subst (λ o. IsSubscriberAt w slot o os next) (sym at) (one, after)
