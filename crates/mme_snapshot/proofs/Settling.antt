-- The last of a list of subscribers in another state.
use Rattle.std.proofs.Common.{◌≡◌, ◌≤◌, ℕ, List, [], ◌∷◌, ◌++◌, length, Some, refl, sym, ◌∙◌, ap, subst, arith}
use Rattle.std.specs.Prelude.{slice_get, slice_set}
use Rattle.std.proofs.lemmas.Option.{same_Some}
use Rattle.emm_state.specs.declared.solo.Solo.{Solo}
use Rattle.emm_state.specs.Taking.{IsOnward, vectors_spent}
use Rattle.emm_machine.specs.SubscriberView.{SubscriberView}
use Rattle.mme_owners.specs.SteppedView.{SteppedView}
use Rattle.mme_owners.specs.Subscribers.{in_state, IsOnwardAt, with_solo}

pub last_get : (ws : List SubscriberView) (x : SubscriberView) → slice_get (ws ++ x ∷ []) (length ws) ≡ Some x
last_get [] x = refl
last_get (w ∷ ws) x = last_get ws x

last_set : (ws : List SubscriberView) (x y : SubscriberView) → slice_set (ws ++ x ∷ []) (length ws) y ≡ ws ++ y ∷ []
last_set [] x y = refl
last_set (w ∷ ws) x y = ap (λ (vs : List SubscriberView). w ∷ vs) (last_set ws x y)

pub with_last : (ws : List SubscriberView) (x : SubscriberView) (s : Solo) → with_solo (length ws) s (ws ++ x ∷ []) ≡ ws ++ in_state s x ∷ []
with_last ws x s = rw (last_get ws x) (last_set ws x (in_state s x))

-- ---- the last one, once a state was prepared for it

module _ (ws vs : List SubscriberView) (x : SubscriberView) (y : SteppedView) (slot : ℕ) (s : Solo) where
  pub settled : vs ≡ ws ++ x ∷ [] → slot ≡ length ws → y ≡ record { slot = slot; solo = s }
      → with_solo y.slot y.solo vs ≡ ws ++ in_state s x ∷ []
  settled is at made =
      ap (λ (v : SteppedView). with_solo v.slot v.solo vs) made ∙ ap (λ n. with_solo n s vs) at ∙ ap (with_solo (length ws) s) is
      ∙ with_last ws x s

  pub onward : vs ≡ ws ++ x ∷ [] → slot ≡ length ws → y ≡ record { slot = slot; solo = s } → vectors_spent x.solo ≡ vectors_spent s
      → IsOnwardAt vs y
  onward is at made spent = λ w got.
      let there : slice_get vs y.slot ≡ Some x =
      ap (slice_get vs) (ap (λ (v : SteppedView). v.slot) made ∙ at) ∙ ap (λ v. slice_get v (length ws)) is ∙ last_get ws x in
      let last : x ≡ w = same_Some x w (sym there ∙ got) in
      let told = ap (λ (v : SteppedView). vectors_spent v.solo) made in
      let le : vectors_spent x.solo ≤ vectors_spent y.solo = omega (arith, spent, told) in
      subst (λ (v : SubscriberView). IsOnward v.solo y.solo) last le
