-- One act: what a slot is told, and its subscriber after it.
use Rattle.std.proofs.Common.{◌≡◌, ◌≢◌, ℕ, zero, suc, Bool, true, false, cond, List, [], ◌∷◌, ◌++◌, length, map, Option, Some, None, inl, inr, refl, sym, ◌∙◌, ap, subst, le_refl}
use Rattle.std.specs.Prelude.{◌==◌, option_map, slice_get}
use Rattle.std.specs.Option.{option_map_or}
use Rattle.std.proofs.lemmas.Bool.{cases_eq, eq-eqb, ne_eqb}
use Rattle.std.proofs.lemmas.Option.{slice_get_past}
use Rattle.sorted_list.specs.Ordered.{Rising}
use Rattle.identity_slots.specs.declared.profile.Profile.{Profile}
use Rattle.identity_slots.specs.declared.profile.Vector.{Vector}
use Rattle.identity_slots.specs.declared.provision.ProvisionFault.{ProvisionFault}
use Rattle.identity_slots.specs.declared.provision.ProvisionFault.TheVariants.{Full}
use Rattle.identity_slots.specs.Provisioned.{add_fault}
use Rattle.mme_types.specs.declared.network.Network.{Network}
use Rattle.mme_types.specs.Events.{Nothing}
use Rattle.emm_state.specs.declared.draft.Draft.{Draft}
use Rattle.emm_machine.specs.Given.{is_stocked, with_given}
use Rattle.emm_machine.specs.SubscriberView.{SubscriberView}
use Rattle.stranger_machine.specs.Table.{known_id}
use Rattle.mme_owners.specs.Changed.{changed_at}
use Rattle.mme_answering.specs.Laws.{at_nothing}
use Rattle.mme_core.specs.declared.event.Event.{Event}
use Rattle.mme_core.specs.Kept.{IsKept}
use Rattle.mme_core.specs.Laws.{GoesAlone, RepliesSo, told_if}
use Rattle.mme_core.specs.Projection.{answer_told, is_slot, item_for, told_in}
use Rattle.mme_core.specs.Provisioning.{fresh_subscriber, give_fault, world_added, world_given}
use Rattle.mme_core.specs.World.{World, reply, strangers_in, subscriber_after, world_after}
use Rattle.laws_mme.specs.Acts.{Act, Adds, Gives, Happens, act_after, act_reply, unless_refused}
use Rattle.laws_mme.specs.ActsAlone.{OwnAct, OwnItem, OwnProfile, OwnVector, own_act, own_after, own_sent}
use Rattle.laws_mme.proofs.ActsKept.{either_way}
use Rattle.laws_mme.proofs.Turns.{absent_after, absent_told, slot_after, slot_told}

either : {A : Type 0} (Q : A → Type 0) (b : Bool) (x y : A) → Q x → Q y → Q (cond b x y)
either Q true x y h k = h
either Q false x y h k = k

-- ---- what it is told

nothing_sent : (x : Option SubscriberView) → [] ≡ own_sent x (OwnItem Nothing)
nothing_sent None = refl
nothing_sent (Some x) = sym (ap (λ d. map answer_told d.sent) (at_nothing x.setting x.solo))

told_by_event : RepliesSo → (w : World) (event : Event) (slot : ℕ) (x : Option SubscriberView) → Rising known_id w.strangers
    → slice_get w.subscribers slot ≡ x
    → told_in (is_slot slot) (reply w event) ≡ told_if x (item_for slot w.sight (strangers_in w) event)
told_by_event so w event slot None r at = absent_told so w event slot r at
told_by_event so w event slot (Some x) r at = slot_told so w event slot x r at

pub slot_told_act : RepliesSo → (w : World) (act : Act) (slot : ℕ) → Rising known_id w.strangers
    → told_in (is_slot slot) (act_reply w act)
    ≡ own_sent (slice_get w.subscribers slot) (own_act slot w.sight (strangers_in w) act)
slot_told_act so w (Happens event) slot r = told_by_event so w event slot (slice_get w.subscribers slot) r refl
slot_told_act so w (Adds p) slot r =
    let x = slice_get w.subscribers slot in
    let own = cond (length w.sight.profiles == slot) (OwnProfile p) (OwnItem Nothing) in
    either_way (λ (a : OwnAct). [] ≡ own_sent x a) (add_fault p w.sight.profiles) (OwnItem Nothing) own (nothing_sent x)
    (λ is. either (λ (a : OwnAct). [] ≡ own_sent x a) (length w.sight.profiles == slot) (OwnProfile p) (OwnItem Nothing) refl
    (nothing_sent x))
slot_told_act so w (Gives n v) slot r =
    let x = slice_get w.subscribers slot in
    either (λ (a : OwnAct). [] ≡ own_sent x a) (n == slot) (OwnVector v) (OwnItem Nothing) refl (nothing_sent x)

-- ---- its subscriber after it

nothing_after : (n : Network) (slot : ℕ) (x : Option SubscriberView) → x ≡ own_after n slot x (OwnItem Nothing)
nothing_after n slot None = refl
nothing_after n slot (Some x) =
    ap (λ (d : Draft). Some (record { setting = x.setting; solo = d.solo })) (sym (at_nothing x.setting x.solo))

after_event : GoesAlone → (w : World) (event : Event) (slot : ℕ) (x : Option SubscriberView) → Rising known_id w.strangers
    → slice_get w.subscribers slot ≡ x
    → slice_get (world_after w event).subscribers slot
    ≡ option_map (λ y. subscriber_after y (item_for slot w.sight (strangers_in w) event)) x
after_event goes w event slot None r at = absent_after w event slot at
after_event goes w event slot (Some x) r at = slot_after goes w event slot x r at

slot_unless : (o : Option ProvisionFault) (w v : World) (slot : ℕ)
    → slice_get (unless_refused o w v).subscribers slot
    ≡ unless_refused o (slice_get w.subscribers slot) (slice_get v.subscribers slot)
slot_unless None w v slot = refl
slot_unless (Some fault) w v slot = refl

same_unless : {A : Type 0} (o : Option ProvisionFault) (x y : A) → y ≡ x → unless_refused o x y ≡ x
same_unless None x y h = h
same_unless (Some fault) x y h = refl

-- a vector

changed_there : {X : Type 0} (k : ℕ) (f : X → X) (xs : List X) → slice_get (changed_at k f xs) k ≡ option_map f (slice_get xs k)
changed_there k f [] = refl
changed_there zero f (x ∷ xs) = refl
changed_there (suc k) f (x ∷ xs) = changed_there k f xs

changed_elsewhere : {X : Type 0} (k n : ℕ) (f : X → X) (xs : List X) → k ≢ n → slice_get (changed_at k f xs) n ≡ slice_get xs n
changed_elsewhere k n f [] ne = refl
changed_elsewhere zero zero f (x ∷ xs) ne = absurd (ne refl)
changed_elsewhere zero (suc n) f (x ∷ xs) ne = refl
changed_elsewhere (suc k) zero f (x ∷ xs) ne = refl
changed_elsewhere (suc k) (suc n) f (x ∷ xs) ne = changed_elsewhere k n f xs (λ same. ne (ap suc same))

-- its machine refuses it where the MME does
by_stock : (b : Bool) (x y : SubscriberView)
    → unless_refused (cond b (Some Full) None) (Some x) (Some y) ≡ Some (cond b x y)
by_stock true x y = refl
by_stock false x y = refl

refuses : (v : Vector) (x : Option SubscriberView)
    → unless_refused (cond (option_map_or is_stocked x true) (Some Full) None) x (option_map (with_given v) x)
    ≡ option_map (λ y. cond (is_stocked y) y (with_given v y)) x
refuses v None = refl
refuses v (Some x) = by_stock (is_stocked x) x (with_given v x)

given_own : (w : World) (slot : ℕ) (v : Vector)
    → slice_get (act_after w (Gives slot v)).subscribers slot
    ≡ own_after w.sight.config.network slot (slice_get w.subscribers slot) (OwnVector v)
given_own w slot v =
    slot_unless (give_fault slot w) w (world_given slot v w) slot
    ∙ ap (λ (x : Option SubscriberView). unless_refused (give_fault slot w) (slice_get w.subscribers slot) x)
    (changed_there slot (with_given v) w.subscribers)
    ∙ refuses v (slice_get w.subscribers slot)

given_other : (w : World) (n slot : ℕ) (v : Vector) → n ≢ slot
    → slice_get (act_after w (Gives n v)).subscribers slot ≡ slice_get w.subscribers slot
given_other w n slot v ne =
    slot_unless (give_fault n w) w (world_given n v w) slot
    ∙ same_unless (give_fault n w) _ _ (changed_elsewhere n slot (with_given v) w.subscribers ne)

-- a profile

pushed_last : {X : Type 0} (xs : List X) (x : X) → slice_get (xs ++ x ∷ []) (length xs) ≡ Some x
pushed_last [] x = refl
pushed_last (y ∷ xs) x = pushed_last xs x

pushed_elsewhere : {X : Type 0} (xs : List X) (x : X) (n : ℕ) → length xs ≢ n → slice_get (xs ++ x ∷ []) n ≡ slice_get xs n
pushed_elsewhere [] x zero ne = absurd (ne refl)
pushed_elsewhere [] x (suc n) ne = refl
pushed_elsewhere (y ∷ xs) x zero ne = refl
pushed_elsewhere (y ∷ xs) x (suc n) ne = pushed_elsewhere xs x n (λ same. ne (ap suc same))

added_own : (n : Network) (ws : List SubscriberView) (slot : ℕ) (p : Profile) → length ws ≡ slot
    → slice_get (ws ++ fresh_subscriber n (length ws) p ∷ []) slot ≡ own_after n slot (slice_get ws slot) (OwnProfile p)
added_own n ws slot p is =
    subst (λ (k : ℕ). slice_get (ws ++ fresh_subscriber n (length ws) p ∷ []) k ≡ own_after n k (slice_get ws k) (OwnProfile p)) is
    (pushed_last ws (fresh_subscriber n (length ws) p)
    ∙ sym (ap (λ (x : Option SubscriberView). own_after n (length ws) x (OwnProfile p)) (slice_get_past ws (length ws) (le_refl (length ws)))))

added_act : (w : World) (slot : ℕ) (p : Profile) → IsKept w
    → slice_get (world_added p w).subscribers slot
    ≡ own_after w.sight.config.network slot (slice_get w.subscribers slot)
    (cond (length w.sight.profiles == slot) (OwnProfile p) (OwnItem Nothing))
added_act w slot p h =
    let n = w.sight.config.network in
    let ws = w.subscribers in
    elim (cases_eq (length w.sight.profiles) slot) [
      | inl is ↦ rw (eq-eqb (length w.sight.profiles) slot is) (added_own n ws slot p (h.provisioned ∙ is))
      | inr ne ↦
          rw (ne_eqb (length w.sight.profiles) slot ne)
          (pushed_elsewhere ws (fresh_subscriber n (length ws) p) slot (λ same. ne (sym h.provisioned ∙ same))
          ∙ nothing_after n slot (slice_get ws slot))
    ]

pub slot_act : GoesAlone → (w : World) (act : Act) (slot : ℕ) → IsKept w
    → slice_get (act_after w act).subscribers slot
    ≡ own_after w.sight.config.network slot (slice_get w.subscribers slot) (own_act slot w.sight (strangers_in w) act)
slot_act goes w (Happens event) slot h = after_event goes w event slot (slice_get w.subscribers slot) h.rising refl
slot_act goes w (Adds p) slot h =
    slot_added (add_fault p w.sight.profiles)
  where
    slot_added : (o : Option ProvisionFault)
        → slice_get (unless_refused o w (world_added p w)).subscribers slot
        ≡ own_after w.sight.config.network slot (slice_get w.subscribers slot)
        (unless_refused o (OwnItem Nothing) (cond (length w.sight.profiles == slot) (OwnProfile p) (OwnItem Nothing)))
    slot_added None = added_act w slot p h
    slot_added (Some fault) = nothing_after w.sight.config.network slot (slice_get w.subscribers slot)
slot_act goes w (Gives n v) slot h =
    let net = w.sight.config.network in
    elim (cases_eq n slot) [
      | inl is ↦
          rw (eq-eqb n slot is)
          (subst (λ (k : ℕ). slice_get (act_after w (Gives n v)).subscribers k ≡ own_after net k (slice_get w.subscribers k) (OwnVector v)) is
          (given_own w n v))
      | inr ne ↦ rw (ne_eqb n slot ne) (given_other w n slot v ne ∙ nothing_after net slot (slice_get w.subscribers slot))
    ]
