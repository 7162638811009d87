-- Event by event the ids of an MME stay apart; and what follows.
use Rattle.std.proofs.Common.{◌≡◌, ◌≤◌, ◌<◌, ℕ, zero, suc, ◌+◌, ◌/◌, ◌^◌, inl, inr, List, [], ◌∷◌, length, Option, Some, None, refl, sym, ◌∙◌, ap, subst, arith}
use Rattle.std.specs.Prelude.{slice_get}
use Rattle.std.proofs.lemmas.Option.{none-some, same_Some}
use Rattle.sorted_list.specs.Ordered.{Rising}
use Rattle.identity_slots.specs.declared.profile.Profile.{Profile}
use Rattle.identity_slots.specs.Ids.{slots}
use Rattle.mme_types.specs.declared.connection.Connection.{Connection}
use Rattle.mme_types.specs.Events.{Item}
use Rattle.emm_state.specs.declared.setting.Setting.{Setting}
use Rattle.emm_state.specs.declared.solo.Solo.{Solo}
use Rattle.emm_machine.specs.SubscriberView.{SubscriberView}
use Rattle.stranger_machine.specs.declared.state.Stranger.{Stranger}
use Rattle.stranger_machine.specs.declared.state.Stranger.TheVariants.{Waiting, Held}
use Rattle.stranger_machine.specs.declared.table.Known.{Known}
use Rattle.stranger_machine.specs.Machine.{Begins as BeginsInput, Receives, stranger_step}
use Rattle.stranger_machine.specs.Table.{known_id, stranger_at}
use Rattle.stranger_machine.specs.Laws as laws
use Rattle.mme_owners.specs.Subscribers.{each_after, subscriber_after}
use Rattle.mme_routing.specs.Destinations.{Destination, input_for, item_at, strangers_left}
use Rattle.mme_routing.specs.Destinations as to
use Rattle.laws_apart.specs.Alone.{IsMadeIf, IsOwn, WaitsMade}
use Rattle.laws_apart.specs.Apart.{BeginsApart, Has, IdsApart, IsApart, NoTwoShare, NoneHasWaiting, StaysApart, by_id}
use Rattle.laws_subscriber.specs.Comes.{ComesSo, ConnectionsComeSo}
use Rattle.laws_apart.specs.Goes.{GoesMade}
use Rattle.laws_apart.proofs.Alone.{begun_made, moved_made, own_low, stranger_high}
use Rattle.laws_apart.proofs.Turning.{claimed_held, stays_held, waits_stay_made}

-- ---- each stranger goes as its own machine, and the ids rise

turned : (ps : List Profile) (id : ℕ) (d : Destination) (ks : List Known) → Rising known_id ks
    → stranger_at id (strangers_left ps d ks) ≡ (stranger_step ps id (stranger_at id ks) (input_for d id)).stranger
turned ps id (to.Beginner n m) ks h = laws.one_turned ps id n (BeginsInput m) ks h
turned ps id (to.Stranger m) ks h = laws.one_turned ps id m.mme_ue_id (Receives m) ks h
turned ps id (to.Everyone notice) ks h = laws.all_turned ps id notice ks h
turned ps id _ ks h = sym (ap (λ t. t.stranger) (laws.at_nothing ps id (stranger_at id ks)))

rising_next : (ps : List Profile) (d : Destination) (ks : List Known) → Rising known_id ks
    → Rising known_id (strangers_left ps d ks)
rising_next ps (to.Beginner id m) ks h = laws.rising_input ps id (BeginsInput m) ks h
rising_next ps (to.Stranger m) ks h = laws.rising_input ps m.mme_ue_id (Receives m) ks h
rising_next ps (to.Everyone notice) ks h = laws.rising_noted notice ks h
rising_next ps _ ks h = h

-- ---- each subscriber takes its own item

each_at : (items : ℕ → Item) (n : ℕ) (ws : List SubscriberView) (i m : ℕ) (y : SubscriberView) → n + i ≡ m
    → slice_get (each_after items n ws) i ≡ Some y
    → (x : SubscriberView) × (slice_get ws i ≡ Some x) × (subscriber_after x (items m) ≡ y)
each_at items n [] i m y same at = absurd (cc at)
each_at items n (w ∷ ws) zero m y same at =
    let now : n ≡ m = omega (arith, same) in
    (w, refl, ap (λ (k : ℕ). subscriber_after w (items k)) (sym now) ∙ same_Some (subscriber_after w (items n)) y at)
each_at items n (w ∷ ws) (suc i) m y same at = each_at items (n + 1) ws i m y (omega (arith, same)) at

each_many : (items : ℕ → Item) (n : ℕ) (ws : List SubscriberView) → length (each_after items n ws) ≡ length ws
each_many items n [] = refl
each_many items n (w ∷ ws) = ap suc (each_many items (n + 1) ws)

-- ---- the connection of a slot after an event

made_before : (strangers : ℕ → Option Stranger) (slot : ℕ) (o : Option Connection)
    → ((k : Connection) → o ≡ Some k → IsApart strangers slot k) → IsMadeIf slot o
made_before strangers slot None each = tt
made_before strangers slot (Some k) each = elim (each k refl) [
  | inl own ↦ inl own
  | inr held ↦ inr held.0
]

comes_apart : (d : Destination) (ps : List Profile) (g h : ℕ → Option Stranger) (slot : ℕ) (s : Setting) (solo : Solo) (k : Connection)
    → ((id : ℕ) → h id ≡ (stranger_step ps id (g id) (input_for d id)).stranger) → GoesMade d → ((id : ℕ) → WaitsMade id (g id))
    → s.slot ≡ slot
    → ((old : Connection) → solo.connection ≡ Some old → IsApart g slot old) → ComesSo s solo (item_at d ps g slot) (Some k)
    → IsApart h slot k
comes_apart d ps g h slot s solo k each goes waiting same before comes = elim comes [
  | inl stays ↦ elim (before k stays.0) [
    | inl own ↦ inl own
    | inr held ↦ inr (held.0, each k.id ∙ stays_held d ps g slot k held.0 held.1 stays.1)
  ]
  | inr others ↦ elim others [
    | inl begins ↦ inl (subst (λ (n : ℕ). IsOwn n k.id) same (begun_made s solo (item_at d ps g slot) k begins))
    | inr rest ↦ elim rest [
      | inl claimed ↦
          let held = claimed_held d ps g slot k goes waiting claimed in
          inr (held.0, each k.id ∙ held.1)
      | inr moves ↦ inl (moved_made slot solo.connection (item_at d ps g slot) k moves (made_before g slot solo.connection before))
    ]
  ]
]

-- ---- an event

pub stays_apart : ConnectionsComeSo → StaysApart
stays_apart come ps d ks ws goes h =
    let items = item_at d ps (by_id ks) in
    let each = λ (id : ℕ). turned ps id d ks h.rising in
    record {
      few = subst (λ (n : ℕ). n ≤ slots) (sym (each_many items 0 ws)) h.few;
      numbered = λ slot y at.
          let x = each_at items 0 ws slot slot y (omega arith) at in
          ap (λ (v : SubscriberView). v.setting.slot) (sym x.2) ∙ h.numbered slot x.0 x.1;
      rising = rising_next ps d ks h.rising;
      waiting = λ id. subst (WaitsMade id) (sym (each id)) (waits_stay_made ps d id (stranger_at id ks) goes (h.waiting id));
      apart = λ slot y k at is.
          let x = each_at items 0 ws slot slot y (omega arith) at in
          let comes : ComesSo x.0.setting x.0.solo (items slot) (Some k) =
          subst (ComesSo x.0.setting x.0.solo (items slot)) (ap (λ (v : SubscriberView). v.solo.connection) x.2 ∙ is)
          (come x.0.setting x.0.solo (items slot)) in
          comes_apart d ps (by_id ks) (by_id (strangers_left ps d ks)) slot x.0.setting x.0.solo k each goes h.waiting
          (h.numbered slot x.0 x.1)
          (λ old before. h.apart slot x.0 old x.1 before) comes;
    }

-- ---- the beginning

pub begins_apart : BeginsApart
begins_apart ws few numbered away = record {
  few = few;
  numbered = numbered;
  rising = tt;
  waiting = λ id. tt;
  apart = λ slot x k at is. absurd (none-some k (sym (away slot x at) ∙ is));
}

-- ---- what follows

within : (ws : List SubscriberView) (slot : ℕ) (x : SubscriberView) → slice_get ws slot ≡ Some x → slot < length ws
within [] slot x at = absurd (cc at)
within (w ∷ ws) zero x at = omega arith
within (w ∷ ws) (suc slot) x at = let less = within ws slot x at in omega (arith, less)

apart_of : (ks : List Known) (ws : List SubscriberView) (slot : ℕ) (k : Connection) → IdsApart ks ws → Has ws slot k
    → (slot < slots) × IsApart (by_id ks) slot k
apart_of ks ws slot k h has =
    let less = within ws slot has.subscriber has.there in
    let few = h.few in
    (omega (arith, less, few), h.apart slot has.subscriber k has.there has.connected)

-- the holder of an id
holder_of : Stranger → ℕ
holder_of (Held slot) = slot
holder_of (Waiting k left repeats) = 0

one_holder : (o : Option Stranger) (slot other : ℕ) → o ≡ Some (Held slot) → o ≡ Some (Held other) → slot ≡ other
unfolding holder_of
one_holder o slot other a b = ap holder_of (same_Some (Held slot) (Held other) (sym a ∙ b))

pub no_two_share : NoTwoShare
no_two_share ks ws slot other k l h has had same =
    let a = apart_of ks ws slot k h has in
    let b = apart_of ks ws other l h had in
    elim a.1 [
      | inl own ↦ elim b.1 [
        | inl owned ↦ sym own ∙ (ap (λ (id : ℕ). id / 2 ^ 16) same ∙ owned)
        | inr held ↦ absurd (stranger_high l held.0 (subst (λ (id : ℕ). id < 2 ^ 31) same (own_low slot k.id a.0 own)))
      ]
      | inr held ↦ elim b.1 [
        | inl owned ↦ absurd (stranger_high k held.0 (subst (λ (id : ℕ). id < 2 ^ 31) (sym same) (own_low other l.id b.0 owned)))
        | inr holds ↦ one_holder (stranger_at k.id ks) slot other held.1 (ap (by_id ks) same ∙ holds.1)
      ]
    ]

pub none_has_waiting : NoneHasWaiting
none_has_waiting ks ws slot k kept left repeats h has waits =
    let a = apart_of ks ws slot k h has in
    elim a.1 [
      | inl own ↦
          let made : WaitsMade k.id (Some (Waiting kept left repeats)) = subst (WaitsMade k.id) waits (h.waiting k.id) in
          stranger_high _ made (own_low slot k.id a.0 own)
      | inr held ↦
          let two : ◌≡◌ {A = Option Stranger} (Some (Held slot)) (Some (Waiting kept left repeats)) = sym held.1 ∙ waits in
          absurd (cc two)
    ]
