-- What the id of a subscriber's connection is made of, over a run.
use Rattle.std.proofs.Common.{◌≡◌, ℕ, ◌<◌, inl, inr, true, [], ◌∷◌, Option, Some, None, sym, subst, arith}
use Rattle.std.proofs.lemmas.Bool.Decides.{nat_tests}
use Rattle.identity_slots.specs.Ids.{counters, id_of_slot, is_of_slot, next_counter, slots, strangers}
use Rattle.mme_types.specs.declared.connection.Connection.{Connection}
use Rattle.mme_types.specs.Events as events
use Rattle.emm_state.specs.declared.setting.Setting.{Setting}
use Rattle.emm_state.specs.declared.solo.Solo.{Solo}
use Rattle.emm_machine.specs.Steps as steps
use Rattle.laws_subscriber.specs.Comes.{Begins, ComesSo, ConnectionsComeSo, IsClaimed, Moves}
use Rattle.laws_apart.specs.Alone.{ClaimsMade, IdsStayMade, IsMade, IsMadeIf, IsOfStranger, IsOwn}

-- a number of this slot is of this slot
own_id : (slot counter : ℕ) → counter < counters → IsOwn slot (id_of_slot slot counter)
own_id slot counter low = omega (arith, low)

next_low : (n : ℕ) → next_counter n < counters
next_low n = omega arith

-- ids of slots are below those of strangers
pub own_low : (slot id : ℕ) → slot < slots → IsOwn slot id → id < strangers
own_low slot id low own = omega (arith, low, own)

pub stranger_high : (k : Connection) → IsOfStranger k → k.id < strangers → ⊥
stranger_high k h low =
    let made = h.made in
    absurd (omega (arith, made, low))

-- the id of a stranger is of no slot
no_slot : (k : Connection) → IsOfStranger k → is_of_slot k.id ≡ true → ⊥
no_slot k h is =
    let low : k.id < strangers = grind (arith, nat_tests) in
    stranger_high k h low

pub begun_made : (s : Setting) (solo : Solo) (item : events.Item) (k : Connection) → Begins s solo item k → IsOwn s.slot k.id
begun_made s solo (events.Initial m) k is =
    subst (λ (c : Connection). IsOwn s.slot c.id) (sym is)
    (own_id s.slot (next_counter solo.associations) (next_low solo.associations))
begun_made s solo _ k is = absurd is

claimed_made : (item : events.Item) (k : Connection) → IsClaimed item k → ClaimsMade item → IsOfStranger k
claimed_made (events.Claim id m) k is made = subst IsOfStranger (sym is) made
claimed_made _ k is made = absurd is

pub moved_made : (slot : ℕ) (o : Option Connection) (item : events.Item) (k : Connection) → Moves o item k → IsMadeIf slot o
    → IsOwn slot k.id
moved_made slot o (events.Message m) k is h =
    let old : IsMade slot is.0 = subst (IsMadeIf slot) is.1 h in
    elim old [
      | inl own ↦ subst (IsOwn slot) is.2 own
      | inr stranger ↦ absurd (no_slot is.0 stranger (subst (λ (id : ℕ). is_of_slot id ≡ true) (sym is.2) is.3))
    ]
moved_made slot o _ k is h = absurd is

made_if : (s : Setting) (solo : Solo) (item : events.Item) (o : Option Connection) → ComesSo s solo item o
    → IsMadeIf s.slot solo.connection → ClaimsMade item → IsMadeIf s.slot o
made_if s solo item None comes h made = tt
made_if s solo item (Some k) comes h made = elim comes [
  | inl stays ↦ subst (IsMadeIf s.slot) stays.0 h
  | inr others ↦ elim others [
    | inl begins ↦ inl (begun_made s solo item k begins)
    | inr rest ↦ elim rest [
      | inl claimed ↦ inr (claimed_made item k claimed made)
      | inr moves ↦ inl (moved_made s.slot solo.connection item k moves h)
    ]
  ]
]

pub ids_stay_made : ConnectionsComeSo → IdsStayMade
ids_stay_made come s solo [] h each = h
ids_stay_made come s solo (item ∷ items) h each =
    ids_stay_made come s (steps.solo_step s solo item).solo items
    (made_if s solo item _ (come s solo item) h each.0) each.1
