use Rattle.std.proofs.Common.{◌∙◌, ℕ, Option, ap, inl, inr, refl, sym, true≢false}
use Rattle.mme_types.specs.Events as items
use Rattle.mme_core.specs.World.{happens, is_message, to_slot}
use Rattle.mme_core.proofs.event.Event.destination.Goals as goal

pub returns-in-Up : goal.returns-in-Up
unfolding happens
returns-in-Up c = λ s other named. elim c.in-Up.is [
  | inl up ↦ rw up.1 refl
  | inr said ↦ absurd (true≢false (sym (ap is_message said.2) ∙ other))
]

pub returns-in-Lost : goal.returns-in-Lost
unfolding happens
returns-in-Lost c = λ s other named. rw c.in-Lost.is refl

pub returns-in-Tick : goal.returns-in-Tick
unfolding happens
returns-in-Tick c = λ s other named. rw c.in-Tick.is refl

pub returns-in-Some : goal.returns-in-Some
unfolding happens
returns-in-Some c = λ s other named.
    rw c.in-Data.is (ap (λ (o : Option ℕ). to_slot o (items.Data s.stations)) (sym c.in-Some.is ∙ rw c.in-Data.is at named))

pub returns-in-None : goal.returns-in-None
unfolding happens
returns-in-None c = λ s other named.
    rw c.in-Data.is (ap (λ (o : Option ℕ). to_slot o (items.Data s.stations)) (sym c.in-None.is ∙ rw c.in-Data.is at named))

pub returns-in-Some-named : goal.returns-in-Some-named
unfolding happens
returns-in-Some-named c = λ s other named.
    rw c.in-Cancel.is (ap (λ (o : Option ℕ). to_slot o items.Cancel) (sym c.in-Some-named.is ∙ rw c.in-Cancel.is at named))

pub returns-in-None-named : goal.returns-in-None-named
unfolding happens
returns-in-None-named c = λ s other named.
    rw c.in-Cancel.is (ap (λ (o : Option ℕ). to_slot o items.Cancel) (sym c.in-None-named.is ∙ rw c.in-Cancel.is at named))
