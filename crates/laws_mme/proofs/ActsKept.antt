-- Acts and events; and what always holds holds over every list of acts.
use Rattle.std.proofs.Common.{◌≡◌, ◌<◌, ℕ, Bool, true, false, cond, List, [], ◌∷◌, length, Option, Some, None, Result, nat_le, refl, sym, ap, subst, arith}
use Rattle.std.proofs.lemmas.Bool.Decides.{nat_tests}
use Rattle.std.specs.Prelude.{is_some}
use Rattle.identity_slots.specs.declared.profile.Profile.{Profile}
use Rattle.identity_slots.specs.declared.provision.ProvisionFault.{ProvisionFault}
use Rattle.identity_slots.specs.declared.provision.ProvisionFault.TheVariants.{RepeatedImsi, RepeatedAddress, Full}
use Rattle.identity_slots.specs.Ids.{slots}
use Rattle.identity_slots.specs.Provisioned.{add_fault, slot_of_address, slot_of_imsi}
use Rattle.mme_answering.specs.declared.out.Out.{Out}
use Rattle.mme_core.specs.declared.event.StepFault.{StepFault}
use Rattle.mme_core.specs.Apart.{AddedStaysApart, AreApart, GivenStaysApart, IdsStayApart}
use Rattle.mme_core.specs.Kept.{AddedStaysKept, GivenStaysKept, IsKept, StaysKept}
use Rattle.mme_core.specs.Provisioning.{give_fault, world_added, world_given}
use Rattle.mme_core.specs.World.{World, reply, world_after}
use Rattle.laws_mme.specs.Acts.{Act, ActsJoin, ActsKeep, ActsStayApart, Adds, EventsAreActs, Gives, Happens, act_after, act_reply, unless_refused}

pub events_are_acts : EventsAreActs
events_are_acts w [] = record { answers = refl; world = refl }
events_are_acts w (event ∷ events) =
    let rest = events_are_acts (world_after w event) events in
    record { answers = ap (λ (rs : List (Result (List Out) StepFault)). reply w event ∷ rs) rest.answers; world = rest.world }

pub acts_join : ActsJoin
acts_join w [] more = record { answers = refl; world = refl }
acts_join w (act ∷ acts) more =
    let rest = acts_join (act_after w act) acts more in
    record { answers = ap (λ (rs : List (Result (List Out) StepFault)). act_reply w act ∷ rs) rest.answers; world = rest.world }

-- ---- refused or not

pub either_way : {A : Type 0} (Q : A → Type 0) (o : Option ProvisionFault) (x y : A) → Q x → (o ≡ None → Q y) → Q (unless_refused o x y)
either_way Q None x y h k = k refl
either_way Q (Some fault) x y h k = h

-- ---- what always holds

module _ (stays : StaysKept) (added : AddedStaysKept) (given : GivenStaysKept) where
  act_keeps : (w : World) (act : Act) → IsKept w → IsKept (act_after w act)
  act_keeps w (Happens event) h = stays w (event ∷ []) h
  act_keeps w (Adds p) h = either_way IsKept (add_fault p w.sight.profiles) w (world_added p w) h (λ is. added w p h)
  act_keeps w (Gives slot v) h = either_way IsKept (give_fault slot w) w (world_given slot v w) h (λ is. given w slot v h)

  pub acts_keep : ActsKeep
  acts_keep w [] h = h
  acts_keep w (act ∷ acts) h = acts_keep (act_after w act) acts (act_keeps w act h)

-- ---- ids apart

not_full : (imsi address full : Bool)
    → cond imsi (Some RepeatedImsi) (cond address (Some RepeatedAddress) (cond full (Some Full) None)) ≡ None → full ≡ false
not_full true address full h = absurd (cc h)
not_full false true full h = absurd (cc h)
not_full false false true h = absurd (cc h)
not_full false false false h = refl

below : (m n : ℕ) → nat_le m n ≡ false → n < m
below m n h = grind (arith, nat_tests)

-- who is added has a slot
room_for : (p : Profile) (ps : List Profile) → add_fault p ps ≡ None → length ps < slots
room_for p ps is =
    below slots (length ps)
    (not_full (is_some (slot_of_imsi p.imsi ps)) (is_some (slot_of_address p.address ps)) (nat_le slots (length ps)) is)

module _ (keeps : ActsKeep) (stays : IdsStayApart) (added : AddedStaysApart) (given : GivenStaysApart) where
  act_apart : (w : World) (act : Act) → IsKept w → AreApart w → AreApart (act_after w act)
  act_apart w (Happens event) k h = stays w (event ∷ []) h
  act_apart w (Adds p) k h =
      either_way AreApart (add_fault p w.sight.profiles) w (world_added p w) h
      (λ is. added w p (subst (λ (n : ℕ). n < slots) (sym k.provisioned) (room_for p w.sight.profiles is)) h)
  act_apart w (Gives slot v) k h = either_way AreApart (give_fault slot w) w (world_given slot v w) h (λ is. given w slot v h)

  pub acts_stay_apart : ActsStayApart
  acts_stay_apart w [] k h = h
  acts_stay_apart w (act ∷ acts) k h = acts_stay_apart (act_after w act) acts (keeps w (act ∷ []) k) (act_apart w act k h)
