-- What an MME hands out for a slot is what its one machine hands out.
use Rattle.std.proofs.Common.{◌≡◌, ℕ, zero, suc, ◌+◌, List, [], ◌∷◌, ◌++◌, map, Option, Some, refl, sym, ◌∙◌, ap, subst}
use Rattle.std.specs.Prelude.{slice_get}
use Rattle.std.proofs.lemmas.Option.{same_Some}
use Rattle.identity_slots.specs.declared.profile.Profile.{Profile}
use Rattle.identity_slots.specs.declared.profile.Vector.{Vector}
use Rattle.s1ap_pdus.specs.Pdus.{decoded}
use Rattle.mme_types.specs.declared.connection.Connection.{Connection}
use Rattle.mme_types.specs.declared.network.Network.{Network}
use Rattle.mme_types.specs.declared.octets.Answer.{Answer}
use Rattle.mme_types.specs.Events.{Item}
use Rattle.emm_state.specs.declared.solo.Solo.{Solo}
use Rattle.emm_machine.specs.Steps.{solo_step}
use Rattle.emm_machine.specs.SubscriberView.{SubscriberView}
use Rattle.emm_machine.specs.Words.{fresh_solo}
use Rattle.mme_core.specs.declared.event.Event.{Event}
use Rattle.mme_core.specs.Kept.{BeginsKept, IsKept, StaysKept}
use Rattle.mme_core.specs.Laws.{GoesAlone}
use Rattle.mme_core.specs.Projection.{answer_told, is_slot, item_for, told_in}
use Rattle.mme_core.specs.World.{World, fresh_subscribers, fresh_world, reply, strangers_in, world_after}
use Rattle.laws_mme.specs.OwnersAlone.{SlotIsTold}
use Rattle.laws_mme.specs.Handed.{AreFresh, Handing, KeysAreFresh, handed_along, handed_by, handed_in, handed_of}
use Rattle.laws_mme.specs.KeysOfMme.{MmeKeysAreFresh, connection_of, handed_for, handed_told}

first_same : {A : Type 0} {x y : A} → ◌≡◌ {A = List A} (x ∷ []) (y ∷ []) → x ≡ y
first_same is = cc

pub told_same : (c : Option Connection) (sent : List Answer) → handed_told c (map answer_told sent) ≡ handed_of c sent
told_same c [] = refl
told_same c (a ∷ rest) = ap (λ (zs : List Handing). handed_in c a.station (decoded a.octets) ++ zs) (told_same c rest)

-- over a list of events, by the items that it has for the slot
record IsAlone (slot : ℕ) (w : World) (events : List Event) (x : SubscriberView) : Type 0 where
  items : List Item
  same : handed_for slot w events ≡ handed_along x.setting x.solo items

alone : SlotIsTold → GoesAlone → StaysKept → (slot : ℕ) (w : World) (events : List Event) (x : SubscriberView) → IsKept w
    → slice_get w.subscribers slot ≡ Some x → IsAlone slot w events x
alone told goes stays slot w [] x h at = record { items = []; same = refl }
alone told goes stays slot w (e ∷ es) x h at =
    let item : Item = item_for slot w.sight (strangers_in w) e in
    let d = solo_step x.setting x.solo item in
    let y : SubscriberView = record { setting = x.setting; solo = d.solo } in
    let next : World = world_after w e in
    let there : slice_get next.subscribers slot ≡ Some y = goes w (e ∷ []) slot x h.rising at in
    let rest = alone told goes stays slot next es y (stays w (e ∷ []) h) there in
    let said : told_in (is_slot slot) (reply w e) ≡ map answer_told d.sent = first_same (told w (e ∷ []) slot x h.rising at) in
    let here : handed_told (connection_of (slice_get next.subscribers slot)) (told_in (is_slot slot) (reply w e)) ≡ handed_by d =
    ap (λ (o : Option SubscriberView). handed_told (connection_of o) (told_in (is_slot slot) (reply w e))) there
    ∙ ap (handed_told d.solo.connection) said
    ∙ told_same d.solo.connection d.sent in
    record {
      items = item ∷ rest.items;
      same = ap (λ (zs : List Handing). zs ++ handed_for slot next es) here
          ∙ ap (λ (zs : List Handing). handed_by d ++ zs) rest.same;
    }

pub fresh_at : (n : Network) (slot : ℕ) (ps : List Profile) (vectors : List (List Vector)) (k : ℕ) (x : SubscriberView)
    → slice_get (fresh_subscribers n slot ps vectors) k ≡ Some x → x.solo ≡ fresh_solo
fresh_at n slot [] vectors k x at = absurd (cc at)
fresh_at n slot (p ∷ ps) vectors zero x at = sym (ap (λ (y : SubscriberView). y.solo) (same_Some _ x at))
fresh_at n slot (p ∷ ps) vectors (suc k) x at = fresh_at n (slot + 1) ps vectors k x at

pub mme_keys_are_fresh : KeysAreFresh → SlotIsTold → GoesAlone → BeginsKept → StaysKept → MmeKeysAreFresh
mme_keys_are_fresh fresh told goes begins stays config p events slot x at =
    let run = alone told goes stays slot (fresh_world config p) events x (begins config p) at in
    let first : x.solo ≡ fresh_solo = fresh_at config.network 0 p.profiles p.vectors slot x at in
    subst (AreFresh x.setting.vectors) (sym (run.same ∙ ap (λ (o : Solo). handed_along x.setting o run.items) first))
    (fresh x.setting run.items)
