-- By what the tracking area of a phone changes.
use Rattle.std.proofs.Common.{◌≡◌, ◌⊎◌, Bool, true, false, inl, inr, Option, Some, refl, sym, subst}
use Rattle.s1ap_elements.specs.declared.phone.Tai.{Tai}
use Rattle.mme_types.specs.Events.{Item, Tick, Cancel}
use Rattle.emm_state.specs.declared.setting.Setting.{Setting}
use Rattle.emm_state.specs.declared.solo.Context.{Context}
use Rattle.emm_state.specs.declared.solo.Phase.{Phase}
use Rattle.emm_state.specs.declared.solo.Phase.TheVariants.{Updating, Registered}
use Rattle.emm_state.specs.declared.solo.Solo.{Solo}
use Rattle.emm_state.specs.Actions.{is_registered}
use Rattle.emm_machine.specs.Steps.{solo_step}
use Rattle.laws_subscriber.specs.Sound.{HasContext}
use Rattle.laws_subscriber.specs.Unproved.{UnprovedLeaves, begins_attach, is_no_message, is_proved_message}
use Rattle.laws_mme.specs.Connections.{IsProvedBy}
use Rattle.laws_mme.specs.Holds.{KeepsState, state_holds}
use Rattle.laws_subscriber.specs.Keeps.{tai_of}
use Rattle.laws_network.specs.Areas.{AreaIsNamed, AreasComeSo}

-- ---- it stays, or is the one that the station names

abbrev Comes : Solo → Item → Solo → Type 0
Comes solo item x = (x.tai ≡ solo.tai) ⊎ (tai_of item ≡ Some x.tai)

comes : (s : Setting) (solo : Solo) (item : Item) → KeepsState s solo item (Comes solo item)
comes s solo item = record {
  connection = λ c x may h. h;
  counted = λ n x h. h;
  context = λ c x h. h;
  counts = λ procedure reachable x h. h;
  wiped = λ x h. h;
  ended = λ x h. h;
  registers = λ reachable x h. h;
  updates = λ tai initial x from h. inr from;
  moves_on = λ phase x under h. h;
  tmsi = λ x on h. h;
  bears = λ bearer x may h. h;
  asks = λ combined capability tai x asked from phase repeat h. inr from;
  challenges = λ v procedure x there may h. h;
  secures = λ c phase h. h;
  awaits = λ header nas procedure c x may told h. h;
  pages = λ stations procedure is may h. h;
  strikes = λ station x is h. h;
}

-- ---- and by whom it is named

-- the clock and the operator name none
names_none : (item : Item) (tai : Tai) → tai_of item ≡ Some tai → is_no_message item ≡ false
names_none Tick tai is = absurd (cc is)
names_none Cancel tai is = absurd (cc is)
names_none _ tai is = refl

-- a phone that is registered has a context
context_of : (s : Setting) (phase : Phase) (context : Option Context) → is_registered phase ≡ true → HasContext phase s.vectors context
    → (x : Context) × (context ≡ Some x)
context_of s Registered context is has = (has.0, has.2)
context_of s Updating context is has = (has.0, has.2)
context_of s _ context is has = absurd (cc is)

module _ (leaves : UnprovedLeaves) (s : Setting) (solo : Solo) (item : Item) (registered : is_registered solo.phase ≡ true) where
  named_by : (x : Context) → solo.context ≡ Some x → (b c : Bool) → begins_attach item ≡ b → is_proved_message x item ≡ c
      → tai_of item ≡ Some (solo_step s solo item).solo.tai → ((solo_step s solo item).solo.tai ≡ solo.tai) ⊎ AreaIsNamed s solo item
  named_by x has true c begins proved named = inr (record { named = named; by = inl begins })
  named_by x has false true begins proved named =
      inr (record { named = named; by = inr (subst (λ (o : Option Context). IsProvedBy o item) (sym has) proved) })
  named_by x has false false begins proved named =
      inl (leaves s solo x item registered has proved begins (names_none item _ named)).0.tai

pub areas_come_so : UnprovedLeaves → AreasComeSo
areas_come_so leaves s solo item sound registered = elim (state_holds s solo item (comes s solo item) (inl refl)) [
  | inl same ↦ inl same
  | inr named ↦
      let x = context_of s solo.phase solo.context registered sound.context in
      named_by leaves s solo item registered x.0 x.1 (begins_attach item) (is_proved_message x.0 item) refl refl named
]
