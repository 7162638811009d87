-- Given early is given late, over a list of acts.
use Rattle.std.proofs.Common.{◌≡◌, ℕ, zero, suc, List, [], ◌∷◌, ◌++◌, Option, Some, Result, refl, sym, ◌∙◌, ap, subst}
use Rattle.std.specs.Prelude.{slice_get, IsSome}
use Rattle.std.proofs.lemmas.Option.{same_Some}
use Rattle.identity_slots.specs.declared.profile.Vector.{Vector}
use Rattle.identity_slots.specs.declared.provision.ProvisionFault.{ProvisionFault}
use Rattle.mme_types.specs.Events.{Item}
use Rattle.emm_state.specs.declared.solo.Solo.{Solo}
use Rattle.emm_machine.specs.Given.{with_given}
use Rattle.emm_machine.specs.SubscriberView.{SubscriberView}
use Rattle.mme_owners.specs.Changed.{changed_at}
use Rattle.mme_answering.specs.declared.out.Out.{Out}
use Rattle.mme_core.specs.declared.event.Event.{Event}
use Rattle.mme_core.specs.declared.event.StepFault.{StepFault}
use Rattle.mme_core.specs.Kept.{GivenStaysKept, IsKept}
use Rattle.mme_core.specs.Projection.{item_for}
use Rattle.mme_core.specs.Provisioning.{world_given}
use Rattle.mme_core.specs.World.{World, replies, reply, strangers_in, world_after, world_run}
use Rattle.laws_mme.specs.Acts.{Act, ActsKeep, Adds, Gives, Happens, act_after, unless_refused}
use Rattle.laws_mme.specs.Early.{GivenEarlyIsGivenLate, IsServed, ahead, event_replies, events_in}
use Rattle.laws_mme.specs.Looks.{HasOneLeft}
use Rattle.laws_mme.proofs.GivenAfter.{given_before_is_given_after}

-- ---- where there is a vector there is one in a longer list

some_longer : (vs more : List Vector) (n : ℕ) → IsSome (slice_get vs n) → IsSome (slice_get (vs ++ more) n)
some_longer [] more n h = absurd (cc)
some_longer (v ∷ vs) more zero h = h
some_longer (v ∷ vs) more (suc n) h = some_longer vs more n h

left_longer : (vs more : List Vector) (solo : Solo) (item : Item) → HasOneLeft vs solo item → HasOneLeft (vs ++ more) solo item
left_longer vs more solo item h may = some_longer vs more solo.next_vector (h may)

abbrev ServedAt : Item → ℕ → List SubscriberView → Type 0
ServedAt item n ws = (x : SubscriberView) → slice_get ws n ≡ Some x → HasOneLeft x.setting.vectors x.solo item

served_at : (v : Vector) (k n : ℕ) (item : Item) (ws : List SubscriberView) → ServedAt item n ws
    → ServedAt item n (changed_at k (with_given v) ws)
served_at v k n item [] h x at = absurd (cc at)
served_at v zero zero item (w ∷ ws) h x at =
    subst (λ (y : SubscriberView). HasOneLeft y.setting.vectors y.solo item) (same_Some (with_given v w) x at)
    (left_longer w.setting.vectors (v ∷ []) w.solo item (h w refl))
served_at v zero (suc n) item (w ∷ ws) h x at = h x at
served_at v (suc k) zero item (w ∷ ws) h x at = h x at
served_at v (suc k) (suc n) item (w ∷ ws) h x at = served_at v k n item ws h x at

served_given : (slot : ℕ) (v : Vector) (w : World) (event : Event) → ((n : ℕ) → IsServed n w event)
    → (n : ℕ) → IsServed n (world_given slot v w) event
served_given slot v w event h n = served_at v slot n (item_for n w.sight (strangers_in w) event) w.subscribers (h n)

-- ---- one event after all that is given

module _ (given : GivenStaysKept) where
  reply_ahead : (acts : List Act) (w : World) (event : Event) → IsKept w → ((n : ℕ) → IsServed n w event)
      → reply (ahead acts w) event ≡ reply w event
  reply_ahead [] w event kept h = refl
  reply_ahead (Happens other ∷ acts) w event kept h = reply_ahead acts w event kept h
  reply_ahead (Adds p ∷ acts) w event kept h = reply_ahead acts w event kept h
  reply_ahead (Gives slot v ∷ acts) w event kept h =
      reply_ahead acts (world_given slot v w) event (given w slot v kept) (served_given slot v w event h)
      ∙ (given_before_is_given_after w event slot v kept (h slot)).answer

  after_ahead : (acts : List Act) (w : World) (event : Event) → IsKept w → ((n : ℕ) → IsServed n w event)
      → world_after (ahead acts w) event ≡ ahead acts (world_after w event)
  after_ahead [] w event kept h = refl
  after_ahead (Happens other ∷ acts) w event kept h = after_ahead acts w event kept h
  after_ahead (Adds p ∷ acts) w event kept h = after_ahead acts w event kept h
  after_ahead (Gives slot v ∷ acts) w event kept h =
      after_ahead acts (world_given slot v w) event (given w slot v kept) (served_given slot v w event h)
      ∙ ap (λ (u : World). ahead acts u) (given_before_is_given_after w event slot v kept (h slot)).world

-- ---- a list

module _ (keeps : ActsKeep) (given : GivenStaysKept) where
  pub given_early_is_given_late : GivenEarlyIsGivenLate
  given_early_is_given_late w [] kept served all = record { answers = refl; world = refl }
  given_early_is_given_late w (Happens event ∷ acts) kept served all =
      let rest = given_early_is_given_late (world_after w event) acts (keeps w (Happens event ∷ []) kept) served.1 all in
      let after = sym (after_ahead given acts w event kept served.0) in
      record {
        answers = ap (λ (r : Result (List Out) StepFault). r ∷ event_replies (world_after w event) acts)
            (sym (reply_ahead given acts w event kept served.0))
            ∙ ap (λ (rs : List (Result (List Out) StepFault)). reply (ahead acts w) event ∷ rs)
            (rest.answers ∙ ap (λ (u : World). replies u (events_in acts)) after);
        world = rest.world ∙ ap (λ (u : World). world_run u (events_in acts)) after;
      }
  given_early_is_given_late w (Adds p ∷ acts) kept served all = absurd all
  given_early_is_given_late w (Gives slot v ∷ acts) kept served all =
      let u = act_after w (Gives slot v) in
      let taken : u ≡ world_given slot v w = ap (λ (o : Option ProvisionFault). unless_refused o w (world_given slot v w)) all.0 in
      let rest = given_early_is_given_late u acts (keeps w (Gives slot v ∷ []) kept) served all.1 in
      record {
        answers = rest.answers ∙ ap (λ (m : World). replies (ahead acts m) (events_in acts)) taken;
        world = rest.world ∙ ap (λ (m : World). world_run (ahead acts m) (events_in acts)) taken;
      }
