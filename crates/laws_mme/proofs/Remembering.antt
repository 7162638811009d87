-- That nobody can tell what was forgotten.
use Rattle.std.proofs.Common.{◌≡◌, ℕ, zero, suc, ◌+◌, ◌-◌, ◌≤◌, ◌^◌, ◌||◌, nat_le, List, [], ◌∷◌, ◌++◌, length, map, Bool, Option, Some, None, Result, refl, sym, ◌∙◌, ap, subst, le_refl}
use Rattle.std.specs.Prelude.{if◌then◌else◌, option_map, slice_get}
use Rattle.identity_slots.specs.declared.profile.Profile.{Profile}
use Rattle.identity_slots.specs.declared.profile.Vector.{Vector}
use Rattle.identity_slots.specs.declared.provision.ProvisionFault.{ProvisionFault}
use Rattle.identity_slots.specs.declared.provision.ProvisionFault.TheVariants.{Full}
use Rattle.identity_slots.specs.Provisioned.{add_fault}
use Rattle.mme_types.specs.Events.{Item}
use Rattle.emm_state.specs.declared.draft.Draft.{Draft}
use Rattle.emm_state.specs.declared.setting.Setting.{Setting}
use Rattle.emm_state.specs.declared.solo.Phase.{Phase}
use Rattle.emm_state.specs.declared.solo.Solo.{Solo}
use Rattle.emm_state.specs.Taking.{next_place, vectors_spent}
use Rattle.emm_machine.specs.Freshness.{GoesOnward}
use Rattle.emm_machine.specs.Given.{is_stocked, with_given}
use Rattle.emm_machine.specs.SubscriberView.{SubscriberView}
use Rattle.mme_owners.specs.Changed.{changed_at}
use Rattle.mme_owners.specs.Given.{is_stocked_at}
use Rattle.mme_answering.specs.declared.out.Out.{Out}
use Rattle.mme_routing.specs.Destinations.{strangers_left}
use Rattle.mme_core.specs.declared.event.Event.{Event}
use Rattle.mme_core.specs.declared.event.StepFault.{StepFault}
use Rattle.mme_core.specs.Provisioning.{fresh_subscriber, give_fault, sight_added, world_added, world_given}
use Rattle.mme_core.specs.Remembered.{husk, kasme_in, remembered, remembered_setting, remembered_vectors, remembered_view}
use Rattle.mme_core.specs.World.{World, each_after, each_sent, event_fault, happens, items_of, reply, reply_of, sight_moved, slot_out, station_of, station_sent, strangers_in, strangers_sent, subscriber_after, subscriber_step, unless, world_moved}
use Rattle.laws_mme.specs.Acts.{Act, Adds, Gives, Happens, act_after, act_reply, acts_replies, acts_run, unless_refused}
use Rattle.emm_machine.specs.Given.{having}
use Rattle.laws_mme.specs.Looks.{LooksSame, StepsLookAtTwo}
use Rattle.laws_mme.specs.Restarts.{Acts, NobodyCanTell, RemembersOnce, Restarts, RestartsAreUnseen, StatesAreRemembered, acts_among}
use Rattle.laws_mme.proofs.Husks.{as_many_husked, get_past, husked_again, next_within, pushed_again}

-- ---- once more

again : (x : SubscriberView) → remembered_view (remembered_view x) ≡ remembered_view x
again x =
    let h = husk (kasme_in x.solo.context) in
    let k = vectors_spent x.solo in
    ap (λ (vs : List Vector). record { setting = having vs x.setting; solo = x.solo })
    (husked_again h h k k x.setting.vectors (le_refl k))

all_again : (ws : List SubscriberView) → map remembered_view (map remembered_view ws) ≡ map remembered_view ws
all_again [] = refl
all_again (x ∷ ws) =
    ap (λ (y : SubscriberView). y ∷ map remembered_view (map remembered_view ws)) (again x)
    ∙ ap (λ (ys : List SubscriberView). remembered_view x ∷ ys) (all_again ws)

pub remembers_once : RemembersOnce
remembers_once w =
    ap (λ (ws : List SubscriberView). record { sight = w.sight; strangers = w.strangers; subscribers = ws }) (all_again w.subscribers)

pub as_many : (ws : List SubscriberView) → length (map remembered_view ws) ≡ length ws
as_many [] = refl
as_many (x ∷ ws) = ap suc (as_many ws)

-- ---- the states

abbrev solo_in : ℕ → List SubscriberView → Option Solo
solo_in slot ws = option_map (λ (x : SubscriberView). x.solo) (slice_get ws slot)

same_solo : (slot : ℕ) (ws : List SubscriberView) → solo_in slot (map remembered_view ws) ≡ solo_in slot ws
same_solo slot [] = refl
same_solo zero (x ∷ ws) = refl
same_solo (suc slot) (x ∷ ws) = same_solo slot ws

pub states_are_remembered : StatesAreRemembered
states_are_remembered w slot = same_solo slot w.subscribers

-- ---- what it is given

stocked_same : (x : SubscriberView) → is_stocked (remembered_view x) ≡ is_stocked x
stocked_same x =
    ap (λ (n : ℕ). nat_le 64 (n - vectors_spent x.solo) || nat_le (2 ^ 62) n)
    (as_many_husked (husk (kasme_in x.solo.context)) (vectors_spent x.solo) x.setting.vectors)

stocked_at : (slot : ℕ) (ws : List SubscriberView) → is_stocked_at slot (map remembered_view ws) ≡ is_stocked_at slot ws
stocked_at slot [] = refl
stocked_at zero (x ∷ ws) = stocked_same x
stocked_at (suc slot) (x ∷ ws) = stocked_at slot ws

given_same : (v : Vector) (x : SubscriberView)
    → remembered_view (with_given v (remembered_view x)) ≡ remembered_view (with_given v x)
given_same v x =
    ap (λ (vs : List Vector). record { setting = having vs x.setting; solo = x.solo })
    (pushed_again (husk (kasme_in x.solo.context)) (vectors_spent x.solo) x.setting.vectors v)

given_at_same : (v : Vector) (slot : ℕ) (ws : List SubscriberView)
    → map remembered_view (changed_at slot (with_given v) (map remembered_view ws))
    ≡ map remembered_view (changed_at slot (with_given v) ws)
given_at_same v slot [] = refl
given_at_same v zero (x ∷ ws) =
    ap (λ (y : SubscriberView). y ∷ map remembered_view (map remembered_view ws)) (given_same v x)
    ∙ ap (λ (ys : List SubscriberView). remembered_view (with_given v x) ∷ ys) (all_again ws)
given_at_same v (suc slot) (x ∷ ws) =
    ap (λ (y : SubscriberView). y ∷ map remembered_view (changed_at slot (with_given v) (map remembered_view ws))) (again x)
    ∙ ap (λ (ys : List SubscriberView). remembered_view x ∷ ys) (given_at_same v slot ws)

pushed_same : (y : SubscriberView) (ws : List SubscriberView)
    → map remembered_view (map remembered_view ws ++ y ∷ []) ≡ map remembered_view (ws ++ y ∷ [])
pushed_same y [] = refl
pushed_same y (x ∷ ws) =
    ap (λ (z : SubscriberView). z ∷ map remembered_view (map remembered_view ws ++ y ∷ [])) (again x)
    ∙ ap (λ (zs : List SubscriberView). remembered_view x ∷ zs) (pushed_same y ws)

given_world_same : (slot : ℕ) (v : Vector) (w : World)
    → remembered (world_given slot v (remembered w)) ≡ remembered (world_given slot v w)
given_world_same slot v w =
    ap (λ (ws : List SubscriberView). record { sight = w.sight; strangers = w.strangers; subscribers = ws })
    (given_at_same v slot w.subscribers)

added_world_same : (p : Profile) (w : World) → remembered (world_added p (remembered w)) ≡ remembered (world_added p w)
added_world_same p w =
    let n = w.sight.config.network in
    ap (λ (ws : List SubscriberView). record { sight = sight_added p w.sight; strangers = w.strangers; subscribers = ws })
    (ap (λ (k : ℕ). map remembered_view (map remembered_view w.subscribers ++ fresh_subscriber n k p ∷ [])) (as_many w.subscribers)
    ∙ pushed_same (fresh_subscriber n (length w.subscribers) p) w.subscribers)

-- refused or not
by_refusal : (o : Option ProvisionFault) (w after other : World) → remembered after ≡ remembered other
    → remembered (unless_refused o (remembered w) after) ≡ remembered (unless_refused o w other)
by_refusal None w after other same = same
by_refusal (Some fault) w after other same = remembers_once w

-- ---- an event

looks_same : (s : Setting) (solo : Solo) (item : Item) → LooksSame (remembered_vectors solo s.vectors) s.vectors solo item
looks_same s solo item = record {
  next = λ may. get_past _ (vectors_spent solo) solo.next_vector s.vectors (next_within solo.phase solo.next_vector);
  challenged = λ is.
      let own : vectors_spent solo ≡ solo.next_vector - 1 = ap (λ (p : Phase). next_place p solo.next_vector) is in
      get_past _ (vectors_spent solo) (solo.next_vector - 1) s.vectors
      (subst (λ m. vectors_spent solo ≤ m) own (le_refl (vectors_spent solo)));
}

module _ (two : StepsLookAtTwo) (onward : GoesOnward) where
  step_same : (x : SubscriberView) (item : Item) → subscriber_step (remembered_view x) item ≡ subscriber_step x item
  step_same x item = two x.setting (remembered_vectors x.solo x.setting.vectors) x.solo item (looks_same x.setting x.solo item)

  after_same : (x : SubscriberView) (item : Item)
      → remembered_view (subscriber_after (remembered_view x) item) ≡ remembered_view (subscriber_after x item)
  after_same x item =
      let next = (subscriber_step x item).solo in
      ap (λ (d : Draft). remembered_view (record { setting = remembered_setting x.solo x.setting; solo = d.solo })) (step_same x item)
      ∙ ap (λ (vs : List Vector). record { setting = having vs x.setting; solo = next })
      (husked_again (husk (kasme_in next.context)) (husk (kasme_in x.solo.context)) (vectors_spent x.solo) (vectors_spent next)
      x.setting.vectors (onward x.setting x.solo item))

  sent_same : (items : ℕ → Item) (n : ℕ) (ws : List SubscriberView) → each_sent items n (map remembered_view ws) ≡ each_sent items n ws
  sent_same items n [] = refl
  sent_same items n (x ∷ ws) =
      ap (λ (d : Draft). map (slot_out n) d.sent ++ each_sent items (n + 1) (map remembered_view ws)) (step_same x (items n))
      ∙ ap (λ (os : List Out). map (slot_out n) (subscriber_step x (items n)).sent ++ os) (sent_same items (n + 1) ws)

  each_same : (items : ℕ → Item) (n : ℕ) (ws : List SubscriberView)
      → map remembered_view (each_after items n (map remembered_view ws)) ≡ map remembered_view (each_after items n ws)
  each_same items n [] = refl
  each_same items n (x ∷ ws) =
      ap (λ (y : SubscriberView). y ∷ map remembered_view (each_after items (n + 1) (map remembered_view ws))) (after_same x (items n))
      ∙ ap (λ (ys : List SubscriberView). remembered_view (subscriber_after x (items n)) ∷ ys) (each_same items (n + 1) ws)

  reply_same : (w : World) (event : Event) → reply (remembered w) event ≡ reply w event
  reply_same w event =
      ap (λ (os : List Out). reply_of (event_fault w.sight event) (station_sent (station_of event) (happens w.sight event).sent
      ++ (strangers_sent w.sight.profiles (happens w.sight event).destination w.strangers ++ os)))
      (sent_same (items_of w.sight (strangers_in w) event) 0 w.subscribers)

  moved_same : (w : World) (event : Event) → remembered (world_moved (remembered w) event) ≡ remembered (world_moved w event)
  moved_same w event =
      ap (λ (ws : List SubscriberView). record {
        sight = sight_moved w.sight event;
        strangers = strangers_left w.sight.profiles (happens w.sight event).destination w.strangers;
        subscribers = ws;
      }) (each_same (items_of w.sight (strangers_in w) event) 0 w.subscribers)

  unless_same : (o : Option StepFault) (w : World) (event : Event)
      → remembered (unless o (remembered w) (world_moved (remembered w) event)) ≡ remembered (unless o w (world_moved w event))
  unless_same None w event = moved_same w event
  unless_same (Some fault) w event = remembers_once w

  -- ---- an act

  act_reply_same : (w : World) (act : Act) → act_reply (remembered w) act ≡ act_reply w act
  act_reply_same w (Happens event) = reply_same w event
  act_reply_same w (Adds p) = refl
  act_reply_same w (Gives slot v) = refl

  act_after_same : (w : World) (act : Act) → remembered (act_after (remembered w) act) ≡ remembered (act_after w act)
  act_after_same w (Happens event) = unless_same (event_fault w.sight event) w event
  act_after_same w (Adds p) =
      by_refusal (add_fault p w.sight.profiles) w (world_added p (remembered w)) (world_added p w) (added_world_same p w)
  act_after_same w (Gives slot v) =
      ap (λ (b : Bool). remembered (unless_refused (if b then Some Full else None) (remembered w) (world_given slot v (remembered w))))
      (stocked_at slot w.subscribers)
      ∙ by_refusal (give_fault slot w) w (world_given slot v (remembered w)) (world_given slot v w) (given_world_same slot v w)

  -- ---- a list of acts

  replies_same : (w : World) (acts : List Act) → acts_replies (remembered w) acts ≡ acts_replies w acts
  replies_same w [] = refl
  replies_same w (act ∷ acts) =
      ap (λ (r : Result (List Out) StepFault). r ∷ acts_replies (act_after (remembered w) act) acts) (act_reply_same w act)
      ∙ ap (λ (rs : List (Result (List Out) StepFault)). act_reply w act ∷ rs)
      (sym (replies_same (act_after (remembered w) act) acts) ∙ ap (λ (v : World). acts_replies v acts) (act_after_same w act)
      ∙ replies_same (act_after w act) acts)

  run_same : (w : World) (acts : List Act) → remembered (acts_run (remembered w) acts) ≡ remembered (acts_run w acts)
  run_same w [] = remembers_once w
  run_same w (act ∷ acts) =
      sym (run_same (act_after (remembered w) act) acts) ∙ ap (λ (v : World). remembered (acts_run v acts)) (act_after_same w act)
      ∙ run_same (act_after w act) acts

  pub nobody_can_tell : NobodyCanTell
  nobody_can_tell w acts = record { answers = replies_same w acts; world = run_same w acts }

  -- ---- with restarts between them

  pub restarts_are_unseen : RestartsAreUnseen
  restarts_are_unseen w [] = record { answers = refl; world = refl }
  restarts_are_unseen w (Acts act ∷ moments) =
      let rest = restarts_are_unseen (act_after w act) moments in
      record {
        answers = ap (λ (rs : List (Result (List Out) StepFault)). act_reply w act ∷ rs) rest.answers;
        world = rest.world;
      }
  restarts_are_unseen w (Restarts ∷ moments) =
      let rest = restarts_are_unseen (remembered w) moments in
      record {
        answers = rest.answers ∙ replies_same w (acts_among moments);
        world = rest.world ∙ run_same w (acts_among moments);
      }
