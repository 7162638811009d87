-- Who is deregistered has left: of one subscriber, and of every subscriber of an MME.
use Rattle.std.proofs.Common.{◌≡◌, ℕ, ◌+◌, Bool, true, false, inl, inr, List, [], ◌∷◌, Option, Some, None, refl, sym, ◌∙◌, ap, subst, true≢false}
use Rattle.sorted_list.specs.Ordered.{Every}
use Rattle.esm_machine.specs.Requests.{inactive}
use Rattle.identity_slots.specs.declared.profile.Profile.{Profile}
use Rattle.identity_slots.specs.declared.profile.Vector.{Vector}
use Rattle.mme_types.specs.declared.network.Network.{Network}
use Rattle.mme_types.specs.Events.{Item}
use Rattle.emm_state.specs.declared.setting.Setting.{Setting}
use Rattle.emm_state.specs.declared.solo.Phase.{Phase}
use Rattle.emm_state.specs.declared.solo.Phase.TheVariants.{Deregistered}
use Rattle.emm_state.specs.declared.solo.Solo.{Solo}
use Rattle.emm_state.specs.Phases.{is}
use Rattle.emm_machine.specs.Steps.{solo_after, solo_step}
use Rattle.emm_machine.specs.SubscriberView.{SubscriberView}
use Rattle.emm_machine.specs.Words.{fresh_solo}
use Rattle.mme_core.specs.declared.event.Event.{Event}
use Rattle.mme_core.specs.declared.event.StepFault.{StepFault}
use Rattle.mme_core.specs.World.{World, each_after, event_fault, fresh_subscribers, fresh_world, items_of, strangers_in, unless, world_after, world_moved, world_run}
use Rattle.laws_subscriber.specs.Sound.{HasContext, IsSound, StaysSound}
use Rattle.laws_subscriber.specs.Unproved.{begins_attach}
use Rattle.laws_subscriber.specs.Clocked.{IsClocked, IsClockedIn, StaysClocked}
use Rattle.laws_mme.specs.Attaches.{attach_leaves}
use Rattle.laws_mme.specs.Holds.{KeepsState, state_holds}
use Rattle.laws_mme.specs.Premises.{is_under_way}
use Rattle.laws_mme.specs.Left.{EverybodyHasLeft, HasLeft, HasLeftIfDeregistered, WhoIsDeregisteredHasLeft}

-- ---- no M-TMSI and no bearer

record IsBare (x : Solo) : Type 0 where
  gone : is Deregistered x.phase ≡ true → (x.tmsi ≡ None) × (x.bearer ≡ inactive)

-- a phase that isn't that one says nothing
elsewhere : {A : Type 0} (phase : Phase) → is Deregistered phase ≡ false → is Deregistered phase ≡ true → A
elsewhere phase other there = absurd (true≢false (sym there ∙ other))

under_way : (phase : Phase) → is_under_way phase ≡ true → is Deregistered phase ≡ false
under_way Deregistered h = cc
under_way _ h = refl

module _ (s : Setting) (solo : Solo) (item : Item) (none : begins_attach item ≡ false) where
  never : {A : Type 0} → begins_attach item ≡ true → A
  never begins = absurd (true≢false (sym begins ∙ none))

  stays_bare : KeepsState s solo item IsBare
  stays_bare = record {
    connection = λ c x may h. record { gone = h.gone };
    counted = λ n x h. record { gone = h.gone };
    context = λ c x h. record { gone = h.gone };
    counts = λ procedure reachable x h. record { gone = h.gone };
    wiped = λ x h. record { gone = λ there. (refl, refl) };
    ended = λ x h. record { gone = h.gone };
    registers = λ reachable x h. record { gone = λ there. absurd (cc there) };
    updates = λ tai initial x from h. record { gone = λ there. absurd (cc there) };
    moves_on = λ phase x under h. record { gone = λ there. elsewhere phase (under_way phase under) there };
    tmsi = λ x on h. record { gone = λ there. elsewhere x.phase on.there there };
    bears = λ bearer x may h. record {
      gone = λ there. elim may [
        | inl begins ↦ never begins
        | inr on ↦ elsewhere x.phase on there
      ];
    };
    asks = λ combined capability tai x asked from phase repeat h. never asked.begins;
    challenges = λ v procedure x there may h. record { gone = λ is. absurd (cc is) };
    secures = λ c phase h. record { gone = λ there. absurd (cc there) };
    awaits = λ header nas procedure c x may told h. record { gone = h.gone };
    pages = λ stations procedure is may h. record { gone = h.gone };
    strikes = λ station x is h. record { gone = h.gone };
  }

bare_by : (b : Bool) (s : Setting) (solo : Solo) (item : Item) → begins_attach item ≡ b → IsBare solo → IsBare (solo_step s solo item).solo
bare_by true s solo item begins h = elim (attach_leaves s solo item begins) [
  | inl forgotten ↦ record { gone = λ there. (forgotten.tmsi, forgotten.bearer) }
  | inr taken ↦ record {
    gone = λ there. elsewhere (solo_step s solo item).solo.phase (ap (is Deregistered) taken.challenged.phase) there;
  }
]
bare_by false s solo item none h = state_holds s solo item (stays_bare s solo item none) h

-- ---- a subscriber

record IsKnown (s : Setting) (x : Solo) : Type 0 where
  sound : IsSound s x
  clocked : IsClocked x
  bare : IsBare x

left_of : (s : Setting) (x : Solo) → IsKnown s x → x.phase ≡ Deregistered → HasLeft x
left_of s x h phase =
    let clocked : IsClockedIn Deregistered x.connection x.procedure x.repeat x.reachable =
    subst (λ (p : Phase). IsClockedIn p x.connection x.procedure x.repeat x.reachable) phase h.clocked in
    let bare = h.bare.gone (ap (is Deregistered) phase) in
    record {
      phase = phase;
      connection = clocked.0;
      context = subst (λ (p : Phase). HasContext p s.vectors x.context) phase h.sound.context;
      tmsi = bare.0;
      bearer = bare.1;
      repeat = clocked.1.1;
      procedure = clocked.1.0;
      reachable = clocked.1.2;
    }

module _ (fresh_sound : (s : Setting) → IsSound s fresh_solo) (sound : StaysSound) (fresh_clocked : IsClocked fresh_solo)
    (clocked : StaysClocked) where
  fresh_known : (s : Setting) → IsKnown s fresh_solo
  fresh_known s = record { sound = fresh_sound s; clocked = fresh_clocked; bare = record { gone = λ there. (refl, refl) } }

  step_known : (s : Setting) (solo : Solo) (item : Item) → IsKnown s solo → IsKnown s (solo_step s solo item).solo
  step_known s solo item h = record {
    sound = sound s solo (item ∷ []) h.sound;
    clocked = clocked s solo (item ∷ []) h.clocked;
    bare = bare_by (begins_attach item) s solo item refl h.bare;
  }

  run_known : (s : Setting) (solo : Solo) (items : List Item) → IsKnown s solo → IsKnown s (solo_after s solo items)
  run_known s solo [] h = h
  run_known s solo (item ∷ items) h = run_known s (solo_step s solo item).solo items (step_known s solo item h)

  pub who_is_deregistered_has_left : WhoIsDeregisteredHasLeft
  who_is_deregistered_has_left s items phase = left_of s (solo_after s fresh_solo items) (run_known s fresh_solo items (fresh_known s)) phase

  -- ---- the MME

  abbrev IsViewKnown : SubscriberView → Type 0
  IsViewKnown x = IsKnown x.setting x.solo

  each_known : (items : ℕ → Item) (n : ℕ) (ws : List SubscriberView) → Every IsViewKnown ws → Every IsViewKnown (each_after items n ws)
  each_known items n [] each = tt
  each_known items n (w ∷ ws) each = (step_known w.setting w.solo (items n) each.0, each_known items (n + 1) ws each.1)

  moved_known : (w : World) (event : Event) (o : Option StepFault) → Every IsViewKnown w.subscribers
      → Every IsViewKnown (unless o w (world_moved w event)).subscribers
  moved_known w event None each = each_known (items_of w.sight (strangers_in w) event) 0 w.subscribers each
  moved_known w event (Some fault) each = each

  world_known : (w : World) (events : List Event) → Every IsViewKnown w.subscribers → Every IsViewKnown (world_run w events).subscribers
  world_known w [] each = each
  world_known w (event ∷ events) each = world_known (world_after w event) events (moved_known w event (event_fault w.sight event) each)

  all_fresh : (n : Network) (slot : ℕ) (ps : List Profile) (vs : List (List Vector)) → Every IsViewKnown (fresh_subscribers n slot ps vs)
  all_fresh n slot [] vs = tt
  all_fresh n slot (p ∷ ps) vs = (fresh_known _, all_fresh n (slot + 1) ps vs)

  all_left : (ws : List SubscriberView) → Every IsViewKnown ws → Every HasLeftIfDeregistered ws
  all_left [] each = tt
  all_left (w ∷ ws) each = (left_of w.setting w.solo each.0, all_left ws each.1)

  pub everybody_has_left : EverybodyHasLeft
  everybody_has_left config p events =
      all_left (world_run (fresh_world config p) events).subscribers
      (world_known (fresh_world config p) events (all_fresh config.network 0 p.profiles p.vectors))
