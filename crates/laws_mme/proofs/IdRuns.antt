-- Over runs the ids of an MME stay apart; and what follows.
use Rattle.std.proofs.Common.{ℕ, List, [], ◌∷◌, Option, Some, None}
use Rattle.stranger_machine.specs.declared.state.Stranger.{Stranger}
use Rattle.stranger_machine.specs.Machine.{stranger_step}
use Rattle.mme_routing.specs.Destinations.{input_for}
use Rattle.mme_routing.specs.Destinations as to
use Rattle.laws_apart.specs.Alone.{ClaimsMade, EachClaimsMade, WaitsMade}
use Rattle.laws_apart.specs.Apart as apart
use Rattle.laws_apart.specs.Associations as associations
use Rattle.laws_apart.specs.Goes.{ItemClaimsMade, WaitsStayMade}
use Rattle.mme_core.specs.declared.event.Event.{Event}
use Rattle.mme_core.specs.declared.event.StepFault.{StepFault}
use Rattle.mme_core.specs.Apart.{EventsGoMade, IdsBeginApart, IdsStayApart}
use Rattle.mme_core.specs.Projection.{projection, stranger_input, strangers_after}
use Rattle.mme_core.specs.Sight.{Sight}
use Rattle.mme_core.specs.World.{event_fault, fresh_world, happens, sight_after, strangers_in, unless, world_run}
use Rattle.laws_mme.specs.ApartInMme.{MmeBeginsApart, ItemsClaimMade, NoTwoShareInMme, NoneHasWaitingInMme, RunsApart}
use Rattle.laws_mme.specs.AssociationsInMme.{EachIdOnceInMme, EachIdOnceInRuns, FoundExactlyInMme}

-- refused or not
either_way : {A : Type 0} (P : A → Type 0) (o : Option StepFault) {before after : A} → P before → P after
    → P (unless o before after)
either_way P None h k = k
either_way P (Some fault) h k = h

pub begins_apart : IdsBeginApart → MmeBeginsApart
begins_apart begins config p few = begins config.network p.profiles p.vectors few

-- ---- the items of a slot, by the strangers alone

module _ (go : EventsGoMade) (wait : WaitsStayMade) (claims : ItemClaimsMade) where
  -- a stranger that an event is refused for, or isn't for, stays
  waits_after : (s : Sight) (event : Event) (id : ℕ) (x : Option Stranger) → WaitsMade id x
      → WaitsMade id (stranger_step s.profiles id x (stranger_input s id event)).stranger
  waits_after s event id x h =
      waits_if (event_fault s event)
    where
      waits_if : (o : Option StepFault)
          → WaitsMade id (stranger_step s.profiles id x (unless o (input_for to.Nobody id) (input_for (happens s event).destination id))).stranger
      waits_if None = wait s.profiles (happens s event).destination id x (go s event) h
      waits_if (Some fault) = wait s.profiles to.Nobody id x tt h

  claims_along : (slot : ℕ) (s : Sight) (g : ℕ → Option Stranger) (events : List Event) → ((id : ℕ) → WaitsMade id (g id))
      → EachClaimsMade (projection slot s g events)
  claims_along slot s g [] waiting = tt
  claims_along slot s g (event ∷ events) waiting = (
    either_way ClaimsMade (event_fault s event) tt
        (claims s.profiles (happens s event).destination g slot (go s event) waiting),
    claims_along slot (sight_after s event) (strangers_after s g event) events
        (λ id. waits_after s event id (g id) (waiting id)),
  )

  pub items_claim_made : ItemsClaimMade
  items_claim_made w events slot h = claims_along slot w.sight (strangers_in w) events h.waiting

-- ---- what follows

pub no_two_share : apart.NoTwoShare → NoTwoShareInMme
no_two_share two w slot other k l h has had same = two w.strangers w.subscribers slot other k l h has had same

pub none_has_waiting : apart.NoneHasWaiting → NoneHasWaitingInMme
none_has_waiting none w slot k kept left repeats h has waits =
    none w.strangers w.subscribers slot k kept left repeats h has waits

pub runs_apart : IdsBeginApart → IdsStayApart → apart.NoTwoShare → RunsApart
runs_apart begins stays two config p events slot other k l few has had same =
    let w = world_run (fresh_world config p) events in
    two w.strangers w.subscribers slot other k l
    (stays (fresh_world config p) events (begins_apart begins config p few)) has had same

pub each_id_once : associations.EachIdOnce → EachIdOnceInMme
each_id_once once w h = once w.strangers w.subscribers h

pub each_id_once_in_runs : IdsBeginApart → IdsStayApart → associations.EachIdOnce → EachIdOnceInRuns
each_id_once_in_runs begins stays once config p events few =
    let w = world_run (fresh_world config p) events in
    once w.strangers w.subscribers (stays (fresh_world config p) events (begins_apart begins config p few))

pub found_exactly : associations.FoundExactly → FoundExactlyInMme
found_exactly found w id a h = found w.strangers w.subscribers id a h
