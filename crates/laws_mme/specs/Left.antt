-- What is kept of a phone that left (TS 24.301 clauses 5.3.5, 5.5.1.2.5, 5.5.2).
use Rattle.std.specs.Prelude.{◌≡◌, List, None}
use Rattle.sorted_list.specs.Ordered.{Every}
use Rattle.esm_machine.specs.Requests.{inactive}
use Rattle.identity_slots.specs.Provisioned.{Provisioned}
use Rattle.mme_types.specs.Events.{Item}
use Rattle.emm_state.specs.declared.setting.Setting.{Setting}
use Rattle.emm_state.specs.declared.solo.Phase.TheVariants.{Deregistered}
use Rattle.emm_state.specs.declared.solo.Solo.{Solo}
use Rattle.emm_machine.specs.Steps.{solo_after}
use Rattle.emm_machine.specs.SubscriberView.{SubscriberView}
use Rattle.emm_machine.specs.Words.{fresh_solo}
use Rattle.mme_core.specs.declared.config.Config.{Config}
use Rattle.mme_core.specs.declared.event.Event.{Event}
use Rattle.mme_core.specs.World.{fresh_world, world_run}

-- it is deregistered, and has no connection, no context with keys and counts, no M-TMSI and no bearer; nothing is to be sent again,
-- and no countdown runs. What a state has besides are how many ids the slot gave, the place of the next vector, and the tracking
-- area and the capability of the last ATTACH REQUEST
pub record HasLeft (solo : Solo) : Type 0 where
  pub phase : solo.phase ≡ Deregistered
  pub connection : solo.connection ≡ None
  pub context : solo.context ≡ None
  pub tmsi : solo.tmsi ≡ None
  pub bearer : solo.bearer ≡ inactive
  pub repeat : solo.repeat ≡ None
  pub procedure : solo.procedure ≡ None
  pub reachable : solo.reachable ≡ None

-- over every run of a subscriber who was never seen
abbrev pub WhoIsDeregisteredHasLeft : Type 0
WhoIsDeregisteredHasLeft =
    (s : Setting) (items : List Item) → (solo_after s fresh_solo items).phase ≡ Deregistered → HasLeft (solo_after s fresh_solo items)

-- over every run of an MME each who is deregistered has left
abbrev pub HasLeftIfDeregistered : SubscriberView → Type 0
HasLeftIfDeregistered x = x.solo.phase ≡ Deregistered → HasLeft x.solo

abbrev pub EverybodyHasLeft : Type 0
EverybodyHasLeft =
    (config : Config) (p : Provisioned) (events : List Event)
    → Every HasLeftIfDeregistered (world_run (fresh_world config p) events).subscribers
