-- M-TMSIs and GUTIs are apart (TS 23.003 clauses 2.4, 2.8; TS 24.301 clause 5.4.1).
use Rattle.std.specs.Prelude.{◌≡◌, ◌⊎◌, ℕ, List, Some, None, slice_get}
use Rattle.identity_slots.specs.Ids.{id_of_slot, next_counter, slot_in}
use Rattle.identity_slots.specs.Provisioned.{Provisioned}
use Rattle.mme_types.specs.Events.{Item}
use Rattle.mme_signalling.specs.Messages.{guti}
use Rattle.emm_state.specs.declared.setting.Setting.{Setting}
use Rattle.emm_state.specs.declared.solo.Solo.{Solo}
use Rattle.emm_machine.specs.Steps.{solo_after, solo_step}
use Rattle.emm_machine.specs.SubscriberView.{SubscriberView}
use Rattle.emm_machine.specs.Words.{fresh_solo}
use Rattle.mme_core.specs.declared.config.Config.{Config}
use Rattle.mme_core.specs.declared.event.Event.{Event}
use Rattle.mme_core.specs.World.{World, fresh_world, world_run}

-- ---- at a step

-- none is given, and the one that is there stays or is gone
pub record TmsiStays (before after : Solo) : Type 0 where
  pub counter : after.tmsis ≡ before.tmsis
  pub tmsi : (after.tmsi ≡ None) ⊎ (after.tmsi ≡ before.tmsi)

-- the slot's next is given, and is there or is gone already
pub record TmsiIsGiven (s : Setting) (before after : Solo) : Type 0 where
  pub counter : after.tmsis ≡ next_counter before.tmsis
  pub tmsi : (after.tmsi ≡ None) ⊎ (after.tmsi ≡ Some (id_of_slot s.slot (next_counter before.tmsis)))

abbrev pub TmsisComeSo : Type 0
TmsisComeSo =
    (s : Setting) (solo : Solo) (item : Item)
    → TmsiStays solo (solo_step s solo item).solo ⊎ TmsiIsGiven s solo (solo_step s solo item).solo

-- ---- over a run

-- it is made of the slot
abbrev pub TmsisAreOwn : Type 0
TmsisAreOwn =
    (s : Setting) (items : List Item) (tmsi : ℕ) → (solo_after s fresh_solo items).tmsi ≡ Some tmsi → slot_in tmsi ≡ s.slot

-- ---- in an MME

-- a subscriber has this M-TMSI
pub record IsNamed (w : World) (slot tmsi : ℕ) : Type 0 where
  pub subscriber : SubscriberView
  pub there : slice_get w.subscribers slot ≡ Some subscriber
  pub named : subscriber.solo.tmsi ≡ Some tmsi

-- no two have one M-TMSI
abbrev pub NoTwoHaveOneTmsi : Type 0
NoTwoHaveOneTmsi =
    (config : Config) (p : Provisioned) (events : List Event) (slot other tmsi : ℕ)
    → IsNamed (world_run (fresh_world config p) events) slot tmsi
    → IsNamed (world_run (fresh_world config p) events) other tmsi → slot ≡ other

-- nor one GUTI
abbrev pub NoTwoHaveOneGuti : Type 0
NoTwoHaveOneGuti =
    (config : Config) (p : Provisioned) (events : List Event) (slot other tmsi second : ℕ)
    → IsNamed (world_run (fresh_world config p) events) slot tmsi
    → IsNamed (world_run (fresh_world config p) events) other second → guti config.network tmsi ≡ guti config.network second
    → slot ≡ other
