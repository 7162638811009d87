-- By what the tracking area of a phone that is registered changes (TS 24.301 clauses 5.5.1.2.4, 5.5.3.2.4).
use Rattle.std.specs.Prelude.{◌≡◌, ◌⊎◌, true, Some}
use Rattle.mme_types.specs.Events.{Item}
use Rattle.emm_state.specs.declared.setting.Setting.{Setting}
use Rattle.emm_state.specs.declared.solo.Solo.{Solo}
use Rattle.emm_state.specs.Actions.{is_registered}
use Rattle.emm_machine.specs.Steps.{solo_step}
use Rattle.laws_subscriber.specs.Sound.{IsSound}
use Rattle.laws_subscriber.specs.Unproved.{begins_attach}
use Rattle.laws_mme.specs.Connections.{IsProvedBy}
use Rattle.laws_subscriber.specs.Keeps.{tai_of}

-- it is the one that the station names, with an ATTACH REQUEST in the phone's name or a message that carries its MAC
pub record AreaIsNamed (s : Setting) (solo : Solo) (item : Item) : Type 0 where
  pub named : tai_of item ≡ Some (solo_step s solo item).solo.tai
  pub by : (begins_attach item ≡ true) ⊎ IsProvedBy solo.context item

abbrev pub AreasComeSo : Type 0
AreasComeSo =
    (s : Setting) (solo : Solo) (item : Item) → IsSound s solo → is_registered solo.phase ≡ true
    → ((solo_step s solo item).solo.tai ≡ solo.tai) ⊎ AreaIsNamed s solo item
