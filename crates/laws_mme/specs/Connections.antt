-- Who can end or move a phone's connection (TS 36.413 clauses 8.3.3, 8.4.4, 8.6.2.1, 8.7.1).
use Rattle.std.specs.Prelude.{◌≡◌, ◌⊎◌, true, Option, Some, None}
use Rattle.mme_types.specs.declared.connection.Connection.{Connection}
use Rattle.mme_types.specs.declared.event.UeBody.TheVariants.{PathSwitch}
use Rattle.mme_types.specs.Events.{Item, Message, Displaced, StationGone, ConnectionsGone}
use Rattle.mme_types.specs.Listed.{is_listed}
use Rattle.emm_state.specs.declared.setting.Setting.{Setting}
use Rattle.emm_state.specs.declared.solo.Context.{Context}
use Rattle.emm_state.specs.declared.solo.Solo.{Solo}
use Rattle.emm_machine.specs.Steps.{solo_step}
use Rattle.laws_subscriber.specs.Sound.{IsSound}
use Rattle.laws_subscriber.specs.Unproved.{begins_attach, is_no_message, is_proved_message}

-- its own station: a message on the connection, another phone's first message on its id, the loss or the RESET of the station, or a
-- RESET of a part that names it
abbrev pub IsOfItsStation : Item → Connection → Type 0
IsOfItsStation (Message m) k = (m.mme_ue_id ≡ k.id) × (m.station ≡ k.station) × (m.enb_ue_id ≡ k.enb_ue_id)
IsOfItsStation (Displaced id) k = id ≡ k.id
IsOfItsStation (StationGone e) k = e ≡ k.station
IsOfItsStation (ConnectionsGone e items) k = (e ≡ k.station) × (is_listed k.id k.enb_ue_id items ≡ true)
IsOfItsStation _ k = ⊥

-- a path switch: PATH SWITCH REQUEST with its id
abbrev pub IsSwitchOf : Item → Connection → Type 0
IsSwitchOf (Message m) k = (m.body ≡ PathSwitch) × (m.mme_ue_id ≡ k.id)
IsSwitchOf _ k = ⊥

-- a message that carries the phone's MAC
abbrev pub IsProvedBy : Option Context → Item → Type 0
IsProvedBy None item = ⊥
IsProvedBy (Some x) item = is_proved_message x item ≡ true

-- these can end a connection or move it: its own station, an ATTACH REQUEST that names the phone, a message with its MAC, a path
-- switch; and the network itself, by its timers or a withdrawn subscription
pub data MayEnd (solo : Solo) (item : Item) (k : Connection) : Type 0 where
  ItsStation : IsOfItsStation item k → MayEnd solo item k
  Attach : begins_attach item ≡ true → MayEnd solo item k
  Proved : IsProvedBy solo.context item → MayEnd solo item k
  Switch : IsSwitchOf item k → MayEnd solo item k
  Network : is_no_message item ≡ true → MayEnd solo item k

-- at all else it stays
abbrev pub ConnectionsStay : Type 0
ConnectionsStay =
    (s : Setting) (solo : Solo) (item : Item) (k : Connection) → IsSound s solo → solo.connection ≡ Some k
    → ((solo_step s solo item).solo.connection ≡ Some k) ⊎ MayEnd solo item k
