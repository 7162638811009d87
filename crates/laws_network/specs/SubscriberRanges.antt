-- What of a subscriber goes into messages is in range: what never changes of it, its state, and what is heard for it. In the code
-- it is so by the types.
use Rattle.std.specs.Prelude.{◌≡◌, ℕ, ◌^◌, ◌<◌, true, List, [], ◌∷◌, slice_get, Option, Some, None}
use Rattle.per_streams.specs.Octet.{all_below}
use Rattle.esm_machine.specs.Sessions.{transaction_of}
use Rattle.identity_slots.specs.Ids.{slots}
use Rattle.identity_slots.specs.declared.profile.Vector.{Vector}
use Rattle.mme_types.specs.declared.connection.Connection.{Connection}
use Rattle.mme_types.specs.declared.event.Entry.{Entry}
use Rattle.mme_types.specs.declared.event.UeBody.{UeBody}
use Rattle.mme_types.specs.declared.event.UeBody.TheVariants.{Uplink}
use Rattle.mme_types.specs.declared.event.UeMessage.{UeMessage}
use Rattle.mme_types.specs.Events.{Item, Initial, Claim, Message}
use Rattle.emm_state.specs.declared.setting.Setting.{Setting}
use Rattle.emm_state.specs.declared.solo.Context.{Context}
use Rattle.emm_state.specs.declared.solo.Repeat.{Repeat}
use Rattle.emm_state.specs.declared.solo.Repeat.TheVariants as repeats
use Rattle.emm_state.specs.declared.solo.Solo.{Solo}
use Rattle.emm_machine.specs.Steps.{solo_after}
use Rattle.laws_network.specs.Ranges.{ConnectionInRange, IsBrief, KeysInRange, NetworkInRange, ProfileInRange, TaiInRange, VectorInRange}

-- ---- what never changes

-- of one of the slots (TS 36.413 clause 9.2.3.3: ids have 32 bits)
pub record SettingInRange (s : Setting) : Type 0 where
  pub network : NetworkInRange s.network
  pub profile : ProfileInRange s.profile
  pub vectors : (place : ℕ) (v : Vector) → slice_get s.vectors place ≡ Some v → VectorInRange v
  pub slot : s.slot < slots

-- ---- the state

abbrev pub ConnectionInRangeIf : Option Connection → Type 0
ConnectionInRangeIf None = Unit {0}
ConnectionInRangeIf (Some k) = ConnectionInRange k

pub record ContextInRange (x : Context) : Type 0 where
  pub integrity : all_below 256 x.security.integrity ≡ true
  pub radio : KeysInRange x.radio

abbrev pub ContextInRangeIf : Option Context → Type 0
ContextInRangeIf None = Unit {0}
ContextInRangeIf (Some x) = ContextInRange x

-- a NAS message that is sent again has at most 1000 octets
abbrev pub RepeatInRange : Option Repeat → Type 0
RepeatInRange (Some (repeats.Nas protection nas)) = IsBrief 1000 nas
RepeatInRange _ = Unit {0}

pub record SoloInRange (solo : Solo) : Type 0 where
  pub connection : ConnectionInRangeIf solo.connection
  pub context : ContextInRangeIf solo.context
  pub tai : TaiInRange solo.tai
  pub capability : all_below 256 solo.asked.capability ≡ true
  pub transaction : transaction_of solo.bearer.request < 256
  pub repeat : RepeatInRange solo.repeat

-- ---- what is heard

pub record EntryInRange (m : Entry (List ℕ)) : Type 0 where
  pub enb_ue_id : m.enb_ue_id < 2 ^ 24
  pub nas : all_below 256 m.nas ≡ true
  pub tai : TaiInRange m.tai

abbrev pub BodyInRange : UeBody (List ℕ) → Type 0
BodyInRange (Uplink nas tai) = (all_below 256 nas ≡ true) × TaiInRange tai
BodyInRange _ = Unit {0}

pub record MessageInRange (m : UeMessage (List ℕ)) : Type 0 where
  pub mme_ue_id : m.mme_ue_id < 2 ^ 32
  pub enb_ue_id : m.enb_ue_id < 2 ^ 24
  pub body : BodyInRange m.body

abbrev pub ItemInRange : Item → Type 0
ItemInRange (Initial m) = EntryInRange m
ItemInRange (Claim id m) = (id < 2 ^ 32) × EntryInRange m
ItemInRange (Message m) = MessageInRange m
ItemInRange _ = Unit {0}

-- ---- over a run

abbrev pub EachInRange : List Item → Type 0
EachInRange [] = Unit {0}
EachInRange (item ∷ items) = ItemInRange item × EachInRange items

-- what is in range stays so
abbrev pub StaysInRange : Type 0
StaysInRange =
    (s : Setting) (solo : Solo) (items : List Item) → SettingInRange s → SoloInRange solo → EachInRange items
    → SoloInRange (solo_after s solo items)
