-- A phone is paged only where it is (TS 36.413 clause 8.5, TS 24.301 clause 5.6.2).
use Rattle.std.specs.Prelude.{◌≡◌, ℕ, ◌<◌, Bool, true, false, List, [], ◌∷◌, All, AllPairs, Contains, filter, slice_get, Some, Result, Ok, Err}
use Rattle.std.specs.Int.{w32, to_be_bytes}
use Rattle.s1ap_elements.specs.declared.phone.UePagingId.TheVariants.{STmsi}
use Rattle.s1ap_rows.specs.declared.fault.S1apFault.{S1apFault}
use Rattle.s1ap_pdus.specs.declared.pdu.Paging.{Paging}
use Rattle.s1ap_pdus.specs.declared.pdu.Pdu.{Pdu}
use Rattle.s1ap_pdus.specs.declared.pdu.Pdu.TheVariants as pdu
use Rattle.s1ap_pdus.specs.Pdus.{decoded}
use Rattle.identity_slots.specs.Provisioned.{Provisioned}
use Rattle.mme_types.specs.declared.octets.Answer.{Answer}
use Rattle.mme_types.specs.declared.stations.StationState.{StationState}
use Rattle.mme_types.specs.Events.{Data}
use Rattle.emm_state.specs.declared.setting.Setting.{Setting}
use Rattle.emm_state.specs.declared.solo.Repeat.TheVariants as repeats
use Rattle.emm_state.specs.declared.solo.Solo.{Solo}
use Rattle.emm_state.specs.Actions.{untouched}
use Rattle.emm_machine.specs.Idle.{may_page}
use Rattle.emm_machine.specs.Steps.{solo_step}
use Rattle.emm_machine.specs.SubscriberView.{SubscriberView}
use Rattle.mme_core.specs.declared.config.Config.{Config}
use Rattle.mme_core.specs.declared.event.Event.{Event}
use Rattle.mme_core.specs.Projection.{item_for}
use Rattle.mme_core.specs.World.{World, fresh_world, strangers_in, world_run}
use Rattle.laws_network.specs.Placed.{Listens}

-- ---- what is sent

abbrev pub is_page : Pdu (List ℕ) → Bool
is_page (pdu.Paging m) = true
is_page _ = false

abbrev pub reads_page : Result (Pdu (List ℕ)) S1apFault → Bool
reads_page (Ok m) = is_page m
reads_page (Err fault) = false

-- a message that is read as PAGING
abbrev pub has_page : Answer → Bool
has_page a = reads_page (decoded a.octets)

-- the station is set up and broadcasts the phone's tracking area, which is the one that PAGING names, and the phone is named by its
-- M-TMSI (TS 36.413 clause 9.1.6)
pub record IsPageFor (stations : List StationState) (s : Setting) (solo : Solo) (station : ℕ) (m : Paging (List ℕ)) : Type 0 where
  pub listens : Listens stations solo.tai station
  pub area : m.tai_list ≡ record { value = record { tai = solo.tai } } ∷ []
  pub tmsi : ℕ
  pub given : solo.tmsi ≡ Some tmsi
  pub name : m.paging_id ≡ STmsi (record { code = s.network.code; m_tmsi = to_be_bytes w32 tmsi })

abbrev pub PagesThere : List StationState → Setting → Solo → Answer → Type 0
PagesThere stations s solo a = (m : Paging (List ℕ)) → decoded a.octets ≡ Ok (pdu.Paging m) → IsPageFor stations s solo a.station m

-- by the number of its station
abbrev pub GoesBefore : Answer → Answer → Type 0
GoesBefore a b = a.station < b.station

-- each PAGING among what is sent goes there, and no two to one station
pub record PagesRightly (stations : List StationState) (s : Setting) (solo : Solo) (sent : List Answer) : Type 0 where
  pub there : All (PagesThere stations s solo) sent
  pub once : AllPairs GoesBefore (filter has_page sent)

-- ---- over every run of an MME

-- at an event, what is sent for a slot
abbrev pub sent_for : World → Event → ℕ → SubscriberView → List Answer
sent_for w event slot x = (solo_step x.setting x.solo (item_for slot w.sight (strangers_in w) event)).sent

-- after any list of events, at the next
abbrev pub PagedWhereTheyAre : Type 0
PagedWhereTheyAre =
    (config : Config) (p : Provisioned) (seen : List Event) (next : Event) (slot : ℕ) (x : SubscriberView)
    → slice_get (world_run (fresh_world config p) seen).subscribers slot ≡ Some x
    → PagesRightly (world_run (fresh_world config p) seen).sight.stations x.setting x.solo
    (sent_for (world_run (fresh_world config p) seen) next slot x)

-- ---- the first time

-- where data waits for a phone that may be paged, all stations that broadcast its tracking area are asked, and to these paging goes
-- again
pub record AllAreAsked (s : Setting) (solo : Solo) (stations : List StationState) : Type 0 where
  pub asked : List ℕ
  pub again : (solo_step s solo (Data stations)).solo.repeat ≡ Some (repeats.Paging asked)
  pub all : (station : ℕ) → Listens stations solo.tai station → Contains asked station

abbrev pub AllWhoListen : Type 0
AllWhoListen = (s : Setting) (solo : Solo) (stations : List StationState) → may_page (untouched solo) ≡ true
    → AllAreAsked s solo stations
