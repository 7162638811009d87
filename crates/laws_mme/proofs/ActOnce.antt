-- One act: what every owner may see after it, and what strangers and stations are told and become.
use Rattle.std.proofs.Common.{◌≡◌, ◌<◌, ℕ, length, map, Option, Some, None, refl, sym, ◌∙◌, ap}
use Rattle.sorted_list.specs.Ordered.{Rising}
use Rattle.identity_slots.specs.declared.provision.ProvisionFault.{ProvisionFault}
use Rattle.identity_slots.specs.Provisioned.{add_fault}
use Rattle.mme_types.specs.Stations.{station_at}
use Rattle.stranger_machine.specs.Machine.{stranger_step}
use Rattle.stranger_machine.specs.Machine as inputs
use Rattle.stranger_machine.specs.Table.{known_id, stranger_at}
use Rattle.stranger_machine.specs.Laws as strangers
use Rattle.mme_core.specs.declared.config.Config.{Config}
use Rattle.mme_core.specs.declared.event.StepFault.{StepFault}
use Rattle.mme_core.specs.Laws.{RepliesSo}
use Rattle.mme_core.specs.Projection.{answer_told, is_station, is_stranger, told_in}
use Rattle.mme_core.specs.Provisioning.{give_fault, sight_added, world_added, world_given}
use Rattle.mme_core.specs.Sight.{Sight}
use Rattle.mme_core.specs.World.{World, event_fault, sight_moved, strangers_in, unless}
use Rattle.laws_mme.specs.Acts.{Act, Adds, Gives, Happens, act_after, act_reply, unless_refused}
use Rattle.laws_mme.specs.ActsAlone.{act_input, sight_acted, station_after, station_sent_at, strangers_acted}
use Rattle.laws_mme.proofs.ActsKept.{either_way}
use Rattle.laws_mme.proofs.StationsAlone.{station_once}
use Rattle.laws_mme.proofs.Turns.{sight_once, station_told_once, stranger_once, stranger_told_once}

-- ---- what every owner may see

sight_unless : (o : Option ProvisionFault) (w v : World) → (unless_refused o w v).sight ≡ unless_refused o w.sight v.sight
sight_unless None w v = refl
sight_unless (Some fault) w v = refl

same_sight : (o : Option ProvisionFault) (w v : World) → v.sight ≡ w.sight → (unless_refused o w v).sight ≡ w.sight
same_sight None w v h = h
same_sight (Some fault) w v h = refl

pub sight_act : (w : World) (act : Act) → (act_after w act).sight ≡ sight_acted w.sight act
sight_act w (Happens event) = sight_once w event
sight_act w (Adds p) = sight_unless (add_fault p w.sight.profiles) w (world_added p w)
sight_act w (Gives slot v) = same_sight (give_fault slot w) w (world_given slot v w) refl

config_unless : (o : Option StepFault) (s t : Sight) → t.config ≡ s.config → (unless o s t).config ≡ s.config
config_unless None s t h = h
config_unless (Some fault) s t h = refl

config_acted : (s : Sight) (act : Act) → (sight_acted s act).config ≡ s.config
config_acted s (Happens event) = config_unless (event_fault s event) s (sight_moved s event) refl
config_acted s (Adds p) = either_way (λ (t : Sight). t.config ≡ s.config) (add_fault p s.profiles) s (sight_added p s) refl (λ is. refl)
config_acted s (Gives slot v) = refl

pub network_act : (w : World) (act : Act) → (act_after w act).sight.config.network ≡ w.sight.config.network
network_act w act =
    ap (λ (s : Sight). s.config.network) (sight_act w act) ∙ ap (λ (c : Config). c.network) (config_acted w.sight act)

-- ---- strangers

same_strangers : (o : Option ProvisionFault) (w v : World) → v.strangers ≡ w.strangers → (unless_refused o w v).strangers ≡ w.strangers
same_strangers None w v h = h
same_strangers (Some fault) w v h = refl

-- (a stranger that nothing reaches stays)
stranger_stays : (w u : World) (id : ℕ) → u.strangers ≡ w.strangers
    → stranger_at id u.strangers ≡ (stranger_step w.sight.profiles id (stranger_at id w.strangers) inputs.Nothing).stranger
stranger_stays w u id same =
    ap (stranger_at id) same ∙ sym (ap (λ t. t.stranger) (strangers.at_nothing w.sight.profiles id (stranger_at id w.strangers)))

pub stranger_act : (w : World) (act : Act) (id : ℕ) → Rising known_id w.strangers
    → stranger_at id (act_after w act).strangers ≡ strangers_acted w.sight (strangers_in w) act id
stranger_act w (Happens event) id r = stranger_once w event id r
stranger_act w (Adds p) id r =
    stranger_stays w (act_after w (Adds p)) id (same_strangers (add_fault p w.sight.profiles) w (world_added p w) refl)
stranger_act w (Gives slot v) id r =
    stranger_stays w (act_after w (Gives slot v)) id (same_strangers (give_fault slot w) w (world_given slot v w) refl)

pub stranger_told_act : RepliesSo → (w : World) (act : Act) (id : ℕ) → Rising known_id w.strangers
    → told_in (is_stranger id) (act_reply w act)
    ≡ map answer_told (stranger_step w.sight.profiles id (stranger_at id w.strangers) (act_input w.sight id act)).sent
stranger_told_act so w (Happens event) id r = stranger_told_once so w event id r
stranger_told_act so w (Adds p) id r =
    sym (ap (λ t. map answer_told t.sent) (strangers.at_nothing w.sight.profiles id (stranger_at id w.strangers)))
stranger_told_act so w (Gives slot v) id r =
    sym (ap (λ t. map answer_told t.sent) (strangers.at_nothing w.sight.profiles id (stranger_at id w.strangers)))

-- ---- stations

pub station_told_act : RepliesSo → (w : World) (act : Act) (e : ℕ) → Rising known_id w.strangers
    → told_in (is_station e) (act_reply w act) ≡ station_sent_at w.sight e act
station_told_act so w (Happens event) e r = station_told_once so w event e r
station_told_act so w (Adds p) e r = refl
station_told_act so w (Gives slot v) e r = refl

pub station_act : (s : Sight) (act : Act) (e : ℕ) → e < length s.stations
    → station_at (sight_acted s act).stations e ≡ station_after s e (station_at s.stations e) act
station_act s (Happens event) e lt = station_once s event e lt
station_act s (Adds p) e lt =
    either_way (λ (t : Sight). station_at t.stations e ≡ station_at s.stations e) (add_fault p s.profiles) s (sight_added p s) refl
    (λ is. refl)
station_act s (Gives slot v) e lt = refl
