-- What strangers send at a notice: at a tick those alone whose T3470 it ends, at what happens to a station none.
use Rattle.std.proofs.Common.{◌≡◌, ℕ, List, [], ◌∷◌, ◌++◌, map, Option, Some, None, refl, ◌∙◌, ap}
use Rattle.std.specs.Prelude.{false, true, option_map}
use Rattle.std.specs.Option.{option_map_or}
use Rattle.sorted_list.specs.Ordered.{Rising, at}
use Rattle.sorted_list.specs.Laws.{at_key}
use Rattle.stranger_machine.specs.declared.state.Stranger.{Stranger}
use Rattle.stranger_machine.specs.declared.table.Known.{Known}
use Rattle.stranger_machine.specs.declared.turn.Notice.{Notice}
use Rattle.stranger_machine.specs.declared.turn.Notice.TheVariants.{Tick}
use Rattle.stranger_machine.specs.Machine.{is_of_station, notes}
use Rattle.stranger_machine.specs.StationLaws.{station_silent}
use Rattle.stranger_machine.specs.Table.{known_id, stranger_at}
use Rattle.stranger_machine.specs.TickLaws.{quiet_notice}
use Rattle.stranger_machine.specs.Ticks.{is_ending}
use Rattle.stranger_machine.specs.Turns.{Turn}
use Rattle.mme_tables.specs.StrangerLaws.{all_give_as_ending, all_known_give, some_known_give}
use Rattle.mme_tables.specs.Waiting.{due_ids}
use Rattle.mme_answering.specs.declared.out.Out.{Out}
use Rattle.mme_answering.specs.Settled.{known_sent}
use Rattle.mme_answering.specs.Sending.{each_known, stranger_out}

each_gives : (notice : Notice) (ks : List Known) → all_known_give (known_sent notice) ks ≡ each_known notice ks
each_gives notice [] = refl
each_gives notice (k ∷ ks) = ap (λ (os : List Out). known_sent notice k ++ os) (each_gives notice ks)

quiet_sent : (k : Known) → is_ending k.stranger ≡ false → known_sent Tick k ≡ []
quiet_sent k h = ap (λ (t : Turn). map (stranger_out k.id) t.sent) (quiet_notice k.id k.stranger h)

-- those who are due send all that is sent at a tick
pub due_known : (ks : List Known) → Rising known_id ks → some_known_give (known_sent Tick) (due_ids ks) ks ≡ each_known Tick ks
due_known ks h = all_give_as_ending (known_sent Tick) ks h quiet_sent ∙ each_gives Tick ks

-- nobody sends anything at what happens to a station
pub none_known : (notice : Notice) (ks : List Known) → is_of_station notice ≡ true → each_known notice ks ≡ []
none_known notice [] h = refl
none_known notice (k ∷ ks) h =
    ap (λ sent. map (stranger_out k.id) sent ++ each_known notice ks) (station_silent k.id (Some k.stranger) notice h)
    ∙ none_known notice ks h

-- ---- one of them

found_by : (id : ℕ) (s : Stranger) (o : Option Known) (ks : List Known) → at known_id id ks ≡ o
    → option_map (λ (k : Known). k.stranger) o ≡ Some s
    → option_map_or (known_sent Tick) o [] ≡ map (stranger_out id) (notes id (Some s) Tick).sent
found_by id s None ks h q = absurd cc
found_by id s (Some k) ks h q =
    let own : k.id ≡ id = at_key known_id id k ks h in
    let same : k.stranger ≡ s = cc in
    ap (λ i. map (stranger_out i) (notes i (Some k.stranger) Tick).sent) own
    ∙ ap (λ x. map (stranger_out id) (notes id (Some x) Tick).sent) same

pub found_sent : (id : ℕ) (s : Stranger) (ks : List Known) → stranger_at id ks ≡ Some s
    → option_map_or (known_sent Tick) (at known_id id ks) [] ≡ map (stranger_out id) (notes id (Some s) Tick).sent
found_sent id s ks q = found_by id s (at known_id id ks) ks refl q

none_by : (o : Option Known) → option_map (λ (k : Known). k.stranger) o ≡ None → option_map_or (known_sent Tick) o [] ≡ []
none_by None q = refl
none_by (Some k) q = absurd cc

pub none_sent : (id : ℕ) (ks : List Known) → stranger_at id ks ≡ None → option_map_or (known_sent Tick) (at known_id id ks) [] ≡ []
none_sent id ks q = none_by (at known_id id ks) q
