-- What a notice of a station makes of a stranger: it is closed, or left as it is, and sends nothing.
use Rattle.std.proofs.Common.{◌≡◌, ℕ, [], Bool, true, false, Option, Some, refl, ◌∙◌, ap}
use Rattle.std.specs.Prelude.{◌==◌, ◌&&◌, if◌then◌else◌, is_some, not}
use Rattle.identity_slots.specs.Ids.{number_in, station_in}
use Rattle.mme_types.specs.Listed.{is_listed}
use Rattle.stranger_machine.specs.declared.state.Stranger.{Stranger}
use Rattle.stranger_machine.specs.declared.turn.Notice.{Notice}
use Rattle.stranger_machine.specs.declared.turn.Notice.TheVariants.{Tick, Gone, Listed}
use Rattle.stranger_machine.specs.Machine.{closes, is_of_station, loses, noted_station, notes, unlists}
use Rattle.stranger_machine.specs.Table.{stays_open}
use Rattle.stranger_machine.specs.Turns.{Turn, closing, stays}

-- a notice of a station closes a stranger or leaves it as it is
pub station_notes : (id : ℕ) (s : Option Stranger) (notice : Notice) → is_of_station notice ≡ true
    → notes id s notice ≡ (if closes id notice then closing [] else stays s [])
unfolding notes loses unlists
station_notes id s Tick h = cc
station_notes id s (Gone e) h = refl
station_notes id s (Listed e items) h = refl

silent_by : (b : Bool) (s : Option Stranger) → (let t : Turn = (if b then closing [] else stays s []) in t.sent) ≡ []
silent_by true s = refl
silent_by false s = refl

-- nothing is sent at it
pub station_silent : (id : ℕ) (s : Option Stranger) (notice : Notice) → is_of_station notice ≡ true → (notes id s notice).sent ≡ []
station_silent id s notice h = ap (λ (t : Turn). t.sent) (station_notes id s notice h) ∙ silent_by (closes id notice) s

open_by : (b : Bool) (s : Stranger) → is_some (let t : Turn = (if b then closing [] else stays (Some s) []) in t.stranger) ≡ not b
open_by true s = refl
open_by false s = refl

-- who stays open is told by the id alone
pub station_open : (id : ℕ) (s : Stranger) (notice : Notice) → is_of_station notice ≡ true
    → stays_open notice (record { id = id; stranger = s }) ≡ not (closes id notice)
station_open id s notice h =
    ap (λ (t : Turn). is_some t.stranger) (station_notes id (Some s) notice h) ∙ open_by (closes id notice) s

both_no : (a b : Bool) → a ≡ false → (a && b) ≡ false
both_no true b h = cc
both_no false b h = refl

-- strangers of other stations stay open
pub others_stay : (id : ℕ) (notice : Notice) → (station_in id == noted_station notice) ≡ false → closes id notice ≡ false
others_stay id Tick h = refl
others_stay id (Gone e) h = h
others_stay id (Listed e items) h = both_no (station_in id == e) (is_listed id (number_in id) items) h
