-- The strangers that aren't closed, by rising id; the others are closed.
use Rattle.std.specs.Prelude.{ℕ, List, [], ◌∷◌, Option, Some, None, Bool, is_some, option_map, unwrap_or}
use Rattle.identity_slots.specs.declared.profile.Profile.{Profile}
use Rattle.sorted_list.specs.Ordered.{at, put, without}
use Rattle.stranger_machine.specs.declared.state.Stranger.{Stranger}
use Rattle.stranger_machine.specs.declared.table.Known.{Known}
use Rattle.stranger_machine.specs.declared.turn.Notice.{Notice}
use Rattle.stranger_machine.specs.Machine.{Input, notes, stranger_step}

abbrev pub known_id : Known → ℕ
known_id k = k.id

abbrev pub stranger_at : ℕ → List Known → Option Stranger
stranger_at id ks = option_map (λ k. k.stranger) (at known_id id ks)

-- the stranger with the id is that one from now on
abbrev pub with_stranger : ℕ → Option Stranger → List Known → List Known
with_stranger id None ks = without known_id id ks
with_stranger id (Some s) ks = put known_id (record { id = id; stranger = s }) ks

abbrev pub known_if : ℕ → Option Stranger → List Known → List Known
known_if id None ks = ks
known_if id (Some s) ks = record { id = id; stranger = s } ∷ ks

-- each after the notice
abbrev pub noted : Notice → List Known → List Known
noted notice [] = []
noted notice (k ∷ ks) = known_if k.id (notes k.id (Some k.stranger) notice).stranger (noted notice ks)

-- where one of them takes an input
abbrev pub with_input : List Profile → ℕ → Input → List Known → List Known
with_input ps id input ks = with_stranger id (stranger_step ps id (stranger_at id ks) input).stranger ks

-- ---- a notice to one: who is closed by it goes, who is left takes it

abbrev pub stays_open : Notice → Known → Bool
stays_open notice k = is_some (notes k.id (Some k.stranger) notice).stranger

abbrev pub passed : Notice → Known → Known
passed notice k = record { id = k.id; stranger = unwrap_or (notes k.id (Some k.stranger) notice).stranger k.stranger }
