-- A notice to one stranger of a list of associations that a station reset.
use Rattle.std.proofs.Common.{◌≡◌, ℕ, [], Bool, true, false, Option, Some, refl, sym, ◌∙◌, ap}
use Rattle.std.specs.Prelude.{if◌then◌else◌, is_some, not, unwrap_or}
use Rattle.stranger_machine.specs.declared.state.Stranger.{Stranger}
use Rattle.mme_types.specs.Listed.{ToReset}
use Rattle.stranger_machine.specs.declared.turn.Notice.{Notice}
use Rattle.stranger_machine.specs.declared.turn.Notice.TheVariants.{Listed}
use Rattle.stranger_machine.specs.Machine.{is_meant, notes, unlists}
use Rattle.stranger_machine.specs.Turns.{Turn, closing, stays}
use Rattle.stranger_machine.specs.Table.{passed, stays_open}

abbrev closed_if : Bool → Option Stranger → Turn
closed_if b s = if b then closing [] else stays s []

open_if : (b : Bool) (s : Stranger) → is_some (closed_if b (Some s)).stranger ≡ not b
open_if true s = refl
open_if false s = refl

silent_if : (b : Bool) (s : Option Stranger) → (closed_if b s).sent ≡ []
silent_if true s = refl
silent_if false s = refl

left_if : (b : Bool) (s : Stranger) → unwrap_or (closed_if b (Some s)).stranger s ≡ s
left_if true s = refl
left_if false s = refl

-- it leaves those open whom it doesn't mean
pub listed_open : (notice : Notice) (id e : ℕ) (s : Stranger) (items : ToReset) → notice ≡ Listed e items
    → stays_open notice (record { id = id; stranger = s }) ≡ not (is_meant id e items)
unfolding notes unlists
listed_open notice id e s items is = ap (λ n. is_some (notes id (Some s) n).stranger) is ∙ open_if (is_meant id e items) s

-- nothing is sent for it
pub listed_sent : (notice : Notice) (id e : ℕ) (s : Option Stranger) (items : ToReset) → notice ≡ Listed e items
    → (notes id s notice).sent ≡ []
unfolding notes unlists
listed_sent notice id e s items is = ap (λ n. (notes id s n).sent) is ∙ silent_if (is_meant id e items) s

-- who is left open by it is who he was
pub listed_left : (notice : Notice) (id e : ℕ) (s : Stranger) (items : ToReset) → notice ≡ Listed e items
    → s ≡ (passed notice (record { id = id; stranger = s })).stranger
unfolding notes unlists
listed_left notice id e s items is = sym (ap (λ n. unwrap_or (notes id (Some s) n).stranger s) is ∙ left_if (is_meant id e items) s)
