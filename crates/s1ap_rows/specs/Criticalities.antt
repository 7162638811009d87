-- Criticalities and their numbers (TS 36.413 clause 9.3.5).
use Rattle.std.specs.Prelude.{◌≡◌, ℕ, ◌==◌, if◌then◌else◌, refl}
use Rattle.s1ap_rows.specs.declared.criticality.Criticality.{Criticality}
use Rattle.s1ap_rows.specs.declared.criticality.Criticality.TheVariants.{Reject, Ignore, Notify}

-- the number of a criticality in an encoding
abbrev pub criticality_number : Criticality → ℕ
criticality_number Reject = 0
criticality_number Ignore = 1
criticality_number Notify = 2

-- the criticality of a number, 0 to 2
abbrev pub criticality_named : ℕ → Criticality
criticality_named n = if n == 0 then Reject else if n == 1 then Ignore else Notify

-- the number of a criticality names it
pub named_again : (c : Criticality) → criticality_named (criticality_number c) ≡ c
named_again Reject = refl
named_again Ignore = refl
named_again Notify = refl
