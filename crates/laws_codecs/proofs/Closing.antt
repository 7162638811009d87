-- Extension bits, and what stands after them: names, normally small numbers, additions.
use Rattle.std.proofs.Common.{◌≡◌, ℕ, ◌+◌, Bool, true, false, cond, List, [], ◌∷◌, Result, refl}
use Rattle.per_streams.specs.declared.fault.PerFault.{PerFault}
use Rattle.per_streams.specs.declared.fault.PerFault.TheVariants.{Range}
use Rattle.per_streams.specs.Bits.{Place, ◌>>=◌, bit_at, open_at}
use Rattle.per_streams.specs.Each.{times}
use Rattle.per_streams.specs.Exact.{IsBits}
use Rattle.per_bits.specs.FormatLaws.{IsBit, exact_bit, exact_flags, exact_small_number, exact_string}
use Rattle.per_bits.specs.Formats.{left_of, right_of}
use Rattle.per_bits.specs.Reading.{additions_at, closed_at, enumerated_at, extended_at, root_at, small_number_at}
use Rattle.per_bits.specs.Spelling.{SpellsClosed, SpellsNumber, SpellsString, trues}
use Rattle.per_streams.specs.Reading.{number_at}
use Rattle.laws_codecs.specs.Components.{Component, any_bits, zero_bit}
use Rattle.laws_codecs.specs.PerFaults.{AdditionComponents, Alone, ClosedComponents, InOrder, IsZeroBit, NextOf, NumberComponents, SmallNumber, StringComponents, Whether}
use Rattle.laws_codecs.proofs.Telling.{Tells, tells_bind, tells_map, tells_same, tells_whether}
use Rattle.laws_codecs.proofs.Bits.{exact_zero, tells_bit, tells_flags, tells_zero, zero_at}
use Rattle.laws_codecs.proofs.Nexts.{tells_next}
use Rattle.laws_codecs.proofs.Numbers.{tells_number}
use Rattle.laws_codecs.proofs.Strings.{tells_string}

closed_is : {A : Type 0} (fault : PerFault) (r : Place → Result (A × Place) PerFault) (at : ℕ) (rest : List Bool)
    → (zero_at fault (record { at = at; rest = rest }) >>= λ x. r x.1) ≡ closed_at fault r (record { at = at; rest = rest })
closed_is fault r at [] = refl
closed_is fault r at (true ∷ rest) = refl
closed_is fault r at (false ∷ rest) = refl

pub tells_closed : {A : Type 0} (fault : PerFault) (P : Place → Component → Place → Type 0)
    (r : Place → Result (A × Place) PerFault)
    → ((t : Place) → Tells (P t) (r t)) → (s : Place) → Tells (ClosedComponents fault P s) (closed_at fault r s)
tells_closed fault P r h s =
    tells_same (ClosedComponents fault P s) (zero_at fault s >>= λ x. r x.1) (closed_at fault r s) (closed_is fault r s.at s.rest)
    (tells_bind IsZeroBit (Alone (zero_bit fault)) (λ u. P) (zero_at fault) (λ u t. r t) s (exact_zero fault) (tells_zero fault s)
    (λ u t k. h t))

pub tells_small_number : (s : Place) → Tells (SmallNumber s) (small_number_at s)
tells_small_number s = tells_closed Range (NumberComponents 0 63) (number_at 0 63) (tells_number 0 63) s

-- ---- names

pub tells_name : (n : ℕ) (s : Place)
    → Tells (InOrder IsBit (Alone (any_bits 1)) (λ extended. Whether extended SmallNumber (NumberComponents 0 n)) s)
    (enumerated_at n s)
unfolding enumerated_at
tells_name n s =
    tells_bind IsBit (Alone (any_bits 1)) (λ extended. Whether extended SmallNumber (NumberComponents 0 n)) bit_at
    (λ b t. cond b (extended_at t) (root_at n t)) s exact_bit (tells_bit s)
    (λ b t k. tells_whether b SmallNumber (NumberComponents 0 n) (extended_at t) (root_at n t) t
    (λ e. tells_map (SmallNumber t) (small_number_at t) (λ x. (right_of x.0, x.1)) (tells_small_number t))
    (λ e. tells_map (NumberComponents 0 n t) (number_at 0 n t) (λ x. (left_of x.0, x.1)) (tells_number 0 n t)))

-- ---- additions

pub tells_additions : (s : Place) → Tells (AdditionComponents s) (additions_at s)
unfolding additions_at
tells_additions s =
    tells_bind (SpellsClosed (SpellsNumber 0 63)) SmallNumber
    (λ more. InOrder (IsBits (more + 1)) (Alone (any_bits (more + 1)))
    (λ flags. NextOf SpellsString StringComponents (trues flags)))
    small_number_at (λ more t. times bit_at (more + 1) t >>= λ flags. times open_at (trues flags.0) flags.1) s exact_small_number
    (tells_small_number s)
    (λ more t k. tells_bind (IsBits (more + 1)) (Alone (any_bits (more + 1)))
    (λ flags. NextOf SpellsString StringComponents (trues flags)) (times bit_at (more + 1))
    (λ flags u. times open_at (trues flags) u) t (exact_flags (more + 1)) (tells_flags (more + 1) t)
    (λ flags u j. tells_next SpellsString StringComponents open_at exact_string tells_string (trues flags) u))
