-- Reading the elements of a message one after the other, as a loop does.
use Rattle.std.proofs.Common.{◌≡◌, ℕ, suc, ◌-◌, ◌+◌, ◌≤◌, ◌<◌, Result, Ok, Err, refl, sym, ◌∙◌, arith}
use Rattle.per_streams.specs.declared.fault.PerFault.{PerFault}
use Rattle.s1ap_rows.specs.declared.fault.S1apFault.{S1apFault}
use Rattle.s1ap_rows.specs.declared.fault.S1apFault.TheVariants as faults
use Rattle.per_streams.specs.Bits.{Place}
use Rattle.per_streams.specs.Reading.{number_at}
use Rattle.s1ap_rows.specs.Rows.{Rows, Slots}
use Rattle.s1ap_rows.specs.Reading.{put_at, elements_at}
use Rattle.s1ap_rows.specs.Answers.{FailsAs}

pub goes_on : (rs : Rows) (count i : ℕ) (slots : Slots rs) (s : Place) (id : ℕ) (t : Place) (after : Slots rs) (u : Place)
    (total : Result (Slots rs × Place) S1apFault)
    → i < count → number_at 0 65535 s ≡ Ok (id, t) → put_at rs id slots t ≡ Ok (after, u)
    → elements_at rs (count - i) slots s ≡ total → elements_at rs (count - (i + 1)) after u ≡ total
unfolding elements_at
goes_on rs count i slots s id t after u total lt h p so_far =
    let k : count - i ≡ suc (count - (i + 1)) = omega arith in
    let one : elements_at rs (count - i) slots s ≡ elements_at rs (count - (i + 1)) after u = rw (k, h, p) refl in
    sym one ∙ so_far

pub ends_syntax : (rs : Rows) (count i : ℕ) (slots : Slots rs) (s : Place) (f : PerFault)
    (total : Result (Slots rs × Place) S1apFault)
    → i < count → number_at 0 65535 s ≡ Err f
    → elements_at rs (count - i) slots s ≡ total → total ≡ Err (faults.Syntax f)
unfolding elements_at
ends_syntax rs count i slots s f total lt h so_far =
    let k : count - i ≡ suc (count - (i + 1)) = omega arith in
    let one : elements_at rs (count - i) slots s ≡ Err (faults.Syntax f) = rw (k, h) refl in
    sym so_far ∙ one

stops : (rs : Rows) (count i : ℕ) (slots : Slots rs) (s : Place) (id : ℕ) (t : Place) (f : S1apFault)
    (total : Result (Slots rs × Place) S1apFault)
    → i < count → number_at 0 65535 s ≡ Ok (id, t) → put_at rs id slots t ≡ Err f
    → elements_at rs (count - i) slots s ≡ total → total ≡ Err f
unfolding elements_at
stops rs count i slots s id t f total lt h p so_far =
    let k : count - i ≡ suc (count - (i + 1)) = omega arith in
    let one : elements_at rs (count - i) slots s ≡ Err f = rw (k, h, p) refl in
    sym so_far ∙ one

pub ends_put : (f : S1apFault) (rs : Rows) (count i : ℕ) (slots : Slots rs) (s : Place) (id : ℕ) (t : Place)
    (total : Result (Slots rs × Place) S1apFault)
    → i < count → number_at 0 65535 s ≡ Ok (id, t) → FailsAs f (put_at rs id slots t)
    → elements_at rs (count - i) slots s ≡ total → FailsAs f total
ends_put faults.NoMemory rs count i slots s id t total lt h p so_far = tt
ends_put (faults.Syntax f) rs count i slots s id t total lt h p so_far =
    stops rs count i slots s id t (faults.Syntax f) total lt h p so_far
ends_put (faults.UnknownProcedure f) rs count i slots s id t total lt h p so_far =
    stops rs count i slots s id t (faults.UnknownProcedure f) total lt h p so_far
ends_put (faults.MissingElement f) rs count i slots s id t total lt h p so_far =
    stops rs count i slots s id t (faults.MissingElement f) total lt h p so_far
ends_put (faults.RepeatedElement f) rs count i slots s id t total lt h p so_far =
    stops rs count i slots s id t (faults.RepeatedElement f) total lt h p so_far
ends_put (faults.RefusedElement f) rs count i slots s id t total lt h p so_far =
    stops rs count i slots s id t (faults.RefusedElement f) total lt h p so_far

pub is_done : (rs : Rows) (count i : ℕ) (slots : Slots rs) (s : Place) (total : Result (Slots rs × Place) S1apFault) → count ≤ i
    → elements_at rs (count - i) slots s ≡ total → total ≡ Ok (slots, s)
unfolding elements_at
is_done rs count i slots s total le so_far =
    let k : count - i ≡ 0 = omega arith in
    let one : elements_at rs (count - i) slots s ≡ Ok (slots, s) = rw k refl in
    sym so_far ∙ one
