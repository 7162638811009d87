-- A step made a number of times, as a loop makes it.
use Rattle.std.proofs.Common.{◌≡◌, ℕ, suc, ◌-◌, ◌+◌, ◌<◌, ◌≤◌, Result, Ok, Err, refl, sym, ◌∙◌, arith}
use Rattle.mme_snapshot.specs.declared.fault.RestoreFault.{RestoreFault}
use Rattle.mme_snapshot.specs.Restored.{repeated}

pub goes_on : {S : Type 0} (step : S → Result S RestoreFault) (count i : ℕ) (s t : S) (total : Result S RestoreFault) → i < count
    → step s ≡ Ok t → repeated step (count - i) s ≡ total → repeated step (count - (i + 1)) t ≡ total
unfolding repeated
goes_on step count i s t total lt h so_far =
    let k : count - i ≡ suc (count - (i + 1)) = omega arith in
    let one : repeated step (count - i) s ≡ repeated step (count - (i + 1)) t = rw (k, h) refl in
    sym one ∙ so_far

pub ends : {S : Type 0} (step : S → Result S RestoreFault) (fault : RestoreFault) (count i : ℕ) (s : S) (total : Result S RestoreFault)
    → i < count → step s ≡ Err fault → repeated step (count - i) s ≡ total → total ≡ Err fault
unfolding repeated
ends step fault count i s total lt h so_far =
    let k : count - i ≡ suc (count - (i + 1)) = omega arith in
    let one : repeated step (count - i) s ≡ Err fault = rw (k, h) refl in
    sym so_far ∙ one

pub is_done : {S : Type 0} (step : S → Result S RestoreFault) (count i : ℕ) (s : S) (total : Result S RestoreFault) → count ≤ i
    → repeated step (count - i) s ≡ total → total ≡ Ok s
unfolding repeated
is_done step count i s total le so_far =
    let k : count - i ≡ 0 = omega arith in
    let one : repeated step (count - i) s ≡ Ok s = rw k refl in
    sym so_far ∙ one
