-- What a contract sees of a reader or a writer that is watched, and what is so after each call of it.
use Rattle.std.specs.Prelude.{◌≡◌, ◌≢◌, ℕ, ◌<◌, Bool, true, false, not, ◌&&◌, ◌||◌, ◌==◌, Result, Ok, Err, IfErr, IsErrOf, OnOk}
use Rattle.std.proofs.Common.{refl, arith}
use Rattle.std.proofs.lemmas.Bool.Decides.{nat_tests}
use Rattle.trace_progress.specs.declared.fault.PlayFault.{PlayFault}
use Rattle.trace_progress.specs.declared.fault.PlayFault.TheVariants.{Trace, Read, Write, NoMemory}

-- the reader or the writer, and what became of the calls of it
pub record Watching (T : Type 0) : Type 0 where
  pub inner : T  -- the reader or the writer itself
  pub failed : Bool  -- whether a call has failed; a write with octets that took none counts
  pub ended : Bool  -- whether a read with room has given nothing
  pub calls : ℕ  -- how many calls there were, up to 2^64 - 1

-- whether a call moved none of these octets, though there were some to move
abbrev pub moves_none : ℕ → ℕ → Bool
moves_none octets moved = (moved == 0) && not (octets == 0)

-- whether the end has been met, after a read with that much room
abbrev pub ended_after : {E : Type 0} → Bool → ℕ → Result ℕ E → Bool
ended_after ended room (Ok given) = moves_none room given || ended
ended_after ended room (Err error) = ended

-- whether a call has failed, after a read or a flush
abbrev pub failed_after : {A E : Type 0} → Bool → Result A E → Bool
failed_after failed (Ok done) = failed
failed_after failed (Err error) = true

-- whether a call has failed, after a write of that many octets
abbrev pub failed_after_write : {E : Type 0} → Bool → ℕ → Result ℕ E → Bool
failed_after_write failed octets (Ok taken) = moves_none octets taken || failed
failed_after_write failed octets (Err error) = true

-- whether a call has failed, after octets were written: all of them or not
abbrev pub failed_after_octets : Bool → Bool → Bool
failed_after_octets failed true = failed
failed_after_octets failed false = true

-- whether a call of the writer has failed, after what plays and answers so: it failed where the answer is `Write`, and nowhere else
abbrev pub failed_after_play : {A : Type 0} → Bool → Result A PlayFault → Bool
failed_after_play failed (Ok done) = failed
failed_after_play failed (Err (Trace line fault)) = failed
failed_after_play failed (Err Read) = failed
failed_after_play failed (Err Write) = true
failed_after_play failed (Err NoMemory) = failed

-- what is so whatever is answered is so on Ok
pub OnOk-always : {T E P : Type 0} (r : Result T E) → P → OnOk r P
OnOk-always (Ok _) p = p
OnOk-always (Err _) p = tt

-- a call that moved none of some octets
pub moves_none-some : (before : Bool) (octets moved : ℕ) → moved ≡ 0 → 0 < octets → (moves_none octets moved || before) ≡ true
moves_none-some before octets moved none some =
    let is_some : not (octets == 0) ≡ true = grind (arith, nat_tests, some) in
    rw (none, is_some) refl

-- a call that moved some octets
pub moves_none-more : (before : Bool) (octets moved : ℕ) → 0 < moved → (moves_none octets moved || before) ≡ before
moves_none-more before octets moved some = let is_some : (moved == 0) ≡ false = grind (arith, nat_tests, some) in rw is_some refl

-- another answer than `Write` says of no failure
pub failed_after_play-other : {A : Type 0} (failed : Bool) (result : Result A PlayFault) → IfErr result (λ fault. fault ≢ Write)
    → failed ≡ failed_after_play failed result
failed_after_play-other failed (Ok done) other = refl
failed_after_play-other failed (Err (Trace line fault)) other = refl
failed_after_play-other failed (Err Read) other = refl
failed_after_play-other failed (Err Write) other = absurd (other refl)
failed_after_play-other failed (Err NoMemory) other = refl

-- a failure is answered with `Write`
pub IsErrOf-failed : {A : Type 0} (before : Bool) (result : Result A PlayFault) → before ≡ false
    → failed_after_play before result ≡ true → IsErrOf result Write
IsErrOf-failed before (Ok done) was is = absurd (cc (was, is))
IsErrOf-failed before (Err (Trace line fault)) was is = absurd (cc (was, is))
IsErrOf-failed before (Err Read) was is = absurd (cc (was, is))
IsErrOf-failed before (Err Write) was is = refl
IsErrOf-failed before (Err NoMemory) was is = absurd (cc (was, is))
