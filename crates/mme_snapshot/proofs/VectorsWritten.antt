-- Values of a list, written one after another, as a loop writes them from a place on.
use Rattle.std.proofs.Common.{◌≡◌, ◌≤◌, ℕ, ◌+◌, Bool, List, length, drop, map, Some, Result, Ok, Err, refl, sym, ◌∙◌}
use Rattle.std.specs.Prelude.{slice_get}
use Rattle.std.proofs.lemmas.List.{drop_all}
use Rattle.per_streams.specs.declared.fault.PerFault.{PerFault}
use Rattle.per_streams.specs.declared.fault.PerError.{PerError}
use Rattle.per_streams.specs.declared.fault.PerError.TheVariants as errors
use Rattle.per_streams.specs.Bits.{◌>>=◌, Fails}
use Rattle.per_bits.specs.Writing.{write_each}
use Rattle.mme_snapshot.proofs.Places.{drop_at}

module _ {A B : Type 0} (w : B → List Bool → Result (List Bool) PerFault) (view : A → B) (xs : List A) where
  pub goes_on : (i : ℕ) (x : A) (out after : List Bool) (total : Result (List Bool) PerFault) → slice_get xs i ≡ Some x
      → w (view x) out ≡ Ok after → write_each w (map view (drop i xs)) out ≡ total
      → write_each w (map view (drop (i + 1) xs)) after ≡ total
  unfolding write_each
  goes_on i x out after total there h so_far =
      let one : write_each w (map view (drop i xs)) out ≡ write_each w (map view (drop (i + 1) xs)) after =
      rw (drop_at xs i x there, h) refl in
      sym one ∙ so_far

  pub ends : (e : PerError) (i : ℕ) (x : A) (out : List Bool) (total : Result (List Bool) PerFault) → slice_get xs i ≡ Some x
      → Fails e (w (view x) out) → write_each w (map view (drop i xs)) out ≡ total → Fails e total
  unfolding write_each
  ends errors.NoMemory i x out total there h so_far = tt
  ends (errors.Fault f) i x out total there h so_far =
      let one : write_each w (map view (drop i xs)) out ≡ Err f = rw (drop_at xs i x there, h) refl in
      sym so_far ∙ one

  pub is_done : (i : ℕ) (out : List Bool) (total : Result (List Bool) PerFault) → length xs ≤ i
      → write_each w (map view (drop i xs)) out ≡ total → total ≡ Ok out
  unfolding write_each
  is_done i out total le so_far =
      let one : write_each w (map view (drop i xs)) out ≡ Ok out = rw (drop_all i xs le) refl in
      sym so_far ∙ one

-- what fails fails whatever follows
pub fails_then : {A B : Type 0} (e : PerError) (r : Result A PerFault) (f : A → Result B PerFault) → Fails e r → Fails e (r >>= f)
fails_then errors.NoMemory r f h = tt
fails_then (errors.Fault d) r f h = rw h refl
