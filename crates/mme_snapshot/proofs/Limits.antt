-- A limit of next hops makes nothing else of octets, or refuses them for it.
use Rattle.std.proofs.Common.{◌≡◌, ◌≢◌, ◌⊎◌, inl, inr, ℕ, zero, suc, ◌+◌, List, Bool, true, false, cond, Some, None, Result, Ok, Err, refl, sym, ◌∙◌, ap, subst}
use Rattle.std.specs.Prelude.{◌==◌, nat_lt}
use Rattle.per_streams.specs.Bits.{Place, start}
use Rattle.per_bits.specs.Formats.{Value, number}
use Rattle.identity_slots.specs.declared.profile.Profile.{Profile}
use Rattle.mme_core.specs.World.{World}
use Rattle.snapshot_formats.specs.Formats.{saved_subscriber}
use Rattle.mme_snapshot.specs.declared.fault.RestoreFault.{RestoreFault}
use Rattle.mme_snapshot.specs.declared.fault.RestoreFault.TheVariants as faults
use Rattle.mme_snapshot.specs.Images.{hops_of}
use Rattle.mme_snapshot.specs.Restored.{◌>=>◌, Built, as_octets, begun, body_at, head_at, part_at, profile_in, profiled_added, repeated, restored, restored_within, stations_at, strangers_at, subscriber_added, subscriber_at_place, subscribers_at, version}

-- with a limit the same as without, or Work
abbrev IsWithin : {A : Type 0} → Result A RestoreFault → Result A RestoreFault → Type 0
IsWithin limited free = (limited ≡ free) ⊎ (limited ≡ Err faults.Work)

first_same : {A B : Type 0} (r : Result A RestoreFault) (f g : A → Result B RestoreFault) → ((x : A) → IsWithin (f x) (g x))
    → IsWithin (r >=> f) (r >=> g)
first_same (Ok x) f g h = h x
first_same (Err e) f g h = inl refl

then_within : {A B : Type 0} (r q : Result A RestoreFault) (f g : A → Result B RestoreFault) → IsWithin r q
    → ((x : A) → IsWithin (f x) (g x)) → IsWithin (r >=> f) (q >=> g)
then_within r q f g within h = elim within [
  | inl same ↦ subst (λ a. IsWithin (a >=> f) (q >=> g)) (sym same) (first_same q f g h)
  | inr over ↦ inr (ap (λ a. a >=> f) over)
]

by_test : {A : Type 0} (b : Bool) (rest : Result A RestoreFault) → IsWithin (cond b (Err faults.Work) rest) rest
by_test true rest = inr refl
by_test false rest = inl refl

either_way : {A : Type 0} (b : Bool) (p q other : Result A RestoreFault) → IsWithin p q → IsWithin (cond b p other) (cond b q other)
either_way true p q other h = h
either_way false p q other h = inl refl

repeated_within : {S : Type 0} (step free : S → Result S RestoreFault) (n : ℕ) (s : S) → ((t : S) → IsWithin (step t) (free t))
    → IsWithin (repeated step n s) (repeated free n s)
unfolding repeated
repeated_within step free zero s h = inl refl
repeated_within step free (suc n) s h =
    then_within (step s) (free s) (repeated step n) (repeated free n) (h s) (λ t. repeated_within step free n t h)

module _ (most : ℕ) where
  profiled : (b : Built) (v : Value saved_subscriber) (p : Profile)
      → IsWithin (profiled_added (Some most) b v p) (profiled_added None b v p)
  profiled b v p = by_test (nat_lt most (b.hops + hops_of v)) (profiled_added None b v p)

  added : (b : Built) (v : Value saved_subscriber) → IsWithin (subscriber_added (Some most) b v) (subscriber_added None b v)
  added b v = first_same (profile_in b.world v) (profiled_added (Some most) b v) (profiled_added None b v) (profiled b v)

  one : (s : Built × Place) → IsWithin (subscriber_at_place (Some most) s) (subscriber_at_place None s)
  one s = first_same (as_octets (part_at saved_subscriber s.1)) _ _ (λ v.
      then_within (subscriber_added (Some most) s.0 v.0) (subscriber_added None s.0 v.0) _ _ (added s.0 v.0) (λ b. inl refl))

  all : (b : Built) (s : Place) → IsWithin (subscribers_at (Some most) b s) (subscribers_at None b s)
  all b s = first_same (as_octets (part_at (number 0 32768) s)) _ _ (λ n.
      repeated_within (subscriber_at_place (Some most)) (subscriber_at_place None) n.0 (b, n.1) one)

  body : (s : Place) → IsWithin (body_at (Some most) s) (body_at None s)
  body s = first_same (head_at s) _ _ (λ h. first_same (stations_at h.1) _ _ (λ t.
      first_same (strangers_at (begun h.0 t.0) t.1) _ _ (λ k.
      then_within (subscribers_at (Some most) k.0 k.1) (subscribers_at None k.0 k.1) _ _ (all k.0 k.1) (λ m. inl refl))))

  whole : (octets : List ℕ) → IsWithin (restored_within (Some most) octets) (restored_within None octets)
  unfolding restored_within
  whole octets = first_same (as_octets (part_at (number 0 255) (start octets))) _ _ (λ v.
      either_way (v.0 == version) (body_at (Some most) v.1) (body_at None v.1) (Err (faults.Version v.0)) (body v.1))

  pub restored_so : (octets : List ℕ) (w : World) → restored_within (Some most) octets ≡ Ok w → restored octets ≡ Ok w
  restored_so octets w h = elim (whole octets) [
    | inl same ↦ sym same ∙ h
    | inr over ↦ absurd (cc (h, over))
  ]

  pub refused_so : (octets : List ℕ) (fault : RestoreFault) → restored_within (Some most) octets ≡ Err fault → fault ≢ faults.Work
      → restored octets ≡ Err fault
  refused_so octets fault h other = elim (whole octets) [
    | inl same ↦ sym same ∙ h
    | inr over ↦ let is : fault ≡ faults.Work = cc (h, over) in absurd (other is)
  ]
