-- Reading tells the components of every format, by induction on formats; and the laws.
use Rattle.std.proofs.Common.{◌≡◌, ℕ, zero, suc, ◌-◌, ◌≤◌, Bool, List, Option, Result, Ok, Err, refl, sym, ap, ◌∙◌, ◌⊎◌, inl, inr, arith, cond, eqb}
use Rattle.per_streams.specs.declared.fault.PerFault.{PerFault}
use Rattle.per_streams.specs.declared.fault.PerFault.TheVariants.{Range, Alternative}
use Rattle.per_streams.specs.Bits.{Place, ◌>>=◌, bit_at}
use Rattle.per_streams.specs.BitLaws.{ok_is}
use Rattle.per_streams.specs.Each.{times}
use Rattle.per_streams.specs.Exact.{IsBits, Takes}
use Rattle.per_bits.specs.FormatLaws.{complete_again, complete_takes, exact, exact_closed, exact_fields, exact_flags, exact_number, exact_optional, exact_skipped}
use Rattle.per_bits.specs.Formats.{Format, Fields, Alternatives, Value, Values, Chosen, optionals, alternatives, flag_of, flags_after, left_of, right_of, number, octets, octets_between, octet_string, bit_string, bits_between, enumerated, closed, items, open_type, plain, sequence, choice, done, must, may, skip, fixed, marked, last, either}
use Rattle.per_bits.specs.Reading.{additions_at, chosen_at, closed_at, complete_at, fields_at, optional_at, read_at, skipped_at}
use Rattle.per_bits.specs.Spelling.{Spells, SpellsClosed, SpellsFields, SpellsNumber, SpellsOptional, SpellsWhole}
use Rattle.per_streams.specs.Reading.{number_at}
use Rattle.laws_codecs.specs.Components.{Component, any_bits, same_number, HasSpelling, IsFaultOf}
use Rattle.laws_codecs.specs.PerFaults.{AdditionComponents, Alone, ChosenComponents, ClosedComponents, ComponentsOf, FieldComponents, HasPerFault, HasWholeFault, InOrder, IsSame, IsSkipped, NextOf, Nowhere, NumberComponents, Whether, WholeComponents}
use Rattle.laws_codecs.proofs.Outcomes.{bad_same, good, never_both, reads}
use Rattle.laws_codecs.proofs.Deciding.{spelled_or_fault}
use Rattle.laws_codecs.proofs.Telling.{Tells, among, tells_bind, tells_map, tells_never}
use Rattle.laws_codecs.proofs.Bits.{tells_flags}
use Rattle.laws_codecs.proofs.Closing.{tells_additions, tells_closed, tells_name}
use Rattle.laws_codecs.proofs.Nexts.{tells_next}
use Rattle.laws_codecs.proofs.Numbers.{tells_number}
use Rattle.laws_codecs.proofs.Strings.{tells_bits_between, tells_fixed_bits, tells_fixed_octets, tells_octets_between, tells_string}
use Rattle.laws_codecs.proofs.Wholes.{tells_inside, tells_optional, tells_same_number, tells_skipped, tells_whole}

index_within : (n i at : ℕ) (bs : List Bool) → SpellsClosed (SpellsNumber 0 n) i at bs → i ≤ n
index_within n i at bs m = let le = m.2.1 in omega (arith, le)

mutual
  pub tells : (f : Format) (s : Place) → Tells (ComponentsOf f s) (read_at f s)
  tells (number lo hi) s = tells_number lo hi s
  tells (octets n) s = tells_fixed_octets n s
  tells (octets_between lo hi) s = tells_octets_between lo hi s
  tells octet_string s = tells_string s
  tells (bit_string n) s = tells_fixed_bits n s
  tells (bits_between lo hi) s = tells_bits_between lo hi s
  tells (enumerated n) s = tells_name n s
  tells (closed f) s = tells_closed Range (ComponentsOf f) (read_at f) (tells f) s
  tells (items lo hi f) s =
      tells_bind (SpellsNumber lo hi) (NumberComponents lo hi) (λ n. NextOf (Spells f) (ComponentsOf f) n) (number_at lo hi)
      (λ n t. times (read_at f) n t) s (exact_number lo hi) (tells_number lo hi s)
      (λ n t k. tells_next (Spells f) (ComponentsOf f) (read_at f) (exact f) (tells f) n t)
  tells (open_type f) s = tells_inside (Spells f) (ComponentsOf f) (read_at f) (exact f) (tells f) s
  tells (plain fs) s =
      tells_bind (IsBits (optionals fs)) (Alone (any_bits (optionals fs))) (λ flags. FieldComponents fs flags)
      (times bit_at (optionals fs)) (λ flags t. fields_at fs flags t) s (exact_flags (optionals fs)) (tells_flags (optionals fs) s)
      (λ flags t k. tells_fields fs flags t)
  tells (sequence fs) s =
      tells_bind (IsBits (suc (optionals fs))) (Alone (any_bits (suc (optionals fs))))
      (λ flags. InOrder (SpellsFields fs (flags_after flags)) (FieldComponents fs (flags_after flags))
      (λ v. Whether (flag_of flags) AdditionComponents Nowhere))
      (times bit_at (suc (optionals fs)))
      (λ flags t. fields_at fs (flags_after flags) t
      >>= λ v. skipped_at (flag_of flags) additions_at v.1 >>= λ more. good {A = Values fs × Place} (v.0, more.1))
      s (exact_flags (suc (optionals fs))) (tells_flags (suc (optionals fs)) s)
      (λ flags t k. tells_bind (SpellsFields fs (flags_after flags)) (FieldComponents fs (flags_after flags))
      (λ v. Whether (flag_of flags) AdditionComponents Nowhere) (fields_at fs (flags_after flags))
      (λ v u. skipped_at (flag_of flags) additions_at u >>= λ more. good {A = Values fs × Place} (v, more.1)) t
      (exact_fields fs (flags_after flags)) (tells_fields fs (flags_after flags) t)
      (λ v u j. tells_map (Whether (flag_of flags) AdditionComponents Nowhere u) (skipped_at (flag_of flags) additions_at u)
      (λ more. (v, more.1)) (tells_skipped (flag_of flags) AdditionComponents additions_at tells_additions u)))
  tells (choice alts) s =
      tells_bind (SpellsClosed (SpellsNumber 0 (alternatives alts - 1)))
      (ClosedComponents Alternative (NumberComponents 0 (alternatives alts - 1))) (λ i. ChosenComponents alts i)
      (closed_at Alternative (number_at 0 (alternatives alts - 1))) (λ i t. chosen_at alts i t) s
      (exact_closed Alternative (SpellsNumber 0 (alternatives alts - 1)) (number_at 0 (alternatives alts - 1))
      (exact_number 0 (alternatives alts - 1)))
      (tells_closed Alternative (NumberComponents 0 (alternatives alts - 1)) (number_at 0 (alternatives alts - 1))
      (tells_number 0 (alternatives alts - 1)) s)
      (λ i t k. tells_chosen alts i t (index_within (alternatives alts - 1) i s.at k.taken k.spelled))

  pub tells_fields : (fs : Fields) (flags : List Bool) (s : Place) → Tells (FieldComponents fs flags s) (fields_at fs flags s)
  tells_fields done flags s = tells_never (FieldComponents done flags s) (fields_at done flags s) (tt, s) (λ c here m. m) refl
  tells_fields (must f fs) flags s =
      tells_bind (Spells f) (ComponentsOf f) (λ v. FieldComponents fs flags) (read_at f)
      (λ v t. fields_at fs flags t >>= λ others. good {A = (Value f × Values fs) × Place} ((v, others.0), others.1)) s (exact f)
      (tells f s)
      (λ v t k. tells_map (FieldComponents fs flags t) (fields_at fs flags t) (λ others. ((v, others.0), others.1))
      (tells_fields fs flags t))
  tells_fields (may f fs) flags s =
      tells_bind (SpellsOptional (flag_of flags) (Spells f)) (Whether (flag_of flags) (ComponentsOf f) Nowhere)
      (λ v. FieldComponents fs (flags_after flags)) (optional_at (flag_of flags) (read_at f))
      (λ v t. fields_at fs (flags_after flags) t
      >>= λ others. good {A = (Option (Value f) × Values fs) × Place} ((v, others.0), others.1)) s
      (exact_optional (flag_of flags) (Spells f) (read_at f) (exact f))
      (tells_optional (flag_of flags) (ComponentsOf f) (read_at f) (tells f) s)
      (λ v t k. tells_map (FieldComponents fs (flags_after flags) t) (fields_at fs (flags_after flags) t)
      (λ others. ((v, others.0), others.1)) (tells_fields fs (flags_after flags) t))
  tells_fields (skip f fs) flags s =
      tells_bind (IsSkipped (flag_of flags) (Spells f)) (Whether (flag_of flags) (ComponentsOf f) Nowhere)
      (λ u. FieldComponents fs (flags_after flags)) (skipped_at (flag_of flags) (read_at f))
      (λ u t. fields_at fs (flags_after flags) t) s
      (exact_skipped (flag_of flags) (Spells f) (read_at f) (exact f))
      (tells_skipped (flag_of flags) (ComponentsOf f) (read_at f) (tells f) s) (λ u t k. tells_fields fs (flags_after flags) t)
  tells_fields (fixed lo hi n fs) flags s =
      tells_bind (SpellsNumber lo hi) (NumberComponents lo hi)
      (λ m. InOrder (IsSame m n) (Alone (same_number m n)) (λ u. FieldComponents fs flags)) (number_at lo hi)
      (λ m t. cond (eqb m n) (fields_at fs flags t) (Err Range)) s (exact_number lo hi) (tells_number lo hi s)
      (λ m t k. tells_same_number m n (FieldComponents fs flags) (fields_at fs flags) t (tells_fields fs flags))
  tells_fields (marked lo hi n fs) flags s =
      tells_bind (SpellsNumber lo hi) (NumberComponents lo hi) (λ any. FieldComponents fs flags) (number_at lo hi)
      (λ any t. fields_at fs flags t) s (exact_number lo hi) (tells_number lo hi s) (λ any t k. tells_fields fs flags t)

  pub tells_chosen : (alts : Alternatives) (i : ℕ) (s : Place) → i ≤ alternatives alts - 1
      → Tells (ChosenComponents alts i s) (chosen_at alts i s)
  tells_chosen (last f) zero s le = tells f s
  tells_chosen (last f) (suc i) s le = absurd (omega (arith, le))
  tells_chosen (either f alts) zero s le =
      tells_map (ComponentsOf f s) (read_at f s) (λ x. (left_of {B = Chosen alts} x.0, x.1)) (tells f s)
  tells_chosen (either f alts) (suc i) s le =
      tells_map (ChosenComponents alts i s) (chosen_at alts i s) (λ x. (right_of {A = Value f} x.0, x.1))
      (tells_chosen alts i s (omega (arith, le)))

-- ---- the laws

pub fault_is_named : (f : Format) (s : Place) (fault : PerFault) → read_at f s ≡ Err fault → HasPerFault f s fault
fault_is_named f s fault e = (tells f s).named fault e

pub named_is_fault : (f : Format) (s : Place) (fault : PerFault) → HasPerFault f s fault → read_at f s ≡ Err fault
named_is_fault f s fault p = (tells f s).answered fault p

abbrev Outcome : Format → Place → Type 0
Outcome f s = ((v : Value f) × (t : Place) × Takes (Spells f) s v t) ⊎ ((fault : PerFault) × HasPerFault f s fault)

pub some_outcome : (f : Format) (s : Place)
    → ((v : Value f) × (t : Place) × Takes (Spells f) s v t) ⊎ ((fault : PerFault) × HasPerFault f s fault)
some_outcome f s = by (read_at f s) refl
  where
    by : (r : Result (Value f × Place) PerFault) → read_at f s ≡ r → Outcome f s
    by (Ok x) e = inl (x.0, x.1, (exact f).takes s x.1 x.0 e)
    by (Err fault) e = inr (fault, fault_is_named f s fault e)

is_read : (f : Format) (s t : Place) (v : Value f) → Takes (Spells f) s v t → read_at f s ≡ Ok (v, t)
is_read f s t v k = reads (Spells f) (read_at f) (exact f) s t v k

pub one_value_at : (f : Format) (s t u : Place) (v w : Value f) → Takes (Spells f) s v t → Takes (Spells f) s w u
    → (v ≡ w) × (t ≡ u)
one_value_at f s t u v w k j =
    let one : Value f × Place = (v, t) in
    let two : Value f × Place = (w, u) in
    let e = ok_is one two (sym (is_read f s t v k) ∙ is_read f s u w j) in
    (ap (λ (x : Value f × Place). x.0) e, ap (λ (x : Value f × Place). x.1) e)

pub no_value_with_fault : (f : Format) (s t : Place) (v : Value f) (fault : PerFault) → Takes (Spells f) s v t
    → HasPerFault f s fault → ⊥
no_value_with_fault f s t v fault k p = never_both (read_at f s) (v, t) fault (is_read f s t v k) (named_is_fault f s fault p)

pub one_fault : (f : Format) (s : Place) (fault other : PerFault) (p : HasPerFault f s fault) (q : HasPerFault f s other)
    → (fault ≡ other) × (p.component ≡ q.component) × (p.place ≡ q.place)
one_fault f s fault other p q =
    let k = (tells f s).alone fault other p q in
    let e = bad_same {A = Value f × Place} fault other (sym (named_is_fault f s fault p) ∙ named_is_fault f s other q) in
    (e, k.0, k.1)

-- ---- which components are spelled

pub each_is_spelled : (f : Format) (s t : Place) (v : Value f) (c : Component) (here : Place) → Takes (Spells f) s v t
    → ComponentsOf f s c here → HasSpelling c here
each_is_spelled f s t v c here k h = by (spelled_or_fault c here)
  where
    by : HasSpelling c here ⊎ ((fault : PerFault) × IsFaultOf c here fault) → HasSpelling c here
    by (inl m) = m
    by (inr m) = absurd (no_value_with_fault f s t v m.0 k (among (ComponentsOf f s) c here m.0 h m.1))

pub all_others_are : (f : Format) (s : Place) (fault : PerFault) (p : HasPerFault f s fault) (c : Component) (here : Place)
    → ComponentsOf f s c here
    → HasSpelling c here ⊎ ((c ≡ p.component) × (here ≡ p.place))
all_others_are f s fault p c here h = by (spelled_or_fault c here)
  where
    by : HasSpelling c here ⊎ ((x : PerFault) × IsFaultOf c here x)
        → HasSpelling c here ⊎ ((c ≡ p.component) × (here ≡ p.place))
    by (inl m) = inl m
    by (inr m) =
        let k = (tells f s).alone m.0 fault (among (ComponentsOf f s) c here m.0 h m.1) p in inr (k.0, k.1)

-- ---- complete encodings

tells_complete : (f : Format) (os : List ℕ) → Tells (WholeComponents (Spells f) (ComponentsOf f) os) (complete_at f os)
tells_complete f os = tells_whole (Spells f) (ComponentsOf f) (read_at f) (exact f) (tells f) os

pub fault_of_whole : (f : Format) (os : List ℕ) (fault : PerFault) → complete_at f os ≡ Err fault → HasWholeFault f os fault
fault_of_whole f os fault e = (tells_complete f os).named fault e

pub whole_fault : (f : Format) (os : List ℕ) (fault : PerFault) → HasWholeFault f os fault → complete_at f os ≡ Err fault
whole_fault f os fault p = (tells_complete f os).answered fault p

abbrev WholeOutcome : Format → List ℕ → Type 0
WholeOutcome f os = ((v : Value f) × SpellsWhole f v os) ⊎ ((fault : PerFault) × HasWholeFault f os fault)

pub some_whole_outcome : (f : Format) (os : List ℕ)
    → ((v : Value f) × SpellsWhole f v os) ⊎ ((fault : PerFault) × HasWholeFault f os fault)
some_whole_outcome f os = by (complete_at f os) refl
  where
    by : (r : Result (Value f) PerFault) → complete_at f os ≡ r → WholeOutcome f os
    by (Ok v) e = inl (v, complete_takes f os v e)
    by (Err fault) e = inr (fault, fault_of_whole f os fault e)

pub no_whole_with_fault : (f : Format) (os : List ℕ) (v : Value f) (fault : PerFault) → SpellsWhole f v os
    → HasWholeFault f os fault → ⊥
no_whole_with_fault f os v fault m p = never_both (complete_at f os) v fault (complete_again f os v m) (whole_fault f os fault p)

pub one_whole_fault : (f : Format) (os : List ℕ) (fault other : PerFault) (p : HasWholeFault f os fault)
    (q : HasWholeFault f os other)
    → (fault ≡ other) × (p.component ≡ q.component) × (p.place ≡ q.place)
one_whole_fault f os fault other p q =
    let k = (tells_complete f os).alone fault other p q in
    let e = bad_same {A = Value f} fault other (sym (whole_fault f os fault p) ∙ whole_fault f os other q) in
    (e, k.0, k.1)
