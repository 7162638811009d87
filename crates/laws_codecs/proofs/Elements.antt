-- A single element: putting it fails exactly where it has a fault.
use Rattle.std.proofs.Common.{◌≡◌, ℕ, Bool, true, false, cond, List, Option, Some, None, is_some, Result, Ok, Err, refl, sym, ap, subst, ◌∙◌, inl, inr}
use Rattle.per_streams.specs.declared.fault.PerFault.{PerFault}
use Rattle.per_streams.specs.Bits.{Place, open_at}
use Rattle.per_streams.specs.BitLaws.{bind_ok, ok_is}
use Rattle.per_streams.specs.Each.{times}
use Rattle.per_streams.specs.Exact.{Takes}
use Rattle.per_bits.specs.Formats.{Format, Value, raw, plain, must, done, number, octet_string}
use Rattle.per_bits.specs.Spelling.{Spells, SpellsNumber}
use Rattle.per_bits.specs.Reading.{read_at, complete_at}
use Rattle.per_streams.specs.Reading.{number_at}
use Rattle.per_bits.specs.FormatLaws.{exact, exact_number}
use Rattle.s1ap_rows.specs.declared.fault.S1apFault.{S1apFault}
use Rattle.s1ap_rows.specs.declared.fault.S1apFault.TheVariants.{Syntax, UnknownProcedure, MissingElement, RepeatedElement, RefusedElement, NoMemory}
use Rattle.s1ap_rows.specs.Rows.{Rows, Slots}
use Rattle.s1ap_rows.specs.Spelling.{Raw, id_of, criticality_of, octets_of, may_skip}
use Rattle.s1ap_rows.specs.Reading.{◌>>>◌, syntax_of, pass_at, fill_slot, put_at}
use Rattle.laws_codecs.specs.S1apFaults.{has_element, held_by, IsRepeated, IsRefused, IsMisspelled, IsNoElement, ElementFault}
use Rattle.laws_codecs.proofs.Outcomes.{good, reads}
use Rattle.laws_codecs.proofs.S1apOutcomes.{SyntaxOr, err_same, never_both, true_false, syntax_fails}
use Rattle.laws_codecs.proofs.Looking.{Seen, row_at, no_row_at}

-- ---- an element's parts

abbrev IdAt : Place → ℕ → Place → Type 0
IdAt s id u = number_at 0 65535 s ≡ Ok (id, u)

abbrev CriticalityAt : Place → ℕ → Place → Type 0
CriticalityAt u c v = number_at 0 2 u ≡ Ok (c, v)

raw_without_id : (s : Place) (d : PerFault) → number_at 0 65535 s ≡ Err d → read_at raw s ≡ Err d
unfolding times
raw_without_id s d p = rw p refl

raw_without_criticality : (s u : Place) (id : ℕ) (d : PerFault) → IdAt s id u → number_at 0 2 u ≡ Err d → read_at raw s ≡ Err d
unfolding times
raw_without_criticality s u id d p q = rw (p, q) refl

raw_without_octets : (s u v : Place) (id c : ℕ) (d : PerFault) → IdAt s id u → CriticalityAt u c v → open_at v ≡ Err d
    → read_at raw s ≡ Err d
unfolding times
raw_without_octets s u v id c d p q r = rw (p, q, r) refl

whole_raw : (s u v t : Place) (id c : ℕ) (os : List ℕ) → IdAt s id u → CriticalityAt u c v → open_at v ≡ Ok (os, t)
    → read_at raw s ≡ Ok ((id, (c, (os, tt))), t)
unfolding times
whole_raw s u v t id c os p q r = rw (p, q, r) refl

abbrev numbered : ℕ → Place → Result (ℕ × Place) PerFault
numbered n t = Ok (n, t)

same_number : (n m : ℕ) (t u : Place) → numbered n t ≡ numbered m u → (n ≡ m) × (t ≡ u)
same_number n m t u e = let k = ok_is (n, t) (m, u) e in (ap (λ (x : ℕ × Place). x.0) k, ap (λ (x : ℕ × Place). x.1) k)

id_reads : (s u : Place) (id : ℕ) → Takes (SpellsNumber 0 65535) s id u → IdAt s id u
id_reads s u id k = reads (SpellsNumber 0 65535) (number_at 0 65535) (exact_number 0 65535) s u id k

criticality_reads : (u v : Place) (c : ℕ) → Takes (SpellsNumber 0 2) u c v → CriticalityAt u c v
criticality_reads u v c k = reads (SpellsNumber 0 2) (number_at 0 2) (exact_number 0 2) u v c k

-- ---- where no element stands

not_refused_row : (rs : Rows) (s u : Place) (id : ℕ) (f : Format) → IdAt s id u → held_by id rs ≡ Some f → (other : ℕ)
    → IsRefused rs s other → ⊥
not_refused_row rs s u id f p h other m =
    let k = same_number id other u m.1 (sym p ∙ id_reads s m.1 other m.3) in
    let none : held_by id rs ≡ None = ap (λ (n : ℕ). held_by n rs) k.0 ∙ m.5 in
    absurd (cc (h, none))

not_repeated_row : (rs : Rows) (es : List Raw) (s u : Place) (id : ℕ) → IdAt s id u → has_element id es ≡ false → (other : ℕ)
    → IsRepeated rs es s other → ⊥
not_repeated_row rs es s u id p h other m =
    let k = same_number id other u m.0 (sym p ∙ id_reads s m.0 other m.2) in
    true_false (has_element id es) (ap (λ (n : ℕ). has_element n es) k.0 ∙ m.4) h

not_repeated_other : (rs : Rows) (es : List Raw) (s u : Place) (id : ℕ) → IdAt s id u → held_by id rs ≡ None → (other : ℕ)
    → IsRepeated rs es s other → ⊥
not_repeated_other rs es s u id p h other m =
    let k = same_number id other u m.0 (sym p ∙ id_reads s m.0 other m.2) in
    let some : held_by id rs ≡ Some m.1 = ap (λ (n : ℕ). held_by n rs) k.0 ∙ m.3 in
    absurd (cc (h, some))

not_refused_unread : (rs : Rows) (s u : Place) (id : ℕ) (d : PerFault) → IdAt s id u → number_at 0 2 u ≡ Err d → (other : ℕ)
    → IsRefused rs s other → ⊥
not_refused_unread rs s u id d p h other m =
    let k = same_number id other u m.1 (sym p ∙ id_reads s m.1 other m.3) in
    let c : CriticalityAt u m.0 m.2 =
    subst (λ (w : Place). CriticalityAt w m.0 m.2) (sym k.1) (criticality_reads m.1 m.2 m.0 m.4) in
    never_both (number_at 0 2 u) (m.0, m.2) d c h

not_refused_skipped : (rs : Rows) (s u v : Place) (id c : ℕ) → IdAt s id u → CriticalityAt u c v → may_skip id c ≡ true
    → (other : ℕ) → IsRefused rs s other → ⊥
not_refused_skipped rs s u v id c p q h other m =
    let k = same_number id other u m.1 (sym p ∙ id_reads s m.1 other m.3) in
    let r : CriticalityAt u m.0 m.2 =
    subst (λ (w : Place). CriticalityAt w m.0 m.2) (sym k.1) (criticality_reads m.1 m.2 m.0 m.4) in
    let j = same_number c m.0 v m.2 (sym q ∙ r) in
    let refused : may_skip id c ≡ false = ap (λ (n : ℕ). may_skip n c) k.0 ∙ ap (λ (n : ℕ). may_skip other n) j.0 ∙ m.6 in
    true_false (may_skip id c) h refused

no_id : (rs : Rows) (es : List Raw) (s : Place) (d : PerFault) → number_at 0 65535 s ≡ Err d → IsNoElement rs es s d
no_id rs es s d h = (
  raw_without_id s d h,
  λ id m. never_both (number_at 0 65535 s) (id, m.0) d (id_reads s m.0 id m.2) h,
  λ id m. never_both (number_at 0 65535 s) (id, m.1) d (id_reads s m.1 id m.3) h,
)

-- ---- an element that can't be put has a fault

abbrev Fault : Rows → List Raw → Place → S1apFault → Type 0
Fault rs es s x = ElementFault rs es s x

filled_fails : (rs : Rows) (es : List Raw) (s u : Place) (id : ℕ) (f : Format) (slot : Option (Value f)) (x : S1apFault)
    → IdAt s id u → held_by id rs ≡ Some f
    → is_some slot ≡ has_element id es → fill_slot f id slot u ≡ Err x → Fault rs es s x
filled_fails rs es s u id f (Some v) x p h seen e =
    let again : Fault rs es s (RepeatedElement id) = (u, f, (exact_number 0 65535).takes s u id p, h, sym seen) in
    subst (λ (y : S1apFault). Fault rs es s y) (err_same {A = Option (Value f) × Place} (RepeatedElement id) x e) again
filled_fails rs es s u id f None x p h seen e = criticality (syntax_fails (number_at 0 2 u) at_octets x e)
  where
    at_end : Place → Value f → Result (Option (Value f) × Place) S1apFault
    at_end t v = Ok (Some v, t)

    at_value : List ℕ × Place → Result (Option (Value f) × Place) S1apFault
    at_value os = syntax_of (complete_at f os.0) >>> at_end os.1

    at_octets : ℕ × Place → Result (Option (Value f) × Place) S1apFault
    at_octets c = syntax_of (open_at c.1) >>> at_value

    broken : (d : PerFault) → read_at raw s ≡ Err d → Syntax d ≡ x → Fault rs es s x
    broken d r same =
        let none : IsNoElement rs es s d = (r, not_repeated_row rs es s u id p (sym seen), not_refused_row rs s u id f p h) in
        let fault : Fault rs es s (Syntax d) = inr none in
        subst (λ (y : S1apFault). Fault rs es s y) same fault

    value : (c : ℕ) (v : Place) (os : List ℕ) (t : Place) → CriticalityAt u c v → open_at v ≡ Ok (os, t)
        → SyntaxOr (complete_at f os) (at_end t) x → Fault rs es s x
    value c v os t q r (inl m) =
        let element : Raw = (id, (c, (os, tt))) in
        let misspelled : IsMisspelled rs es s m.0 =
        (element, t, f, (exact raw).takes s t element (whole_raw s u v t id c os p q r), h, sym seen, m.1) in
        let fault : Fault rs es s (Syntax m.0) = inl misspelled in
        subst (λ (y : S1apFault). Fault rs es s y) m.2 fault
    value c v os t q r (inr m) = absurd (never_both (at_end t m.0) (Some m.0, t) x refl m.2)

    octets : (c : ℕ) (v : Place) → CriticalityAt u c v → SyntaxOr (open_at v) at_value x → Fault rs es s x
    octets c v q (inl m) = broken m.0 (raw_without_octets s u v id c m.0 p q m.1) m.2
    octets c v q (inr m) = value c v m.0.0 m.0.1 q m.1 (syntax_fails (complete_at f m.0.0) (at_end m.0.1) x m.2)

    criticality : SyntaxOr (number_at 0 2 u) at_octets x → Fault rs es s x
    criticality (inl m) = broken m.0 (raw_without_criticality s u id m.0 p m.1) m.2
    criticality (inr m) = octets m.0.0 m.0.1 m.1 (syntax_fails (open_at m.0.1) at_value x m.2)

passed_fails : (rs : Rows) (es : List Raw) (s u : Place) (id : ℕ) (x : S1apFault) → IdAt s id u → held_by id rs ≡ None
    → pass_at id u ≡ Err x → Fault rs es s x
passed_fails rs es s u id x p h e = criticality (syntax_fails (number_at 0 2 u) at_octets x e)
  where
    at_end : List ℕ × Place → Result (Unit {0} × Place) S1apFault
    at_end os = Ok (tt, os.1)

    at_octets : ℕ × Place → Result (Unit {0} × Place) S1apFault
    at_octets c = cond (may_skip id c.0) (syntax_of (open_at c.1) >>> at_end) (Err (RefusedElement id))

    broken : (d : PerFault) → read_at raw s ≡ Err d → ((other : ℕ) → IsRefused rs s other → ⊥) → Syntax d ≡ x → Fault rs es s x
    broken d r unrefused same =
        let none : IsNoElement rs es s d = (r, not_repeated_other rs es s u id p h, unrefused) in
        let fault : Fault rs es s (Syntax d) = inr none in
        subst (λ (y : S1apFault). Fault rs es s y) same fault

    octets : (c : ℕ) (v : Place) → CriticalityAt u c v → may_skip id c ≡ true → SyntaxOr (open_at v) at_end x → Fault rs es s x
    octets c v q skip (inl m) =
        broken m.0 (raw_without_octets s u v id c m.0 p q m.1) (not_refused_skipped rs s u v id c p q skip) m.2
    octets c v q skip (inr m) = absurd (never_both (at_end m.0) (tt, m.0.1) x refl m.2)

    skip_or_not : (b : Bool) (c : ℕ) (v : Place) → CriticalityAt u c v → may_skip id c ≡ b
        → cond b (syntax_of (open_at v) >>> at_end) (Err (RefusedElement id)) ≡ Err x → Fault rs es s x
    skip_or_not true c v q skip k = octets c v q skip (syntax_fails (open_at v) at_end x k)
    skip_or_not false c v q skip k =
        let refused : Fault rs es s (RefusedElement id) =
        (c, u, v, (exact_number 0 65535).takes s u id p, (exact_number 0 2).takes u v c q, h, skip) in
        subst (λ (y : S1apFault). Fault rs es s y) (err_same {A = Unit {0} × Place} (RefusedElement id) x k) refused

    criticality : SyntaxOr (number_at 0 2 u) at_octets x → Fault rs es s x
    criticality (inl m) = broken m.0 (raw_without_criticality s u id m.0 p m.1) (not_refused_unread rs s u id m.0 p m.1) m.2
    criticality (inr m) = skip_or_not (may_skip id m.0.0) m.0.0 m.0.1 m.1 refl m.2

-- an element is put into the slots
abbrev pub step_at : (rs : Rows) → Slots rs → Place → Result (Slots rs × Place) S1apFault
step_at rs slots s = syntax_of (number_at 0 65535 s) >>> λ id. put_at rs id.0 slots id.1

put_fails : (rs : Rows) (slots : Slots rs) (es : List Raw) (s u : Place) (id : ℕ) (x : S1apFault) (o : Option Format)
    → Seen rs slots es → IdAt s id u → held_by id rs ≡ o → put_at rs id slots u ≡ Err x → Fault rs es s x
put_fails rs slots es s u id x (Some f) seen p h e =
    let k = row_at rs slots es id f seen h in
    filled_fails rs es s u id f k.slot x p h k.filled (k.to u x e)
put_fails rs slots es s u id x None seen p h e = passed_fails rs es s u id x p h ((no_row_at rs slots id h).to u x e)

pub step_fails : (rs : Rows) (slots : Slots rs) (es : List Raw) (s : Place) (x : S1apFault) → Seen rs slots es
    → step_at rs slots s ≡ Err x → ElementFault rs es s x
step_fails rs slots es s x seen e = by (syntax_fails (number_at 0 65535 s) put x e)
  where
    put : ℕ × Place → Result (Slots rs × Place) S1apFault
    put id = put_at rs id.0 slots id.1

    by : SyntaxOr (number_at 0 65535 s) put x → Fault rs es s x
    by (inl m) =
        let fault : Fault rs es s (Syntax m.0) = inr (no_id rs es s m.0 m.1) in
        subst (λ (y : S1apFault). Fault rs es s y) m.2 fault
    by (inr m) = put_fails rs slots es s m.0.1 m.0.0 x (held_by m.0.0 rs) seen m.1 refl m.2

-- ---- an element with a fault can't be put

step_put : (rs : Rows) (slots : Slots rs) (s u : Place) (id : ℕ) (x : S1apFault) → IdAt s id u → put_at rs id slots u ≡ Err x
    → step_at rs slots s ≡ Err x
step_put rs slots s u id x p e = rw p e

fill_again : (f : Format) (id : ℕ) (slot : Option (Value f)) (u : Place) → is_some slot ≡ true
    → fill_slot f id slot u ≡ Err (RepeatedElement id)
fill_again f id None u h = absurd cc
fill_again f id (Some v) u h = refl

fill_misspelled : (f : Format) (id c : ℕ) (os : List ℕ) (d : PerFault) (slot : Option (Value f)) (u v t : Place)
    → is_some slot ≡ false → CriticalityAt u c v → open_at v ≡ Ok (os, t) → complete_at f os ≡ Err d
    → fill_slot f id slot u ≡ Err (Syntax d)
fill_misspelled f id c os d None u v t h q r k = rw (q, r, k) refl
fill_misspelled f id c os d (Some w) u v t h q r k = absurd cc

pass_refused : (id c : ℕ) (u v : Place) → CriticalityAt u c v → may_skip id c ≡ false → pass_at id u ≡ Err (RefusedElement id)
pass_refused id c u v q h = rw (q, h) refl

repeated_fails : (rs : Rows) (slots : Slots rs) (es : List Raw) (s : Place) (id : ℕ) → Seen rs slots es → IsRepeated rs es s id
    → step_at rs slots s ≡ Err (RepeatedElement id)
repeated_fails rs slots es s id seen m =
    let k = row_at rs slots es id m.1 seen m.3 in
    step_put rs slots s m.0 id (RepeatedElement id) (id_reads s m.0 id m.2)
    (k.from m.0 (RepeatedElement id) (fill_again m.1 id k.slot m.0 (k.filled ∙ m.4)))

refused_fails : (rs : Rows) (slots : Slots rs) (s : Place) (id : ℕ) → IsRefused rs s id
    → step_at rs slots s ≡ Err (RefusedElement id)
refused_fails rs slots s id m =
    step_put rs slots s m.1 id (RefusedElement id) (id_reads s m.1 id m.3)
    ((no_row_at rs slots id m.5).from m.1 (RefusedElement id) (pass_refused id m.0 m.1 m.2 (criticality_reads m.1 m.2 m.0 m.4) m.6))

-- what was read of an element, part by part
record RawParts (s t : Place) (e : Raw) : Type 0 where
  u : Place
  v : Place
  id : IdAt s (id_of e) u
  criticality : CriticalityAt u (criticality_of e) v
  octets : open_at v ≡ Ok (octets_of e, t)

abbrev tail : Format
tail = plain (must (number 0 2) (must octet_string done))

abbrev octets_tail : Format
octets_tail = plain (must octet_string done)

raw_parts : (s t : Place) (e : Raw) → read_at raw s ≡ Ok (e, t) → RawParts s t e
unfolding times
raw_parts s t e h =
    let last : Raw × Place = (e, t) in
    let a = bind_ok (number_at 0 65535 s) _ last h in
    let x = bind_ok _ (λ (y : Value tail × Place). good {A = Raw × Place} ((a.0.0, y.0), y.1)) last a.2 in
    let b = bind_ok (number_at 0 2 a.0.1) _ x.0 x.1 in
    let y = bind_ok _ (λ (z : Value octets_tail × Place). good {A = Value tail × Place} ((b.0.0, z.0), z.1)) x.0 b.2 in
    let d = bind_ok (open_at b.0.1) (λ (z : List ℕ × Place). good {A = Value octets_tail × Place} ((z.0, tt), z.1)) y.0 y.1 in
    let m1 : Value octets_tail × Place = ((d.0.0, tt), d.0.1) in
    let m2 : Value tail × Place = ((b.0.0, (d.0.0, tt)), d.0.1) in
    let m3 : Raw × Place = ((a.0.0, (b.0.0, (d.0.0, tt))), d.0.1) in
    let k1 : m1 ≡ y.0 = ok_is m1 y.0 d.2 in
    let k2 : m2 ≡ x.0 = ap (λ (z : Value octets_tail × Place). ((b.0.0, z.0), z.1)) k1 ∙ ok_is ((b.0.0, y.0.0), y.0.1) x.0 y.2 in
    let k3 : m3 ≡ last = ap (λ (z : Value tail × Place). ((a.0.0, z.0), z.1)) k2 ∙ ok_is ((a.0.0, x.0.0), x.0.1) last x.2 in
    subst (λ (z : Raw × Place). RawParts s z.1 z.0) k3 (record { u = a.0.1; v = b.0.1; id = a.1; criticality = b.1; octets = d.1 })

misspelled_fails : (rs : Rows) (slots : Slots rs) (es : List Raw) (s : Place) (d : PerFault) → Seen rs slots es
    → IsMisspelled rs es s d → step_at rs slots s ≡ Err (Syntax d)
misspelled_fails rs slots es s d seen m =
    let e = m.0 in
    let f = m.2 in
    let p = raw_parts s m.1 e (reads (Spells raw) (read_at raw) (exact raw) s m.1 e m.3) in
    let k = row_at rs slots es (id_of e) f seen m.4 in
    let empty : is_some k.slot ≡ false = k.filled ∙ m.5 in
    let fill = fill_misspelled f (id_of e) (criticality_of e) (octets_of e) d k.slot p.u p.v m.1 empty p.criticality p.octets m.6 in
    step_put rs slots s p.u (id_of e) (Syntax d) p.id (k.from p.u (Syntax d) fill)

abbrev syntax_err : {A : Type 0} → PerFault → Result A S1apFault
syntax_err d = Err (Syntax d)

-- where there is no element, nothing is put, and no other fault comes
no_element_fails : (rs : Rows) (slots : Slots rs) (es : List Raw) (s : Place) (d : PerFault) → Seen rs slots es
    → ((now : Slots rs × Place) → step_at rs slots s ≡ Ok now → (e : Raw) × (read_at raw s ≡ Ok (e, now.1)))
    → IsNoElement rs es s d → step_at rs slots s ≡ Err (Syntax d)
no_element_fails rs slots es s d seen read m = by (step_at rs slots s) refl
  where
    other : (x : S1apFault) → step_at rs slots s ≡ Err x → Fault rs es s x → step_at rs slots s ≡ Err (Syntax d)
    other (RepeatedElement id) e k = absurd (m.1 id k)
    other (RefusedElement id) e k = absurd (m.2 id k)
    other (Syntax g) e (inl k) =
        absurd (never_both (read_at raw s) (k.0, k.1) d (reads (Spells raw) (read_at raw) (exact raw) s k.1 k.0 k.3) m.0)
    other (Syntax g) e (inr k) =
        let same : g ≡ d = cc (m.0, k.0) in
        e ∙ ap (λ (y : PerFault). syntax_err {A = Slots rs × Place} y) same
    other (UnknownProcedure c) e k = absurd k
    other (MissingElement id) e k = absurd k
    other NoMemory e k = absurd k

    by : (r : Result (Slots rs × Place) S1apFault) → step_at rs slots s ≡ r → step_at rs slots s ≡ Err (Syntax d)
    by (Ok now) e = let k = read now e in absurd (never_both (read_at raw s) (k.0, now.1) d k.1 m.0)
    by (Err x) e = other x e (step_fails rs slots es s x seen e)

pub fault_fails : (rs : Rows) (slots : Slots rs) (es : List Raw) (s : Place) (x : S1apFault) → Seen rs slots es
    → ((now : Slots rs × Place) → step_at rs slots s ≡ Ok now → (e : Raw) × (read_at raw s ≡ Ok (e, now.1)))
    → ElementFault rs es s x → step_at rs slots s ≡ Err x
fault_fails rs slots es s (RepeatedElement id) seen read m = repeated_fails rs slots es s id seen m
fault_fails rs slots es s (RefusedElement id) seen read m = refused_fails rs slots s id m
fault_fails rs slots es s (Syntax d) seen read (inl m) = misspelled_fails rs slots es s d seen m
fault_fails rs slots es s (Syntax d) seen read (inr m) = no_element_fails rs slots es s d seen read m
fault_fails rs slots es s (UnknownProcedure c) seen read m = absurd m
fault_fails rs slots es s (MissingElement id) seen read m = absurd m
fault_fails rs slots es s NoMemory seen read m = absurd m
