-- A message of rows is read with a fault exactly where it has the fault.
use Rattle.std.proofs.Common.{◌≡◌, ℕ, ◌<◌, Bool, true, List, length, Result, Ok, Err, refl, sym, ap, subst, ◌∙◌, ◌⊎◌, inl, inr}
use Rattle.per_streams.specs.declared.fault.PerFault.{PerFault}
use Rattle.per_streams.specs.Bits.{Place, start, ◌>>=◌, bit_at, end_at}
use Rattle.per_bits.specs.Spelling.{SpellsWhole}
use Rattle.per_bits.specs.Reading.{skipped_at, additions_at}
use Rattle.per_streams.specs.Reading.{number_at}
use Rattle.s1ap_rows.specs.declared.fault.S1apFault.{S1apFault}
use Rattle.s1ap_rows.specs.declared.fault.S1apFault.TheVariants.{Syntax, UnknownProcedure, MissingElement, RepeatedElement, RefusedElement, NoMemory}
use Rattle.s1ap_rows.specs.Rows.{Rows, Slots, no_slots, are_distinct}
use Rattle.s1ap_rows.specs.Spelling.{Raw, AreElements, message}
use Rattle.s1ap_rows.specs.Reading.{◌>>>◌, syntax_of, elements_at, fill_at, kept_of, message_at}
use Rattle.s1ap_rows.specs.MessageLaws.{bind_some, syntax_some, elements_to, elements_from}
use Rattle.laws_codecs.specs.S1apFaults.{head_at, tail_at, Reached, FailsAtElement, FailsAfterElements, LacksElement, HasMessageFault}
use Rattle.laws_codecs.proofs.Outcomes.{bad}
use Rattle.laws_codecs.proofs.S1apOutcomes.{FailsOr, SyntaxOr, okay, ok_same, never_both, bind_fails, syntax_fails}
use Rattle.laws_codecs.proofs.Taken.{taken_of, put_of}
use Rattle.laws_codecs.proofs.Looking.{seen, missing_to, missing_from}
use Rattle.laws_codecs.proofs.Elements.{step_fails, fault_fails}
use Rattle.laws_codecs.proofs.Fronts.{HeadRead, ReadTo, elements_many, read_to, up_to, read_of, FailsAfter, fails_after, after_fails, step_read, spelled_parts, parts_spell}

-- ---- a fault that is read is there

head_unread : (os : List ℕ) (d : PerFault) → bit_at (start os) ≡ Err d → head_at (start os) ≡ Err d
head_unread os d p = rw p refl

number_unread : (os : List ℕ) (b : Bool) (s : Place) (d : PerFault) → bit_at (start os) ≡ Ok (b, s) → number_at 0 65535 s ≡ Err d
    → head_at (start os) ≡ Err d
number_unread os b s d p q = rw (p, q) refl

additions_unread : (b : Bool) (s : Place) (d : PerFault) → skipped_at b additions_at s ≡ Err d → tail_at b s ≡ Err d
additions_unread b s d p = rw p refl

end_unread : (b : Bool) (s : Place) (m : Unit {0} × Place) (d : PerFault) → skipped_at b additions_at s ≡ Ok m → end_at m.1 ≡ Err d
    → tail_at b s ≡ Err d
end_unread b s m d p q = rw (p, q) refl

at_element : (rs : Rows) (os : List ℕ) (x : S1apFault) → FailsAtElement rs os x → HasMessageFault rs os x
at_element rs os (Syntax d) m = inr (inl m)
at_element rs os (RepeatedElement id) m = m
at_element rs os (RefusedElement id) m = m
at_element rs os (UnknownProcedure c) m = absurd m.2
at_element rs os (MissingElement id) m = absurd m.2
at_element rs os NoMemory m = absurd m.2

element_fault : (rs : Rows) (os : List ℕ) (b : Bool) (n : ℕ) (second : Place) (x : S1apFault) → are_distinct rs ≡ true
    → HeadRead os b n second → FailsAfter rs n (no_slots rs) second x → FailsAtElement rs os x
element_fault rs os b n second x d h k =
    let e = elements_to rs k.many (no_slots rs) second k.now k.here k.before in
    let read = read_to os b n k.many e.0 second k.here h e.1 in
    let fewer = subst (λ (m : ℕ). m < n) (sym (elements_many k.many second k.here e.0 e.1)) k.fewer in
    let taken = taken_of rs k.now e.0 e.2 in
    let fault = step_fails rs k.now e.0 k.here x (seen rs k.now e.0 d taken) k.fails in
    let place : Reached rs os =
    record { extended = b; count = n; es = e.0; here = k.here; up_to = up_to os b n e.0 k.here read; taken = (k.now, taken) } in
    (place, fewer, fault)

tail_fault : (rs : Rows) (os : List ℕ) (b : Bool) (n : ℕ) (second here : Place) (now : Slots rs) (d : PerFault)
    → HeadRead os b n second → elements_at rs n (no_slots rs) second ≡ Ok (now, here) → tail_at b here ≡ Err d
    → FailsAfterElements rs os d
tail_fault rs os b n second here now d h k t =
    let e = elements_to rs n (no_slots rs) second now here k in
    let read = read_to os b n n e.0 second here h e.1 in
    let taken = taken_of rs now e.0 e.2 in
    let place : Reached rs os =
    record { extended = b; count = n; es = e.0; here = here; up_to = up_to os b n e.0 here read; taken = (now, taken) } in
    (place, elements_many n second here e.0 e.1, t)

syntax_here : (rs : Rows) (os : List ℕ) (d : PerFault) (x : S1apFault) → Syntax d ≡ x → HasMessageFault rs os (Syntax d)
    → HasMessageFault rs os x
syntax_here rs os d x e m = subst (λ (y : S1apFault). HasMessageFault rs os y) e m

fill_fails : (rs : Rows) (os : List ℕ) (x : S1apFault) → are_distinct rs ≡ true → fill_at rs (no_slots rs) os ≡ Err x
    → HasMessageFault rs os x
unfolding fill_at
fill_fails rs os x distinct h = bit (syntax_fails (bit_at (start os)) at_number x h)
  where
    at_last : Slots rs → Unit {0} × Place → Result (Slots rs) S1apFault
    at_last now e = Ok now

    at_end : Slots rs → Unit {0} × Place → Result (Slots rs) S1apFault
    at_end now more = syntax_of (end_at more.1) >>> at_last now

    at_tail : Bool → Slots rs × Place → Result (Slots rs) S1apFault
    at_tail b after = syntax_of (skipped_at b additions_at after.1) >>> at_end after.0

    at_elements : Bool → ℕ × Place → Result (Slots rs) S1apFault
    at_elements b count = elements_at rs count.0 (no_slots rs) count.1 >>> at_tail b

    at_number : Bool × Place → Result (Slots rs) S1apFault
    at_number extended = syntax_of (number_at 0 65535 extended.1) >>> at_elements extended.0

    last : (b : Bool) (n : ℕ) (second here : Place) (now : Slots rs) (more : Unit {0} × Place) → HeadRead os b n second
        → elements_at rs n (no_slots rs) second ≡ Ok (now, here) → skipped_at b additions_at here ≡ Ok more
        → SyntaxOr (end_at more.1) (at_last now) x → HasMessageFault rs os x
    last b n second here now more p k l (inl m) =
        syntax_here rs os m.0 x m.2 (inr (inr (tail_fault rs os b n second here now m.0 p k (end_unread b here more m.0 l m.1))))
    last b n second here now more p k l (inr m) = absurd (never_both (at_last now m.0) now x refl m.2)

    tail : (b : Bool) (n : ℕ) (second here : Place) (now : Slots rs) → HeadRead os b n second
        → elements_at rs n (no_slots rs) second ≡ Ok (now, here) → SyntaxOr (skipped_at b additions_at here) (at_end now) x
        → HasMessageFault rs os x
    tail b n second here now p k (inl m) =
        syntax_here rs os m.0 x m.2 (inr (inr (tail_fault rs os b n second here now m.0 p k (additions_unread b here m.0 m.1))))
    tail b n second here now p k (inr m) =
        last b n second here now m.0 p k m.1 (syntax_fails (end_at m.0.1) (at_last now) x m.2)

    elements : (b : Bool) (n : ℕ) (second : Place) → HeadRead os b n second
        → FailsOr (elements_at rs n (no_slots rs) second) (at_tail b) x → HasMessageFault rs os x
    elements b n second p (inl e) =
        at_element rs os x (element_fault rs os b n second x distinct p (fails_after rs n (no_slots rs) second x e))
    elements b n second p (inr m) =
        tail b n second m.0.1 m.0.0 p m.1 (syntax_fails (skipped_at b additions_at m.0.1) (at_end m.0.0) x m.2)

    number : (b : Bool) (first : Place) → bit_at (start os) ≡ Ok (b, first) → SyntaxOr (number_at 0 65535 first) (at_elements b) x
        → HasMessageFault rs os x
    number b first p (inl m) = syntax_here rs os m.0 x m.2 (inl (number_unread os b first m.0 p m.1))
    number b first p (inr m) =
        let head : HeadRead os b m.0.0 m.0.1 = record { first = first; bit = p; number = m.1 } in
        elements b m.0.0 m.0.1 head (bind_fails (elements_at rs m.0.0 (no_slots rs) m.0.1) (at_tail b) x m.2)

    bit : SyntaxOr (bit_at (start os)) at_number x → HasMessageFault rs os x
    bit (inl m) = syntax_here rs os m.0 x m.2 (inl (head_unread os m.0 m.1))
    bit (inr m) = number m.0.0 m.0.1 m.1 (syntax_fails (number_at 0 65535 m.0.1) (at_elements m.0.0) x m.2)

-- what was read where nothing failed
fill_whole : (rs : Rows) (slots : Slots rs) (os : List ℕ) → fill_at rs (no_slots rs) os ≡ Ok slots
    → (es : List Raw) × SpellsWhole message (es, tt) os × AreElements rs slots es
unfolding fill_at
fill_whole rs slots os h =
    let a = bind_some (syntax_of (bit_at (start os))) _ slots h in
    let b = bind_some (syntax_of (number_at 0 65535 a.0.1)) _ slots a.2 in
    let d = bind_some (elements_at rs b.0.0 (no_slots rs) b.0.1) _ slots b.2 in
    let m = bind_some (syntax_of (skipped_at a.0.0 additions_at d.0.1)) _ slots d.2 in
    let e = bind_some (syntax_of (end_at m.0.1)) (λ e. okay {A = Slots rs} d.0.0) slots m.2 in
    let k = elements_to rs b.0.0 (no_slots rs) b.0.1 d.0.0 d.0.1 d.1 in
    let same : d.0.0 ≡ slots = ok_same d.0.0 slots e.2 in
    let number = syntax_some (number_at 0 65535 a.0.1) b.0 b.1 in
    let head : HeadRead os a.0.0 b.0.0 b.0.1 =
    record { first = a.0.1; bit = syntax_some (bit_at (start os)) a.0 a.1; number = number } in
    let additions = syntax_some (skipped_at a.0.0 additions_at d.0.1) m.0 m.1 in (
      k.0,
      parts_spell os k.0 b.0.0 a.0.0 b.0.1 d.0.1 m.0 e.0 head k.1 additions (syntax_some (end_at m.0.1) e.0 e.1),
      subst (λ (s : Slots rs). AreElements rs s k.0) same (taken_of rs d.0.0 k.0 k.2),
    )

kept_fails : (rs : Rows) (os : List ℕ) (slots : Slots rs) (x : S1apFault) → are_distinct rs ≡ true
    → fill_at rs (no_slots rs) os ≡ Ok slots → kept_of rs slots ≡ Err x → HasMessageFault rs os x
kept_fails rs os slots x d h e =
    let k = fill_whole rs slots os h in
    let m = missing_to rs slots k.0 x (seen rs slots k.0 d k.2) e in
    let lacks : HasMessageFault rs os (MissingElement m.0) = (k.0, k.1, (slots, k.2), m.2) in
    subst (λ (y : S1apFault). HasMessageFault rs os y) m.1 lacks

pub message_fails : (rs : Rows) (os : List ℕ) (x : S1apFault) → are_distinct rs ≡ true → message_at rs os ≡ Err x
    → HasMessageFault rs os x
message_fails rs os x d h = by (bind_fails (fill_at rs (no_slots rs) os) (λ slots. kept_of rs slots) x h)
  where
    by : FailsOr (fill_at rs (no_slots rs) os) (λ slots. kept_of rs slots) x → HasMessageFault rs os x
    by (inl e) = fill_fails rs os x d e
    by (inr m) = kept_fails rs os m.0 x d m.1 m.2

-- ---- a fault that is there is read

filled_bit : (rs : Rows) (os : List ℕ) (d : PerFault) → bit_at (start os) ≡ Err d → fill_at rs (no_slots rs) os ≡ Err (Syntax d)
unfolding fill_at
filled_bit rs os d p = rw p refl

filled_number : (rs : Rows) (os : List ℕ) (b : Bool) (first : Place) (d : PerFault) → bit_at (start os) ≡ Ok (b, first)
    → number_at 0 65535 first ≡ Err d → fill_at rs (no_slots rs) os ≡ Err (Syntax d)
unfolding fill_at
filled_number rs os b first d p q = rw (p, q) refl

filled_element : (rs : Rows) (os : List ℕ) (b : Bool) (n : ℕ) (second : Place) (x : S1apFault) → HeadRead os b n second
    → elements_at rs n (no_slots rs) second ≡ Err x → fill_at rs (no_slots rs) os ≡ Err x
unfolding fill_at
filled_element rs os b n second x h r = rw (h.bit, h.number, r) refl

filled_additions : (rs : Rows) (os : List ℕ) (b : Bool) (n : ℕ) (second here : Place) (now : Slots rs) (d : PerFault)
    → HeadRead os b n second → elements_at rs n (no_slots rs) second ≡ Ok (now, here) → skipped_at b additions_at here ≡ Err d
    → fill_at rs (no_slots rs) os ≡ Err (Syntax d)
unfolding fill_at
filled_additions rs os b n second here now d h r k = rw (h.bit, h.number, r, k) refl

filled_end : (rs : Rows) (os : List ℕ) (b : Bool) (n : ℕ) (second here : Place) (now : Slots rs) (more : Unit {0} × Place)
    → (d : PerFault) → HeadRead os b n second → elements_at rs n (no_slots rs) second ≡ Ok (now, here)
    → skipped_at b additions_at here ≡ Ok more
    → end_at more.1 ≡ Err d → fill_at rs (no_slots rs) os ≡ Err (Syntax d)
unfolding fill_at
filled_end rs os b n second here now more d h r k l = rw (h.bit, h.number, r, k, l) refl

filled_whole : (rs : Rows) (os : List ℕ) (b : Bool) (n : ℕ) (second here : Place) (now : Slots rs) (more last : Unit {0} × Place)
    → HeadRead os b n second → elements_at rs n (no_slots rs) second ≡ Ok (now, here) → skipped_at b additions_at here ≡ Ok more
    → end_at more.1 ≡ Ok last → fill_at rs (no_slots rs) os ≡ Ok now
unfolding fill_at
filled_whole rs os b n second here now more last h r k l = rw (h.bit, h.number, r, k, l) refl

-- the fault of two readings, one after the other, is that of the first or of the second
abbrev EitherFails : {A B : Type 0} → Result A PerFault → (A → Result B PerFault) → PerFault → Type 0
EitherFails {A} r g d = (r ≡ Err d) ⊎ ((a : A) × (r ≡ Ok a) × (g a ≡ Err d))

either_fails : {A B : Type 0} (r : Result A PerFault) (g : A → Result B PerFault) (d : PerFault) → (r >>= g) ≡ Err d
    → EitherFails r g d
either_fails (Ok a) g d h = inr (a, refl, h)
either_fails {A} {B} (Err e) g d h = inl (let k : e ≡ d = cc in ap (λ (y : PerFault). bad {A = A} y) k)

head_fails : (rs : Rows) (os : List ℕ) (d : PerFault) → head_at (start os) ≡ Err d → fill_at rs (no_slots rs) os ≡ Err (Syntax d)
head_fails rs os d h = bit (either_fails (bit_at (start os)) at_number d h)
  where
    at_end : Bool → ℕ × Place → Result ((Bool × ℕ) × Place) PerFault
    at_end b count = Ok ((b, count.0), count.1)

    at_number : Bool × Place → Result ((Bool × ℕ) × Place) PerFault
    at_number extended = number_at 0 65535 extended.1 >>= at_end extended.0

    number : (b : Bool) (first : Place) → bit_at (start os) ≡ Ok (b, first) → EitherFails (number_at 0 65535 first) (at_end b) d
        → fill_at rs (no_slots rs) os ≡ Err (Syntax d)
    number b first p (inl e) = filled_number rs os b first d p e
    number b first p (inr m) = absurd (never_both (at_end b m.0) ((b, m.0.0), m.0.1) d refl m.2)

    bit : EitherFails (bit_at (start os)) at_number d → fill_at rs (no_slots rs) os ≡ Err (Syntax d)
    bit (inl e) = filled_bit rs os d e
    bit (inr m) = number m.0.0 m.0.1 m.1 (either_fails (number_at 0 65535 m.0.1) (at_end m.0.0) d m.2)

element_fails : (rs : Rows) (os : List ℕ) (x : S1apFault) → are_distinct rs ≡ true → FailsAtElement rs os x
    → fill_at rs (no_slots rs) os ≡ Err x
element_fails rs os x d (p, fewer, fault) =
    let read = read_of os p.extended p.count p.es p.here p.up_to in
    let slots = p.taken.0 in
    let all = put_of rs slots p.es p.taken.1 in
    let put = elements_from rs (length p.es) (no_slots rs) slots read.second p.here p.es read.elements all in
    let step = fault_fails rs slots p.es p.here x (seen rs slots p.es d p.taken.1) (step_read rs slots p.here) fault in
    let fails = after_fails rs p.count (length p.es) (no_slots rs) slots read.second p.here x fewer put step in
    filled_element rs os p.extended p.count read.second x read.head fails

tail_fails : (rs : Rows) (os : List ℕ) (d : PerFault) → FailsAfterElements rs os d → fill_at rs (no_slots rs) os ≡ Err (Syntax d)
tail_fails rs os d (p, many, fault) =
    additions (either_fails (skipped_at p.extended additions_at p.here) (λ more. end_at more.1) d fault)
  where
    slots : Slots rs
    slots = p.taken.0

    read : ReadTo os p.extended p.count p.es p.here
    read = read_of os p.extended p.count p.es p.here p.up_to

    each : elements_at rs (length p.es) (no_slots rs) read.second ≡ Ok (slots, p.here)
    each =
        elements_from rs (length p.es) (no_slots rs) slots read.second p.here p.es read.elements (put_of rs slots p.es p.taken.1)

    put : elements_at rs p.count (no_slots rs) read.second ≡ Ok (slots, p.here)
    put = ap (λ (n : ℕ). elements_at rs n (no_slots rs) read.second) (sym many) ∙ each

    additions : EitherFails (skipped_at p.extended additions_at p.here) (λ more. end_at more.1) d
        → fill_at rs (no_slots rs) os ≡ Err (Syntax d)
    additions (inl e) = filled_additions rs os p.extended p.count read.second p.here slots d read.head put e
    additions (inr k) = filled_end rs os p.extended p.count read.second p.here slots k.0 d read.head put k.1 k.2

kept_then : (rs : Rows) (os : List ℕ) (slots : Slots rs) (x : S1apFault) → fill_at rs (no_slots rs) os ≡ Ok slots
    → kept_of rs slots ≡ Err x → message_at rs os ≡ Err x
kept_then rs os slots x p q = rw p q

fill_then : (rs : Rows) (os : List ℕ) (x : S1apFault) → fill_at rs (no_slots rs) os ≡ Err x → message_at rs os ≡ Err x
fill_then rs os x p = rw p refl

lacking_fails : (rs : Rows) (os : List ℕ) (id : ℕ) → are_distinct rs ≡ true → LacksElement rs os id
    → message_at rs os ≡ Err (MissingElement id)
lacking_fails rs os id d m =
    let es = m.0 in
    let slots = m.2.0 in
    let p = spelled_parts os es m.1 in
    let put = elements_from rs (length es) (no_slots rs) slots p.second p.here es p.each (put_of rs slots es m.2.1) in
    let whole = filled_whole rs os p.extended (length es) p.second p.here slots p.more p.last p.head put p.additions p.ends in
    kept_then rs os slots (MissingElement id) whole
    (missing_from rs slots es id m.3.0 m.3.1 (seen rs slots es d m.2.1) m.3.2 m.3.3 m.3.4)

pub fault_is_read : (rs : Rows) (os : List ℕ) (x : S1apFault) → are_distinct rs ≡ true → HasMessageFault rs os x
    → message_at rs os ≡ Err x
fault_is_read rs os (Syntax d) distinct (inl h) = fill_then rs os (Syntax d) (head_fails rs os d h)
fault_is_read rs os (Syntax d) distinct (inr (inl m)) = fill_then rs os (Syntax d) (element_fails rs os (Syntax d) distinct m)
fault_is_read rs os (Syntax d) distinct (inr (inr m)) = fill_then rs os (Syntax d) (tail_fails rs os d m)
fault_is_read rs os (RepeatedElement id) distinct m =
    fill_then rs os (RepeatedElement id) (element_fails rs os (RepeatedElement id) distinct m)
fault_is_read rs os (RefusedElement id) distinct m =
    fill_then rs os (RefusedElement id) (element_fails rs os (RefusedElement id) distinct m)
fault_is_read rs os (MissingElement id) distinct m = lacking_fails rs os id distinct m
fault_is_read rs os (UnknownProcedure c) distinct m = absurd m
fault_is_read rs os NoMemory distinct m = absurd m
