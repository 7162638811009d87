-- Octets are decoded exactly where they spell a message, whatever the order of its elements.
use Rattle.std.proofs.Common.{◌≡◌, ℕ, zero, suc, Bool, true, false, cond, eqb, not, List, [], ◌∷◌, Option, Some, None, Result, Ok, Err, refl, sym, ap, subst, ◌∙◌}
use Rattle.std.specs.Prelude.{filter}
use Rattle.per_streams.specs.declared.fault.PerFault.{PerFault}
use Rattle.s1ap_rows.specs.declared.fault.S1apFault.{S1apFault}
use Rattle.s1ap_rows.specs.declared.fault.S1apFault.TheVariants.{RefusedElement}
use Rattle.per_streams.specs.Bits.{Place, start, ◌>>=◌, bit_at, open_at, end_at}
use Rattle.per_bits.specs.Formats.{Format, Value, raw, plain, items, must, done, number, octet_string, Fields, flag_of, flags_after}
use Rattle.per_streams.specs.Each.{times}
use Rattle.per_bits.specs.Reading.{read_at, whole_at, complete_at, skipped_at, additions_at, fields_at}
use Rattle.per_streams.specs.Reading.{number_at}
use Rattle.per_bits.specs.Spelling.{SpellsWhole}
use Rattle.per_bits.specs.FormatLaws.{complete_takes, complete_again}
use Rattle.per_streams.specs.BitLaws.{bind_ok, ok_is}
use Rattle.s1ap_rows.specs.declared.criticality.Criticality.{Criticality}
use Rattle.s1ap_rows.specs.Spelling.{Raw, id_of, criticality_of, octets_of, has_id, may_skip, OfRow, AreElements, IsKept, message, IsMessage}
use Rattle.s1ap_rows.specs.Rows.{Rows, ie, end, needed, optional, unkept, Slots, Kept, no_slots}
use Rattle.s1ap_rows.specs.Reading.{◌>>>◌, syntax_of, pass_at, fill_slot, put_at, pure_fill, pure_put, put_all, elements_at, fill_at, needed_of, kept_of, message_at}

-- ---- steps that did not fail

pub bind_some : {A B : Type 0} (r : Result A S1apFault) (f : A → Result B S1apFault) (y : B) → (r >>> f) ≡ Ok y
    → (x : A) × (r ≡ Ok x) × (f x ≡ Ok y)
bind_some (Ok x) f y e = (x, refl, e)
bind_some (Err d) f y e = absurd cc

pub syntax_some : {A : Type 0} (r : Result A PerFault) (y : A) → syntax_of r ≡ Ok y → r ≡ Ok y
syntax_some (Ok x) y e = let k : x ≡ y = cc in ap (λ (z : _). Ok z) k
syntax_some (Err d) y e = absurd cc

abbrev okay : {A : Type 0} → A → Result A S1apFault
okay x = Ok x

ok_same : {A : Type 0} (x y : A) → okay x ≡ okay y → x ≡ y
ok_same x y e = cc

-- ---- an element that was read, and what is done with it

-- what stands after the id of an element
abbrev Tail : ℕ → Place → Raw → Place → Type 0
Tail id s e t =
    (mid : Place) × (number_at 0 2 s ≡ Ok (criticality_of e, mid)) × (open_at mid ≡ Ok (octets_of e, t)) × (id_of e ≡ id)

raw_is : (s u mid t : Place) (id c : ℕ) (os : List ℕ) → number_at 0 65535 s ≡ Ok (id, u) → number_at 0 2 u ≡ Ok (c, mid)
    → open_at mid ≡ Ok (os, t) → read_at raw s ≡ Ok ((id, (c, (os, tt))), t)
unfolding times
raw_is s u mid t id c os p q r = rw (p, q, r) refl

may_case : (b : Bool) (id : ℕ) (r : Result (Unit {0} × Place) S1apFault) (y : Unit {0} × Place)
    → cond b r (Err (RefusedElement id)) ≡ Ok y → (b ≡ true) × (r ≡ Ok y)
may_case true id r y e = (refl, e)
may_case false id r y e = absurd cc

pass_to : (id : ℕ) (s : Place) (u : Unit {0}) (t : Place) → pass_at id s ≡ Ok (u, t)
    → (e : Raw) × Tail id s e t × (may_skip (id_of e) (criticality_of e) ≡ true)
pass_to id s u t h =
    let last : Unit {0} × Place = (u, t) in
    let a =
    bind_some (syntax_of (number_at 0 2 s))
    (λ c. cond (may_skip id c.0) (syntax_of (open_at c.1) >>> λ os. okay {A = Unit {0} × Place} (tt, os.1))
    (Err (RefusedElement id))) last h in
    let m = may_case (may_skip id a.0.0) id (syntax_of (open_at a.0.1) >>> λ os. okay {A = Unit {0} × Place} (tt, os.1)) last a.2 in
    let b = bind_some (syntax_of (open_at a.0.1)) (λ os. okay {A = Unit {0} × Place} (tt, os.1)) last m.1 in
    let made : Unit {0} × Place = (tt, b.0.1) in
    let v : b.0.1 ≡ t = ap (λ (x : Unit {0} × Place). x.1) (ok_same made last b.2) in
    let e : Raw = (id, (a.0.0, (b.0.0, tt))) in (
      e,
      (
        a.0.1,
        syntax_some (number_at 0 2 s) a.0 a.1,
        subst (λ w. open_at a.0.1 ≡ Ok (b.0.0, w)) v (syntax_some (open_at a.0.1) b.0 b.1),
        refl,
      ),
      m.0,
    )

pure_is : (f : Format) (e : Raw) (v : Value f) (after : Option (Value f)) → syntax_of (complete_at f (octets_of e)) ≡ Ok v
    → Some v ≡ after → pure_fill f None e ≡ Ok after
pure_is f e v after p q = rw (p, q) refl

fill_to : (f : Format) (id : ℕ) (slot : Option (Value f)) (s : Place) (after : Option (Value f)) (t : Place)
    → fill_slot f id slot s ≡ Ok (after, t) → (e : Raw) × Tail id s e t × (pure_fill f slot e ≡ Ok after)
fill_to f id (Some v) s after t h = absurd cc
fill_to f id None s after t h =
    let last : Option (Value f) × Place = (after, t) in
    let a =
    bind_some (syntax_of (number_at 0 2 s))
    (λ c. syntax_of (open_at c.1) >>> λ os. syntax_of (complete_at f os.0)
    >>> λ v. okay {A = Option (Value f) × Place} (Some v, os.1)) last h in
    let b =
    bind_some (syntax_of (open_at a.0.1))
    (λ os. syntax_of (complete_at f os.0) >>> λ v. okay {A = Option (Value f) × Place} (Some v, os.1)) last a.2 in
    let g : Value f → Result (Option (Value f) × Place) S1apFault = λ v. Ok (Some v, b.0.1) in
    let d = bind_some (syntax_of (complete_at f b.0.0)) g last b.2 in
    let e : Raw = (id, (a.0.0, (b.0.0, tt))) in
    let made : Option (Value f) × Place = (Some d.0, b.0.1) in
    let same = ok_same made last d.2 in
    let u : b.0.1 ≡ t = ap (λ (x : Option (Value f) × Place). x.1) same in
    let v : Some d.0 ≡ after = ap (λ (x : Option (Value f) × Place). x.0) same in (
      e,
      (
        a.0.1,
        syntax_some (number_at 0 2 s) a.0 a.1,
        subst (λ w. open_at a.0.1 ≡ Ok (b.0.0, w)) u (syntax_some (open_at a.0.1) b.0 b.1),
        refl,
      ),
      pure_is f e d.0 after d.1 v,
    )

-- what was put, by cases on whether it is the first row's
abbrev RowPut : (b : Bool) (i : ℕ) (c : Criticality) (f : Format) (rs : Rows) (slots : Option (Value f) × Slots rs) (id : ℕ)
    (s : Place)
    → Result ((Option (Value f) × Slots rs) × Place) S1apFault
RowPut b i c f rs slots id s =
    cond b (fill_slot f id slots.0 s >>> λ first. Ok ((first.0, slots.1), first.1))
    (put_at rs id slots.1 s >>> λ others. Ok ((slots.0, others.0), others.1))

abbrev RowPure : (b : Bool) (f : Format) (rs : Rows) (slots : Option (Value f) × Slots rs) (e : Raw)
    → Result (Option (Value f) × Slots rs) S1apFault
RowPure b f rs slots e =
    cond b (pure_fill f slots.0 e >>> λ first. Ok (first, slots.1)) (pure_put rs slots.1 e >>> λ others. Ok (slots.0, others))

may_put : (b : Bool) (id : ℕ) → b ≡ true → cond b (okay {A = Unit {0}} tt) (Err (RefusedElement id)) ≡ Ok tt
may_put true id e = refl
may_put false id e = absurd cc

row_to : (b : Bool) (i : ℕ) (c : Criticality) (f : Format) (rs : Rows) (slots after : Option (Value f) × Slots rs) (id : ℕ)
    (s t : Place)
    → ((more : Slots rs) → put_at rs id slots.1 s ≡ Ok (more, t) → (e : Raw) × Tail id s e t × (pure_put rs slots.1 e ≡ Ok more))
    → RowPut b i c f rs slots id s ≡ Ok (after, t) → (e : Raw) × Tail id s e t × (RowPure b f rs slots e ≡ Ok after)
row_to true i c f rs slots after id s t ih h =
    let last : (Option (Value f) × Slots rs) × Place = (after, t) in
    let g : Option (Value f) × Place → Result ((Option (Value f) × Slots rs) × Place) S1apFault =
    λ first. Ok ((first.0, slots.1), first.1) in
    let a = bind_some (fill_slot f id slots.0 s) g last h in
    let made : (Option (Value f) × Slots rs) × Place = ((a.0.0, slots.1), a.0.1) in
    let same = ok_same made last a.2 in
    let place : a.0.1 ≡ t = ap (λ (x : (Option (Value f) × Slots rs) × Place). x.1) same in
    let value : (a.0.0, slots.1) ≡ after = ap (λ (x : (Option (Value f) × Slots rs) × Place). x.0) same in
    let k = fill_to f id slots.0 s a.0.0 a.0.1 a.1 in
    (k.0, subst (λ u. Tail id s k.0 u) place k.1, rw (k.2, value) refl)
row_to false i c f rs slots after id s t ih h =
    let last : (Option (Value f) × Slots rs) × Place = (after, t) in
    let g : Slots rs × Place → Result ((Option (Value f) × Slots rs) × Place) S1apFault =
    λ others. Ok ((slots.0, others.0), others.1) in
    let a = bind_some (put_at rs id slots.1 s) g last h in
    let made : (Option (Value f) × Slots rs) × Place = ((slots.0, a.0.0), a.0.1) in
    let same = ok_same made last a.2 in
    let place : a.0.1 ≡ t = ap (λ (x : (Option (Value f) × Slots rs) × Place). x.1) same in
    let value : (slots.0, a.0.0) ≡ after = ap (λ (x : (Option (Value f) × Slots rs) × Place). x.0) same in
    let k = ih a.0.0 (subst (λ u. put_at rs id slots.1 s ≡ Ok (a.0.0, u)) place a.1) in
    (k.0, k.1, rw (k.2, value) refl)

put_to : (rs : Rows) (id : ℕ) (slots : Slots rs) (s : Place) (after : Slots rs) (t : Place) → put_at rs id slots s ≡ Ok (after, t)
    → (e : Raw) × Tail id s e t × (pure_put rs slots e ≡ Ok after)
put_to end id slots s after t h =
    let k = pass_to id s after t h in
    (k.0, k.1, may_put (may_skip (id_of k.0) (criticality_of k.0)) (id_of k.0) k.2)
put_to (ie i c p f rs) id slots s after t h =
    let k = row_to (eqb id i) i c f rs slots after id s t (λ more. put_to rs id slots.1 s more t) h in
    (k.0, k.1, subst (λ j. RowPure (eqb j i) f rs slots k.0 ≡ Ok after) (sym k.1.3) k.2)

more_is : (n : ℕ) (s u t : Place) (e : Raw) (es : List Raw) → read_at raw s ≡ Ok (e, u) → times (read_at raw) n u ≡ Ok (es, t)
    → times (read_at raw) (suc n) s ≡ Ok (e ∷ es, t)
unfolding times
more_is n s u t e es p q = rw (p, q) refl

put_more : (rs : Rows) (slots now after : Slots rs) (e : Raw) (es : List Raw) → pure_put rs slots e ≡ Ok now
    → put_all rs now es ≡ Ok after → put_all rs slots (e ∷ es) ≡ Ok after
put_more rs slots now after e es p q = rw p q

pub elements_to : (rs : Rows) (n : ℕ) (slots : Slots rs) (s : Place) (after : Slots rs) (t : Place)
    → elements_at rs n slots s ≡ Ok (after, t)
    → (es : List Raw) × (times (read_at raw) n s ≡ Ok (es, t)) × (put_all rs slots es ≡ Ok after)
unfolding elements_at times
elements_to rs zero slots s after t h =
    let last : Slots rs × Place = (after, t) in
    let made : Slots rs × Place = (slots, s) in
    let same = ok_same made last h in
    let v : slots ≡ after = ap (λ (x : Slots rs × Place). x.0) same in
    let u : s ≡ t = ap (λ (x : Slots rs × Place). x.1) same in
    ([], ap (λ w. Ok ([], w)) u, ap okay v)
elements_to rs (suc n) slots s after t h =
    let last : Slots rs × Place = (after, t) in
    let a =
    bind_some (syntax_of (number_at 0 65535 s)) (λ id. put_at rs id.0 slots id.1 >>> λ x. elements_at rs n x.0 x.1) last h in
    let b = bind_some (put_at rs a.0.0 slots a.0.1) (λ x. elements_at rs n x.0 x.1) last a.2 in
    let k = put_to rs a.0.0 slots a.0.1 b.0.0 b.0.1 b.1 in
    let ih = elements_to rs n b.0.0 b.0.1 after t b.2 in
    let e = k.0 in
    let one : read_at raw s ≡ Ok ((a.0.0, (criticality_of e, (octets_of e, tt))), b.0.1) =
    raw_is s a.0.1 k.1.0 b.0.1 a.0.0 (criticality_of e) (octets_of e) (syntax_some (number_at 0 65535 s) a.0 a.1) k.1.1 k.1.2 in
    let whole : read_at raw s ≡ Ok (e, b.0.1) =
    subst (λ j. read_at raw s ≡ Ok ((j, (criticality_of e, (octets_of e, tt))), b.0.1)) (sym k.1.3) one in
    (e ∷ ih.0, more_is n s b.0.1 t e ih.0 whole ih.1, put_more rs slots b.0.0 after e ih.0 k.2 ih.2)

-- ---- the whole octets

abbrev Message : Type 0
Message = Value message

message_is : (os : List ℕ) (es : List Raw) (x : Bool × Place) (n : ℕ × Place) (t : Place) (m e : Unit {0} × Place)
    → bit_at (start os) ≡ Ok x → number_at 0 65535 x.1 ≡ Ok n → times (read_at raw) n.0 n.1 ≡ Ok (es, t)
    → skipped_at x.0 additions_at t ≡ Ok m → end_at m.1 ≡ Ok e → complete_at message os ≡ Ok (es, tt)
unfolding whole_at times
message_is os es x n t m e p q r k h = rw (p, q, r, k, h) refl

fill_to_whole : (rs : Rows) (slots after : Slots rs) (os : List ℕ) → fill_at rs slots os ≡ Ok after
    → (es : List Raw) × (complete_at message os ≡ Ok (es, tt)) × (put_all rs slots es ≡ Ok after)
unfolding fill_at
fill_to_whole rs slots after os h =
    let a = bind_some (syntax_of (bit_at (start os))) _ after h in
    let b = bind_some (syntax_of (number_at 0 65535 a.0.1)) _ after a.2 in
    let d = bind_some (elements_at rs b.0.0 slots b.0.1) _ after b.2 in
    let m = bind_some (syntax_of (skipped_at a.0.0 additions_at d.0.1)) _ after d.2 in
    let e = bind_some (syntax_of (end_at m.0.1)) (λ e. okay {A = Slots rs} d.0.0) after m.2 in
    let k = elements_to rs b.0.0 slots b.0.1 d.0.0 d.0.1 d.1 in
    let v : d.0.0 ≡ after = ok_same d.0.0 after e.2 in (
      k.0,
      message_is os k.0 a.0 b.0 d.0.1 m.0 e.0 (syntax_some (bit_at (start os)) a.0 a.1)
          (syntax_some (number_at 0 65535 a.0.1) b.0 b.1) k.1 (syntax_some (skipped_at a.0.0 additions_at d.0.1) m.0 m.1)
          (syntax_some (end_at m.0.1) e.0 e.1),
      k.2 ∙ ap okay v,
    )

-- ---- one row and the others

fill_all : (f : Format) → Option (Value f) → List Raw → Result (Option (Value f)) S1apFault
fill_all f slot [] = Ok slot
fill_all f slot (e ∷ es) = pure_fill f slot e >>> λ after. fill_all f after es

split_step : (b : Bool) (i : ℕ) (c : Criticality) (p : _) (f : Format) (rs : Rows) (slots after : Slots (ie i c p f rs)) (e : Raw)
    (es ours others : List Raw)
    → ((now : Slots (ie i c p f rs)) → put_all (ie i c p f rs) now es ≡ Ok after
    → (fill_all f now.0 ours ≡ Ok after.0) × (put_all rs now.1 others ≡ Ok after.1))
    → (RowPure b f rs slots e >>> λ now. put_all (ie i c p f rs) now es) ≡ Ok after
    → (fill_all f slots.0 (cond b (e ∷ ours) ours) ≡ Ok after.0)
    × (put_all rs slots.1 (cond (not b) (e ∷ others) others) ≡ Ok after.1)
unfolding fill_all
split_step true i c p f rs slots after e es ours others ih h =
    let last : Option (Value f) → Result (Option (Value f) × Slots rs) S1apFault = λ slot. Ok (slot, slots.1) in
    let a = bind_some (pure_fill f slots.0 e >>> last) (λ now. put_all (ie i c p f rs) now es) after h in
    let b = bind_some (pure_fill f slots.0 e) last a.0 a.1 in
    let made : Option (Value f) × Slots rs = (b.0, slots.1) in
    let k : made ≡ a.0 = ok_same made a.0 b.2 in
    let both = ih made (ap (λ (x : Option (Value f) × Slots rs). put_all (ie i c p f rs) x es) k ∙ a.2) in
    (rw b.1 both.0, both.1)
split_step false i c p f rs slots after e es ours others ih h =
    let last : Slots rs → Result (Option (Value f) × Slots rs) S1apFault = λ more. Ok (slots.0, more) in
    let a = bind_some (pure_put rs slots.1 e >>> last) (λ now. put_all (ie i c p f rs) now es) after h in
    let b = bind_some (pure_put rs slots.1 e) last a.0 a.1 in
    let made : Option (Value f) × Slots rs = (slots.0, b.0) in
    let k : made ≡ a.0 = ok_same made a.0 b.2 in
    let both = ih made (ap (λ (x : Option (Value f) × Slots rs). put_all (ie i c p f rs) x es) k ∙ a.2) in
    (both.0, rw b.1 both.1)

split : (i : ℕ) (c : Criticality) (p : _) (f : Format) (rs : Rows) (slots after : Slots (ie i c p f rs)) (es : List Raw)
    → put_all (ie i c p f rs) slots es ≡ Ok after
    → (fill_all f slots.0 (filter (has_id i) es) ≡ Ok after.0)
    × (put_all rs slots.1 (filter (λ e. not (has_id i e)) es) ≡ Ok after.1)
unfolding fill_all
split i c p f rs slots after [] h =
    let k : slots ≡ after = ok_same slots after h in
    (ap (λ (x : Option (Value f) × Slots rs). okay x.0) k, ap (λ (x : Option (Value f) × Slots rs). okay x.1) k)
split i c p f rs slots after (e ∷ es) h =
    split_step (has_id i e) i c p f rs slots after e es (filter (has_id i) es) (filter (λ e. not (has_id i e)) es)
    (λ now. split i c p f rs now after es) h

full : (f : Format) (v : Value f) (es : List Raw) (slot : Option (Value f)) → fill_all f (Some v) es ≡ Ok slot
    → (es ≡ []) × (slot ≡ Some v)
unfolding fill_all
full f v [] slot h = (refl, sym (ok_same (Some v) slot h))
full f v (e ∷ es) slot h = absurd cc

of_row : (f : Format) (es : List Raw) (slot : Option (Value f)) → fill_all f None es ≡ Ok slot → OfRow f slot es
unfolding fill_all
of_row f [] slot h = subst (λ (x : Option (Value f)). OfRow f x []) (ok_same None slot h) refl
of_row f (e ∷ es) slot h =
    let last : Value f → Result (Option (Value f)) S1apFault = λ v. Ok (Some v) in
    let a = bind_some (syntax_of (complete_at f (octets_of e)) >>> last) (λ after. fill_all f after es) slot h in
    let b = bind_some (syntax_of (complete_at f (octets_of e))) last a.0 a.1 in
    let made : Some b.0 ≡ a.0 = ok_same (Some b.0) a.0 b.2 in
    let k = full f b.0 es slot (ap (λ (x : Option (Value f)). fill_all f x es) made ∙ a.2) in
    let spelled : SpellsWhole f b.0 (octets_of e) =
    complete_takes f (octets_of e) b.0 (syntax_some (complete_at f (octets_of e)) b.0 b.1) in
    subst (λ (x : Option (Value f)). OfRow f x (e ∷ es)) (sym k.1) (e, ap (λ (l : List Raw). e ∷ l) k.0, spelled)

skipped_case : (b : Bool) (id : ℕ) (u : Unit {0}) → cond b (okay {A = Unit {0}} tt) (Err (RefusedElement id)) ≡ Ok u → b ≡ true
skipped_case true id u h = refl
skipped_case false id u h = absurd cc

are_elements : (rs : Rows) (es : List Raw) (slots : Slots rs) → put_all rs (no_slots rs) es ≡ Ok slots → AreElements rs slots es
are_elements end [] slots h = tt
are_elements end (e ∷ es) slots h =
    let a = bind_some (pure_put end tt e) (λ after. put_all end after es) slots h in
    (skipped_case (may_skip (id_of e) (criticality_of e)) (id_of e) a.0 a.1, are_elements end es slots a.2)
are_elements (ie i c p f rs) es slots h =
    let k = split i c p f rs (None, no_slots rs) slots es h in
    (of_row f (filter (has_id i) es) slots.0 k.0, are_elements rs (filter (λ e. not (has_id i e)) es) slots.1 k.1)

needed_some : {A : Type 0} (id : ℕ) (o : Option A) (v : A) → needed_of id o ≡ Ok v → o ≡ Some v
needed_some id None v h = absurd cc
needed_some id (Some w) v h = ap (λ (x : _). Some x) (ok_same w v h)

is_kept : (rs : Rows) (slots : Slots rs) (v : Kept rs) → kept_of rs slots ≡ Ok v → IsKept rs slots v
is_kept end slots v h = tt
is_kept (ie i c needed f rs) slots v h =
    let a = bind_some (needed_of i slots.0) (λ x. kept_of rs slots.1 >>> λ more. okay {A = Value f × Kept rs} (x, more)) v h in
    let g : Kept rs → Result (Value f × Kept rs) S1apFault = λ more. Ok (a.0, more) in
    let b = bind_some (kept_of rs slots.1) g v a.2 in
    let made : Value f × Kept rs = (a.0, b.0) in
    subst (λ (x : Value f × Kept rs). (slots.0 ≡ Some x.0) × IsKept rs slots.1 x.1) (ok_same made v b.2)
    (needed_some i slots.0 a.0 a.1, is_kept rs slots.1 b.0 b.1)
is_kept (ie i c optional f rs) slots v h =
    let g : Kept rs → Result (Option (Value f) × Kept rs) S1apFault = λ more. Ok (slots.0, more) in
    let b = bind_some (kept_of rs slots.1) g v h in
    let made : Option (Value f) × Kept rs = (slots.0, b.0) in
    subst (λ (x : Option (Value f) × Kept rs). (slots.0 ≡ x.0) × IsKept rs slots.1 x.1) (ok_same made v b.2)
    (refl, is_kept rs slots.1 b.0 b.1)
is_kept (ie i c unkept f rs) slots v h = is_kept rs slots.1 v h

pub message_to : (rs : Rows) (v : Kept rs) (os : List ℕ) → message_at rs os ≡ Ok v → IsMessage rs v os
message_to rs v os h =
    let a = bind_some (fill_at rs (no_slots rs) os) (λ slots. kept_of rs slots) v h in
    let k = fill_to_whole rs (no_slots rs) a.0 os a.1 in
    (k.0, a.0, complete_takes message os (k.0, tt) k.1, are_elements rs k.0 a.0 k.2, is_kept rs a.0 v a.2)

-- ---- the other way round: what is spelled is read

abbrev good : {A : Type 0} → A → Result A PerFault
good x = Ok x

abbrev tail : Format
tail = plain (must (number 0 2) (must octet_string done))

abbrev octets_tail : Format
octets_tail = plain (must octet_string done)

raw_tail : (s t : Place) (e : Raw) → read_at raw s ≡ Ok (e, t)
    → (u : Place) × (number_at 0 65535 s ≡ Ok (id_of e, u)) × Tail (id_of e) u e t
unfolding times
raw_tail s t e h =
    let last : Raw × Place = (e, t) in
    let a = bind_ok (number_at 0 65535 s) _ last h in
    let x = bind_ok _ (λ (y : Value tail × Place). good {A = Raw × Place} ((a.0.0, y.0), y.1)) last a.2 in
    let b = bind_ok (number_at 0 2 a.0.1) _ x.0 x.1 in
    let y = bind_ok _ (λ (z : Value octets_tail × Place). good {A = Value tail × Place} ((b.0.0, z.0), z.1)) x.0 b.2 in
    let d = bind_ok (open_at b.0.1) (λ (z : List ℕ × Place). good {A = Value octets_tail × Place} ((z.0, tt), z.1)) y.0 y.1 in
    let m1 : Value octets_tail × Place = ((d.0.0, tt), d.0.1) in
    let m2 : Value tail × Place = ((b.0.0, (d.0.0, tt)), d.0.1) in
    let m3 : Raw × Place = ((a.0.0, (b.0.0, (d.0.0, tt))), d.0.1) in
    let k1 : m1 ≡ y.0 = ok_is m1 y.0 d.2 in
    let k2 : m2 ≡ x.0 = ap (λ (z : Value octets_tail × Place). ((b.0.0, z.0), z.1)) k1 ∙ ok_is ((b.0.0, y.0.0), y.0.1) x.0 y.2 in
    let k3 : m3 ≡ last = ap (λ (z : Value tail × Place). ((a.0.0, z.0), z.1)) k2 ∙ ok_is ((a.0.0, x.0.0), x.0.1) last x.2 in
    subst (λ (z : Raw × Place). (u : Place) × (number_at 0 65535 s ≡ Ok (id_of z.0, u)) × Tail (id_of z.0) u z.0 z.1) k3
    (a.0.1, a.1, (b.0.1, b.1, d.1, refl))

may_from : (b : Bool) (id : ℕ) (r : Result (Unit {0} × Place) S1apFault) (y : Unit {0} × Place) → b ≡ true → r ≡ Ok y
    → cond b r (Err (RefusedElement id)) ≡ Ok y
may_from true id r y e h = h
may_from false id r y e h = absurd cc

passes : (id c : ℕ) (os : List ℕ) (s mid t : Place) → number_at 0 2 s ≡ Ok (c, mid) → open_at mid ≡ Ok (os, t)
    → may_skip id c ≡ true → pass_at id s ≡ Ok (tt, t)
passes id c os s mid t p q r = rw (p, r, q) refl

fills : (f : Format) (id c : ℕ) (os : List ℕ) (s mid t : Place) (v : Value f) → number_at 0 2 s ≡ Ok (c, mid)
    → open_at mid ≡ Ok (os, t) → complete_at f os ≡ Ok v → fill_slot f id None s ≡ Ok (Some v, t)
fills f id c os s mid t v p q r = rw (p, q, r) refl

fill_from : (f : Format) (slot after : Option (Value f)) (s t : Place) (e : Raw) → Tail (id_of e) s e t
    → pure_fill f slot e ≡ Ok after → fill_slot f (id_of e) slot s ≡ Ok (after, t)
fill_from f (Some v) after s t e k h = absurd cc
fill_from f None after s t e k h =
    let last : Value f → Result (Option (Value f)) S1apFault = λ v. Ok (Some v) in
    let b = bind_some (syntax_of (complete_at f (octets_of e))) last after h in
    let same : Some b.0 ≡ after = ok_same (Some b.0) after b.2 in
    fills f (id_of e) (criticality_of e) (octets_of e) s k.0 t b.0 k.1 k.2 (syntax_some (complete_at f (octets_of e)) b.0 b.1)
    ∙ ap (λ (x : Option (Value f)). okay {A = Option (Value f) × Place} (x, t)) same

row_yes : (i : ℕ) (c : Criticality) (f : Format) (rs : Rows) (slots : Option (Value f) × Slots rs) (id : ℕ) (s t : Place)
    (after : Option (Value f))
    → fill_slot f id slots.0 s ≡ Ok (after, t) → RowPut true i c f rs slots id s ≡ Ok ((after, slots.1), t)
row_yes i c f rs slots id s t after h = rw h refl

row_no : (i : ℕ) (c : Criticality) (f : Format) (rs : Rows) (slots : Option (Value f) × Slots rs) (id : ℕ) (s t : Place)
    (more : Slots rs)
    → put_at rs id slots.1 s ≡ Ok (more, t) → RowPut false i c f rs slots id s ≡ Ok ((slots.0, more), t)
row_no i c f rs slots id s t more h = rw h refl

row_from : (b : Bool) (i : ℕ) (c : Criticality) (f : Format) (rs : Rows) (slots after : Option (Value f) × Slots rs) (s t : Place)
    (e : Raw)
    → Tail (id_of e) s e t
    → ((more : Slots rs) → pure_put rs slots.1 e ≡ Ok more → put_at rs (id_of e) slots.1 s ≡ Ok (more, t))
    → RowPure b f rs slots e ≡ Ok after → RowPut b i c f rs slots (id_of e) s ≡ Ok (after, t)
row_from true i c f rs slots after s t e k ih h =
    let last : Option (Value f) → Result (Option (Value f) × Slots rs) S1apFault = λ first. Ok (first, slots.1) in
    let a = bind_some (pure_fill f slots.0 e) last after h in
    let made : Option (Value f) × Slots rs = (a.0, slots.1) in
    row_yes i c f rs slots (id_of e) s t a.0 (fill_from f slots.0 a.0 s t e k a.1)
    ∙ ap (λ (x : Option (Value f) × Slots rs). okay {A = (Option (Value f) × Slots rs) × Place} (x, t)) (ok_same made after a.2)
row_from false i c f rs slots after s t e k ih h =
    let last : Slots rs → Result (Option (Value f) × Slots rs) S1apFault = λ more. Ok (slots.0, more) in
    let a = bind_some (pure_put rs slots.1 e) last after h in
    let made : Option (Value f) × Slots rs = (slots.0, a.0) in
    row_no i c f rs slots (id_of e) s t a.0 (ih a.0 a.1)
    ∙ ap (λ (x : Option (Value f) × Slots rs). okay {A = (Option (Value f) × Slots rs) × Place} (x, t)) (ok_same made after a.2)

put_from : (rs : Rows) (slots after : Slots rs) (s t : Place) (e : Raw) → Tail (id_of e) s e t → pure_put rs slots e ≡ Ok after
    → put_at rs (id_of e) slots s ≡ Ok (after, t)
put_from end slots after s t e k h =
    passes (id_of e) (criticality_of e) (octets_of e) s k.0 t k.1 k.2
    (skipped_case (may_skip (id_of e) (criticality_of e)) (id_of e) after h)
put_from (ie i c p f rs) slots after s t e k h =
    row_from (has_id i e) i c f rs slots after s t e k (λ more. put_from rs slots.1 more s t e k) h

steps : (rs : Rows) (n : ℕ) (slots now after : Slots rs) (s u v t : Place) (id : ℕ) → number_at 0 65535 s ≡ Ok (id, u)
    → put_at rs id slots u ≡ Ok (now, v) → elements_at rs n now v ≡ Ok (after, t) → elements_at rs (suc n) slots s ≡ Ok (after, t)
unfolding elements_at
steps rs n slots now after s u v t id p q r = rw (p, q, r) refl

pub elements_from : (rs : Rows) (n : ℕ) (slots after : Slots rs) (s t : Place) (es : List Raw)
    → times (read_at raw) n s ≡ Ok (es, t) → put_all rs slots es ≡ Ok after → elements_at rs n slots s ≡ Ok (after, t)
unfolding elements_at times
elements_from rs zero slots after s t es h k =
    let last : List Raw × Place = (es, t) in
    let same = ok_is ([], s) last h in
    let u : s ≡ t = ap (λ (x : List Raw × Place). x.1) same in
    let none : [] ≡ es = ap (λ (x : List Raw × Place). x.0) same in
    let v : slots ≡ after = ok_same slots after (ap (λ (x : List Raw). put_all rs slots x) none ∙ k) in
    ap (λ w. okay {A = Slots rs × Place} (slots, w)) u ∙ ap (λ (w : Slots rs). okay {A = Slots rs × Place} (w, t)) v
elements_from rs (suc n) slots after s t es h k =
    let last : List Raw × Place = (es, t) in
    let a = bind_ok (read_at raw s) (λ x. times (read_at raw) n x.1 >>= λ y. good {A = List Raw × Place} (x.0 ∷ y.0, y.1)) last h in
    let b = bind_ok (times (read_at raw) n a.0.1) (λ y. good {A = List Raw × Place} (a.0.0 ∷ y.0, y.1)) last a.2 in
    let made : List Raw × Place = (a.0.0 ∷ b.0.0, b.0.1) in
    let same = ok_is made last b.2 in
    let u : b.0.1 ≡ t = ap (λ (x : List Raw × Place). x.1) same in
    let all : put_all rs slots (a.0.0 ∷ b.0.0) ≡ Ok after = ap (λ (x : List Raw × Place). put_all rs slots x.0) same ∙ k in
    let d = bind_some (pure_put rs slots a.0.0) (λ now. put_all rs now b.0.0) after all in
    let r = raw_tail s a.0.1 a.0.0 a.1 in
    let ih = elements_from rs n d.0 after a.0.1 b.0.1 b.0.0 b.1 d.2 in
    subst (λ w. elements_at rs (suc n) slots s ≡ Ok (after, w)) u
    (steps rs n slots d.0 after s r.0 a.0.1 b.0.1 (id_of a.0.0) r.1 (put_from rs slots d.0 r.0 a.0.1 a.0.0 r.2 d.1) ih)

-- ---- one row and the others, put together

abbrev RowSlots : Format → Rows → Type 0
RowSlots f rs = Option (Value f) × Slots rs

join_step : (b : Bool) (i : ℕ) (c : Criticality) (p : _) (f : Format) (rs : Rows) (slots after : RowSlots f rs) (e : Raw)
    (es ours others : List Raw)
    → ((now : RowSlots f rs) → fill_all f now.0 ours ≡ Ok after.0 → put_all rs now.1 others ≡ Ok after.1
    → put_all (ie i c p f rs) now es ≡ Ok after)
    → fill_all f slots.0 (cond b (e ∷ ours) ours) ≡ Ok after.0 → put_all rs slots.1 (cond (not b) (e ∷ others) others) ≡ Ok after.1
    → (RowPure b f rs slots e >>> λ now. put_all (ie i c p f rs) now es) ≡ Ok after
unfolding fill_all
join_step true i c p f rs slots after e es ours others ih h k =
    let a = bind_some (pure_fill f slots.0 e) (λ x. fill_all f x ours) after.0 h in
    rw a.1 (ih (a.0, slots.1) a.2 k)
join_step false i c p f rs slots after e es ours others ih h k =
    let a = bind_some (pure_put rs slots.1 e) (λ x. put_all rs x others) after.1 k in
    rw a.1 (ih (slots.0, a.0) h a.2)

join : (i : ℕ) (c : Criticality) (p : _) (f : Format) (rs : Rows) (slots after : RowSlots f rs) (es : List Raw)
    → fill_all f slots.0 (filter (has_id i) es) ≡ Ok after.0 → put_all rs slots.1 (filter (λ e. not (has_id i e)) es) ≡ Ok after.1
    → put_all (ie i c p f rs) slots es ≡ Ok after
unfolding fill_all
join i c p f rs slots after [] h k =
    let a : slots.0 ≡ after.0 = ok_same slots.0 after.0 h in
    let b : slots.1 ≡ after.1 = ok_same slots.1 after.1 k in
    ap (λ (x : Option (Value f)). okay {A = RowSlots f rs} (x, slots.1)) a
    ∙ ap (λ (x : Slots rs). okay {A = RowSlots f rs} (after.0, x)) b
join i c p f rs slots after (e ∷ es) h k =
    join_step (has_id i e) i c p f rs slots after e es (filter (has_id i) es) (filter (λ e. not (has_id i e)) es)
    (λ now. join i c p f rs now after es) h k

filled : (f : Format) (e : Raw) (v : Value f) → complete_at f (octets_of e) ≡ Ok v → fill_all f None (e ∷ []) ≡ Ok (Some v)
unfolding fill_all
filled f e v h = rw h refl

row_filled : (f : Format) (slot : Option (Value f)) (es : List Raw) → OfRow f slot es → fill_all f None es ≡ Ok slot
unfolding fill_all
row_filled f None es m = rw m refl
row_filled f (Some v) es m = ap (λ (l : List Raw). fill_all f None l) m.1 ∙ filled f m.0 v (complete_again f (octets_of m.0) v m.2)

skip_step : (b : Bool) (id : ℕ) (es : List Raw) → b ≡ true → put_all end tt es ≡ Ok tt
    → (cond b (okay {A = Unit {0}} tt) (Err (RefusedElement id)) >>> λ now. put_all end now es) ≡ Ok tt
skip_step true id es e h = h
skip_step false id es e h = absurd cc

elements_put : (rs : Rows) (es : List Raw) (slots : Slots rs) → AreElements rs slots es → put_all rs (no_slots rs) es ≡ Ok slots
elements_put end [] slots m = refl
elements_put end (e ∷ es) slots m = skip_step (may_skip (id_of e) (criticality_of e)) (id_of e) es m.0 (elements_put end es tt m.1)
elements_put (ie i c p f rs) es slots m =
    join i c p f rs (None, no_slots rs) slots es (row_filled f slots.0 (filter (has_id i) es) m.0)
    (elements_put rs (filter (λ e. not (has_id i e)) es) slots.1 m.1)

kept_needed : (i : ℕ) (c : Criticality) (f : Format) (rs : Rows) (o : Option (Value f)) (others : Slots rs) (v : Value f)
    (more : Kept rs)
    → o ≡ Some v → kept_of rs others ≡ Ok more → kept_of (ie i c needed f rs) (o, others) ≡ Ok (v, more)
kept_needed i c f rs o others v more p q = rw (p, q) refl

kept_optional : (i : ℕ) (c : Criticality) (f : Format) (rs : Rows) (o v : Option (Value f)) (others : Slots rs) (more : Kept rs)
    → o ≡ v → kept_of rs others ≡ Ok more → kept_of (ie i c optional f rs) (o, others) ≡ Ok (v, more)
kept_optional i c f rs o v others more p q = rw (p, q) refl

kept_again : (rs : Rows) (slots : Slots rs) (v : Kept rs) → IsKept rs slots v → kept_of rs slots ≡ Ok v
kept_again end slots v m = refl
kept_again (ie i c needed f rs) slots v m = kept_needed i c f rs slots.0 slots.1 v.0 v.1 m.0 (kept_again rs slots.1 v.1 m.1)
kept_again (ie i c optional f rs) slots v m = kept_optional i c f rs slots.0 v.0 slots.1 v.1 m.0 (kept_again rs slots.1 v.1 m.1)
kept_again (ie i c unkept f rs) slots v m = kept_again rs slots.1 v m

-- ---- the whole octets

fills_whole : (rs : Rows) (slots after : Slots rs) (os : List ℕ) (x : Bool × Place) (n : ℕ × Place) (t : Place)
    (m e : Unit {0} × Place)
    → bit_at (start os) ≡ Ok x → number_at 0 65535 x.1 ≡ Ok n → elements_at rs n.0 slots n.1 ≡ Ok (after, t)
    → skipped_at x.0 additions_at t ≡ Ok m → end_at m.1 ≡ Ok e → fill_at rs slots os ≡ Ok after
unfolding fill_at
fills_whole rs slots after os x n t m e p q r k h = rw (p, q, r, k, h) refl

record Parts (os : List ℕ) (es : List Raw) : Type 0 where
  x : Bool × Place
  n : ℕ × Place
  t : Place
  m : Unit {0} × Place
  e : Unit {0} × Place
  first : bit_at (start os) ≡ Ok x
  count : number_at 0 65535 x.1 ≡ Ok n
  each : times (read_at raw) n.0 n.1 ≡ Ok (es, t)
  more : skipped_at x.0 additions_at t ≡ Ok m
  last : end_at m.1 ≡ Ok e

abbrev inner : Fields
inner = must (items 0 65535 raw) done

abbrev Inner : Type 0
Inner = List Raw × Unit {0}

abbrev body_at : List Bool × Place → Result (Inner × Place) PerFault
body_at y = fields_at inner (flags_after y.0) y.1 >>= λ v. skipped_at (flag_of y.0) additions_at v.1 >>= λ more. good (v.0, more.1)

abbrev flags_at : Place → Result (List Bool × Place) PerFault
flags_at s = bit_at s >>= λ b. good {A = List Bool × Place} (b.0 ∷ [], b.1)

parts_of : (os : List ℕ) (es : List Raw) → complete_at message os ≡ Ok (es, tt) → Parts os es
unfolding whole_at times
parts_of os es h =
    let last : Inner = (es, tt) in
    let a = bind_ok (flags_at (start os) >>= body_at) (λ x. end_at x.1 >>= λ u. good {A = Inner} x.0) last h in
    let z = bind_ok (end_at a.0.1) (λ u. good {A = Inner} a.0.0) last a.2 in
    let fl = bind_ok (flags_at (start os)) body_at a.0 a.1 in
    let b = bind_ok (bit_at (start os)) (λ b. good {A = List Bool × Place} (b.0 ∷ [], b.1)) fl.0 fl.1 in
    let head : List Bool × Place = (b.0.0 ∷ [], b.0.1) in
    let k : body_at head ≡ Ok a.0 = subst (λ y. body_at y ≡ Ok a.0) (sym (ok_is head fl.0 b.2)) fl.2 in
    let fd =
    bind_ok (fields_at inner [] b.0.1)
    (λ v. skipped_at b.0.0 additions_at v.1 >>= λ more. good {A = Inner × Place} (v.0, more.1)) a.0 k in
    let mo = bind_ok (skipped_at b.0.0 additions_at fd.0.1) (λ more. good {A = Inner × Place} (fd.0.0, more.1)) a.0 fd.2 in
    let whole : Inner × Place = (fd.0.0, mo.0.1) in
    let same2 = ok_is whole a.0 mo.2 in
    let it = bind_ok (read_at (items 0 65535 raw) b.0.1) (λ first. good {A = Inner × Place} ((first.0, tt), first.1)) fd.0 fd.1 in
    let read : Inner × Place = ((it.0.0, tt), it.0.1) in
    let same3 = ok_is read fd.0 it.2 in
    let nu = bind_ok (number_at 0 65535 b.0.1) (λ n. times (read_at raw) n.0 n.1) it.0 it.1 in
    let these : it.0.0 ≡ es =
    ap (λ (y : Inner × Place). y.0.0) same3 ∙ ap (λ (y : Inner × Place). y.0.0) same2
    ∙ ap (λ (y : Inner). y.0) (ok_is a.0.0 last z.2) in
    record {
      x = b.0;
      n = nu.0;
      t = it.0.1;
      m = mo.0;
      e = z.0;
      first = b.1;
      count = nu.1;
      each = subst (λ (l : List Raw). times (read_at raw) nu.0.0 nu.0.1 ≡ Ok (l, it.0.1)) these nu.2;
      more = subst (λ (w : Place). skipped_at b.0.0 additions_at w ≡ Ok mo.0) (sym (ap (λ (y : Inner × Place). y.1) same3)) mo.1;
      last = subst (λ (w : Place). end_at w ≡ Ok z.0) (sym (ap (λ (y : Inner × Place). y.1) same2)) z.1;
    }

pub message_from : (rs : Rows) (v : Kept rs) (os : List ℕ) → IsMessage rs v os → message_at rs os ≡ Ok v
message_from rs v os m =
    let es = m.0 in
    let slots = m.1 in
    let p = parts_of os es (complete_again message os (es, tt) m.2) in
    let all = elements_from rs p.n.0 (no_slots rs) slots p.n.1 p.t es p.each (elements_put rs es slots m.3) in
    let whole = fills_whole rs (no_slots rs) slots os p.x p.n p.t p.m p.e p.first p.count all p.more p.last in
    rw whole (kept_again rs slots v m.4)
