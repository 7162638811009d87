-- The elements before a place: spelled exactly where they are read.
use Rattle.std.proofs.Common.{◌≡◌, ℕ, zero, suc, ◌+◌, ◌<◌, Bool, List, [], ◌∷◌, ◌++◌, length, Result, Ok, Err, refl, sym, ap, subst, ◌∙◌, inl, inr, arith}
use Rattle.per_streams.specs.declared.fault.PerFault.{PerFault}
use Rattle.per_streams.specs.Bits.{Place, start, octet_bits, ◌>>=◌, bit_at, first_bit, end_at}
use Rattle.per_streams.specs.BitLaws.{bind_ok, ok_is}
use Rattle.per_streams.specs.Each.{times, SpellsEach}
use Rattle.per_streams.specs.Exact.{Exact, Each, exact_times}
use Rattle.per_bits.specs.Formats.{raw, items, must, done, Fields, flag_of, flags_after}
use Rattle.per_bits.specs.Spelling.{Spells, SpellsNumber, SpellsWhole}
use Rattle.per_bits.specs.Reading.{read_at, whole_at, complete_at, skipped_at, additions_at, fields_at}
use Rattle.per_streams.specs.Reading.{number_at}
use Rattle.per_bits.specs.FormatLaws.{exact, exact_number, exact_bit, complete_takes, complete_again}
use Rattle.s1ap_rows.specs.declared.fault.S1apFault.{S1apFault}
use Rattle.s1ap_rows.specs.declared.fault.S1apFault.TheVariants.{Syntax}
use Rattle.s1ap_rows.specs.Rows.{Rows, Slots}
use Rattle.s1ap_rows.specs.Spelling.{Raw, message}
use Rattle.s1ap_rows.specs.Reading.{◌>>>◌, syntax_of, put_at, elements_at}
use Rattle.s1ap_rows.specs.MessageLaws.{bind_some, syntax_some, elements_to}
use Rattle.laws_codecs.specs.S1apFaults.{UpTo}
use Rattle.laws_codecs.proofs.Outcomes.{good}
use Rattle.laws_codecs.proofs.S1apOutcomes.{FailsOr, SyntaxOr, failed, ok_same, err_same, syntax_fails, bind_fails}
use Rattle.laws_codecs.proofs.Elements.{step_at}

-- ---- what stands before a place

-- a message's extension bit and the number of its elements
pub record HeadRead (os : List ℕ) (extended : Bool) (count : ℕ) (second : Place) : Type 0 where
  pub first : Place
  pub bit : bit_at (start os) ≡ Ok (extended, first)
  pub number : number_at 0 65535 first ≡ Ok (count, second)

-- and N elements
pub record ReadTo (os : List ℕ) (extended : Bool) (count : ℕ) (es : List Raw) (here : Place) : Type 0 where
  pub second : Place
  pub head : HeadRead os extended count second
  pub elements : times (read_at raw) (length es) second ≡ Ok (es, here)

exact_elements : (n : ℕ) → Exact (Each (Spells raw) n) (times (read_at raw) n)
exact_elements n = exact_times (Spells raw) (read_at raw) (exact raw) n

pub elements_many : (n : ℕ) (s t : Place) (es : List Raw) → times (read_at raw) n s ≡ Ok (es, t) → length es ≡ n
elements_many n s t es h = ((exact_elements n).takes s t es h).spelled.0

pub read_to : (os : List ℕ) (extended : Bool) (count n : ℕ) (es : List Raw) (second here : Place)
    → HeadRead os extended count second → times (read_at raw) n second ≡ Ok (es, here) → ReadTo os extended count es here
read_to os extended count n es second here h r =
    let many = elements_many n second here es r in
    record { second = second; head = h; elements = ap (λ (k : ℕ). times (read_at raw) k second) many ∙ r }

pub up_to : (os : List ℕ) (extended : Bool) (count : ℕ) (es : List Raw) (here : Place)
    → ReadTo os extended count es here → UpTo os extended count es here
up_to os extended count es here r =
    let h = r.head in
    let a = exact_bit.takes (start os) h.first extended h.bit in
    let b = (exact_number 0 65535).takes h.first r.second count h.number in
    let c = (exact_elements (length es)).takes r.second here es r.elements in
    let bit : length a.taken ≡ 1 = ap length a.spelled in
    let one : h.first.at ≡ 1 = let p = a.at in omega (arith, p, bit) in
    let two : r.second.at ≡ 1 + length b.taken = b.at ∙ ap (λ (n : ℕ). n + length b.taken) one in
    let following : h.first.rest ≡ b.taken ++ (c.taken ++ here.rest) = b.parts ∙ ap (λ (l : List Bool). b.taken ++ l) c.parts in
    let front : octet_bits os ≡ extended ∷ h.first.rest = a.parts ∙ ap (λ (l : List Bool). l ++ h.first.rest) a.spelled in
    record {
      number = b.taken;
      elements = c.taken;
      whole = front ∙ ap (λ (l : List Bool). extended ∷ l) following;
      at = c.at ∙ ap (λ (n : ℕ). n + length c.taken) two;
      counted = subst (λ (n : ℕ). SpellsNumber 0 65535 count n b.taken) one b.spelled;
      each = subst (λ (n : ℕ). SpellsEach (Spells raw) es n c.taken) two c.spelled.1;
    }

abbrev placed : {A : Type 0} → A → ℕ → List Bool → Result (A × Place) PerFault
placed a n l = Ok (a, record { at = n; rest = l })

pub read_of : (os : List ℕ) (extended : Bool) (count : ℕ) (es : List Raw) (here : Place)
    → UpTo os extended count es here → ReadTo os extended count es here
read_of os extended count es here u =
    let following : List Bool = u.elements ++ here.rest in
    let first : Place = record { at = 1; rest = u.number ++ following } in
    let second : Place = record { at = 1 + length u.number; rest = following } in
    let bit : bit_at (start os) ≡ Ok (extended, first) = ap (λ (l : List Bool). first_bit 0 l) u.whole in
    let number = (exact_number 0 65535).again count 1 u.number following u.counted in
    let each = (exact_elements (length es)).again es (1 + length u.number) u.elements here.rest (refl, u.each) in
    record {
      second = second;
      head = record { first = first; bit = bit; number = number };
      elements = each ∙ ap (λ (n : ℕ). placed es n here.rest) (sym u.at);
    }

-- ---- elements one after the other, up to the first that can't be put

pub record FailsAfter (rs : Rows) (n : ℕ) (slots : Slots rs) (s : Place) (x : S1apFault) : Type 0 where
  pub many : ℕ
  pub fewer : many < n
  pub now : Slots rs
  pub here : Place
  pub before : elements_at rs many slots s ≡ Ok (now, here)
  pub fails : step_at rs now here ≡ Err x

one_more : (rs : Rows) (k : ℕ) (slots mid now : Slots rs) (s v here : Place) (id : ℕ) (u : Place) → number_at 0 65535 s ≡ Ok (id, u)
    → put_at rs id slots u ≡ Ok (mid, v) → elements_at rs k mid v ≡ Ok (now, here)
    → elements_at rs (suc k) slots s ≡ Ok (now, here)
unfolding elements_at
one_more rs k slots mid now s v here id u p q r = rw (p, q, r) refl

none_yet : (rs : Rows) (slots : Slots rs) (s : Place) → elements_at rs 0 slots s ≡ Ok (slots, s)
unfolding elements_at
none_yet rs slots s = refl

less_more : (k n : ℕ) → k < n → suc k < suc n
less_more k n h = omega arith

zero_less : (n : ℕ) → 0 < suc n
zero_less n = omega arith

later : (rs : Rows) (n : ℕ) (slots mid : Slots rs) (s u v : Place) (id : ℕ) (x : S1apFault) → number_at 0 65535 s ≡ Ok (id, u)
    → put_at rs id slots u ≡ Ok (mid, v) → FailsAfter rs n mid v x → FailsAfter rs (suc n) slots s x
later rs n slots mid s u v id x p q k =
    let before = one_more rs k.many slots mid k.now s v k.here id u p q k.before in
    record { many = suc k.many; fewer = less_more k.many n k.fewer; now = k.now; here = k.here; before = before; fails = k.fails }

at_once : (rs : Rows) (n : ℕ) (slots : Slots rs) (s : Place) (x : S1apFault) → step_at rs slots s ≡ Err x
    → FailsAfter rs (suc n) slots s x
at_once rs n slots s x h = record { many = 0; fewer = zero_less n; now = slots; here = s; before = none_yet rs slots s; fails = h }

step_unread : (rs : Rows) (slots : Slots rs) (s : Place) (d : PerFault) → number_at 0 65535 s ≡ Err d
    → step_at rs slots s ≡ Err (Syntax d)
step_unread rs slots s d h = rw h refl

step_unput : (rs : Rows) (slots : Slots rs) (s u : Place) (id : ℕ) (x : S1apFault) → number_at 0 65535 s ≡ Ok (id, u)
    → put_at rs id slots u ≡ Err x → step_at rs slots s ≡ Err x
step_unput rs slots s u id x p h = rw p h

pub fails_after : (rs : Rows) (n : ℕ) (slots : Slots rs) (s : Place) (x : S1apFault) → elements_at rs n slots s ≡ Err x
    → FailsAfter rs n slots s x
unfolding elements_at
fails_after rs zero slots s x h = absurd cc
fails_after rs (suc n) slots s x h = number (syntax_fails (number_at 0 65535 s) put x h) (λ mid v k. fails_after rs n mid v x k)
  where
    others : Slots rs × Place → Result (Slots rs × Place) S1apFault
    others now = elements_at rs n now.0 now.1

    put : ℕ × Place → Result (Slots rs × Place) S1apFault
    put id = put_at rs id.0 slots id.1 >>> others

    element : (id : ℕ) (u : Place) → number_at 0 65535 s ≡ Ok (id, u) → FailsOr (put_at rs id slots u) others x
        → ((mid : Slots rs) (v : Place) → elements_at rs n mid v ≡ Err x → FailsAfter rs n mid v x)
        → FailsAfter rs (suc n) slots s x
    element id u p (inl e) ih = at_once rs n slots s x (step_unput rs slots s u id x p e)
    element id u p (inr m) ih = later rs n slots m.0.0 s u m.0.1 id x p m.1 (ih m.0.0 m.0.1 m.2)

    number : SyntaxOr (number_at 0 65535 s) put x
        → ((mid : Slots rs) (v : Place) → elements_at rs n mid v ≡ Err x → FailsAfter rs n mid v x)
        → FailsAfter rs (suc n) slots s x
    number (inl m) ih =
        at_once rs n slots s x (step_unread rs slots s m.0 m.1 ∙ ap (λ (y : S1apFault). failed {A = Slots rs × Place} y) m.2)
    number (inr m) ih = element m.0.0 m.0.1 m.1 (bind_fails (put_at rs m.0.0 slots m.0.1) others x m.2) ih

assoc_fails : (rs : Rows) (n : ℕ) (slots : Slots rs) (s : Place) (x : S1apFault) → step_at rs slots s ≡ Err x
    → elements_at rs (suc n) slots s ≡ Err x
unfolding elements_at
assoc_fails rs n slots s x h = by (number_at 0 65535 s) refl h
  where
    put : ℕ × Place → Result (Slots rs × Place) S1apFault
    put id = put_at rs id.0 slots id.1

    others : Slots rs × Place → Result (Slots rs × Place) S1apFault
    others now = elements_at rs n now.0 now.1

    by : (r : Result (ℕ × Place) PerFault) → number_at 0 65535 s ≡ r → (syntax_of r >>> put) ≡ Err x
        → (syntax_of r >>> λ id. put id >>> others) ≡ Err x
    by (Ok id) p k = rw k refl
    by (Err d) p k = ap (λ (y : S1apFault). failed {A = Slots rs × Place} y) (err_same {A = Slots rs × Place} (Syntax d) x k)

less_back : (k n : ℕ) → suc k < suc n → k < n
less_back k n h = omega arith

never_less : (k : ℕ) → k < 0 → ⊥
never_less k h = omega arith

then_fails : (rs : Rows) (n : ℕ) (slots mid : Slots rs) (s u v : Place) (id : ℕ) (x : S1apFault) → number_at 0 65535 s ≡ Ok (id, u)
    → put_at rs id slots u ≡ Ok (mid, v) → elements_at rs n mid v ≡ Err x
    → elements_at rs (suc n) slots s ≡ Err x
unfolding elements_at
then_fails rs n slots mid s u v id x p q r = rw (p, q, r) refl

pub after_fails : (rs : Rows) (n k : ℕ) (slots now : Slots rs) (s here : Place) (x : S1apFault) → k < n
    → elements_at rs k slots s ≡ Ok (now, here) → step_at rs now here ≡ Err x → elements_at rs n slots s ≡ Err x
unfolding elements_at
after_fails rs zero k slots now s here x l h e = absurd (never_less k l)
after_fails rs (suc n) zero slots now s here x l h e =
    let same = ok_same {A = Slots rs × Place} (slots, s) (now, here) h in
    let first : step_at rs slots s ≡ Err x = ap (λ (y : Slots rs × Place). step_at rs y.0 y.1) same ∙ e in
    assoc_fails rs n slots s x first
after_fails rs (suc n) (suc k) slots now s here x l h e =
    let a =
    bind_some (syntax_of (number_at 0 65535 s)) (λ id. put_at rs id.0 slots id.1 >>> λ y. elements_at rs k y.0 y.1) (now, here) h in
    let b = bind_some (put_at rs a.0.0 slots a.0.1) (λ y. elements_at rs k y.0 y.1) (now, here) a.2 in
    then_fails rs n slots b.0.0 s a.0.1 b.0.1 a.0.0 x (syntax_some (number_at 0 65535 s) a.0 a.1) b.1
    (after_fails rs n k b.0.0 now b.0.1 here x (less_back k n l) b.2 e)

-- an element that is put was read
pub step_read : (rs : Rows) (slots : Slots rs) (s : Place) (now : Slots rs × Place) → step_at rs slots s ≡ Ok now
    → (e : Raw) × (read_at raw s ≡ Ok (e, now.1))
unfolding elements_at times
step_read rs slots s now h =
    let last : Slots rs × Place = (now.0, now.1) in
    let a = bind_some (syntax_of (number_at 0 65535 s)) (λ id. put_at rs id.0 slots id.1) now h in
    let one : elements_at rs 1 slots s ≡ Ok last =
    one_more rs 0 slots now.0 now.0 s now.1 now.1 a.0.0 a.0.1 (syntax_some (number_at 0 65535 s) a.0 a.1) a.2
    (none_yet rs now.0 now.1) in
    let k = elements_to rs 1 slots s now.0 now.1 one in
    let b =
    bind_ok (read_at raw s) (λ x. times (read_at raw) 0 x.1 >>= λ y. good {A = List Raw × Place} (x.0 ∷ y.0, y.1)) (k.0, now.1)
    k.1 in
    let place : b.0.1 ≡ now.1 = ap (λ (x : List Raw × Place). x.1) (ok_is (b.0.0 ∷ [], b.0.1) (k.0, now.1) b.2) in
    (b.0.0, subst (λ (w : Place). read_at raw s ≡ Ok (b.0.0, w)) place b.1)

-- ---- a whole message

pub record Parts (os : List ℕ) (es : List Raw) : Type 0 where
  pub extended : Bool
  pub second : Place
  pub here : Place
  pub more : Unit {0} × Place
  pub last : Unit {0} × Place
  pub head : HeadRead os extended (length es) second
  pub each : times (read_at raw) (length es) second ≡ Ok (es, here)
  pub additions : skipped_at extended additions_at here ≡ Ok more
  pub ends : end_at more.1 ≡ Ok last

abbrev inner : Fields
inner = must (items 0 65535 raw) done

abbrev Inner : Type 0
Inner = List Raw × Unit {0}

abbrev body_at : List Bool × Place → Result (Inner × Place) PerFault
body_at y = fields_at inner (flags_after y.0) y.1 >>= λ v. skipped_at (flag_of y.0) additions_at v.1 >>= λ more. good (v.0, more.1)

abbrev flags_at : Place → Result (List Bool × Place) PerFault
flags_at s = bit_at s >>= λ b. good {A = List Bool × Place} (b.0 ∷ [], b.1)

many_same : (n : ℕ) (first second here : Place) (es : List Raw) → number_at 0 65535 first ≡ Ok (n, second)
    → times (read_at raw) n second ≡ Ok (es, here)
    → (number_at 0 65535 first ≡ Ok (length es, second)) × (times (read_at raw) (length es) second ≡ Ok (es, here))
many_same n first second here es p q =
    let e : n ≡ length es = sym (elements_many n second here es q) in
    (p ∙ ap (λ (k : ℕ). good {A = ℕ × Place} (k, second)) e, ap (λ (k : ℕ). times (read_at raw) k second) (sym e) ∙ q)

parts_of : (os : List ℕ) (es : List Raw) → complete_at message os ≡ Ok (es, tt) → Parts os es
unfolding whole_at times
parts_of os es h =
    let last : Inner = (es, tt) in
    let a = bind_ok (flags_at (start os) >>= body_at) (λ x. end_at x.1 >>= λ u. good {A = Inner} x.0) last h in
    let z = bind_ok (end_at a.0.1) (λ u. good {A = Inner} a.0.0) last a.2 in
    let fl = bind_ok (flags_at (start os)) body_at a.0 a.1 in
    let b = bind_ok (bit_at (start os)) (λ b. good {A = List Bool × Place} (b.0 ∷ [], b.1)) fl.0 fl.1 in
    let head : List Bool × Place = (b.0.0 ∷ [], b.0.1) in
    let k : body_at head ≡ Ok a.0 = subst (λ y. body_at y ≡ Ok a.0) (sym (ok_is head fl.0 b.2)) fl.2 in
    let fd =
    bind_ok (fields_at inner [] b.0.1) (λ v. skipped_at b.0.0 additions_at v.1 >>= λ more. good {A = Inner × Place} (v.0, more.1))
    a.0 k in
    let mo = bind_ok (skipped_at b.0.0 additions_at fd.0.1) (λ more. good {A = Inner × Place} (fd.0.0, more.1)) a.0 fd.2 in
    let whole : Inner × Place = (fd.0.0, mo.0.1) in
    let same2 = ok_is whole a.0 mo.2 in
    let it = bind_ok (read_at (items 0 65535 raw) b.0.1) (λ first. good {A = Inner × Place} ((first.0, tt), first.1)) fd.0 fd.1 in
    let read : Inner × Place = ((it.0.0, tt), it.0.1) in
    let same3 = ok_is read fd.0 it.2 in
    let nu = bind_ok (number_at 0 65535 b.0.1) (λ n. times (read_at raw) n.0 n.1) it.0 it.1 in
    let these : it.0.0 ≡ es =
    ap (λ (y : Inner × Place). y.0.0) same3 ∙ ap (λ (y : Inner × Place). y.0.0) same2 ∙
    ap (λ (y : Inner). y.0) (ok_is a.0.0 last z.2) in
    let each : times (read_at raw) nu.0.0 nu.0.1 ≡ Ok (es, it.0.1) =
    subst (λ (l : List Raw). times (read_at raw) nu.0.0 nu.0.1 ≡ Ok (l, it.0.1)) these nu.2 in
    let many = many_same nu.0.0 b.0.1 nu.0.1 it.0.1 es nu.1 each in
    record {
      extended = b.0.0;
      second = nu.0.1;
      here = it.0.1;
      more = mo.0;
      last = z.0;
      head = record { first = b.0.1; bit = b.1; number = many.0 };
      each = many.1;
      additions =
          subst (λ (w : Place). skipped_at b.0.0 additions_at w ≡ Ok mo.0) (sym (ap (λ (y : Inner × Place). y.1) same3)) mo.1;
      ends = subst (λ (w : Place). end_at w ≡ Ok z.0) (sym (ap (λ (y : Inner × Place). y.1) same2)) z.1;
    }

pub spelled_parts : (os : List ℕ) (es : List Raw) → SpellsWhole message (es, tt) os → Parts os es
spelled_parts os es s = parts_of os es (complete_again message os (es, tt) s)

message_is : (os : List ℕ) (es : List Raw) (n : ℕ) (extended : Bool) (second here : Place) (more last : Unit {0} × Place)
    → HeadRead os extended n second → times (read_at raw) n second ≡ Ok (es, here) → skipped_at extended additions_at here ≡ Ok more
    → end_at more.1 ≡ Ok last → complete_at message os ≡ Ok (es, tt)
unfolding whole_at times
message_is os es n extended second here more last h r k l = rw (h.bit, h.number, r, k, l) refl

pub parts_spell : (os : List ℕ) (es : List Raw) (n : ℕ) (extended : Bool) (second here : Place) (more last : Unit {0} × Place)
    → HeadRead os extended n second → times (read_at raw) n second ≡ Ok (es, here) → skipped_at extended additions_at here ≡ Ok more
    → end_at more.1 ≡ Ok last → SpellsWhole message (es, tt) os
parts_spell os es n extended second here more last h r k l =
    complete_takes message os (es, tt) (message_is os es n extended second here more last h r k l)
