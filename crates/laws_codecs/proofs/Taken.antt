-- The elements that were taken are those that were put into slots, one after the other.
use Rattle.std.proofs.Common.{◌≡◌, ℕ, Bool, true, false, cond, not, List, [], ◌∷◌, ◌++◌, Option, Some, None, Result, Ok, Err, refl, sym, ap, subst, ◌∙◌, append_assoc}
use Rattle.std.specs.Prelude.{filter}
use Rattle.std.specs.List.{AllByRecursion}
use Rattle.std.proofs.lemmas.List.{append-nil}
use Rattle.std.proofs.lemmas.List.Elements.{filter-append}
use Rattle.per_bits.specs.Formats.{Format, Value}
use Rattle.per_bits.specs.Spelling.{SpellsWhole}
use Rattle.per_bits.specs.Reading.{complete_at}
use Rattle.per_bits.specs.FormatLaws.{complete_takes, complete_again}
use Rattle.s1ap_rows.specs.declared.fault.S1apFault.{S1apFault}
use Rattle.s1ap_rows.specs.declared.fault.S1apFault.TheVariants.{RefusedElement}
use Rattle.s1ap_rows.specs.Rows.{Rows, ie, end, Slots, no_slots}
use Rattle.s1ap_rows.specs.Spelling.{Raw, id_of, criticality_of, octets_of, has_id, may_skip, OfRow, AreElements}
use Rattle.s1ap_rows.specs.Reading.{◌>>>◌, syntax_of, pure_fill, pure_put, put_all}
use Rattle.s1ap_rows.specs.MessageLaws.{bind_some, syntax_some}
use Rattle.laws_codecs.proofs.S1apOutcomes.{okay, ok_same}

-- ---- one element more

abbrev CanSkip : Raw → Type 0
CanSkip e = may_skip (id_of e) (criticality_of e) ≡ true

skipped : (b : Bool) (id : ℕ) (u : Unit {0}) → cond b (okay {A = Unit {0}} tt) (Err (RefusedElement id)) ≡ Ok u → b ≡ true
skipped true id u h = refl
skipped false id u h = absurd cc

skips : (b : Bool) (id : ℕ) (u : Unit {0}) → b ≡ true → cond b (okay {A = Unit {0}} tt) (Err (RefusedElement id)) ≡ Ok u
skips true id u h = refl
skips false id u h = absurd cc

all_more : (es : List Raw) (e : Raw) → AllByRecursion CanSkip es → CanSkip e → AllByRecursion CanSkip (es ++ e ∷ [])
all_more [] e h k = (k, tt)
all_more (x ∷ es) e h k = (h.0, all_more es e h.1 k)

all_fewer : (es : List Raw) (e : Raw) → AllByRecursion CanSkip (es ++ e ∷ []) → AllByRecursion CanSkip es × CanSkip e
all_fewer [] e h = (tt, h.0)
all_fewer (x ∷ es) e h = let k = all_fewer es e h.1 in ((h.0, k.0), k.1)

fill_more : (f : Format) (slot first : Option (Value f)) (es : List Raw) (e : Raw) → OfRow f slot es → pure_fill f slot e ≡ Ok first
    → OfRow f first (es ++ e ∷ [])
fill_more f (Some v) first es e o h = absurd cc
fill_more f None first es e o h =
    let last : Value f → Result (Option (Value f)) S1apFault = λ v. Ok (Some v) in
    let b = bind_some (syntax_of (complete_at f (octets_of e))) last first h in
    let spelled : SpellsWhole f b.0 (octets_of e) =
    complete_takes f (octets_of e) b.0 (syntax_some (complete_at f (octets_of e)) b.0 b.1) in
    subst (λ (x : Option (Value f)). OfRow f x (es ++ e ∷ [])) (ok_same (Some b.0) first b.2)
    (e, ap (λ (l : List Raw). l ++ e ∷ []) o, spelled)

abbrev RowSlots : Format → Rows → Type 0
RowSlots f rs = Option (Value f) × Slots rs

-- what an element does to the slots, by whether it is the first row's
abbrev PutBy : Bool → (f : Format) (rs : Rows) → RowSlots f rs → Raw → Result (RowSlots f rs) S1apFault
PutBy b f rs slots e =
    cond b (pure_fill f slots.0 e >>> λ first. Ok (first, slots.1)) (pure_put rs slots.1 e >>> λ others. Ok (slots.0, others))

-- the elements of the first row and the others, by whether the last is the row's
abbrev TakenBy : Bool → (f : Format) (rs : Rows) → RowSlots f rs → List Raw → List Raw → Raw → Type 0
TakenBy b f rs slots ours others e =
    OfRow f slots.0 (ours ++ cond b (e ∷ []) []) × AreElements rs slots.1 (others ++ cond (not b) (e ∷ []) [])

more_by : (b : Bool) (f : Format) (rs : Rows) (slots now : RowSlots f rs) (ours others : List Raw) (e : Raw)
    → ((after : Slots rs) → pure_put rs slots.1 e ≡ Ok after → AreElements rs after (others ++ e ∷ []))
    → OfRow f slots.0 ours → AreElements rs slots.1 others → PutBy b f rs slots e ≡ Ok now → TakenBy b f rs now ours others e
more_by true f rs slots now ours others e ih o a h =
    let last : Option (Value f) → Result (RowSlots f rs) S1apFault = λ first. Ok (first, slots.1) in
    let p = bind_some (pure_fill f slots.0 e) last now h in
    let made : RowSlots f rs = (p.0, slots.1) in
    subst (λ (x : RowSlots f rs). TakenBy true f rs x ours others e) (ok_same made now p.2)
    (fill_more f slots.0 p.0 ours e o p.1, subst (λ (l : List Raw). AreElements rs slots.1 l) (sym (append-nil others)) a)
more_by false f rs slots now ours others e ih o a h =
    let last : Slots rs → Result (RowSlots f rs) S1apFault = λ more. Ok (slots.0, more) in
    let p = bind_some (pure_put rs slots.1 e) last now h in
    let made : RowSlots f rs = (slots.0, p.0) in
    subst (λ (x : RowSlots f rs). TakenBy false f rs x ours others e) (ok_same made now p.2)
    (subst (λ (l : List Raw). OfRow f slots.0 l) (sym (append-nil ours)) o, ih p.0 p.1)

more_taken : (rs : Rows) (slots now : Slots rs) (es : List Raw) (e : Raw) → AreElements rs slots es → pure_put rs slots e ≡ Ok now
    → AreElements rs now (es ++ e ∷ [])
more_taken end slots now es e a h = all_more es e a (skipped (may_skip (id_of e) (criticality_of e)) (id_of e) now h)
more_taken (ie i c p f rs) slots now es e a h =
    let ours = filter (has_id i) es in
    let others = filter (λ x. not (has_id i x)) es in
    let k = more_by (has_id i e) f rs slots now ours others e (λ after. more_taken rs slots.1 after others e a.1) a.0 a.1 h in (
      subst (λ (l : List Raw). OfRow f now.0 l) (sym (filter-append (has_id i) es (e ∷ []))) k.0,
      subst (λ (l : List Raw). AreElements rs now.1 l) (sym (filter-append (λ x. not (has_id i x)) es (e ∷ []))) k.1,
    )

-- ---- one element fewer

record Before (rs : Rows) (now : Slots rs) (es : List Raw) (e : Raw) : Type 0 where
  slots : Slots rs
  taken : AreElements rs slots es
  put : pure_put rs slots e ≡ Ok now

not_empty : (es : List Raw) (e : Raw) → es ++ e ∷ [] ≡ [] → ⊥
not_empty [] e h = absurd cc
not_empty (x ∷ es) e h = absurd cc

alone : (es : List Raw) (e x : Raw) → es ++ e ∷ [] ≡ x ∷ [] → (es ≡ []) × (x ≡ e)
alone [] e x h = (refl, cc)
alone (y ∷ es) e x h = let k : es ++ e ∷ [] ≡ [] = cc in absurd (not_empty es e k)

refilled : (f : Format) (v : Value f) (e : Raw) → complete_at f (octets_of e) ≡ Ok v → pure_fill f None e ≡ Ok (Some v)
refilled f v e h = rw h refl

fill_fewer : (f : Format) (now : Option (Value f)) (es : List Raw) (e : Raw) → OfRow f now (es ++ e ∷ [])
    → (es ≡ []) × (pure_fill f None e ≡ Ok now)
fill_fewer f None es e o = absurd (not_empty es e o)
fill_fewer f (Some v) es e o =
    let k = alone es e o.0 o.1 in
    (k.0, refilled f v e (complete_again f (octets_of e) v (subst (λ (x : Raw). SpellsWhole f v (octets_of x)) k.1 o.2)))

record BeforeBy (b : Bool) (f : Format) (rs : Rows) (now : RowSlots f rs) (ours others : List Raw) (e : Raw) : Type 0 where
  slots : RowSlots f rs
  row : OfRow f slots.0 ours
  taken : AreElements rs slots.1 others
  put : PutBy b f rs slots e ≡ Ok now

put_first : (f : Format) (rs : Rows) (now : RowSlots f rs) (e : Raw) → pure_fill f None e ≡ Ok now.0
    → PutBy true f rs (None, now.1) e ≡ Ok now
put_first f rs now e h = rw h refl

put_others : (f : Format) (rs : Rows) (now : RowSlots f rs) (slots : Slots rs) (e : Raw) → pure_put rs slots e ≡ Ok now.1
    → PutBy false f rs (now.0, slots) e ≡ Ok now
put_others f rs now slots e h = rw h refl

fewer_by : (b : Bool) (f : Format) (rs : Rows) (now : RowSlots f rs) (ours others : List Raw) (e : Raw)
    → (AreElements rs now.1 (others ++ e ∷ []) → Before rs now.1 others e) → TakenBy b f rs now ours others e
    → BeforeBy b f rs now ours others e
fewer_by true f rs now ours others e ih m =
    let k = fill_fewer f now.0 ours e m.0 in
    let taken = subst (λ (l : List Raw). AreElements rs now.1 l) (append-nil others) m.1 in
    record { slots = (None, now.1); row = k.0; taken = taken; put = put_first f rs now e k.1 }
fewer_by false f rs now ours others e ih m =
    let k = ih m.1 in
    let row = subst (λ (l : List Raw). OfRow f now.0 l) (append-nil ours) m.0 in
    record { slots = (now.0, k.slots); row = row; taken = k.taken; put = put_others f rs now k.slots e k.put }

fewer : (rs : Rows) (now : Slots rs) (es : List Raw) (e : Raw) → AreElements rs now (es ++ e ∷ []) → Before rs now es e
fewer end now es e a =
    let k = all_fewer es e a in
    record { slots = tt; taken = k.0; put = skips (may_skip (id_of e) (criticality_of e)) (id_of e) now k.1 }
fewer (ie i c p f rs) now es e a =
    let ours = filter (has_id i) es in
    let others = filter (λ x. not (has_id i x)) es in
    let row : OfRow f now.0 (ours ++ filter (has_id i) (e ∷ [])) =
    subst (λ (l : List Raw). OfRow f now.0 l) (filter-append (has_id i) es (e ∷ [])) a.0 in
    let rest : AreElements rs now.1 (others ++ filter (λ x. not (has_id i x)) (e ∷ [])) =
    subst (λ (l : List Raw). AreElements rs now.1 l) (filter-append (λ x. not (has_id i x)) es (e ∷ [])) a.1 in
    let k = fewer_by (has_id i e) f rs now ours others e (fewer rs now.1 others e) (row, rest) in
    record { slots = k.slots; taken = (k.row, k.taken); put = k.put }

-- ---- from the first element on

all_taken : (rs : Rows) (slots after : Slots rs) (es more : List Raw) → AreElements rs slots es → put_all rs slots more ≡ Ok after
    → AreElements rs after (es ++ more)
all_taken rs slots after es [] a h =
    subst (λ (l : List Raw). AreElements rs after l) (sym (append-nil es))
    (subst (λ (s : Slots rs). AreElements rs s es) (ok_same slots after h) a)
all_taken rs slots after es (e ∷ more) a h =
    let p = bind_some (pure_put rs slots e) (λ now. put_all rs now more) after h in
    subst (λ (l : List Raw). AreElements rs after l) (append_assoc es (e ∷ []) more)
    (all_taken rs p.0 after (es ++ e ∷ []) more (more_taken rs slots p.0 es e a p.1) p.2)

put_then : (rs : Rows) (slots now after : Slots rs) (e : Raw) (more : List Raw) → pure_put rs slots e ≡ Ok now
    → put_all rs now more ≡ Ok after → put_all rs slots (e ∷ more) ≡ Ok after
put_then rs slots now after e more p q = rw p q

all_put : (rs : Rows) (after : Slots rs) (es more : List Raw) → AreElements rs after (es ++ more)
    → (slots : Slots rs) × AreElements rs slots es × (put_all rs slots more ≡ Ok after)
all_put rs after es [] a = (after, subst (λ (l : List Raw). AreElements rs after l) (append-nil es) a, refl)
all_put rs after es (e ∷ more) a =
    let k =
    all_put rs after (es ++ e ∷ []) more
    (subst (λ (l : List Raw). AreElements rs after l) (sym (append_assoc es (e ∷ []) more)) a) in
    let b = fewer rs k.0 es e k.1 in
    (b.slots, b.taken, put_then rs b.slots k.0 after e more b.put k.2)

pub no_elements : (rs : Rows) → AreElements rs (no_slots rs) []
no_elements end = tt
no_elements (ie i c p f rs) = (refl, no_elements rs)

empty_row : (f : Format) (slot : Option (Value f)) → OfRow f slot [] → slot ≡ None
empty_row f None o = refl
empty_row f (Some v) o = let e : [] ≡ o.0 ∷ [] = o.1 in absurd cc

abbrev pair_of : {A B : Type 0} → A → B → A × B
pair_of a b = (a, b)

empty_slots : (rs : Rows) (slots : Slots rs) → AreElements rs slots [] → slots ≡ no_slots rs
empty_slots end slots a = refl
empty_slots (ie i c p f rs) slots a =
    ap (λ (x : Option (Value f)). pair_of x slots.1) (empty_row f slots.0 a.0) ∙
    ap (λ (x : Slots rs). pair_of {A = Option (Value f)} None x) (empty_slots rs slots.1 a.1)

pub taken_of : (rs : Rows) (slots : Slots rs) (es : List Raw) → put_all rs (no_slots rs) es ≡ Ok slots → AreElements rs slots es
taken_of rs slots es h = all_taken rs (no_slots rs) slots [] es (no_elements rs) h

pub put_of : (rs : Rows) (slots : Slots rs) (es : List Raw) → AreElements rs slots es → put_all rs (no_slots rs) es ≡ Ok slots
put_of rs slots es a =
    let k = all_put rs slots [] es a in
    subst (λ (x : Slots rs). put_all rs x es ≡ Ok slots) (empty_slots rs k.0 k.1) k.2
