-- Which rows have their element, by the slots and by the elements that were taken; and the row that takes an element.
use Rattle.std.proofs.Common.{◌≡◌, ℕ, Bool, true, false, cond, eqb, not, ◌||◌, List, [], ◌∷◌, ◌++◌, Option, Some, None, is_some, Result, Ok, Err, refl, sym, ap, subst, ◌∙◌}
use Rattle.std.specs.Prelude.{filter}
use Rattle.std.specs.List.{AllByRecursion}
use Rattle.std.proofs.lemmas.Bool.{and_parts, eqb-true, eq-eqb, ne_eqb}
use Rattle.per_streams.specs.Bits.{Place}
use Rattle.per_bits.specs.Formats.{Format, Value}
use Rattle.s1ap_rows.specs.declared.criticality.Criticality.{Criticality}
use Rattle.s1ap_rows.specs.declared.fault.S1apFault.{S1apFault}
use Rattle.s1ap_rows.specs.declared.fault.S1apFault.TheVariants.{MissingElement}
use Rattle.s1ap_rows.specs.Rows.{Rows, ie, end, needed, optional, unkept, Slots, Kept, has_row, are_distinct}
use Rattle.s1ap_rows.specs.Spelling.{Raw, id_of, has_id, OfRow, AreElements}
use Rattle.s1ap_rows.specs.Reading.{◌>>>◌, pass_at, fill_slot, put_at, kept_of}
use Rattle.laws_codecs.specs.S1apFaults.{has_element, held_by, needed_ids, IsFirstMissing}
use Rattle.laws_codecs.proofs.S1apOutcomes.{okay, failed, err_same, true_false, mapped_fails, fails_first}

-- ---- whether an element has an id

has_none : (id : ℕ) (es : List Raw) → filter (has_id id) es ≡ [] → has_element id es ≡ false
has_none id [] h = refl
has_none id (e ∷ es) h = by (has_id id e) h (has_none id es)
  where
    by : (b : Bool) → cond b (e ∷ filter (has_id id) es) (filter (has_id id) es) ≡ []
        → (filter (has_id id) es ≡ [] → has_element id es ≡ false) → (b || has_element id es) ≡ false
    by true k ih = absurd cc
    by false k ih = ih k

has_one : (id : ℕ) (es : List Raw) (x : Raw) (more : List Raw) → filter (has_id id) es ≡ x ∷ more → has_element id es ≡ true
has_one id [] x more h = absurd cc
has_one id (e ∷ es) x more h = by (has_id id e) h (has_one id es x more)
  where
    by : (b : Bool) → cond b (e ∷ filter (has_id id) es) (filter (has_id id) es) ≡ x ∷ more
        → (filter (has_id id) es ≡ x ∷ more → has_element id es ≡ true) → (b || has_element id es) ≡ true
    by true k ih = refl
    by false k ih = ih k

row_has : (f : Format) (slot : Option (Value f)) (id : ℕ) (es : List Raw) → OfRow f slot (filter (has_id id) es)
    → is_some slot ≡ has_element id es
row_has f None id es o = sym (has_none id es o)
row_has f (Some v) id es o = sym (has_one id es o.0 [] o.1)

-- elements of another id don't matter
others_have : (i id : ℕ) (es : List Raw) → (i ≡ id → ⊥) → has_element id (filter (λ e. not (has_id i e)) es) ≡ has_element id es
others_have i id [] ne = refl
others_have i id (e ∷ es) ne = by (has_id i e) refl (others_have i id es ne)
  where
    others : List Raw
    others = filter (λ x. not (has_id i x)) es

    by : (b : Bool) → has_id i e ≡ b → has_element id others ≡ has_element id es
        → has_element id (cond (not b) (e ∷ others) others) ≡ (has_id id e || has_element id es)
    by true q ih =
        let other : has_id id e ≡ false = ne_eqb (id_of e) id (λ p. ne (sym (eqb-true (id_of e) i q) ∙ p)) in
        rw other ih
    by false q ih = ap (λ (x : Bool). has_id id e || x) ih

-- ---- the rows that have their element

-- a slot is filled exactly where one of the elements has the row's id
abbrev pub Seen : (rs : Rows) → Slots rs → List Raw → Type 0
Seen end slots es = Unit {0}
Seen (ie i c p f rs) slots es = (is_some slots.0 ≡ has_element i es) × Seen rs slots.1 es

not_false : (b : Bool) → not b ≡ true → b ≡ false
not_false false h = refl
not_false true h = absurd cc

or_right : (a b : Bool) → b ≡ true → (a || b) ≡ true
or_right true b h = refl
or_right false b h = h

or_left : (a b : Bool) → a ≡ true → (a || b) ≡ true
or_left true b h = refl
or_left false b h = absurd cc

seen_by : (rs : Rows) (slots : Slots rs) (some es : List Raw) → are_distinct rs ≡ true → AreElements rs slots some
    → ((id : ℕ) → has_row id rs ≡ true → has_element id some ≡ has_element id es) → Seen rs slots es
seen_by end slots some es d a same = tt
seen_by (ie i c p f rs) slots some es d a same =
    let k = and_parts (not (has_row i rs)) (are_distinct rs) d in
    let lone : has_row i rs ≡ false = not_false (has_row i rs) k.0 in
    let own : has_row i (ie i c p f rs) ≡ true = or_left (eqb i i) (has_row i rs) (eq-eqb i i refl) in (
      row_has f slots.0 i some a.0 ∙ same i own,
      seen_by rs slots.1 (filter (λ e. not (has_id i e)) some) es k.1 a.1 (λ id h.
          let other : i ≡ id → ⊥ = λ e. true_false (has_row id rs) h (subst (λ (n : ℕ). has_row n rs ≡ false) e lone) in
          others_have i id some other ∙ same id (or_right (eqb i id) (has_row id rs) h)),
    )

pub seen : (rs : Rows) (slots : Slots rs) (es : List Raw) → are_distinct rs ≡ true → AreElements rs slots es → Seen rs slots es
seen rs slots es d a = seen_by rs slots es es d a (λ id h. refl)

-- ---- the row that takes an element

-- what a row holds, its slot, and that an element that can't be put fails at the slot
pub record RowAt {A : Type 0} (put : Place → Result A S1apFault) (es : List Raw) (id : ℕ) (f : Format) : Type 0 where
  pub slot : Option (Value f)
  pub filled : is_some slot ≡ has_element id es
  pub to : (u : Place) (x : S1apFault) → put u ≡ Err x → fill_slot f id slot u ≡ Err x
  pub from : (u : Place) (x : S1apFault) → fill_slot f id slot u ≡ Err x → put u ≡ Err x

abbrev RowSlots : Format → Rows → Type 0
RowSlots f rs = Option (Value f) × Slots rs

-- where an element is put, by whether it is the first row's
abbrev PutBy : Bool → (f : Format) (rs : Rows) (id : ℕ) → RowSlots f rs → Place → Result (RowSlots f rs × Place) S1apFault
PutBy b f rs id slots u =
    cond b (fill_slot f id slots.0 u >>> λ first. Ok ((first.0, slots.1), first.1))
    (put_at rs id slots.1 u >>> λ others. Ok ((slots.0, others.0), others.1))

abbrev some_of : Format → Option Format
some_of f = Some f

some_same : (f g : Format) → some_of f ≡ some_of g → f ≡ g
some_same f g e = cc

row_by : (b : Bool) (g : Format) (rs : Rows) (slots : RowSlots g rs) (es : List Raw) (id : ℕ) (f : Format)
    → (b ≡ true → is_some slots.0 ≡ has_element id es)
    → (held_by id rs ≡ Some f → RowAt (put_at rs id slots.1) es id f) → cond b (Some g) (held_by id rs) ≡ Some f
    → RowAt (PutBy b g rs id slots) es id f
row_by true g rs slots es id f own ih h =
    subst (λ (x : Format). RowAt (PutBy true g rs id slots) es id x) (some_same g f h)
    (record {
      slot = slots.0;
      filled = own refl;
      to = λ u x e. mapped_fails (fill_slot g id slots.0 u) (λ first. ((first.0, slots.1), first.1)) x e;
      from =
          λ u x e. fails_first (fill_slot g id slots.0 u) (λ first. okay {A = RowSlots g rs × Place} ((first.0, slots.1), first.1))
          x e;
    })
row_by false g rs slots es id f own ih h =
    let k = ih h in
    record {
      slot = k.slot;
      filled = k.filled;
      to = λ u x e. k.to u x (mapped_fails (put_at rs id slots.1 u) (λ others. ((slots.0, others.0), others.1)) x e);
      from =
          λ u x e. fails_first (put_at rs id slots.1 u) (λ others. okay {A = RowSlots g rs × Place} ((slots.0, others.0), others.1))
          x (k.from u x e);
    }

pub row_at : (rs : Rows) (slots : Slots rs) (es : List Raw) (id : ℕ) (f : Format) → Seen rs slots es → held_by id rs ≡ Some f
    → RowAt (put_at rs id slots) es id f
row_at end slots es id f s h = absurd cc
row_at (ie i c p g rs) slots es id f s h =
    row_by (eqb id i) g rs slots es id f (λ e. subst (λ (n : ℕ). is_some slots.0 ≡ has_element n es) (sym (eqb-true id i e)) s.0)
    (row_at rs slots.1 es id f s.1) h

pub record NoRowAt {A : Type 0} (put : Place → Result A S1apFault) (id : ℕ) : Type 0 where
  pub to : (u : Place) (x : S1apFault) → put u ≡ Err x → pass_at id u ≡ Err x
  pub from : (u : Place) (x : S1apFault) → pass_at id u ≡ Err x → put u ≡ Err x

no_row_by : (b : Bool) (g : Format) (rs : Rows) (slots : RowSlots g rs) (id : ℕ)
    → (held_by id rs ≡ None → NoRowAt (put_at rs id slots.1) id) → cond b (Some g) (held_by id rs) ≡ None
    → NoRowAt (PutBy b g rs id slots) id
no_row_by true g rs slots id ih h = absurd cc
no_row_by false g rs slots id ih h =
    let k = ih h in
    record {
      to = λ u x e. k.to u x (mapped_fails (put_at rs id slots.1 u) (λ others. ((slots.0, others.0), others.1)) x e);
      from =
          λ u x e. fails_first (put_at rs id slots.1 u) (λ others. okay {A = RowSlots g rs × Place} ((slots.0, others.0), others.1))
          x (k.from u x e);
    }

pub no_row_at : (rs : Rows) (slots : Slots rs) (id : ℕ) → held_by id rs ≡ None → NoRowAt (put_at rs id slots) id
no_row_at end slots id h = record { to = λ u x e. e; from = λ u x e. e }
no_row_at (ie i c p g rs) slots id h = no_row_by (eqb id i) g rs slots id (no_row_at rs slots.1 id) h

-- ---- the first row that lacks its element

abbrev pair_of : {A B : Type 0} → A → B → A × B
pair_of a b = (a, b)

abbrev pub Missing : Rows → List Raw → S1apFault → Type 0
Missing rs es x = (id : ℕ) × (MissingElement id ≡ x) × IsFirstMissing rs es id

needed_to : (i : ℕ) (c : Criticality) (f : Format) (rs : Rows) (o : Option (Value f)) (others : Slots rs) (es : List Raw)
    → (x : S1apFault) → (kept_of rs others ≡ Err x → Missing rs es x) → is_some o ≡ has_element i es
    → kept_of (ie i c needed f rs) (o, others) ≡ Err x → Missing (ie i c needed f rs) es x
needed_to i c f rs None others es x ih q k =
    (i, err_same {A = Value f × Kept rs} (MissingElement i) x k, ([], needed_ids rs, refl, tt, sym q))
needed_to i c f rs (Some v) others es x ih q k =
    let m = ih (mapped_fails (kept_of rs others) (λ more. pair_of v more) x k) in
    (m.0, m.1, (i ∷ m.2.0, m.2.1, ap (λ (l : List ℕ). i ∷ l) m.2.2, (sym q, m.2.3), m.2.4))

pub missing_to : (rs : Rows) (slots : Slots rs) (es : List Raw) (x : S1apFault) → Seen rs slots es → kept_of rs slots ≡ Err x
    → Missing rs es x
missing_to end slots es x s h = absurd cc
missing_to (ie i c needed f rs) slots es x s h = needed_to i c f rs slots.0 slots.1 es x (missing_to rs slots.1 es x s.1) s.0 h
missing_to (ie i c optional f rs) slots es x s h =
    missing_to rs slots.1 es x s.1 (mapped_fails (kept_of rs slots.1) (λ more. pair_of slots.0 more) x h)
missing_to (ie i c unkept f rs) slots es x s h = missing_to rs slots.1 es x s.1 h

kept_none : (i : ℕ) (c : Criticality) (f : Format) (rs : Rows) (o : Option (Value f)) (others : Slots rs) → is_some o ≡ false
    → kept_of (ie i c needed f rs) (o, others) ≡ Err (MissingElement i)
kept_none i c f rs None others h = refl
kept_none i c f rs (Some v) others h = absurd cc

kept_some : (i : ℕ) (c : Criticality) (f : Format) (rs : Rows) (o : Option (Value f)) (others : Slots rs) (x : S1apFault)
    → is_some o ≡ true → kept_of rs others ≡ Err x → kept_of (ie i c needed f rs) (o, others) ≡ Err x
kept_some i c f rs None others x h k = absurd cc
kept_some i c f rs (Some v) others x h k = rw k refl

abbrev AllHave : List Raw → List ℕ → Type 0
AllHave es ids = AllByRecursion (λ i. has_element i es ≡ true) ids

head_same : (a b : ℕ) (xs ys : List ℕ) → a ∷ xs ≡ b ∷ ys → (a ≡ b) × (xs ≡ ys)
head_same a b xs ys e = (cc, cc)

needed_from : (i : ℕ) (c : Criticality) (f : Format) (rs : Rows) (o : Option (Value f)) (others : Slots rs) (es : List Raw)
    → (id : ℕ) (before after : List ℕ)
    → ((front : List ℕ) → needed_ids rs ≡ front ++ (id ∷ after) → AllHave es front → kept_of rs others ≡ Err (MissingElement id))
    → is_some o ≡ has_element i es → i ∷ needed_ids rs ≡ before ++ (id ∷ after) → AllHave es before → has_element id es ≡ false
    → kept_of (ie i c needed f rs) (o, others) ≡ Err (MissingElement id)
needed_from i c f rs o others es id [] after ih q e all none =
    let same : i ≡ id = (head_same i id (needed_ids rs) after e).0 in
    let lacks : is_some o ≡ false = q ∙ ap (λ (n : ℕ). has_element n es) same ∙ none in
    kept_none i c f rs o others lacks ∙ ap (λ (n : ℕ). failed {A = Value f × Kept rs} (MissingElement n)) same
needed_from i c f rs o others es id (j ∷ before) after ih q e all none =
    let same = head_same i j (needed_ids rs) (before ++ (id ∷ after)) e in
    let has : is_some o ≡ true = q ∙ ap (λ (n : ℕ). has_element n es) same.0 ∙ all.0 in
    kept_some i c f rs o others (MissingElement id) has (ih before same.1 all.1)

nothing_needed : (before : List ℕ) (id : ℕ) (after : List ℕ) → [] ≡ before ++ (id ∷ after) → ⊥
nothing_needed [] id after e = absurd cc
nothing_needed (i ∷ before) id after e = absurd cc

pub missing_from : (rs : Rows) (slots : Slots rs) (es : List Raw) (id : ℕ) (before after : List ℕ) → Seen rs slots es
    → needed_ids rs ≡ before ++ (id ∷ after)
    → AllHave es before → has_element id es ≡ false → kept_of rs slots ≡ Err (MissingElement id)
missing_from end slots es id before after s e all none = absurd (nothing_needed before id after e)
missing_from (ie i c needed f rs) slots es id before after s e all none =
    needed_from i c f rs slots.0 slots.1 es id before after
    (λ front e2 all2. missing_from rs slots.1 es id front after s.1 e2 all2 none) s.0 e all none
missing_from (ie i c optional f rs) slots es id before after s e all none =
    fails_first (kept_of rs slots.1) (λ more. okay {A = Option (Value f) × Kept rs} (slots.0, more)) (MissingElement id)
    (missing_from rs slots.1 es id before after s.1 e all none)
missing_from (ie i c unkept f rs) slots es id before after s e all none = missing_from rs slots.1 es id before after s.1 e all none
