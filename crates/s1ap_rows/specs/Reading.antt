-- Reading a message, from the left.
use Rattle.std.specs.Prelude.{ℕ, zero, suc, cond, eqb, List, [], ◌∷◌, Option, Some, None, Result, Ok, Err}
use Rattle.per_streams.specs.declared.fault.PerFault.{PerFault}
use Rattle.per_streams.specs.declared.fault.PerFault.TheVariants.{Alternative}
use Rattle.s1ap_rows.specs.declared.fault.S1apFault.{S1apFault}
use Rattle.s1ap_rows.specs.declared.fault.S1apFault.TheVariants.{Syntax, MissingElement, RepeatedElement, RefusedElement}
use Rattle.per_streams.specs.Bits.{Place, start, ◌>>=◌, bit_at, open_at, end_at}
use Rattle.per_bits.specs.Formats.{Format, Value}
use Rattle.per_bits.specs.Reading.{closed_at, skipped_at, additions_at, read_at, complete_at}
use Rattle.per_streams.specs.Reading.{number_at}
use Rattle.s1ap_rows.specs.Rows.{Rows, ie, end, needed, optional, unkept, Slots, Kept, no_slots}
use Rattle.s1ap_rows.specs.Spelling.{may_skip, Raw, id_of, criticality_of, octets_of, has_id, body, Frame}

-- ---- reading, from the left

infixl 10 ◌>>>◌
abbrev pub ◌>>>◌ : {A B : Type 0} → Result A S1apFault → (A → Result B S1apFault) → Result B S1apFault
(Ok x) >>> f = f x
(Err e) >>> f = Err e

abbrev pub syntax_of : {A : Type 0} → Result A PerFault → Result A S1apFault
syntax_of (Ok x) = Ok x
syntax_of (Err e) = Err (Syntax e)

-- an element of no row, after its id
abbrev pub pass_at : ℕ → Place → Result (Unit {0} × Place) S1apFault
pass_at id s =
    syntax_of (number_at 0 2 s) >>> λ criticality.
    cond (may_skip id criticality.0) (syntax_of (open_at criticality.1) >>> λ os. Ok (tt, os.1)) (Err (RefusedElement id))

-- an element of a row, after its id
abbrev pub fill_slot : (f : Format) → ℕ → Option (Value f) → Place → Result (Option (Value f) × Place) S1apFault
fill_slot f id (Some v) s = Err (RepeatedElement id)
fill_slot f id None s =
    syntax_of (number_at 0 2 s) >>> λ criticality.
    syntax_of (open_at criticality.1) >>> λ os.
    syntax_of (complete_at f os.0) >>> λ v.
    Ok (Some v, os.1)

abbrev pub put_at : (rs : Rows) → ℕ → Slots rs → Place → Result (Slots rs × Place) S1apFault
put_at end id slots s = pass_at id s
put_at (ie i c p f rs) id slots s =
    cond (eqb id i)
    (fill_slot f id slots.0 s >>> λ first. Ok ((first.0, slots.1), first.1))
    (put_at rs id slots.1 s >>> λ others. Ok ((slots.0, others.0), others.1))

unfoldable pub elements_at : (rs : Rows) → ℕ → Slots rs → Place → Result (Slots rs × Place) S1apFault
elements_at rs zero slots s = Ok (slots, s)
elements_at rs (suc n) slots s =
    syntax_of (number_at 0 65535 s) >>> λ id. put_at rs id.0 slots id.1 >>> λ after. elements_at rs n after.0 after.1

unfoldable pub fill_at : (rs : Rows) → Slots rs → List ℕ → Result (Slots rs) S1apFault
fill_at rs slots os =
    syntax_of (bit_at (start os)) >>> λ extended.
    syntax_of (number_at 0 65535 extended.1) >>> λ count.
    elements_at rs count.0 slots count.1 >>> λ after.
    syntax_of (skipped_at extended.0 additions_at after.1) >>> λ more.
    syntax_of (end_at more.1) >>> λ e.
    Ok after.0

abbrev pub needed_of : {A : Type 0} → ℕ → Option A → Result A S1apFault
needed_of id None = Err (MissingElement id)
needed_of id (Some v) = Ok v

abbrev pub kept_of : (rs : Rows) → Slots rs → Result (Kept rs) S1apFault
kept_of end slots = Ok tt
kept_of (ie id c needed f rs) slots = needed_of id slots.0 >>> λ v. kept_of rs slots.1 >>> λ more. Ok (v, more)
kept_of (ie id c optional f rs) slots = kept_of rs slots.1 >>> λ more. Ok (slots.0, more)
kept_of (ie id c unkept f rs) slots = kept_of rs slots.1

abbrev pub message_at : (rs : Rows) → List ℕ → Result (Kept rs) S1apFault
message_at rs os = fill_at rs (no_slots rs) os >>> λ slots. kept_of rs slots

-- ---- frames

unfoldable pub frame_at : Place → Result (Frame × Place) PerFault
frame_at s = do
  kind ← closed_at Alternative (number_at 0 2) s
  rest ← read_at body kind.1
  Ok ((kind.0, rest.0), rest.1)

-- ---- the same of elements that were read before

abbrev pub pure_fill : (f : Format) → Option (Value f) → Raw → Result (Option (Value f)) S1apFault
pure_fill f (Some v) e = Err (RepeatedElement (id_of e))
pure_fill f None e = syntax_of (complete_at f (octets_of e)) >>> λ v. Ok (Some v)

abbrev pub pure_put : (rs : Rows) → Slots rs → Raw → Result (Slots rs) S1apFault
pure_put end slots e = cond (may_skip (id_of e) (criticality_of e)) (Ok tt) (Err (RefusedElement (id_of e)))
pure_put (ie i c p f rs) slots e =
    cond (has_id i e)
    (pure_fill f slots.0 e >>> λ first. Ok (first, slots.1))
    (pure_put rs slots.1 e >>> λ others. Ok (slots.0, others))

abbrev pub put_all : (rs : Rows) → Slots rs → List Raw → Result (Slots rs) S1apFault
put_all rs slots [] = Ok slots
put_all rs slots (e ∷ es) = pure_put rs slots e >>> λ after. put_all rs after es
