-- What octets spell is in range, by induction on formats; so are the elements of a message that is decoded.
use Rattle.std.proofs.Common.{◌≡◌, ℕ, zero, suc, ◌+◌, Bool, true, false, List, [], ◌∷◌, length, filter, not, Option, Some, None, Ok, inl, inr, subst}
use Rattle.std.specs.List.{AllByRecursion}
use Rattle.std.proofs.lemmas.Option.{same_Some}
use Rattle.per_streams.specs.Each.{SpellsEach}
use Rattle.per_bits.specs.Formats.{Format, flag_of, flags_after, number, octets, octets_between, octet_string, bit_string, bits_between, enumerated, closed, items, open_type, plain, sequence, choice, Fields, done, must, may, skip, fixed, marked, Alternatives, last, either, Value, Values, Chosen}
use Rattle.per_bits.specs.Spelling.{Spells, SpellsChosen, SpellsFields, SpellsOptional}
use Rattle.s1ap_rows.specs.Rows.{Rows, ie, end, needed, optional, unkept, Kept, Slots}
use Rattle.s1ap_rows.specs.Spelling.{AreElements, IsKept, OfRow, Raw, has_id}
use Rattle.s1ap_pdus.specs.declared.pdu.Pdu.{Pdu}
use Rattle.s1ap_pdus.specs.Pdus.{SpellsMessage, decoded, typed}
use Rattle.s1ap_pdus.specs.Profile.{rows_of}
use Rattle.laws_codecs.specs.Ranged.{AreRanged, ChosenRanged, DecodedIsInRange, Ranged, RangedIf, RowsRanged}

each_ranged : {A : Type 0} (S : A → ℕ → List Bool → Type 0) (P : A → Type 0) → ((a : A) (at : ℕ) (bs : List Bool) → S a at bs → P a)
    → (vs : List A) (at : ℕ) (bs : List Bool) → SpellsEach S vs at bs
    → AllByRecursion P vs
each_ranged S P one [] at bs h = tt
each_ranged S P one (a ∷ more) at bs h = (one a at h.0 h.3, each_ranged S P one more (at + length h.0) h.1 h.4)

optional_ranged : {A : Type 0} (S : A → ℕ → List Bool → Type 0) (P : A → Type 0)
    → ((a : A) (at : ℕ) (bs : List Bool) → S a at bs → P a) → (flag : Bool) (o : Option A) (at : ℕ) (bs : List Bool)
    → SpellsOptional flag S o at bs → RangedIf P o
optional_ranged S P one flag None at bs h = tt
optional_ranged S P one false (Some a) at bs h = absurd (cc h.0)
optional_ranged S P one true (Some a) at bs h = one a at bs h

mutual
  spelled_ranged : (f : Format) (v : Value f) (at : ℕ) (bs : List Bool) → Spells f v at bs → Ranged f v
  spelled_ranged (number lo hi) n at bs h = (h.0, h.1)
  spelled_ranged (octets n) os at bs h = (h.0, h.1)
  spelled_ranged (octets_between lo hi) os at bs h = h.4.1
  spelled_ranged octet_string os at bs h = h.4.1
  spelled_ranged (bit_string n) b at bs h = tt
  spelled_ranged (bits_between lo hi) b at bs h = tt
  spelled_ranged (enumerated n) v at bs h = tt
  spelled_ranged (closed f) v at bs h = spelled_ranged f v (at + 1) h.0 h.2
  spelled_ranged (items lo hi f) vs at bs h =
      (h.3.0, h.3.1, each_ranged (Spells f) (Ranged f) (spelled_ranged f) vs (at + length h.0) h.1 h.4)
  spelled_ranged (open_type f) v at bs h = spelled_ranged f v 0 h.2.0 h.2.2
  spelled_ranged (plain fs) v at bs h = fields_ranged fs h.0 v (at + length h.0) h.1 h.4
  spelled_ranged (sequence fs) v at bs h = fields_ranged fs (flags_after h.0) v (at + length h.0) h.1 h.5
  spelled_ranged (choice alts) v at bs h = chosen_ranged alts h.0 v (at + length h.1) h.2 h.5

  fields_ranged : (fs : Fields) (flags : List Bool) (v : Values fs) (at : ℕ) (bs : List Bool) → SpellsFields fs flags v at bs
      → AreRanged fs v
  fields_ranged done flags v at bs h = tt
  fields_ranged (must f fs) flags v at bs h =
      (spelled_ranged f v.0 at h.0 h.3, fields_ranged fs flags v.1 (at + length h.0) h.1 h.4)
  fields_ranged (may f fs) flags v at bs h =
      (optional_ranged (Spells f) (Ranged f) (spelled_ranged f) (flag_of flags) v.0 at h.0 h.3, fields_ranged fs (flags_after flags) v.1 (at + length h.0) h.1 h.4)
  fields_ranged (skip f fs) flags v at bs h = fields_ranged fs (flags_after flags) v (at + length h.0) h.1 h.4
  fields_ranged (fixed lo hi n fs) flags v at bs h = fields_ranged fs flags v (at + length h.0) h.1 h.4
  fields_ranged (marked lo hi n fs) flags v at bs h = fields_ranged fs flags v (at + length h.1) h.2 h.5

  chosen_ranged : (alts : Alternatives) (i : ℕ) (v : Chosen alts) (at : ℕ) (bs : List Bool) → SpellsChosen alts i v at bs
      → ChosenRanged alts v
  chosen_ranged (last f) i v at bs h = spelled_ranged f v at bs h.1
  chosen_ranged (either f alts) zero (inl v) at bs h = spelled_ranged f v at bs h
  chosen_ranged (either f alts) zero (inr v) at bs h = absurd h
  chosen_ranged (either f alts) (suc i) (inl v) at bs h = absurd h
  chosen_ranged (either f alts) (suc i) (inr v) at bs h = chosen_ranged alts i v at bs h

row_ranged : (f : Format) (o : Option (Value f)) (es : List Raw) (v : Value f) → OfRow f o es → o ≡ Some v → Ranged f v
row_ranged f None es v h is = absurd (cc is)
row_ranged f (Some w) es v h is = subst (Ranged f) (same_Some w v is) (spelled_ranged f w 0 h.2.0 h.2.2)

rows_ranged : (rs : Rows) (v : Kept rs) (slots : Slots rs) (es : List Raw) → AreElements rs slots es → IsKept rs slots v
    → RowsRanged rs v
rows_ranged end v slots es h k = tt
rows_ranged (ie id c needed f rs) v slots es h k = (row_ranged f slots.0 (filter (has_id id) es) v.0 h.0 k.0, rows_ranged rs v.1 slots.1 (filter (λ e. not (has_id id e)) es) h.1 k.1)
rows_ranged (ie id c optional f rs) v slots es h k = rows_ranged rs v.1 slots.1 (filter (λ e. not (has_id id e)) es) h.1 k.1
rows_ranged (ie id c unkept f rs) v slots es h k = rows_ranged rs v slots.1 (filter (λ e. not (has_id id e)) es) h.1 k

message_ranged : (m : Pdu (List ℕ)) (os : List ℕ) → SpellsMessage m os → RowsRanged (rows_of (typed m).0) (typed m).1
message_ranged m os h = rows_ranged (rows_of (typed m).0) (typed m).1 h.3.1 h.3.0 h.3.3 h.3.4

-- s1ap_pdus' law
abbrev pub PduIsSpelled : Type 0
PduIsSpelled = (m : Pdu (List ℕ)) (os : List ℕ) → decoded os ≡ Ok m → SpellsMessage m os

pub decoded_is_in_range : PduIsSpelled → DecodedIsInRange
decoded_is_in_range spelled m os is = message_ranged m os (spelled m os is)
