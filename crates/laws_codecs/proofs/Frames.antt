-- Octets are decoded with a fault exactly where they have the fault.
use Rattle.std.proofs.Common.{◌≡◌, ℕ, true, List, Option, Some, None, Result, Ok, Err, refl, sym, ap, subst, ◌∙◌, ◌⊎◌, inl, inr}
use Rattle.per_streams.specs.declared.fault.PerFault.{PerFault}
use Rattle.per_bits.specs.Spelling.{Whole}
use Rattle.per_bits.specs.Reading.{whole_at}
use Rattle.s1ap_rows.specs.declared.fault.S1apFault.{S1apFault}
use Rattle.s1ap_rows.specs.declared.fault.S1apFault.TheVariants.{Syntax, UnknownProcedure, MissingElement, RepeatedElement, RefusedElement, NoMemory}
use Rattle.s1ap_rows.specs.Criticalities.{criticality_named}
use Rattle.s1ap_rows.specs.Rows.{are_distinct}
use Rattle.s1ap_rows.specs.Spelling.{Frame, SpellsFrame, frame_kind, frame_code, frame_criticality, frame_octets}
use Rattle.s1ap_rows.specs.Reading.{frame_at, message_at}
use Rattle.s1ap_rows.specs.FrameLaws.{frame_takes, frame_again}
use Rattle.s1ap_pdus.specs.declared.message_type.MessageType.{MessageType}
use Rattle.s1ap_pdus.specs.declared.message_type.MessageType.TheVariants.{S1SetupRequest}
use Rattle.s1ap_pdus.specs.declared.pdu.Pdu.{Pdu}
use Rattle.s1ap_pdus.specs.Profile.{type_of, rows_of}
use Rattle.s1ap_pdus.specs.Typed.{Typed, typed_of, read_typed, read_of, decode_typed}
use Rattle.s1ap_pdus.specs.Pdus.{SpellsMessage, named, decoded}
use Rattle.laws_codecs.specs.S1apFaults.{HasMessageFault, FailsInFrame, HasS1apFault}
use Rattle.laws_codecs.proofs.S1apOutcomes.{SyntaxOr, okay, failed, err_same, never_both, mapped_fails, fails_first, syntax_fails}
use Rattle.laws_codecs.proofs.Messages.{message_fails, fault_is_read}

distinct : (t : MessageType) → are_distinct (rows_of t) ≡ true
distinct S1SetupRequest = refl
distinct _ = refl

-- ---- a fault that is decoded is there

in_frame : (os : List ℕ) (x : S1apFault) (fr : Frame) (t : MessageType) → Whole SpellsFrame fr os
    → type_of (frame_kind fr) (frame_code fr) ≡ Some t → HasMessageFault (rows_of t) (frame_octets fr) x → HasS1apFault os x
in_frame os (Syntax d) fr t s h m = inr (fr, t, s, h, m)
in_frame os (RepeatedElement id) fr t s h m = (fr, t, s, h, m)
in_frame os (RefusedElement id) fr t s h m = (fr, t, s, h, m)
in_frame os (MissingElement id) fr t s h m = (fr, t, s, h, m)
in_frame os (UnknownProcedure c) fr t s h m = absurd m
in_frame os NoMemory fr t s h m = absurd m

typed_fails : (os : List ℕ) (x : S1apFault) (fr : Frame) (o : Option MessageType) → Whole SpellsFrame fr os
    → type_of (frame_kind fr) (frame_code fr) ≡ o → read_of o fr ≡ Err x → HasS1apFault os x
unfolding read_typed
typed_fails os x fr None s h e =
    let c = criticality_named (frame_criticality fr) in
    let unknown : HasS1apFault os (UnknownProcedure c) = (fr, s, h, refl) in
    subst (λ (y : S1apFault). HasS1apFault os y) (err_same {A = Typed} (UnknownProcedure c) x e) unknown
typed_fails os x fr (Some t) s h e =
    let rs = rows_of t in
    let inside = mapped_fails (message_at rs (frame_octets fr)) (λ v. typed_of t v) x e in
    in_frame os x fr t s h (message_fails rs (frame_octets fr) x (distinct t) inside)

decode_fails : (os : List ℕ) (x : S1apFault) → decode_typed os ≡ Err x → HasS1apFault os x
unfolding decode_typed
decode_fails os x h = by (syntax_fails (whole_at frame_at os) at_type x h)
  where
    at_type : Frame → Result Typed S1apFault
    at_type fr = read_of (type_of (frame_kind fr) (frame_code fr)) fr

    by : SyntaxOr (whole_at frame_at os) at_type x → HasS1apFault os x
    by (inl m) =
        let fault : HasS1apFault os (Syntax m.0) = inl m.1 in
        subst (λ (y : S1apFault). HasS1apFault os y) m.2 fault
    by (inr m) = typed_fails os x m.0 (type_of (frame_kind m.0) (frame_code m.0)) (frame_takes os m.0 m.1) refl m.2

pub fault_is_named : (os : List ℕ) (x : S1apFault) → decoded os ≡ Err x → HasS1apFault os x
unfolding decoded
fault_is_named os x h = decode_fails os x (mapped_fails (decode_typed os) (λ m. named m.0 m.1) x h)

-- ---- a fault that is there is decoded

frame_unread : (os : List ℕ) (d : PerFault) → whole_at frame_at os ≡ Err d → decode_typed os ≡ Err (Syntax d)
unfolding decode_typed
frame_unread os d h = rw h refl

frame_unknown : (os : List ℕ) (fr : Frame) → whole_at frame_at os ≡ Ok fr → type_of (frame_kind fr) (frame_code fr) ≡ None
    → decode_typed os ≡ Err (UnknownProcedure (criticality_named (frame_criticality fr)))
unfolding decode_typed
frame_unknown os fr h n = rw (h, n) refl

frame_fails : (os : List ℕ) (x : S1apFault) → FailsInFrame os x → decode_typed os ≡ Err x
unfolding decode_typed read_typed
frame_fails os x m =
    let rs = rows_of m.1 in
    let fails = fault_is_read rs (frame_octets m.0) x (distinct m.1) m.4 in
    rw (frame_again os m.0 m.2, m.3) (fails_first (message_at rs (frame_octets m.0)) (λ v. okay (typed_of m.1 v)) x fails)

decodes : (os : List ℕ) (x : S1apFault) → HasS1apFault os x → decode_typed os ≡ Err x
decodes os (Syntax d) (inl h) = frame_unread os d h
decodes os (Syntax d) (inr m) = frame_fails os (Syntax d) m
decodes os (RepeatedElement id) m = frame_fails os (RepeatedElement id) m
decodes os (RefusedElement id) m = frame_fails os (RefusedElement id) m
decodes os (MissingElement id) m = frame_fails os (MissingElement id) m
decodes os (UnknownProcedure c) m =
    frame_unknown os m.0 (frame_again os m.0 m.1) m.2 ∙ ap (λ (k : _). failed {A = Typed} (UnknownProcedure k)) (sym m.3)
decodes os NoMemory m = absurd m

pub named_is_fault : (os : List ℕ) (x : S1apFault) → HasS1apFault os x → decoded os ≡ Err x
unfolding decoded
named_is_fault os x m = fails_first (decode_typed os) (λ t. okay (named t.0 t.1)) x (decodes os x m)

-- ---- one outcome

pub one_fault : (os : List ℕ) (x y : S1apFault) → HasS1apFault os x → HasS1apFault os y → x ≡ y
one_fault os x y p q = err_same {A = Pdu (List ℕ)} x y (sym (named_is_fault os x p) ∙ named_is_fault os y q)

abbrev Outcome : List ℕ → Type 0
Outcome os = ((m : Pdu (List ℕ)) × SpellsMessage m os) ⊎ ((x : S1apFault) × HasS1apFault os x)

pub some_outcome : ((m : Pdu (List ℕ)) (os : List ℕ) → decoded os ≡ Ok m → SpellsMessage m os) → (os : List ℕ)
    → ((m : Pdu (List ℕ)) × SpellsMessage m os) ⊎ ((x : S1apFault) × HasS1apFault os x)
some_outcome spelled os = by (decoded os) refl
  where
    by : (r : Result (Pdu (List ℕ)) S1apFault) → decoded os ≡ r → Outcome os
    by (Ok m) h = inl (m, spelled m os h)
    by (Err x) h = inr (x, fault_is_named os x h)

pub no_message_with_fault : ((m : Pdu (List ℕ)) (os : List ℕ) → SpellsMessage m os → decoded os ≡ Ok m)
    → (os : List ℕ) (m : Pdu (List ℕ)) (x : S1apFault) → SpellsMessage m os → HasS1apFault os x → ⊥
no_message_with_fault decodes_it os m x s k = never_both (decoded os) m x (decodes_it m os s) (named_is_fault os x k)
