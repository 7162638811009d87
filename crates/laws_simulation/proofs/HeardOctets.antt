-- What is made of octets that a phone hears: the message under a context, the GUTI that is given, the transaction that is asked.
use Rattle.std.proofs.Common.{◌≡◌, ℕ, ◌+◌, ◌*◌, ◌/◌, ◌^◌, ◌<◌, ◌&&◌, Bool, true, false, cond, ltb, eqb, List, [], ◌∷◌, ◌++◌, length, slice_index, Option, Some, None, Ok, Err, refl, sym, ap, subst, arith}
use Rattle.std.specs.Prelude.{option_map}
use Rattle.std.specs.Int.{w32, from_be_bytes}
use Rattle.std.proofs.lemmas.Bool.{and_from, and_parts, lt-ltb, ltb-true}
use Rattle.per_streams.specs.Octet.{all_below}
use Rattle.nas_elements.specs.declared.identity.Guti.{Guti}
use Rattle.nas_elements.specs.declared.rule.Domain.{Domain}
use Rattle.nas_elements.specs.declared.rule.Domain.TheVariants.{Emm}
use Rattle.nas_elements.specs.declared.rule.Element.{Element}
use Rattle.nas_elements.specs.declared.rule.Rule.{Rule}
use Rattle.nas_elements.specs.declared.rule.Rule.TheVariants.{Itself, Fixed, ByOctet, ByTwo}
use Rattle.nas_elements.specs.Identifiers.{guti_iei}
use Rattle.nas_elements.specs.Identities.{first_of, guti_from, guti_of}
use Rattle.nas_elements.specs.Optionals.{AreElements, SpellsBy, first, rule_of}
use Rattle.nas_elements.specs.Rows.{Kept}
use Rattle.nas_messages.specs.declared.emm_types.AttachAccept.{AttachAccept}
use Rattle.nas_messages.specs.declared.emm_types.Direction.TheVariants.{Downlink}
use Rattle.nas_messages.specs.declared.emm_types.Emm.TheVariants as emm
use Rattle.nas_messages.specs.declared.emm_types.EmmType.TheVariants as types
use Rattle.nas_messages.specs.declared.emm_types.TrackingAreaUpdateAccept.{TrackingAreaUpdateAccept}
use Rattle.nas_messages.specs.declared.esm_types.Esm.{Esm}
use Rattle.nas_messages.specs.declared.protection.Protected.{Protected}
use Rattle.nas_messages.specs.declared.protection.SecurityHeader.{SecurityHeader}
use Rattle.nas_messages.specs.EsmMessages.{SpellsBody, TypedBody, decoded_esm, esm_code_of, of_type, typed_body}
use Rattle.nas_messages.specs.Formats.{kept_of}
use Rattle.nas_messages.specs.Messages.{decoded_emm}
use Rattle.nas_messages.specs.Protection.{header_of, protected_from, split}
use Rattle.nas_security.specs.Accepting.{Acceptance, accepted, accepted_parts, accepted_under, is_allowed}
use Rattle.nas_security.specs.Context.{Mac}
use Rattle.nas_security.specs.Counts.{estimate}
use Rattle.eps_keys.specs.declared.direction.DirectionBit.TheVariants as directions
use Rattle.eps_keys.specs.Same.{same_octets}
use Rattle.sim_phone.specs.declared.registration.Registration.{Registration}
use Rattle.sim_phone.specs.Answering.{with_given_guti}
use Rattle.sim_phone.specs.Protecting.{taken_of, taken_under}
use Rattle.sim_phone.specs.Sides.{PhoneContextView, phone_mac}
use Rattle.laws_network.specs.NasLaws.{below_at, below_drop, brief_more, brief_none}
use Rattle.laws_network.specs.Ranges.{IsBrief}
use Rattle.laws_simulation.specs.PhoneRanges.{GutiInRange, GutiInRangeIf, PhoneContextInRange, PhoneContextInRangeIf, RegistrationInRange}
use Rattle.laws_simulation.proofs.GivenLaws.{NasLawsGiven}

-- ---- parts of octets

abbrev pub BelowIf : Option (List ℕ) → Type 0
BelowIf None = Unit {0}
BelowIf (Some os) = all_below 256 os ≡ true

below_front : (xs ys : List ℕ) → all_below 256 (xs ++ ys) ≡ true → all_below 256 xs ≡ true
below_front [] ys h = refl
below_front (x ∷ xs) ys h =
    let parts = and_parts (ltb x 256) (all_below 256 (xs ++ ys)) h in
    and_from (ltb x 256) (all_below 256 xs) parts.0 (below_front xs ys parts.1)

below_back : (xs ys : List ℕ) → all_below 256 (xs ++ ys) ≡ true → all_below 256 ys ≡ true
below_back [] ys h = h
below_back (x ∷ xs) ys h = below_back xs ys (and_parts (ltb x 256) (all_below 256 (xs ++ ys)) h).1

below_same : (os xs : List ℕ) → os ≡ xs → all_below 256 os ≡ true → all_below 256 xs ≡ true
below_same os xs e h = subst (λ (v : List ℕ). all_below 256 v ≡ true) e h

below_next : (x : ℕ) (xs : List ℕ) → all_below 256 (x ∷ xs) ≡ true → all_below 256 xs ≡ true
below_next x xs h = (and_parts (ltb x 256) (all_below 256 xs) h).1

below_first : (x : ℕ) (xs : List ℕ) → all_below 256 (x ∷ xs) ≡ true → x < 256
below_first x xs h = ltb-true x 256 (and_parts (ltb x 256) (all_below 256 xs) h).0

-- ---- elements of an optional part

by_below : (r : Rule) (i : ℕ) (e : Element (List ℕ)) (tail : List ℕ) → i < 256 → all_below 256 tail ≡ true → SpellsBy r i e tail
    → all_below 256 e.octets ≡ true
by_below Itself i e tail low h s =
    let one : all_below 256 (i ∷ []) ≡ true = and_from (ltb i 256) true (lt-ltb i 256 low) refl in
    subst (λ (x : Element (List ℕ)). all_below 256 x.octets ≡ true) (sym s.0) one
by_below (Fixed n) i e tail low h s = below_same tail e.octets s.1 h
by_below ByOctet i e tail low h s = below_next (length e.octets) e.octets (below_same tail (length e.octets ∷ e.octets) s.1 h)
by_below ByTwo i e tail low h s =
    below_next s.2 e.octets (below_next s.1 (s.2 ∷ e.octets) (below_same tail (s.1 ∷ s.2 ∷ e.octets) s.3 h))

below_either : (b : Bool) (os : List ℕ) (o : Option (List ℕ)) → all_below 256 os ≡ true → BelowIf o → BelowIf (cond b (Some os) o)
below_either true os o h k = h
below_either false os o h k = k

first_below : (domain : Domain) (es : List (Element (List ℕ))) (os : List ℕ) (i : ℕ) → all_below 256 os ≡ true
    → AreElements domain es os → BelowIf (first i es)
first_below domain [] os i h m = tt
first_below domain (e ∷ es) os i h m =
    let whole = below_same os (m.0 ++ m.1) m.2 h in
    let front = below_front m.0 m.1 whole in
    let s = m.3 in
    let own = below_same m.0 (s.0 ∷ s.1) s.2 front in
    below_either (eqb e.iei i) e.octets (first i es)
    (by_below (rule_of domain s.0) s.0 e s.1 (below_first s.0 s.1 own) (below_next s.0 s.1 own) s.3)
    (first_below domain es m.1 i (below_back m.0 m.1 whole) m.4)

-- ---- the GUTI in ATTACH ACCEPT and in TRACKING AREA UPDATE ACCEPT

pub attach_guti_below : NasLawsGiven → (os : List ℕ) (m : AttachAccept (List ℕ)) → all_below 256 os ≡ true
    → decoded_emm Downlink os ≡ Ok (emm.AttachAccept m) → BelowIf m.guti
attach_guti_below laws os m h e =
    let s = laws.spelled Downlink os (emm.AttachAccept m) e in
    let row = s.3 in
    let rest = below_next 0x42 s.1 (below_next 7 (0x42 ∷ s.1) (below_same os (7 ∷ 0x42 ∷ s.1) s.2 h)) in
    let elements = below_back row.front row.rest (below_same s.1 (row.front ++ row.rest) row.whole rest) in
    let is : m.guti ≡ first guti_iei row.found = ap (λ (x : Kept (kept_of types.AttachAccept)). x.0) row.kept in
    subst BelowIf (sym is) (first_below Emm row.found row.rest guti_iei elements row.optional)

pub update_guti_below : NasLawsGiven → (os : List ℕ) (m : TrackingAreaUpdateAccept (List ℕ)) → all_below 256 os ≡ true
    → decoded_emm Downlink os ≡ Ok (emm.TrackingAreaUpdateAccept m) → BelowIf m.guti
update_guti_below laws os m h e =
    let s = laws.spelled Downlink os (emm.TrackingAreaUpdateAccept m) e in
    let row = s.3 in
    let rest = below_next 0x49 s.1 (below_next 7 (0x49 ∷ s.1) (below_same os (7 ∷ 0x49 ∷ s.1) s.2 h)) in
    let elements = below_back row.front row.rest (below_same s.1 (row.front ++ row.rest) row.whole rest) in
    let is : m.guti ≡ first guti_iei row.found = ap (λ (x : Kept (kept_of types.TrackingAreaUpdateAccept)). x.1.0) row.kept in
    subst BelowIf (sym is) (first_below Emm row.found row.rest guti_iei elements row.optional)

in_four : (a b c d : ℕ) → a < 256 → b < 256 → c < 256 → d < 256 → from_be_bytes w32 (a ∷ b ∷ c ∷ d ∷ []) < 2 ^ 32
in_four a b c d p q r s = omega (arith, p, q, r, s)

guti_from_octets : (os : List ℕ) → all_below 256 os ≡ true → GutiInRange (guti_from os)
guti_from_octets os h =
    let at = λ (i : ℕ). lt-ltb (slice_index os i) 256 (below_at os i h) in
    let plmn : IsBrief 3 (slice_index os 0 ∷ slice_index os 1 ∷ slice_index os 2 ∷ []) =
    brief_more (at 0) (brief_more (at 1) (brief_more (at 2) brief_none)) in
    let group : IsBrief 2 (slice_index os 3 ∷ slice_index os 4 ∷ []) = brief_more (at 3) (brief_more (at 4) brief_none) in
    record {
      plmn = plmn.octets;
      group = group.octets;
      code = below_at os 5 h;
      tmsi = in_four (slice_index os 6) (slice_index os 7) (slice_index os 8) (slice_index os 9) (below_at os 6 h) (below_at os 7 h)
          (below_at os 8 h) (below_at os 9 h);
    }

guti_either : (b : Bool) (g : Guti) → GutiInRange g → GutiInRangeIf (cond b (Some g) None)
guti_either true g h = h
guti_either false g h = tt

guti_read : (os : List ℕ) → all_below 256 os ≡ true → GutiInRangeIf (guti_of os)
unfolding guti_of
guti_read [] h = tt
guti_read (kind ∷ os) h =
    guti_either (eqb (length os) 10 && eqb kind 0xf6) (guti_from os) (guti_from_octets os (below_next kind os h))

first_guti : (a b : Option Guti) → GutiInRangeIf a → GutiInRangeIf b → GutiInRangeIf (first_of a b)
first_guti None b h k = k
first_guti (Some g) b h k = h

pub given_guti_well : (r : Registration) (o : Option (List ℕ)) → RegistrationInRange r → BelowIf o
    → RegistrationInRange (with_given_guti r o)
given_guti_well r None h k = h
given_guti_well r (Some os) h k =
    record { challenge = h.challenge; context = h.context; guti = first_guti (guti_of os) r.guti (guti_read os k) h.guti }

-- ---- the transaction of an ESM message

spelled_transaction : (bearer transaction : ℕ) (body : TypedBody) (os : List ℕ) → all_below 256 os ≡ true
    → SpellsBody bearer transaction body os → transaction < 256
spelled_transaction bearer transaction (of_type t v) os h s =
    let whole = below_same os ((bearer * 16 + 2) ∷ transaction ∷ esm_code_of t ∷ s.0) s.1 h in
    let others = below_next (bearer * 16 + 2) (transaction ∷ esm_code_of t ∷ s.0) whole in
    below_first transaction (esm_code_of t ∷ s.0) others

pub transaction_below : NasLawsGiven → (os : List ℕ) (m : Esm (List ℕ)) → all_below 256 os ≡ true → decoded_esm os ≡ Ok m
    → m.transaction < 256
transaction_below laws os m h e =
    spelled_transaction m.bearer m.transaction (typed_body m.body) os h (laws.esm_spelled os m e)

-- ---- what a context takes

abbrev PartsBelow : Option (Protected (List ℕ)) → Type 0
PartsBelow None = Unit {0}
PartsBelow (Some p) = all_below 256 p.message ≡ true

parts_if : (b : Bool) (os : List ℕ) (o : Option SecurityHeader) → all_below 256 os ≡ true
    → PartsBelow (cond b (option_map (λ header. protected_from header os) o) None)
parts_if false os o h = tt
parts_if true os None h = tt
parts_if true os (Some header) h = below_drop 6 os h

parts_below : (os : List ℕ) → all_below 256 os ≡ true → PartsBelow (split os)
unfolding split
parts_below os h = parts_if _ os (header_of (slice_index os 0 / 16)) h

abbrev AcceptedBelow : Acceptance → Type 0
AcceptedBelow (Ok found) = all_below 256 found.1 ≡ true
AcceptedBelow (Err fault) = Unit {0}

accepted_either : (b : Bool) (x y : Acceptance) → AcceptedBelow x → AcceptedBelow y → AcceptedBelow (cond b x y)
accepted_either true x y h k = h
accepted_either false x y h k = k

under_below : (mac : Mac) (p : Protected (List ℕ)) (o : Option ℕ) → all_below 256 p.message ≡ true
    → AcceptedBelow (accepted_under mac p o)
under_below mac p None h = tt
under_below mac p (Some count) h =
    accepted_either (same_octets p.mac (mac count directions.Uplink (p.sequence ∷ p.message))) (Ok (count, p.message)) _ h tt

accepted_below : (mac : Mac) (last : Option ℕ) (allowed : List SecurityHeader) (o : Option (Protected (List ℕ))) → PartsBelow o
    → AcceptedBelow (accepted_parts mac last allowed o)
accepted_below mac last allowed None h = tt
accepted_below mac last allowed (Some p) h =
    accepted_either (is_allowed allowed p.header) (accepted_under mac p (estimate last p.sequence (2 ^ 8))) _
    (under_below mac p (estimate last p.sequence (2 ^ 8)) h) tt

abbrev pub TakenWell : Option (PhoneContextView × List ℕ) → Type 0
TakenWell None = Unit {0}
TakenWell (Some found) = PhoneContextInRange found.0 × (all_below 256 found.1 ≡ true)

taken_of_well : (c : PhoneContextView) (r : Acceptance) → PhoneContextInRange c → AcceptedBelow r → TakenWell (taken_of c r)
taken_of_well c (Ok found) h k = (h, k)
taken_of_well c (Err fault) h k = tt

pub taken_well : (o : Option PhoneContextView) (allowed : List SecurityHeader) (os : List ℕ) → PhoneContextInRangeIf o
    → all_below 256 os ≡ true → TakenWell (taken_under o allowed os)
unfolding taken_under accepted
taken_well None allowed os h k = tt
taken_well (Some c) allowed os h k =
    taken_of_well c (accepted_parts (phone_mac c.integrity) c.up_last allowed (split os)) h
    (accepted_below (phone_mac c.integrity) c.up_last allowed (split os) (parts_below os k))
