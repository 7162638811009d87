-- The octets of an identity: at most eleven, each below 256.
use Rattle.std.proofs.Common.{◌≡◌, ℕ, zero, suc, ◌+◌, ◌*◌, ◌/◌, ◌%◌, ◌<◌, ◌≤◌, ◌&&◌, ◌||◌, Bool, true, false, cond, ltb, eqb, List, [], ◌∷◌, length, take, slice_index, refl, arith}
use Rattle.std.specs.Int.{w32, to_be_bytes}
use Rattle.std.specs.List.{list_all}
use Rattle.std.proofs.lemmas.Bool.{and_parts, eqb-true, lt-ltb, ltb-true}
use Rattle.nas_elements.specs.declared.identity.Guti.{Guti}
use Rattle.nas_elements.specs.declared.identity.MobileIdentity.{MobileIdentity}
use Rattle.nas_elements.specs.declared.identity.MobileIdentity.TheVariants.{Imsi, Temporary}
use Rattle.nas_elements.specs.Digits.{are_digits, imsi_octets, is_imsi}
use Rattle.nas_elements.specs.Identities.{GutiFits, IdentityFits, guti_octets, identity_octets}
use Rattle.nas_elements.specs.Parts.{short, wide}
use Rattle.laws_network.specs.BuilderLaws.{bytes_long, four_bytes}
use Rattle.laws_network.specs.NasLaws.{brief_append, brief_bytes, brief_more, brief_none, brief_within}
use Rattle.laws_network.specs.Ranges.{IsBrief}
use Rattle.laws_simulation.specs.PhoneRanges.{GutiInRange}

-- ---- after a length of one octet, and of two

pub brief_short : {n : ℕ} {os : List ℕ} → IsBrief n os → n ≤ 255 → IsBrief (1 + n) (short os)
brief_short {os = os} h le = let few = h.few in brief_more (lt-ltb (length os) 256 (omega (arith, few, le))) h

pub brief_wide : {n : ℕ} {os : List ℕ} → IsBrief n os → n ≤ 65535 → IsBrief (1 + (1 + n)) (wide os)
brief_wide {os = os} h le =
    let few = h.few in
    brief_more (lt-ltb (length os / 256) 256 (omega (arith, few, le))) (brief_more (lt-ltb (length os % 256) 256 (omega arith)) h)

-- ---- an IMSI: digits, or f as the last half octet

digit_if : (d : ℕ) (b : Bool) → ltb d 10 ≡ b → (b || eqb d 15) ≡ true → d < 16
digit_if d true low e = let below = ltb-true d 10 low in omega (arith, below)
digit_if d false low e = let is = eqb-true d 15 e in omega (arith, is)

front_digit : (n : ℕ) (ds : List ℕ) (i : ℕ) → list_all (λ d. ltb d 10) (take n ds) ≡ true → i < n → slice_index ds i < 16
front_digit zero ds i h low = absurd (omega (arith, low))
front_digit (suc n) [] i h low = omega arith
front_digit (suc n) (d ∷ ds) zero h low =
    let below = ltb-true d 10 (and_parts (ltb d 10) (list_all (λ d. ltb d 10) (take n ds)) h).0 in omega (arith, below)
front_digit (suc n) (d ∷ ds) (suc i) h low =
    front_digit n ds i (and_parts (ltb d 10) (list_all (λ d. ltb d 10) (take n ds)) h).1 (omega (arith, low))

record AreHalves (ds : List ℕ) : Type 0 where
  front : (i : ℕ) → i < 14 → slice_index ds i < 16
  last : slice_index ds 14 < 16

halves_of : (ds : List ℕ) → is_imsi ds ≡ true → AreHalves ds
unfolding is_imsi
halves_of ds h =
    let last = ltb (slice_index ds 14) 10 || eqb (slice_index ds 14) 15 in
    let parts = and_parts (eqb (length ds) 15) (are_digits (take 14 ds) && last) h in
    let digits = and_parts (are_digits (take 14 ds)) last parts.1 in
    record {
      front = λ i low. front_digit 14 ds i digits.0 low;
      last = digit_if (slice_index ds 14) (ltb (slice_index ds 14) 10) refl digits.1;
    }

two_halves : (a b : ℕ) → a < 16 → b < 16 → ltb (a * 16 + b) 256 ≡ true
two_halves a b p q = lt-ltb (a * 16 + b) 256 (omega (arith, p, q))

type_low : (b : Bool) → cond b 1 9 < 16
type_low true = omega arith
type_low false = omega arith

brief_imsi : (ds : List ℕ) → is_imsi ds ≡ true → IsBrief 8 (imsi_octets ds)
unfolding imsi_octets
brief_imsi ds h =
    let halves = halves_of ds h in
    let f = halves.front in
    brief_more (two_halves _ _ (f 0 (omega arith)) (type_low (eqb (slice_index ds 14) 15)))
    (brief_more (two_halves _ _ (f 2 (omega arith)) (f 1 (omega arith)))
    (brief_more (two_halves _ _ (f 4 (omega arith)) (f 3 (omega arith)))
    (brief_more (two_halves _ _ (f 6 (omega arith)) (f 5 (omega arith)))
    (brief_more (two_halves _ _ (f 8 (omega arith)) (f 7 (omega arith)))
    (brief_more (two_halves _ _ (f 10 (omega arith)) (f 9 (omega arith)))
    (brief_more (two_halves _ _ (f 12 (omega arith)) (f 11 (omega arith)))
    (brief_more (two_halves _ _ halves.last (f 13 (omega arith))) brief_none)))))))

-- ---- a GUTI

pub brief_guti : (g : Guti) → GutiInRange g → IsBrief 11 (guti_octets g)
unfolding guti_octets
brief_guti g h =
    let plmn : IsBrief 3 g.plmn.octets = brief_bytes h.plmn in
    let group : IsBrief 2 g.group = brief_bytes h.group in
    let number : IsBrief 4 (to_be_bytes w32 g.tmsi) = brief_bytes (four_bytes g.tmsi) in
    brief_within (brief_more refl (brief_append (brief_append plmn group) (brief_more (lt-ltb g.code 256 h.code) number)))
    (omega arith)

pub guti_fits : (g : Guti) → GutiInRange g → GutiFits g
guti_fits g h = (bytes_long 3 g.plmn.octets h.plmn, bytes_long 2 g.group h.group, h.tmsi)

-- ---- either

abbrev pub IdentityInRange : MobileIdentity → Type 0
IdentityInRange (Imsi ds) = is_imsi ds ≡ true
IdentityInRange (Temporary g) = GutiInRange g

pub brief_identity : (who : MobileIdentity) → IdentityInRange who → IsBrief 11 (identity_octets who)
brief_identity (Imsi ds) h = brief_within (brief_imsi ds h) (omega arith)
brief_identity (Temporary g) h = brief_guti g h

pub identity_fits : (who : MobileIdentity) → IdentityInRange who → IdentityFits who
identity_fits (Imsi ds) h = h
identity_fits (Temporary g) h = guti_fits g h
