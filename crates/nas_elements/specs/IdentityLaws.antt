-- Identities: what is read is spelled so, and what is spelled is read.
use Rattle.std.proofs.Common.{◌≡◌, ℕ, ◌≤◌, ◌&&◌, Bool, leb, eqb, List, [], ◌∷◌, ◌++◌, length, Option, Some, None, refl, sym, ap, subst, ◌∙◌, arith, slice_index}
use Rattle.std.specs.Prelude.{option_map}
use Rattle.std.specs.Int.{w32, from_be_bytes, to_be_bytes}
use Rattle.std.proofs.lemmas.Nat.{from_be_bytes-to_be_bytes_4}
use Rattle.std.proofs.lemmas.Bool.{eqb-true, eq-eqb, leb-true, le-leb}
use Rattle.nas_elements.specs.declared.identity.TaiList.{TaiList}
use Rattle.nas_elements.specs.declared.identity.Guti.{Guti}
use Rattle.nas_elements.specs.declared.identity.MobileIdentity.{MobileIdentity}
use Rattle.nas_elements.specs.declared.identity.MobileIdentity.TheVariants.{Imsi, Temporary}
use Rattle.nas_elements.specs.Digits.{imsi_of}
use Rattle.nas_elements.specs.Identities.{SpellsTaiList, tai_list_from, tai_list_of, tai_list_octets, TaiListFits, SpellsGuti, guti_from, guti_of, guti_octets, GutiFits, SpellsIdentity, identity_of, identity_octets, IdentityFits, first_of, SpellsLabel, label_of}
use Rattle.nas_elements.specs.Exact.{some_is, where_ok, both_true}
use Rattle.nas_elements.specs.DigitLaws.{imsi_takes, imsi_again}

two : (os : List ℕ) → length os ≡ 2 → os ≡ slice_index os 0 ∷ slice_index os 1 ∷ []
two ([]) e = absurd (omega (arith, e))
two (v0 ∷ []) e = absurd (omega (arith, e))
two (v0 ∷ v1 ∷ []) e = refl
two (v0 ∷ v1 ∷ more ∷ rest) e = absurd (omega (arith, e))

three : (os : List ℕ) → length os ≡ 3 → os ≡ slice_index os 0 ∷ slice_index os 1 ∷ slice_index os 2 ∷ []
three ([]) e = absurd (omega (arith, e))
three (v0 ∷ []) e = absurd (omega (arith, e))
three (v0 ∷ v1 ∷ []) e = absurd (omega (arith, e))
three (v0 ∷ v1 ∷ v2 ∷ []) e = refl
three (v0 ∷ v1 ∷ v2 ∷ more ∷ rest) e = absurd (omega (arith, e))

four : (os : List ℕ) → length os ≡ 4 → os ≡ slice_index os 0 ∷ slice_index os 1 ∷ slice_index os 2 ∷ slice_index os 3 ∷ []
four ([]) e = absurd (omega (arith, e))
four (v0 ∷ []) e = absurd (omega (arith, e))
four (v0 ∷ v1 ∷ []) e = absurd (omega (arith, e))
four (v0 ∷ v1 ∷ v2 ∷ []) e = absurd (omega (arith, e))
four (v0 ∷ v1 ∷ v2 ∷ v3 ∷ []) e = refl
four (v0 ∷ v1 ∷ v2 ∷ v3 ∷ more ∷ rest) e = absurd (omega (arith, e))

ten : (os : List ℕ) → length os ≡ 10 → os ≡ slice_index os 0 ∷ slice_index os 1 ∷ slice_index os 2 ∷ slice_index os 3
    ∷ slice_index os 4 ∷ slice_index os 5 ∷ slice_index os 6 ∷ slice_index os 7 ∷ slice_index os 8 ∷ slice_index os 9 ∷ []
ten ([]) e = absurd (omega (arith, e))
ten (v0 ∷ []) e = absurd (omega (arith, e))
ten (v0 ∷ v1 ∷ []) e = absurd (omega (arith, e))
ten (v0 ∷ v1 ∷ v2 ∷ []) e = absurd (omega (arith, e))
ten (v0 ∷ v1 ∷ v2 ∷ v3 ∷ []) e = absurd (omega (arith, e))
ten (v0 ∷ v1 ∷ v2 ∷ v3 ∷ v4 ∷ []) e = absurd (omega (arith, e))
ten (v0 ∷ v1 ∷ v2 ∷ v3 ∷ v4 ∷ v5 ∷ []) e = absurd (omega (arith, e))
ten (v0 ∷ v1 ∷ v2 ∷ v3 ∷ v4 ∷ v5 ∷ v6 ∷ []) e = absurd (omega (arith, e))
ten (v0 ∷ v1 ∷ v2 ∷ v3 ∷ v4 ∷ v5 ∷ v6 ∷ v7 ∷ []) e = absurd (omega (arith, e))
ten (v0 ∷ v1 ∷ v2 ∷ v3 ∷ v4 ∷ v5 ∷ v6 ∷ v7 ∷ v8 ∷ []) e = absurd (omega (arith, e))
ten (v0 ∷ v1 ∷ v2 ∷ v3 ∷ v4 ∷ v5 ∷ v6 ∷ v7 ∷ v8 ∷ v9 ∷ []) e = refl
ten (v0 ∷ v1 ∷ v2 ∷ v3 ∷ v4 ∷ v5 ∷ v6 ∷ v7 ∷ v8 ∷ v9 ∷ more ∷ rest) e = absurd (omega (arith, e))

abbrev made : List ℕ → List ℕ → ℕ → List ℕ → Guti
made ps gs code ts = record { plmn = record { octets = ps }; group = gs; code = code; tmsi = from_be_bytes w32 ts }

abbrev spelled : List ℕ → List ℕ → ℕ → List ℕ → List ℕ
spelled ps gs code ts = 0xf6 ∷ ps ++ gs ++ code ∷ ts

-- reading a GUTI, and an identity that is one
abbrev Reads : List ℕ → Guti → Type 0
Reads os g = (guti_of os ≡ Some g) × (identity_of os ≡ Some (Temporary g))

explicit_reads : (a b c d e f h i j k : ℕ) → Reads (spelled (a ∷ b ∷ c ∷ []) (d ∷ e ∷ []) f (h ∷ i ∷ j ∷ k ∷ []))
    (made (a ∷ b ∷ c ∷ []) (d ∷ e ∷ []) f (h ∷ i ∷ j ∷ k ∷ []))
unfolding guti_of identity_of imsi_of
explicit_reads a b c d e f h i j k = (refl, refl)

reads : (ps gs ts : List ℕ) (code : ℕ) → length ps ≡ 3 → length gs ≡ 2 → length ts ≡ 4
    → Reads (spelled ps gs code ts) (made ps gs code ts)
reads ps gs ts code p q r =
    subst (λ (x : List ℕ). Reads (spelled x gs code ts) (made x gs code ts)) (sym (three ps p))
    (subst (λ (y : List ℕ). Reads (spelled (slice_index ps 0 ∷ slice_index ps 1 ∷ slice_index ps 2 ∷ []) y code ts)
    (made (slice_index ps 0 ∷ slice_index ps 1 ∷ slice_index ps 2 ∷ []) y code ts)) (sym (two gs q))
    (subst (λ (z : List ℕ). Reads
    (spelled (slice_index ps 0 ∷ slice_index ps 1 ∷ slice_index ps 2 ∷ []) (slice_index gs 0 ∷ slice_index gs 1 ∷ []) code z)
    (made (slice_index ps 0 ∷ slice_index ps 1 ∷ slice_index ps 2 ∷ []) (slice_index gs 0 ∷ slice_index gs 1 ∷ []) code z))
    (sym (four ts r))
    (explicit_reads _ _ _ _ _ _ _ _ _ _)))

guti_reads : (os : List ℕ) (g : Guti) → SpellsGuti g os → Reads os g
unfolding SpellsGuti
guti_reads os g m =
    let found = reads g.plmn.octets g.group m.0 g.code m.2 m.3 m.4 in
    let same : made g.plmn.octets g.group g.code m.0 ≡ g =
    ap (λ (t : ℕ). record { plmn = g.plmn; group = g.group; code = g.code; tmsi = t }) m.5 in
    subst (λ (x : List ℕ). Reads x g) (sym m.1)
    (subst (λ (h : Guti). Reads (spelled g.plmn.octets g.group g.code m.0) h) same found)

pub guti_again : (os : List ℕ) (g : Guti) → SpellsGuti g os → guti_of os ≡ Some g
guti_again os g m = (guti_reads os g m).0

pub guti_takes : (os : List ℕ) (g : Guti) → guti_of os ≡ Some g → SpellsGuti g os
unfolding guti_of SpellsGuti
guti_takes [] g e = absurd cc
guti_takes (kind ∷ os) g e =
    let h = where_ok (eqb (length os) 10 && eqb kind 0xf6) (guti_from os) g e in
    let t = both_true (eqb (length os) 10) (eqb kind 0xf6) h.0 in
    let last : List ℕ = slice_index os 6 ∷ slice_index os 7 ∷ slice_index os 8 ∷ slice_index os 9 ∷ [] in
    let whole : kind ∷ os ≡ spelled (guti_from os).plmn.octets (guti_from os).group (guti_from os).code last =
    rw (eqb-true kind 0xf6 t.1) (ap (λ (x : List ℕ). 0xf6 ∷ x) (ten os (eqb-true _ _ t.0))) in
    let found : SpellsGuti (guti_from os) (kind ∷ os) = (last, whole, refl, refl, refl, refl) in
    subst (λ (x : Guti). SpellsGuti x (kind ∷ os)) h.1 found

pub identity_again : (os : List ℕ) (i : MobileIdentity) → SpellsIdentity i os → identity_of os ≡ Some i
unfolding identity_of
identity_again os (Imsi ds) m = rw (imsi_again os ds m) refl
identity_again os (Temporary g) m = (guti_reads os g m).1

either : (os : List ℕ) (i : MobileIdentity) (o : Option (List ℕ)) (p : Option Guti) → imsi_of os ≡ o → guti_of os ≡ p
    → first_of (option_map Imsi o) (option_map Temporary p) ≡ Some i → SpellsIdentity i os
either os i (Some ds) p e f h = subst (λ (x : MobileIdentity). SpellsIdentity x os) (some_is (Imsi ds) i h) (imsi_takes os ds e)
either os i None (Some g) e f h =
    subst (λ (x : MobileIdentity). SpellsIdentity x os) (some_is (Temporary g) i h) (guti_takes os g f)
either os i None None e f h = absurd cc

pub identity_takes : (os : List ℕ) (i : MobileIdentity) → identity_of os ≡ Some i → SpellsIdentity i os
unfolding identity_of
identity_takes os i e = either os i (imsi_of os) (guti_of os) refl refl e

-- ---- one tracking area

six : (os : List ℕ) → length os ≡ 6
    → os ≡ slice_index os 0 ∷ slice_index os 1 ∷ slice_index os 2 ∷ slice_index os 3 ∷ slice_index os 4 ∷ slice_index os 5 ∷ []
six ([]) e = absurd (omega (arith, e))
six (v0 ∷ []) e = absurd (omega (arith, e))
six (v0 ∷ v1 ∷ []) e = absurd (omega (arith, e))
six (v0 ∷ v1 ∷ v2 ∷ []) e = absurd (omega (arith, e))
six (v0 ∷ v1 ∷ v2 ∷ v3 ∷ []) e = absurd (omega (arith, e))
six (v0 ∷ v1 ∷ v2 ∷ v3 ∷ v4 ∷ []) e = absurd (omega (arith, e))
six (v0 ∷ v1 ∷ v2 ∷ v3 ∷ v4 ∷ v5 ∷ []) e = refl
six (v0 ∷ v1 ∷ v2 ∷ v3 ∷ v4 ∷ v5 ∷ more ∷ rest) e = absurd (omega (arith, e))

abbrev tai_list_made : List ℕ → List ℕ → TaiList
tai_list_made ps ts = record { plmn = record { octets = ps }; tac = ts }

tai_list_reads : (ps ts : List ℕ) → length ps ≡ 3 → length ts ≡ 2 → tai_list_of (0 ∷ ps ++ ts) ≡ Some (tai_list_made ps ts)
unfolding tai_list_of
tai_list_reads ps ts p q =
    subst (λ (x : List ℕ). tai_list_of (0 ∷ x ++ ts) ≡ Some (tai_list_made x ts)) (sym (three ps p))
    (subst (λ (y : List ℕ). tai_list_of (0 ∷ (slice_index ps 0 ∷ slice_index ps 1 ∷ slice_index ps 2 ∷ []) ++ y)
    ≡ Some (tai_list_made (slice_index ps 0 ∷ slice_index ps 1 ∷ slice_index ps 2 ∷ []) y)) (sym (two ts q)) refl)

pub tai_list_again : (os : List ℕ) (a : TaiList) → SpellsTaiList a os → tai_list_of os ≡ Some a
unfolding SpellsTaiList
tai_list_again os a m = ap tai_list_of m.0 ∙ tai_list_reads a.plmn.octets a.tac m.1 m.2

pub tai_list_takes : (os : List ℕ) (a : TaiList) → tai_list_of os ≡ Some a → SpellsTaiList a os
unfolding tai_list_of SpellsTaiList
tai_list_takes os a e =
    let h = where_ok (eqb (length os) 6 && eqb (slice_index os 0) 0) (tai_list_from os) a e in
    let t = both_true (eqb (length os) 6) (eqb (slice_index os 0) 0) h.0 in
    let whole : os ≡ 0 ∷ (tai_list_from os).plmn.octets ++ (tai_list_from os).tac = six os (eqb-true _ _ t.0)
    ∙ ap (λ (n : ℕ). n ∷ slice_index os 1 ∷ slice_index os 2 ∷ slice_index os 3 ∷ slice_index os 4 ∷ slice_index os 5 ∷ [])
    (eqb-true _ _ t.1) in
    let found : SpellsTaiList (tai_list_from os) os = (whole, refl, refl) in
    subst (λ (x : TaiList). SpellsTaiList x os) h.1 found

-- ---- one label

abbrev label_test : ℕ → List ℕ → Bool
label_test n xs = eqb n (length xs) && (leb 1 n && leb n 63)

pub label_again : (os xs : List ℕ) → SpellsLabel xs os → label_of os ≡ Some xs
unfolding label_of
label_again os xs m =
    ap label_of m.0 ∙ rw (eq-eqb (length xs) (length xs) refl, le-leb 1 (length xs) m.1, le-leb (length xs) 63 m.2) refl

pub label_takes : (os xs : List ℕ) → label_of os ≡ Some xs → SpellsLabel xs os
unfolding label_of
label_takes [] xs e = absurd cc
label_takes (n ∷ ys) xs e =
    let h = where_ok (label_test n ys) ys xs e in
    let t = both_true (eqb n (length ys)) (leb 1 n && leb n 63) h.0 in
    let u = both_true (leb 1 n) (leb n 63) t.1 in
    let same : n ≡ length ys = eqb-true _ _ t.0 in
    let low : 1 ≤ length ys = let l = leb-true 1 n u.0 in omega (arith, l, same) in
    let high : length ys ≤ 63 = let l = leb-true n 63 u.1 in omega (arith, l, same) in
    let found : SpellsLabel ys (n ∷ ys) = (ap (λ (k : ℕ). k ∷ ys) same, low, high) in
    subst (λ (x : List ℕ). SpellsLabel x (n ∷ ys)) h.1 found

-- ---- what is written is spelled

pub guti_written : (g : Guti) → GutiFits g → SpellsGuti g (guti_octets g)
unfolding SpellsGuti guti_octets
guti_written g f = (to_be_bytes w32 g.tmsi, refl, f.0, f.1, refl, from_be_bytes-to_be_bytes_4 g.tmsi f.2)

pub identity_written : (i : MobileIdentity) → IdentityFits i → SpellsIdentity i (identity_octets i)
identity_written (Imsi ds) f = (refl, f)
identity_written (Temporary g) f = guti_written g f

pub tai_list_written : (a : TaiList) → TaiListFits a → SpellsTaiList a (tai_list_octets a)
unfolding SpellsTaiList tai_list_octets
tai_list_written a f = (refl, f.0, f.1)
