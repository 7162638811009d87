-- Identities, and their octets.
use Rattle.std.specs.Prelude.{◌≡◌, ℕ, ◌+◌, ◌*◌, ◌/◌, ◌%◌, ◌^◌, ◌<◌, ◌≤◌, ◌==◌, ◌&&◌, nat_le, slice_index, true, if◌then◌else◌, List, [], ◌∷◌, ◌++◌, length, Option, Some, None, option_map}
use Rattle.std.specs.Int.{w32, from_be_bytes, to_be_bytes}
use Rattle.nas_elements.specs.declared.identity.TaiList.{TaiList}
use Rattle.nas_elements.specs.declared.identity.Guti.{Guti}
use Rattle.nas_elements.specs.declared.identity.MobileIdentity.{MobileIdentity}
use Rattle.nas_elements.specs.declared.identity.Plmn.{Plmn}
use Rattle.nas_elements.specs.declared.identity.MobileIdentity.TheVariants.{Imsi, Temporary}
use Rattle.nas_elements.specs.Digits.{is_imsi, imsi_octets, imsi_of}

-- S1AP writes a network with three digits as MCC 2, 1; MNC 1, MCC 3; MNC 3, 2; NAS as MCC 2, 1; MNC 3, MCC 3; MNC 2, 1
abbrev pub plmn_from_s1ap : List ℕ → List ℕ
plmn_from_s1ap os =
    if slice_index os 1 / 16 == 15 then os
    else slice_index os 0 ∷ (slice_index os 2 / 16 * 16 + slice_index os 1 % 16)
    ∷ (slice_index os 2 % 16 * 16 + slice_index os 1 / 16) ∷ []

-- any three octets
unfoldable pub plmn_of : List ℕ → Option Plmn
plmn_of os = if length os == 3 then Some (record { octets = os }) else None

-- ---- GUTI

unfoldable pub SpellsGuti : Guti → List ℕ → Type 0
SpellsGuti g os = (t : List ℕ) × (os ≡ 0xf6 ∷ g.plmn.octets ++ g.group ++ g.code ∷ t)
    × (length g.plmn.octets ≡ 3) × (length g.group ≡ 2) × (length t ≡ 4) × (from_be_bytes w32 t ≡ g.tmsi)

unfoldable pub guti_octets : Guti → List ℕ
guti_octets g = 0xf6 ∷ g.plmn.octets ++ g.group ++ g.code ∷ to_be_bytes w32 g.tmsi

abbrev pub guti_from : List ℕ → Guti
guti_from os = record {
  plmn = record { octets = slice_index os 0 ∷ slice_index os 1 ∷ slice_index os 2 ∷ [] };
  group = slice_index os 3 ∷ slice_index os 4 ∷ [];
  code = slice_index os 5;
  tmsi = from_be_bytes w32 (slice_index os 6 ∷ slice_index os 7 ∷ slice_index os 8 ∷ slice_index os 9 ∷ []);
}

unfoldable pub guti_of : List ℕ → Option Guti
guti_of [] = None
guti_of (kind ∷ os) = if length os == 10 && kind == 0xf6 then Some (guti_from os) else None

-- ---- either

abbrev pub SpellsIdentity : MobileIdentity → List ℕ → Type 0
SpellsIdentity (Imsi ds) os = (os ≡ imsi_octets ds) × (is_imsi ds ≡ true)
SpellsIdentity (Temporary g) os = SpellsGuti g os

abbrev pub first_of : {A : Type 0} → Option A → Option A → Option A
first_of (Some a) other = Some a
first_of None other = other

unfoldable pub identity_of : List ℕ → Option MobileIdentity
identity_of os = first_of (option_map Imsi (imsi_of os)) (option_map Temporary (guti_of os))

-- what may be written: arrays have their lengths, and a number its range
abbrev pub GutiFits : Guti → Type 0
GutiFits g = (length g.plmn.octets ≡ 3) × (length g.group ≡ 2) × (g.tmsi < 2 ^ 32)

abbrev pub IdentityFits : MobileIdentity → Type 0
IdentityFits (Imsi ds) = is_imsi ds ≡ true
IdentityFits (Temporary g) = GutiFits g

abbrev pub identity_octets : MobileIdentity → List ℕ
identity_octets (Imsi ds) = imsi_octets ds
identity_octets (Temporary g) = guti_octets g

-- ---- a list of one tracking area (TS 24.301 clause 9.9.3.33)

unfoldable pub SpellsTaiList : TaiList → List ℕ → Type 0
SpellsTaiList a os = (os ≡ 0 ∷ a.plmn.octets ++ a.tac) × (length a.plmn.octets ≡ 3) × (length a.tac ≡ 2)

unfoldable pub tai_list_octets : TaiList → List ℕ
tai_list_octets a = 0 ∷ a.plmn.octets ++ a.tac

abbrev pub tai_list_from : List ℕ → TaiList
tai_list_from os = record {
  plmn = record { octets = slice_index os 1 ∷ slice_index os 2 ∷ slice_index os 3 ∷ [] };
  tac =
      slice_index os 4 ∷ slice_index os 5 ∷ [];
}

unfoldable pub tai_list_of : List ℕ → Option TaiList
tai_list_of os = if length os == 6 && slice_index os 0 == 0 then Some (tai_list_from os) else None

abbrev pub TaiListFits : TaiList → Type 0
TaiListFits a = (length a.plmn.octets ≡ 3) × (length a.tac ≡ 2)

-- ---- one label of a name, after its length (RFC 1035 clause 3.1)

abbrev pub SpellsLabel : List ℕ → List ℕ → Type 0
SpellsLabel xs os = (os ≡ length xs ∷ xs) × (1 ≤ length xs) × (length xs ≤ 63)

unfoldable pub label_of : List ℕ → Option (List ℕ)
label_of [] = None
label_of (n ∷ xs) = if n == length xs && (nat_le 1 n && nat_le n 63) then Some xs else None
