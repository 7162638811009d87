-- What a caller sees of the provisioning: the profiles by slot, and the vectors of each.
use Rattle.std.specs.Prelude.{◌≡◌, ℕ, ◌+◌, ◌==◌, ◌&&◌, ◌<◌, true, slice_index, nat_lt, nat_le, List, [], ◌∷◌, ◌++◌, length, slice_set, slice_index_or, Option, Some, None, is_some, if◌then◌else◌}
use Rattle.std.specs.Int.{from_be_bytes, w32, w64}
use Rattle.nas_elements.specs.Digits.{imsi_octets, is_imsi}
use Rattle.identity_slots.specs.declared.profile.Profile.{Profile}
use Rattle.identity_slots.specs.declared.profile.Vector.{Vector}
use Rattle.identity_slots.specs.declared.provision.ProvisionFault.{ProvisionFault}
use Rattle.identity_slots.specs.declared.provision.ProvisionFault.TheVariants.{RepeatedImsi, RepeatedAddress, Full}
use Rattle.identity_slots.specs.Ids.{is_of_slot, slot_in, slots}

pub record Provisioned : Type 0 where
  pub profiles : List Profile
  pub vectors : List (List Vector)  -- of the subscriber with the profile at the same place

-- an IMSI is compared by its eight octets and an address by its four, each as one number
abbrev pub imsi_number : List ℕ → ℕ
imsi_number imsi = from_be_bytes w64 (imsi_octets imsi)

abbrev pub address_number : List ℕ → ℕ
address_number address = from_be_bytes w32 address

abbrev pub imsi_key : Profile → ℕ
imsi_key p = imsi_number p.imsi

abbrev pub address_key : Profile → ℕ
address_key p = address_number p.address

-- the place of the first profile with this number, where the list's first has the place n
abbrev pub place_from : (Profile → ℕ) → ℕ → ℕ → List Profile → Option ℕ
place_from key k n [] = None
place_from key k n (p ∷ ps) = if key p == k then Some n else place_from key k (n + 1) ps

-- by the number that the eight octets of an IMSI make, which no other IMSI has
unfoldable pub slot_of_imsi : List ℕ → List Profile → Option ℕ
slot_of_imsi imsi ps = place_from imsi_key (imsi_number imsi) 0 ps

unfoldable pub slot_of_address : List ℕ → List Profile → Option ℕ
slot_of_address address ps = place_from address_key (address_number address) 0 ps

-- the slot that an M-TMSI or an association's id is made of, where it is provisioned
abbrev pub slot_of_id : ℕ → List Profile → Option ℕ
slot_of_id number ps = if is_of_slot number && nat_lt (slot_in number) (length ps) then Some (slot_in number) else None

-- no two profiles have one number
abbrev pub AreDistinct : (Profile → ℕ) → List Profile → Type 0
AreDistinct key [] = Unit {0}
AreDistinct key (p ∷ ps) = (place_from key (key p) 0 ps ≡ None) × AreDistinct key ps

-- why a profile is refused, memory apart
abbrev pub add_fault : Profile → List Profile → Option ProvisionFault
add_fault p ps =
    if is_some (slot_of_imsi p.imsi ps) then Some RepeatedImsi
    else (if is_some (slot_of_address p.address ps) then Some RepeatedAddress
    else (if nat_le slots (length ps) then Some Full else None))

abbrev pub with_profile : Profile → Provisioned → Provisioned
with_profile p s = record { profiles = s.profiles ++ p ∷ []; vectors = s.vectors ++ [] ∷ [] }

-- the vectors of a slot
abbrev pub vectors_at : ℕ → List (List Vector) → List Vector
vectors_at slot vs = slice_index_or vs slot []

abbrev pub with_vector : ℕ → Vector → Provisioned → Provisioned
with_vector slot v s = record { profiles = s.profiles; vectors = slice_set s.vectors slot (vectors_at slot s.vectors ++ v ∷ []) }

-- where a slot's vectors were taken out
abbrev pub without_vectors : ℕ → Provisioned → Provisioned
without_vectors slot s = record { profiles = s.profiles; vectors = slice_set s.vectors slot [] }

-- octets as numbers are below 256
abbrev pub AreOctetNumbers : List ℕ → Type 0
AreOctetNumbers os = (i : ℕ) → slice_index os i < 256

abbrev pub EightOctetsApart : Type 0
EightOctetsApart =
    (a b : List ℕ) → length a ≡ 8 → length b ≡ 8 → AreOctetNumbers a → AreOctetNumbers b → from_be_bytes w64 a ≡ from_be_bytes w64 b
    → a ≡ b

-- no two IMSIs have one number
abbrev pub ImsisApart : Type 0
ImsisApart = (a b : List ℕ) → is_imsi a ≡ true → is_imsi b ≡ true → imsi_number a ≡ imsi_number b → a ≡ b

abbrev pub FourOctetsApart : Type 0
FourOctetsApart =
    (a b : List ℕ) → length a ≡ 4 → length b ≡ 4 → AreOctetNumbers a → AreOctetNumbers b → from_be_bytes w32 a ≡ from_be_bytes w32 b
    → a ≡ b
