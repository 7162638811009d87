-- The profiles and their two indexes.
use Rattle.std.specs.Prelude.{◌≡◌, ℕ, ◌≤◌, List, length, nat_eq}
use Rattle.std.specs.HashMap.{HashMap, get}
use Rattle.identity_slots.specs.declared.profile.Profile.{Profile}
use Rattle.identity_slots.specs.declared.profile.Vector.{Vector}
use Rattle.identity_slots.specs.Ids.{slots}
use Rattle.identity_slots.specs.Provisioned.{place_from, imsi_key, address_key, AreDistinct}

-- the index gives the place of each number
abbrev pub IsSlotIndex : {S : Type 0} → (Profile → ℕ) → HashMap ℕ ℕ S → List Profile → Type 0
IsSlotIndex key index ps = (k : ℕ) → get nat_eq index k ≡ place_from key k 0 ps

pub record IsProvision {S : Type 0} (ps : List Profile) (vs : List (List Vector))
    (by_imsi by_address : HashMap ℕ ℕ S) : Type 0 where
  pub few : length ps ≤ slots
  pub vectors : length vs ≡ length ps
  pub imsis : AreDistinct imsi_key ps
  pub addresses : AreDistinct address_key ps
  pub imsi_index : IsSlotIndex imsi_key by_imsi ps
  pub address_index : IsSlotIndex address_key by_address ps
