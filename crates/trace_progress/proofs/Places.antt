-- The slots of IMSIs.
use Rattle.std.proofs.Common.{◌≡◌, ℕ, ◌+◌, ◌<◌, ◌==◌, Bool, true, false, cond, List, [], ◌∷◌, length, Option, Some, arith}
use Rattle.identity_slots.specs.declared.profile.Profile.{Profile}
use Rattle.identity_slots.specs.Provisioned.{imsi_key, imsi_number, place_from, slot_of_imsi}

here_or_later : (b : Bool) (n m place : ℕ) (later : Option ℕ) → (later ≡ Some place → place < n + 1 + m)
    → cond b (Some n) later ≡ Some place → place < n + (1 + m)
here_or_later true n m place later h e =
    let same : n ≡ place = cc e in
    omega (arith, same)
here_or_later false n m place later h e = omega (arith, h e)

place_from-below : (k n place : ℕ) (ps : List Profile) → place_from imsi_key k n ps ≡ Some place → place < n + length ps
place_from-below k n place [] h = cc h
place_from-below k n place (p ∷ ps) h =
    let below =
    here_or_later (imsi_key p == k) n (length ps) place (place_from imsi_key k (n + 1) ps)
    (place_from-below k (n + 1) place ps) h in
    omega (arith, below)

-- a slot that an IMSI has is provisioned
pub slot_of_imsi-below : (imsi : List ℕ) (ps : List Profile) (slot : ℕ) → slot_of_imsi imsi ps ≡ Some slot → slot < length ps
unfolding slot_of_imsi
slot_of_imsi-below imsi ps slot h = omega (arith, place_from-below (imsi_number imsi) 0 slot ps h)
