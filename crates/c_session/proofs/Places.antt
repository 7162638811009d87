-- The slots of IMSIs.
use Rattle.std.proofs.Common.{◌≡◌, ℕ, ◌+◌, ◌<◌, ◌==◌, Bool, true, false, cond, List, [], ◌∷◌, length, Some, arith}
use Rattle.identity_slots.specs.declared.profile.Profile.{Profile}
use Rattle.identity_slots.specs.Provisioned.{imsi_key, imsi_number, place_from, slot_of_imsi}

-- the place of a profile, counted from n, is below their end
place_is_below : (key : Profile → ℕ) (k n place : ℕ) (ps : List Profile) → place_from key k n ps ≡ Some place
    → place < n + length ps
place_is_below key k n place [] h = absurd (cc h)
place_is_below key k n place (p ∷ ps) h =
    let below = by (key p == k) h (λ later. place_is_below key k (n + 1) place ps later) in omega (arith, below)
  where
    by : (b : Bool) → cond b (Some n) (place_from key k (n + 1) ps) ≡ Some place
        → (place_from key k (n + 1) ps ≡ Some place → place < n + 1 + length ps) → place < n + (1 + length ps)
    by true here others = let same : n ≡ place = cc here in omega (arith, same)
    by false later others = let below = others later in omega (arith, below)

-- the slot of an IMSI is that of a profile
pub slot_is_below : (imsi : List ℕ) (ps : List Profile) (slot : ℕ) → slot_of_imsi imsi ps ≡ Some slot → slot < length ps
unfolding slot_of_imsi
slot_is_below imsi ps slot h = omega (arith, place_is_below imsi_key (imsi_number imsi) 0 slot ps h)
