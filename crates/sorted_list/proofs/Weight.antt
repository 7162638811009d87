-- What chunks weigh, and the room that follows from it.
use Rattle.std.proofs.Common.{◌≡◌, ℕ, zero, suc, ◌+◌, ◌-◌, ◌*◌, ◌^◌, ◌<◌, ◌≤◌, List, [], ◌∷◌, ◌++◌, length, get_or, set, ap, arith, length-append}
use Rattle.std.specs.Prelude.{min, max}
use Rattle.std.specs.List.{insert, remove}
use Rattle.sorted_list.specs.Chunks.{flat, weight, wanted, IsEnough, IsRoom}

module _ {X : Type 0} where
  -- one more chunk in front
  pub weight_front : (c : List X) (cs : List (List X)) → weight (c ∷ cs) ≤ max 128 (length c) + weight cs
  weight_front c [] = omega arith
  weight_front c (d ∷ cs) = omega arith

  pub weight_least : (cs : List (List X)) → 128 * length cs ≤ weight cs
  weight_least [] = omega arith
  weight_least (c ∷ []) = omega arith
  weight_least (c ∷ (d ∷ cs)) = let ih = weight_least (d ∷ cs) in omega arith

  pub weight_most : (cs : List (List X)) → weight cs ≤ length (flat cs) + 128 * (length cs + 1)
  weight_most [] = omega arith
  weight_most (c ∷ []) = let l = length-append c [] in omega arith
  weight_most (c ∷ (d ∷ cs)) = let ih = weight_most (d ∷ cs) in let l = length-append c (flat (d ∷ cs)) in omega arith

  -- a full chunk weighs as much as two
  pub weight_full : (i : ℕ) (c : List X) (cs : List (List X)) → i < length cs → c ≡ get_or cs i c → 256 ≤ length c
      → 128 * (length cs + 1) ≤ weight cs
  weight_full i c [] lt e n = absurd (omega arith)
  weight_full zero c (d ∷ []) lt e n = let same = ap length e in omega arith
  weight_full zero c (d ∷ (b ∷ cs)) lt e n = let same = ap length e in let least = weight_least (b ∷ cs) in omega arith
  weight_full (suc i) c (d ∷ []) lt e n = absurd (omega arith)
  weight_full (suc i) c (d ∷ (b ∷ cs)) lt e n = let ih = weight_full i c (b ∷ cs) (omega arith) e n in omega arith

  -- a chunk is replaced by one with at most n more
  pub weight_set : (i n : ℕ) (c d : List X) (cs : List (List X)) → i < length cs → c ≡ get_or cs i c → length d ≤ length c + n
      → weight (set cs i d) ≤ weight cs + n
  weight_set i n c d [] lt e le = absurd (omega arith)
  weight_set zero n c d (b ∷ []) lt e le = let same = ap length e in omega arith
  weight_set zero n c d (b ∷ (a ∷ cs)) lt e le = let same = ap length e in omega arith
  weight_set (suc i) n c d (b ∷ []) lt e le = absurd (omega arith)
  weight_set (suc i) n c d (b ∷ (a ∷ cs)) lt e le =
      let ih = weight_set i n c d (a ∷ cs) (omega arith) e le in
      let front = weight_front b (set (a ∷ cs) i d) in
      omega arith

  -- a full chunk is divided for one more element
  pub weight_divided : (i : ℕ) (a b c : List X) (cs : List (List X)) → i < length cs → c ≡ get_or cs i c
      → length a + length b ≡ length c + 1 → 128 ≤ length a
      → (suc i < length cs → 128 ≤ length b) → weight (insert (set cs i a) (suc i) b) ≤ weight cs + 1
  weight_divided i a b c [] lt e both low up = absurd (omega arith)
  weight_divided zero a b c (d ∷ []) lt e both low up = let same = ap length e in omega arith
  weight_divided zero a b c (d ∷ (f ∷ cs)) lt e both low up = let same = ap length e in let half = up (omega arith) in omega arith
  weight_divided (suc i) a b c (d ∷ []) lt e both low up = absurd (omega arith)
  weight_divided (suc i) a b c (d ∷ (f ∷ cs)) lt e both low up =
      let ih = weight_divided i a b c (f ∷ cs) (omega arith) e both low (λ l. up (omega arith)) in
      let front = weight_front d (insert (set (f ∷ cs) i a) (suc i) b) in
      omega arith

  -- a chunk goes
  pub weight_removed : (i : ℕ) (cs : List (List X)) → i < length cs → weight (remove cs i) ≤ weight cs
  weight_removed i [] lt = absurd (omega arith)
  weight_removed zero (c ∷ []) lt = omega arith
  weight_removed zero (c ∷ (d ∷ cs)) lt = omega arith
  weight_removed (suc i) (c ∷ []) lt = absurd (omega arith)
  weight_removed (suc i) (c ∷ (d ∷ cs)) lt =
      let ih = weight_removed i (d ∷ cs) (omega arith) in
      let front = weight_front c (remove (d ∷ cs) i) in
      omega arith

  -- a chunk and the next one are joined
  pub weight_joined : (i : ℕ) (a b : List X) (cs : List (List X)) → suc i < length cs → a ≡ get_or cs i a → b ≡ get_or cs (suc i) b
      → weight (set (remove cs (suc i)) i (a ++ b)) ≤ weight cs
  weight_joined i a b [] lt e f = absurd (omega arith)
  weight_joined i a b (c ∷ []) lt e f = absurd (omega arith)
  weight_joined zero a b (c ∷ (d ∷ [])) lt e f = let l = length-append a b in let m = ap length e in let n = ap length f in omega
      arith
  weight_joined zero a b (c ∷ (d ∷ (g ∷ cs))) lt e f = let l = length-append a b in let m = ap length e in let n = ap length f in
      omega arith
  weight_joined (suc i) a b (c ∷ (d ∷ cs)) lt e f =
      let ih = weight_joined i a b (d ∷ cs) (omega arith) e f in
      let front = weight_front c (set (remove (d ∷ cs) (suc i)) i (a ++ b)) in
      omega arith

-- ---- room

-- an element took its part
enough_rest : (more w v used now total after : ℕ) → IsEnough more w used total → 0 < more → v ≤ w + 1 → now ≤ used + 1
    → total ≤ after → IsEnough (more - 1) v now after
enough_rest more w v used now total after h lt a b c = omega arith

-- nothing was added
enough_still : (more w v used now total after : ℕ) → IsEnough more w used total → v ≤ w → now ≤ used → total ≤ after
    → IsEnough more v now after
enough_still more w v used now total after h a b c = omega arith

-- the free chunks that are wanted are enough
enough_wanted : (more len w used total : ℕ) → w ≤ len + 128 * (used + 1) → used + wanted len more ≤ total
    → IsEnough more w used total
enough_wanted more len w used total le h = omega arith

-- chunks that become free are kept until enough are
enough_kept : (more len size w v used now total after : ℕ) → IsEnough more w used total → v ≤ w → now ≤ used
    → min total (now + wanted len more) ≤ after → size ≤ len → v ≤ size + 128 * (now + 1)
    → IsEnough more v now after
enough_kept more len size w v used now total after h a b c s le = omega arith

wanted_less : (len size more : ℕ) → size ≤ len → wanted size more ≤ wanted len more
wanted_less len size more le = omega arith

wanted_rest : (len more : ℕ) → 0 < more → wanted (len + 1) (more - 1) ≤ wanted len more
wanted_rest len more lt = omega arith

pub room_made : (w used total most held len room : ℕ) → w ≤ len + 128 * (used + 1) → used + wanted len room ≤ total
    → used + wanted len room ≤ most → wanted len room ≤ held → len + room < 2 ^ 64
    → IsRoom w used total most held len room
room_made w used total most held len room le a b c f = record {
  chunks = enough_wanted room len w used total le a;
  places =
      enough_wanted room len w used most le b;
  free = c;
  fits = f;
}

pub room_added : (w v used now total after most places held keep len room : ℕ) → IsRoom w used total most held len room → 0 < room
    → v ≤ w + 1 → now ≤ used + 1 → total ≤ after → most ≤ places → held ≤ keep
    → IsRoom v now after places keep (len + 1) (room - 1)
room_added w v used now total after most places held keep len room r lt a b c d e =
    let less = wanted_rest len room lt in
    let free = r.free in
    let fits = r.fits in
    record {
      chunks = enough_rest room w v used now total after r.chunks lt a b c;
      places = enough_rest room w v used now most places r.places lt a b d;
      free = omega arith;
      fits = omega arith;
    }

pub room_taken : (w v used now total after most places held keep len size room : ℕ) → IsRoom w used total most held len room
    → v ≤ w → now ≤ used → min total (now + wanted len room) ≤ after
    → most ≤ places → held ≤ keep → size ≤ len → v ≤ size + 128 * (now + 1) → IsRoom v now after places keep size room
room_taken w v used now total after most places held keep len size room r a b c d e s le =
    let less = wanted_less len size room s in
    let free = r.free in
    let fits = r.fits in
    record {
      chunks = enough_kept room len size w v used now total after r.chunks a b c s le;
      places = enough_still room w v used now most places r.places a b d;
      free = omega arith;
      fits = omega arith;
    }

pub room_still : (w v used now total after most places held len room : ℕ) → IsRoom w used total most held len room → v ≤ w
    → now ≤ used → total ≤ after → most ≤ places → IsRoom v now after places held len room
room_still w v used now total after most places held len room r a b c d =
    record {
      chunks = enough_still room w v used now total after r.chunks a b c;
      places = enough_still room w v used now most
          places r.places a b d;
      free = r.free;
      fits = r.fits;
    }
