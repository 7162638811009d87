-- Chunks of which each two neighbours have more than 128 elements together, and the room of a steady list.
use Rattle.std.proofs.Common.{◌≡◌, ℕ, zero, suc, ◌+◌, ◌-◌, ◌*◌, ◌<◌, ◌≤◌, ◌^◌, List, [], ◌∷◌, length, get_or, set, ap, refl, sym, subst, arith, length-append}
use Rattle.std.specs.Prelude.{min, Bool, true, false, nat_le, IsTrue}
use Rattle.std.proofs.lemmas.Bool.Decides.{nat_tests}
use Rattle.std.specs.List.{insert, remove}
use Rattle.sorted_list.specs.Ordered.{Every}
use Rattle.sorted_list.specs.Chunks.{flat, weight, wanted, spread, kept_chunks, regained, IsFilled, IsPaired, IsPairedFrom, IsPairedTo, IsEnough, IsRoom, IsSteady}

module _ {X : Type 0} where
  paired_rest : (c : List X) (cs : List (List X)) → IsPaired (c ∷ cs) → IsPaired cs
  paired_rest c [] h = tt
  paired_rest c (d ∷ cs) h = h.1

  -- a chunk grows
  pub paired_set : (i : ℕ) (c d : List X) (cs : List (List X)) → i < length cs → c ≡ get_or cs i c → length c ≤ length d
      → IsPaired cs → IsPaired (set cs i d)
  paired_set i c d [] lt e le h = absurd (omega arith)
  paired_set zero c d (b ∷ []) lt e le h = tt
  paired_set zero c d (b ∷ (a ∷ cs)) lt e le h = let same = ap length e in let two = h.0 in (omega arith, h.1)
  paired_set (suc i) c d (b ∷ []) lt e le h = absurd (omega arith)
  paired_set (suc zero) c d (b ∷ (a ∷ cs)) lt e le h =
      let same = ap length e in let two = h.0 in (omega arith, paired_set zero c d (a ∷ cs) (omega arith) e le h.1)
  paired_set (suc (suc i)) c d (b ∷ (a ∷ cs)) lt e le h = (h.0, paired_set (suc i) c d (a ∷ cs) (omega arith) e le h.1)

  -- a full chunk is divided
  pub paired_divided : (i : ℕ) (a b : List X) (cs : List (List X)) → i < length cs → 128 ≤ length a → 1 ≤ length b
      → (suc i < length cs → 128 ≤ length b)
      → Every IsFilled cs → IsPaired cs → IsPaired (insert (set cs i a) (suc i) b)
  paired_divided i a b [] lt low some up f h = absurd (omega arith)
  paired_divided zero a b (d ∷ []) lt low some up f h = (omega arith, tt)
  paired_divided zero a b (d ∷ (e ∷ cs)) lt low some up f h =
      let half = up (omega arith) in let one = f.1.0 in (omega arith, (omega arith, h.1))
  paired_divided (suc i) a b (d ∷ []) lt low some up f h = absurd (omega arith)
  paired_divided (suc zero) a b (d ∷ (e ∷ cs)) lt low some up f h = let one = f.0 in
      (omega arith, paired_divided zero a b (e ∷ cs) (omega arith) low some (λ l. up (omega arith)) f.1 h.1)
  paired_divided (suc (suc i)) a b (d ∷ (e ∷ cs)) lt low some up f h =
      (h.0, paired_divided (suc i) a b (e ∷ cs) (omega arith) low some (λ l. up (omega arith)) f.1 h.1)

  -- a chunk of one element goes
  pub paired_removed : (i : ℕ) (c d : List X) (cs : List (List X)) → i < length cs → c ≡ get_or cs i c → length c ≤ 1
      → Every IsFilled cs → IsPaired cs → IsPaired (remove (set cs i d) i)
  paired_removed i c d [] lt e one f h = absurd (omega arith)
  paired_removed zero c d (a ∷ cs) lt e one f h = paired_rest a cs h
  paired_removed (suc i) c d (a ∷ []) lt e one f h = absurd (omega arith)
  paired_removed (suc zero) c d (a ∷ (b ∷ [])) lt e one f h = tt
  paired_removed (suc zero) c d (a ∷ (b ∷ (g ∷ cs))) lt e one f h =
      let same = ap length e in let two = h.0 in let some = f.1.1.0 in (omega arith, h.1.1)
  paired_removed (suc (suc i)) c d (a ∷ (b ∷ cs)) lt e one f h =
      (h.0, paired_removed (suc i) c d (b ∷ cs) (omega arith) e one f.1 h.1)

  -- before a chunk that shrinks, and after it
  pub to_shrunk : (i : ℕ) (d : List X) (cs : List (List X)) → IsPaired cs → IsPairedTo i (set cs i d)
  to_shrunk zero d cs h = tt
  to_shrunk (suc i) d [] h = tt
  to_shrunk (suc zero) d (c ∷ cs) h = tt
  to_shrunk (suc (suc i)) d (c ∷ []) h = tt
  to_shrunk (suc (suc i)) d (c ∷ (b ∷ cs)) h = (h.0, to_shrunk (suc i) d (b ∷ cs) h.1)

  pub from_shrunk : (i : ℕ) (d : List X) (cs : List (List X)) → IsPaired cs → IsPairedFrom (suc i) (set cs i d)
  from_shrunk zero d [] h = tt
  from_shrunk (suc i) d [] h = tt
  from_shrunk zero d (c ∷ cs) h = paired_rest c cs h
  from_shrunk (suc i) d (c ∷ cs) h = from_shrunk i d cs (paired_rest c cs h)

  -- two parts that share a chunk
  pub paired_whole : (i : ℕ) (cs : List (List X)) → IsPairedTo (suc i) cs → IsPairedFrom i cs → IsPaired cs
  paired_whole zero cs h k = k
  paired_whole (suc i) [] h k = tt
  paired_whole (suc i) (c ∷ []) h k = tt
  paired_whole (suc i) (c ∷ (d ∷ cs)) h k = (h.0, paired_whole i (d ∷ cs) h.1 k)

  -- a chunk and the next one are joined
  pub to_joined : (i : ℕ) (x : List X) (cs : List (List X)) → IsPairedTo i cs → IsPairedTo i (set (remove cs (suc i)) i x)
  to_joined zero x cs h = tt
  to_joined (suc i) x [] h = tt
  to_joined (suc zero) x (c ∷ cs) h = tt
  to_joined (suc (suc i)) x (c ∷ []) h = tt
  to_joined (suc (suc i)) x (c ∷ (d ∷ cs)) h = (h.0, to_joined (suc i) x (d ∷ cs) h.1)

  pub over_joined : (i : ℕ) (a x : List X) (cs : List (List X)) → suc i < length cs → a ≡ get_or cs i a → length a ≤ length x
      → IsPairedTo (suc i) cs → IsPairedTo (suc i) (set (remove cs (suc i)) i x)
  over_joined i a x [] lt e le h = absurd (omega arith)
  over_joined i a x (c ∷ []) lt e le h = absurd (omega arith)
  over_joined zero a x (c ∷ (d ∷ cs)) lt e le h = tt
  over_joined (suc zero) a x (c ∷ (d ∷ cs)) lt e le h =
      let same = ap length e in let two = h.0 in (omega arith, over_joined zero a x (d ∷ cs) (omega arith) e le h.1)
  over_joined (suc (suc i)) a x (c ∷ (d ∷ cs)) lt e le h = (h.0, over_joined (suc i) a x (d ∷ cs) (omega arith) e le h.1)

  pub from_joined : (i : ℕ) (b x : List X) (cs : List (List X)) → suc i < length cs → b ≡ get_or cs (suc i) b → length b ≤ length x
      → IsPairedFrom (suc i) cs → IsPairedFrom i (set (remove cs (suc i)) i x)
  from_joined i b x [] lt e le h = absurd (omega arith)
  from_joined i b x (c ∷ []) lt e le h = absurd (omega arith)
  from_joined zero b x (c ∷ (d ∷ [])) lt e le h = tt
  from_joined zero b x (c ∷ (d ∷ (g ∷ cs))) lt e le h = let same = ap length e in let two = h.0 in (omega arith, h.1)
  from_joined (suc i) b x (c ∷ (d ∷ cs)) lt e le h = from_joined i b x (d ∷ cs) (omega arith) e le h

  -- they are too many to be joined, or there is no next one
  pub from_apart : (i : ℕ) (a b : List X) (cs : List (List X)) → suc i < length cs → a ≡ get_or cs i a → b ≡ get_or cs (suc i) b
      → 128 < length a + length b → IsPairedFrom (suc i) cs → IsPairedFrom i cs
  from_apart i a b [] lt e f le h = absurd (omega arith)
  from_apart i a b (c ∷ []) lt e f le h = absurd (omega arith)
  from_apart zero a b (c ∷ (d ∷ cs)) lt e f le h = let m = ap length e in let n = ap length f in (omega arith, h)
  from_apart (suc i) a b (c ∷ (d ∷ cs)) lt e f le h = from_apart i a b (d ∷ cs) (omega arith) e f le h

  pub from_end : (i : ℕ) (cs : List (List X)) → length cs ≤ suc i → IsPairedFrom i cs
  from_end zero [] le = tt
  from_end zero (c ∷ []) le = tt
  from_end zero (c ∷ (d ∷ cs)) le = absurd (omega arith)
  from_end (suc i) [] le = tt
  from_end (suc i) (c ∷ cs) le = from_end i cs (omega arith)

  -- such chunks weigh at most twice what they have
  pub weight_paired : (cs : List (List X)) → IsPaired cs → weight cs ≤ 2 * length (flat cs) + 128
  weight_paired [] h = omega arith
  weight_paired (c ∷ []) h = let l = length-append c [] in omega arith
  weight_paired (c ∷ (d ∷ [])) h =
      let l = length-append c (flat (d ∷ [])) in let m = length-append d [] in let two = h.0 in omega arith
  weight_paired (c ∷ (d ∷ (e ∷ cs))) h =
      let l = length-append c (flat (d ∷ (e ∷ cs))) in
      let m = length-append d (flat (e ∷ cs)) in
      let two = h.0 in
      let ih = weight_paired (e ∷ cs) h.1.1 in
      omega arith

many_by : (n : ℕ) (b : Bool) → nat_le n 192 ≡ b → (n ≤ 192 → IsTrue false) → 128 < n
many_by n true e h = let wrong = h (grind (arith, nat_tests)) in absurd (cc)
many_by n false e h = grind (arith, nat_tests)

pub many : (n : ℕ) → (n ≤ 192 → IsTrue false) → 128 < n
many n h = many_by n (nat_le n 192) refl h

-- ---- the room of a steady list

-- nothing was lost
pub steady_still : (s : Bool) (n m total after most places held keep : ℕ) → IsSteady s n total most held → m ≡ n → total ≤ after
    → most ≤ places → held ≤ keep → IsSteady s m after places keep
steady_still s n m total after most places held keep h e a b c on =
    let i = h on in let x = i.0 in let y = i.1 in let z = i.2 in (omega arith, omega arith, omega arith)

pub steady_made : (s : Bool) (n total most held : ℕ) → (s ≡ true → spread n ≤ total) → (s ≡ true → spread n ≤ most)
    → (s ≡ true → spread n ≤ held) → IsSteady s n total most held
steady_made s n total most held a b c on = (a on, b on, c on)

-- chunks that become free are kept
kept_by : (n now total after : ℕ) → spread n ≤ total → min total (now + spread n) ≤ after → spread n ≤ after
kept_by n now total after h le = omega arith

pub steady_taken : (s : Bool) (len room now total after most places held keep : ℕ) → IsSteady s (len + room) total most held
    → min total (now + kept_chunks len room s) ≤ after
    → most ≤ places → held ≤ keep → IsSteady s (len + room) after places keep
steady_taken true len room now total after most places held keep h a b c = λ on.
    let i = h refl in let x = i.0 in let y = i.1 in let z = i.2 in (kept_by (len + room) now total after x a, omega arith, omega arith)
steady_taken false len room now total after most places held keep h a b c = λ on. absurd (cc)

pub least_kept : (total now w k after : ℕ) → w ≤ k → min total (now + k) ≤ after → min total (now + w) ≤ after
least_kept total now w k after le h = omega arith

pub wanted_kept : (len room : ℕ) (s : Bool) → wanted len room ≤ kept_chunks len room s
wanted_kept len room true = omega arith
wanted_kept len room false = omega arith

pub kept_held : (w used total most held len room : ℕ) (s : Bool) → IsRoom w used total most held len room
    → IsSteady s (len + room) total most held → kept_chunks len room s ≤ held
kept_held w used total most held len room true r h = (h refl).2
kept_held w used total most held len room false r h = r.free

-- an element was taken out of a steady list, and there is room for one more
regained_by : (w size used total len room : ℕ) → w ≤ 2 * size + 128 → size + 1 ≤ len → spread (len + room) ≤ total
    → IsEnough (room + 1) w used total
regained_by w size used total len room a b c =
    let all : len + room ≤ 64 * total = omega arith in
    omega arith

wanted_steady : (size n held : ℕ) → spread (size + n) ≤ held → wanted size n ≤ held
wanted_steady size n held h = omega arith

same_count : (len room : ℕ) → 0 < len → (len - 1) + (room + 1) ≡ len + room
same_count len room lt = omega arith

pub room_regained : (w used total most held len room n : ℕ) (s : Bool) → IsRoom w used total most held (len - 1) room → 0 < len
    → len + room < 2 ^ 64 → w ≤ 2 * (len - 1) + 128
    → IsSteady s (len + room) total most held → n ≡ room + regained s → IsRoom w used total most held (len - 1) n
room_regained w used total most held len room n true r lt fits le h e =
    let i = h refl in
    let x = i.0 in
    let y = i.1 in
    let z = i.2 in
    let same = same_count len room lt in
    let all : IsRoom w used total most held (len - 1) (room + 1) = record {
      chunks = regained_by w (len - 1) used total len room le (omega arith) x;
      places = regained_by w (len - 1) used most len room le (omega arith) y;
      free = wanted_steady (len - 1) (room + 1) held (subst (λ m. spread m ≤ held) (sym same) z);
      fits = subst (λ m. m < 2 ^ 64) (sym same) fits;
    } in
    subst (λ m. IsRoom w used total most held (len - 1) m) (sym e) all
room_regained w used total most held len room n false r lt fits le h e =
    let same : n ≡ room = omega arith in
    subst (λ m. IsRoom w used total most held (len - 1) m) (sym same) r

pub steady_regained : (total most held len room n : ℕ) (s : Bool) → 0 < len → IsSteady s (len + room) total most held
    → n ≡ room + regained s → IsSteady s ((len - 1) + n) total most held
steady_regained total most held len room n true lt h e =
    steady_still true (len + room) ((len - 1) + n) total total most most held held h (omega arith) (omega arith) (omega arith)
    (omega arith)
steady_regained total most held len room n false lt h e = λ on. absurd (cc)
