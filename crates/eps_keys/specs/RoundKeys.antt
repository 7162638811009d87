-- A key that has been expanded: the round keys as they are kept.
use Rattle.std.specs.Prelude.{◌≡◌, ℕ, List, [], map, slice_index_or}
use Rattle.std.proofs.Common.{refl}
use Rattle.eps_keys.specs.declared.aes.RoundKeys.TheInside.{Inside}
use Rattle.eps_keys.specs.Aes.{key_expansion}
use Rattle.eps_keys.specs.Lanes.{IsOctets, masked, moved_key}

abbrev pub key_of : Inside → List ℕ
key_of k = k.key

-- round key i of a key
unfoldable pub key_at : ℕ → List ℕ → List ℕ
key_at i key = slice_index_or (key_expansion key) i []

abbrev pub kept : List ℕ → ℕ → List ℕ
kept key i = map moved_key (key_at i key)

abbrev pub last_key : List ℕ → List ℕ
last_key key = map masked (key_at 10 key)

abbrev pub round_keys : List ℕ → Inside
round_keys key = record {
  key = key;
  key_1 = kept key 1;
  key_2 = kept key 2;
  key_3 = kept key 3;
  key_4 = kept key 4;
  key_5 = kept key 5;
  key_6 = kept key 6;
  key_7 = kept key 7;
  key_8 = kept key 8;
  key_9 = kept key 9;
  last = last_key key;
}

pub record AreRoundKeys (k : Inside) : Type 0 where
  pub octets : IsOctets k.key
  pub kept_1 : k.key_1 ≡ kept k.key 1
  pub kept_2 : k.key_2 ≡ kept k.key 2
  pub kept_3 : k.key_3 ≡ kept k.key 3
  pub kept_4 : k.key_4 ≡ kept k.key 4
  pub kept_5 : k.key_5 ≡ kept k.key 5
  pub kept_6 : k.key_6 ≡ kept k.key 6
  pub kept_7 : k.key_7 ≡ kept k.key 7
  pub kept_8 : k.key_8 ≡ kept k.key 8
  pub kept_9 : k.key_9 ≡ kept k.key 9
  pub last : k.last ≡ last_key k.key

pub restored : (k : Inside) → AreRoundKeys k → round_keys (key_of k) ≡ k
restored k h =
    rw (← h.kept_1, ← h.kept_2, ← h.kept_3, ← h.kept_4, ← h.kept_5, ← h.kept_6, ← h.kept_7, ← h.kept_8, ← h.kept_9, ← h.last) refl
