-- A MAC is four octets.
use Rattle.std.proofs.Common.{◌≡◌, ℕ, true, eqb, List, [], ◌∷◌, length, take, drop, refl}
use Rattle.std.proofs.lemmas.Bool.{and_from, eq-eqb}
use Rattle.per_streams.specs.Octet.{AreBytes, all_below}
use Rattle.eps_keys.specs.declared.direction.DirectionBit.{DirectionBit}
use Rattle.eps_keys.specs.Aes.{aes, keys_from, last_round, next_key, round, round_constants, rounds, xor_blocks}
use Rattle.eps_keys.specs.Cmac.{cmac_from}
use Rattle.eps_keys.specs.Eia2.{eia2}
use Rattle.laws_network.specs.KeyLaws.{brief_mac}

rounds_four : (cs k s : List ℕ) → length (take 4 (rounds (keys_from cs k) s)) ≡ 4
unfolding rounds keys_from last_round
rounds_four [] k s = refl
rounds_four (c ∷ []) k s = refl
rounds_four (c ∷ d ∷ cs) k s = rounds_four (d ∷ cs) (next_key c k) (round s k)

aes_four : (key block : List ℕ) → length (take 4 (aes key block)) ≡ 4
unfolding aes keys_from
aes_four key block = rounds_four (drop 1 round_constants) (next_key 1 key) (xor_blocks block key)

mac_four : (key : List ℕ) (count : ℕ) (direction : DirectionBit) (octets : List ℕ) → length (eia2 key count direction octets) ≡ 4
unfolding cmac_from
mac_four key count direction octets = aes_four key _

pub mac_bytes : (key : List ℕ) (count : ℕ) (direction : DirectionBit) (octets : List ℕ) → all_below 256 key ≡ true
    → AreBytes 4 (eia2 key count direction octets)
mac_bytes key count direction octets h =
    let mac = eia2 key count direction octets in
    and_from (eqb (length mac) 4) (all_below 256 mac) (eq-eqb (length mac) 4 (mac_four key count direction octets))
    (brief_mac key h count direction octets).octets
