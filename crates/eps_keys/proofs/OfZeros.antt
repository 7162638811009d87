-- The key of 16 zeros, expanded: each round key, and what a block of zeros is encrypted to, by the definitions.
use Rattle.std.proofs.Common.{◌≡◌, ℕ, List, [], ◌∷◌, refl, sym, ap, ◌∙◌}
use Rattle.eps_keys.specs.Aes.{last_round, next_key, round, xor_blocks, zeros}
use Rattle.eps_keys.specs.Cmac.{next_subkey, subkey1}
use Rattle.eps_keys.specs.Field.{product, substitute}
use Rattle.eps_keys.specs.RoundKeys.{key_at}
use Rattle.eps_keys.proofs.Keys.{first_is, next_1, next_2, next_3, next_4, next_5, next_6, next_7, next_8, next_9, next_10, whole}

-- ---- round keys

abbrev pub round_1 : List ℕ
round_1 = 0x62 ∷ 0x63 ∷ 0x63 ∷ 0x63 ∷ 0x62 ∷ 0x63 ∷ 0x63 ∷ 0x63 ∷ 0x62 ∷ 0x63 ∷ 0x63 ∷ 0x63 ∷ 0x62 ∷ 0x63 ∷ 0x63 ∷ 0x63 ∷ []

abbrev pub round_2 : List ℕ
round_2 = 0x9b ∷ 0x98 ∷ 0x98 ∷ 0xc9 ∷ 0xf9 ∷ 0xfb ∷ 0xfb ∷ 0xaa ∷ 0x9b ∷ 0x98 ∷ 0x98 ∷ 0xc9 ∷ 0xf9 ∷ 0xfb ∷ 0xfb ∷ 0xaa ∷ []

abbrev pub round_3 : List ℕ
round_3 = 0x90 ∷ 0x97 ∷ 0x34 ∷ 0x50 ∷ 0x69 ∷ 0x6c ∷ 0xcf ∷ 0xfa ∷ 0xf2 ∷ 0xf4 ∷ 0x57 ∷ 0x33 ∷ 0x0b ∷ 0x0f ∷ 0xac ∷ 0x99 ∷ []

abbrev pub round_4 : List ℕ
round_4 = 0xee ∷ 0x06 ∷ 0xda ∷ 0x7b ∷ 0x87 ∷ 0x6a ∷ 0x15 ∷ 0x81 ∷ 0x75 ∷ 0x9e ∷ 0x42 ∷ 0xb2 ∷ 0x7e ∷ 0x91 ∷ 0xee ∷ 0x2b ∷ []

abbrev pub round_5 : List ℕ
round_5 = 0x7f ∷ 0x2e ∷ 0x2b ∷ 0x88 ∷ 0xf8 ∷ 0x44 ∷ 0x3e ∷ 0x09 ∷ 0x8d ∷ 0xda ∷ 0x7c ∷ 0xbb ∷ 0xf3 ∷ 0x4b ∷ 0x92 ∷ 0x90 ∷ []

abbrev pub round_6 : List ℕ
round_6 = 0xec ∷ 0x61 ∷ 0x4b ∷ 0x85 ∷ 0x14 ∷ 0x25 ∷ 0x75 ∷ 0x8c ∷ 0x99 ∷ 0xff ∷ 0x09 ∷ 0x37 ∷ 0x6a ∷ 0xb4 ∷ 0x9b ∷ 0xa7 ∷ []

abbrev pub round_7 : List ℕ
round_7 = 0x21 ∷ 0x75 ∷ 0x17 ∷ 0x87 ∷ 0x35 ∷ 0x50 ∷ 0x62 ∷ 0x0b ∷ 0xac ∷ 0xaf ∷ 0x6b ∷ 0x3c ∷ 0xc6 ∷ 0x1b ∷ 0xf0 ∷ 0x9b ∷ []

abbrev pub round_8 : List ℕ
round_8 = 0x0e ∷ 0xf9 ∷ 0x03 ∷ 0x33 ∷ 0x3b ∷ 0xa9 ∷ 0x61 ∷ 0x38 ∷ 0x97 ∷ 0x06 ∷ 0x0a ∷ 0x04 ∷ 0x51 ∷ 0x1d ∷ 0xfa ∷ 0x9f ∷ []

abbrev pub round_9 : List ℕ
round_9 = 0xb1 ∷ 0xd4 ∷ 0xd8 ∷ 0xe2 ∷ 0x8a ∷ 0x7d ∷ 0xb9 ∷ 0xda ∷ 0x1d ∷ 0x7b ∷ 0xb3 ∷ 0xde ∷ 0x4c ∷ 0x66 ∷ 0x49 ∷ 0x41 ∷ []

abbrev pub round_10 : List ℕ
round_10 = 0xb4 ∷ 0xef ∷ 0x5b ∷ 0xcb ∷ 0x3e ∷ 0x92 ∷ 0xe2 ∷ 0x11 ∷ 0x23 ∷ 0xe9 ∷ 0x51 ∷ 0xcf ∷ 0x6f ∷ 0x8f ∷ 0x18 ∷ 0x8e ∷ []

step_1 : round_1 ≡ next_key 1 zeros
unfolding next_key substitute product
step_1 = refl

step_2 : round_2 ≡ next_key 2 round_1
unfolding next_key substitute product
step_2 = refl

step_3 : round_3 ≡ next_key 4 round_2
unfolding next_key substitute product
step_3 = refl

step_4 : round_4 ≡ next_key 8 round_3
unfolding next_key substitute product
step_4 = refl

step_5 : round_5 ≡ next_key 16 round_4
unfolding next_key substitute product
step_5 = refl

step_6 : round_6 ≡ next_key 32 round_5
unfolding next_key substitute product
step_6 = refl

step_7 : round_7 ≡ next_key 64 round_6
unfolding next_key substitute product
step_7 = refl

step_8 : round_8 ≡ next_key 128 round_7
unfolding next_key substitute product
step_8 = refl

step_9 : round_9 ≡ next_key 27 round_8
unfolding next_key substitute product
step_9 = refl

step_10 : round_10 ≡ next_key 54 round_9
unfolding next_key substitute product
step_10 = refl

pub key_1 : round_1 ≡ key_at 1 zeros
key_1 = next_1 zeros zeros round_1 (sym (first_is zeros)) step_1

pub key_2 : round_2 ≡ key_at 2 zeros
key_2 = next_2 zeros round_1 round_2 key_1 step_2

pub key_3 : round_3 ≡ key_at 3 zeros
key_3 = next_3 zeros round_2 round_3 key_2 step_3

pub key_4 : round_4 ≡ key_at 4 zeros
key_4 = next_4 zeros round_3 round_4 key_3 step_4

pub key_5 : round_5 ≡ key_at 5 zeros
key_5 = next_5 zeros round_4 round_5 key_4 step_5

pub key_6 : round_6 ≡ key_at 6 zeros
key_6 = next_6 zeros round_5 round_6 key_5 step_6

pub key_7 : round_7 ≡ key_at 7 zeros
key_7 = next_7 zeros round_6 round_7 key_6 step_7

pub key_8 : round_8 ≡ key_at 8 zeros
key_8 = next_8 zeros round_7 round_8 key_7 step_8

pub key_9 : round_9 ≡ key_at 9 zeros
key_9 = next_9 zeros round_8 round_9 key_8 step_9

pub key_10 : round_10 ≡ key_at 10 zeros
key_10 = next_10 zeros round_9 round_10 key_9 step_10

-- ---- a block of zeros

abbrev state_1 : List ℕ
state_1 = 0x01 ∷ 0x00 ∷ 0x00 ∷ 0x00 ∷ 0x01 ∷ 0x00 ∷ 0x00 ∷ 0x00 ∷ 0x01 ∷ 0x00 ∷ 0x00 ∷ 0x00 ∷ 0x01 ∷ 0x00 ∷ 0x00 ∷ 0x00 ∷ []

abbrev state_2 : List ℕ
state_2 = 0xc6 ∷ 0xe4 ∷ 0xe4 ∷ 0x8b ∷ 0xa4 ∷ 0x87 ∷ 0x87 ∷ 0xe8 ∷ 0xc6 ∷ 0xe4 ∷ 0xe4 ∷ 0x8b ∷ 0xa4 ∷ 0x87 ∷ 0x87 ∷ 0xe8 ∷ []

abbrev state_3 : List ℕ
state_3 = 0x28 ∷ 0x2d ∷ 0xf3 ∷ 0xc4 ∷ 0x6a ∷ 0xf3 ∷ 0x86 ∷ 0x25 ∷ 0x4a ∷ 0x4e ∷ 0x90 ∷ 0xa7 ∷ 0x08 ∷ 0x90 ∷ 0xe5 ∷ 0x46 ∷ []

abbrev state_4 : List ℕ
state_4 = 0xab ∷ 0xd2 ∷ 0xcd ∷ 0xfe ∷ 0x37 ∷ 0x5a ∷ 0xb5 ∷ 0x49 ∷ 0x50 ∷ 0xa0 ∷ 0xaf ∷ 0xc0 ∷ 0x75 ∷ 0x9a ∷ 0x6a ∷ 0x5f ∷ []

abbrev state_5 : List ℕ
state_5 = 0xd4 ∷ 0x6f ∷ 0x4f ∷ 0x6c ∷ 0x55 ∷ 0xb8 ∷ 0x96 ∷ 0x33 ∷ 0x7e ∷ 0x05 ∷ 0xbb ∷ 0x3d ∷ 0x79 ∷ 0x79 ∷ 0xde ∷ 0x23 ∷ []

abbrev state_6 : List ℕ
state_6 = 0x04 ∷ 0xf2 ∷ 0xca ∷ 0x97 ∷ 0x07 ∷ 0x78 ∷ 0x28 ∷ 0x45 ∷ 0xe2 ∷ 0x2f ∷ 0x01 ∷ 0x96 ∷ 0x49 ∷ 0xc5 ∷ 0xd7 ∷ 0x10 ∷ []

abbrev state_7 : List ℕ
state_7 = 0xb7 ∷ 0xaa ∷ 0xe4 ∷ 0xc5 ∷ 0x1d ∷ 0x25 ∷ 0x2d ∷ 0x4f ∷ 0x6c ∷ 0x92 ∷ 0x0f ∷ 0x81 ∷ 0x94 ∷ 0xe5 ∷ 0x81 ∷ 0x50 ∷ []

abbrev state_8 : List ℕ
state_8 = 0x23 ∷ 0xe7 ∷ 0x8c ∷ 0x3c ∷ 0x13 ∷ 0x21 ∷ 0x63 ∷ 0xdb ∷ 0xaa ∷ 0xc0 ∷ 0xc6 ∷ 0x57 ∷ 0x2e ∷ 0x03 ∷ 0xcb ∷ 0x95 ∷ []

abbrev state_9 : List ℕ
state_9 = 0x7f ∷ 0xfe ∷ 0x0e ∷ 0x95 ∷ 0x51 ∷ 0xa5 ∷ 0x66 ∷ 0x35 ∷ 0x0e ∷ 0x34 ∷ 0x7c ∷ 0x47 ∷ 0x29 ∷ 0x29 ∷ 0xec ∷ 0xcb ∷ []

abbrev state_10 : List ℕ
state_10 = 0x66 ∷ 0xe9 ∷ 0x4b ∷ 0xd4 ∷ 0xef ∷ 0x8a ∷ 0x2c ∷ 0x3b ∷ 0x88 ∷ 0x4c ∷ 0xfa ∷ 0x59 ∷ 0xca ∷ 0x34 ∷ 0x2b ∷ 0x2e ∷ []

turn_1 : round (xor_blocks zeros zeros) round_1 ≡ state_1
unfolding round substitute product
turn_1 = refl

turn_2 : round state_1 round_2 ≡ state_2
unfolding round substitute product
turn_2 = refl

turn_3 : round state_2 round_3 ≡ state_3
unfolding round substitute product
turn_3 = refl

turn_4 : round state_3 round_4 ≡ state_4
unfolding round substitute product
turn_4 = refl

turn_5 : round state_4 round_5 ≡ state_5
unfolding round substitute product
turn_5 = refl

turn_6 : round state_5 round_6 ≡ state_6
unfolding round substitute product
turn_6 = refl

turn_7 : round state_6 round_7 ≡ state_7
unfolding round substitute product
turn_7 = refl

turn_8 : round state_7 round_8 ≡ state_8
unfolding round substitute product
turn_8 = refl

turn_9 : round state_8 round_9 ≡ state_9
unfolding round substitute product
turn_9 = refl

turn_10 : last_round state_9 round_10 ≡ state_10
unfolding last_round substitute product
turn_10 = refl

-- the state after each round
after_1 : round (xor_blocks zeros zeros) (key_at 1 zeros) ≡ state_1
after_1 = ap (round (xor_blocks zeros zeros)) (sym key_1) ∙ turn_1

after_2 : round (round (xor_blocks zeros zeros) (key_at 1 zeros)) (key_at 2 zeros) ≡ state_2
after_2 = ap (λ s. round s (key_at 2 zeros)) after_1 ∙ ap (round state_1) (sym key_2) ∙ turn_2

after_3 : round (round (round (xor_blocks zeros zeros) (key_at 1 zeros)) (key_at 2 zeros)) (key_at 3 zeros) ≡ state_3
after_3 = ap (λ s. round s (key_at 3 zeros)) after_2 ∙ ap (round state_2) (sym key_3) ∙ turn_3

after_4 : round (round (round (round (xor_blocks zeros zeros) (key_at 1 zeros)) (key_at 2 zeros)) (key_at 3 zeros)) (key_at 4 zeros) ≡ state_4
after_4 = ap (λ s. round s (key_at 4 zeros)) after_3 ∙ ap (round state_3) (sym key_4) ∙ turn_4

after_5 : round (round (round (round (round (xor_blocks zeros zeros) (key_at 1 zeros)) (key_at 2 zeros)) (key_at 3 zeros)) (key_at 4 zeros)) (key_at 5 zeros) ≡ state_5
after_5 = ap (λ s. round s (key_at 5 zeros)) after_4 ∙ ap (round state_4) (sym key_5) ∙ turn_5

after_6 : round (round (round (round (round (round (xor_blocks zeros zeros) (key_at 1 zeros)) (key_at 2 zeros)) (key_at 3 zeros)) (key_at 4 zeros)) (key_at 5 zeros)) (key_at 6 zeros) ≡ state_6
after_6 = ap (λ s. round s (key_at 6 zeros)) after_5 ∙ ap (round state_5) (sym key_6) ∙ turn_6

after_7 : round (round (round (round (round (round (round (xor_blocks zeros zeros) (key_at 1 zeros)) (key_at 2 zeros)) (key_at 3 zeros)) (key_at 4 zeros)) (key_at 5 zeros)) (key_at 6 zeros)) (key_at 7 zeros) ≡ state_7
after_7 = ap (λ s. round s (key_at 7 zeros)) after_6 ∙ ap (round state_6) (sym key_7) ∙ turn_7

after_8 : round (round (round (round (round (round (round (round (xor_blocks zeros zeros) (key_at 1 zeros)) (key_at 2 zeros)) (key_at 3 zeros)) (key_at 4 zeros)) (key_at 5 zeros)) (key_at 6 zeros)) (key_at 7 zeros)) (key_at 8 zeros) ≡ state_8
after_8 = ap (λ s. round s (key_at 8 zeros)) after_7 ∙ ap (round state_7) (sym key_8) ∙ turn_8

after_9 : round (round (round (round (round (round (round (round (round (xor_blocks zeros zeros) (key_at 1 zeros)) (key_at 2 zeros)) (key_at 3 zeros)) (key_at 4 zeros)) (key_at 5 zeros)) (key_at 6 zeros)) (key_at 7 zeros)) (key_at 8 zeros)) (key_at 9 zeros) ≡ state_9
after_9 = ap (λ s. round s (key_at 9 zeros)) after_8 ∙ ap (round state_8) (sym key_9) ∙ turn_9

after_10 : last_round (round (round (round (round (round (round (round (round (round (xor_blocks zeros zeros) (key_at 1 zeros)) (key_at 2 zeros)) (key_at 3 zeros)) (key_at 4 zeros)) (key_at 5 zeros)) (key_at 6 zeros)) (key_at 7 zeros)) (key_at 8 zeros)) (key_at 9 zeros)) (key_at 10 zeros) ≡ state_10
after_10 = ap (λ s. last_round s (key_at 10 zeros)) after_9 ∙ ap (last_round state_9) (sym key_10) ∙ turn_10

-- ---- the subkeys

abbrev pub first : List ℕ
first = 0xcd ∷ 0xd2 ∷ 0x97 ∷ 0xa9 ∷ 0xdf ∷ 0x14 ∷ 0x58 ∷ 0x77 ∷ 0x10 ∷ 0x99 ∷ 0xf4 ∷ 0xb3 ∷ 0x94 ∷ 0x68 ∷ 0x56 ∷ 0x5c ∷ []

abbrev pub second : List ℕ
second = 0x9b ∷ 0xa5 ∷ 0x2f ∷ 0x53 ∷ 0xbe ∷ 0x28 ∷ 0xb0 ∷ 0xee ∷ 0x21 ∷ 0x33 ∷ 0xe9 ∷ 0x67 ∷ 0x28 ∷ 0xd0 ∷ 0xac ∷ 0x3f ∷ []

first_of : first ≡ next_subkey state_10
unfolding next_subkey
first_of = refl

second_of : second ≡ next_subkey first
unfolding next_subkey
second_of = refl

pub first_subkey : first ≡ subkey1 zeros
unfolding subkey1
first_subkey = first_of ∙ ap next_subkey (sym after_10 ∙ whole zeros zeros)

pub second_subkey : second ≡ next_subkey (subkey1 zeros)
second_subkey = second_of ∙ ap next_subkey first_subkey
