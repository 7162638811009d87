-- Which part a place is taken for.
use Rattle.std.proofs.Common.{◌≡◌, ℕ, ◌+◌, ◌-◌, ◌<◌, ◌≤◌, ◌==◌, true, false, Ok, ap, ◌∙◌, arith}
use Rattle.std.specs.Prelude.{nat_le, nat_lt}
use Rattle.std.proofs.lemmas.Bool.Decides.{nat_tests}
use Rattle.identity_slots.specs.Ids.{slots}
use Rattle.mme_snapshot.specs.declared.part.Part.TheVariants.{Stranger, Subscriber}
use Rattle.mme_c.specs.Places.{no_id, of_strangers, of_subscribers, part_at}

at_stranger : (place : ℕ) → (place == 0) ≡ false → nat_lt place of_strangers ≡ false → nat_le place (of_strangers + no_id) ≡ true
    → part_at place ≡ Ok (Stranger (place - of_strangers))
at_stranger place a b c = simp (a, b, c)

pub stranger_taken : (id : ℕ) → id ≤ 4294967296 → part_at (8589934592 + id) ≡ Ok (Stranger id)
stranger_taken id low =
    let a : (8589934592 + id == 0) ≡ false = grind (arith, nat_tests) in
    let b : nat_lt (8589934592 + id) of_strangers ≡ false = grind (arith, nat_tests) in
    let c : nat_le (8589934592 + id) (of_strangers + no_id) ≡ true = grind (arith, nat_tests) in
    let e : (8589934592 + id) - of_strangers ≡ id = omega arith in
    at_stranger (8589934592 + id) a b c ∙ ap (λ n. Ok (Stranger n)) e

at_subscriber : (place : ℕ) → (place == 0) ≡ false → nat_lt place of_strangers ≡ false → nat_le place (of_strangers + no_id) ≡ false
    → nat_lt place of_subscribers ≡ false → nat_lt place (of_subscribers + slots) ≡ true
    → part_at place ≡ Ok (Subscriber (place - of_subscribers))
at_subscriber place a b c d e = simp (a, b, c, d, e)

pub subscriber_taken : (slot : ℕ) → slot < 32768 → part_at (17179869184 + slot) ≡ Ok (Subscriber slot)
subscriber_taken slot low =
    let a : (17179869184 + slot == 0) ≡ false = grind (arith, nat_tests) in
    let b : nat_lt (17179869184 + slot) of_strangers ≡ false = grind (arith, nat_tests) in
    let c : nat_le (17179869184 + slot) (of_strangers + no_id) ≡ false = grind (arith, nat_tests) in
    let d : nat_lt (17179869184 + slot) of_subscribers ≡ false = grind (arith, nat_tests) in
    let f : nat_lt (17179869184 + slot) (of_subscribers + slots) ≡ true = grind (arith, nat_tests) in
    let e : (17179869184 + slot) - of_subscribers ≡ slot = omega arith in
    at_subscriber (17179869184 + slot) a b c d f ∙ ap (λ n. Ok (Subscriber n)) e
