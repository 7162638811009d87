use Rattle.std.proofs.Common.{◌-◌, ◌*◌, ◌^◌, ◌<◌, ◌≤◌, refl, sym, subst, ◌∙◌, arith}
use Rattle.std.proofs.lemmas.Bool.{eq-eqb, le-leb, leb-true}
use Rattle.std.proofs.lemmas.Grind.{one_shifted}
use Rattle.per_streams.specs.NumberLaws.{octet-is, octets-are, octets-least}
use Rattle.per_streams.proofs.whole.is_fewest.Goals as goal

pub returns-then-count-eq1 : goal.returns-then-count-eq1
returns-then-count-eq1 c =
    let one = c.if-count-eq1.true in
    let below : c.args.n < 2 ^ 8 = subst (λ k. c.args.n < 2 ^ (8 * k)) one c.requires.fits in
    (λ _. octet-is c.args.n below ∙ sym one, λ _. eq-eqb c.args.count 1 one)

pub returns-else-count-eq1 : goal.returns-else-count-eq1
returns-else-count-eq1 c =
    let k = c.args.count in
    let n = c.args.n in
    let r = c.requires in
    let few : 8 * (k - 1) < 64 = omega (arith, r.most, r.some) in
    let more : 2 ≤ k = omega (arith, r.some, c.if-count-eq1.false) in
    rw (one_shifted (8 * (k - 1)) 18446744073709551615 refl few).0 (
      (λ h. octets-are k n r.some r.most r.fits (leb-true _ _ h)),
      (λ e. le-leb (2 ^ (8 * (k - 1))) n
          (subst (λ j. 2 ^ (8 * (j - 1)) ≤ n) e (octets-least n (subst (λ j. 2 ≤ j) (sym e) more)))),
    )
