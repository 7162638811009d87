use Rattle.std.proofs.Common.{◌≡◌, ◌+◌, ◌-◌, ◌^◌, ◌∙◌, inl, inr, ap, arith, length}
use Rattle.std.proofs.lemmas.Bool.{le-leb, leb-true}
use Rattle.identity_slots.specs.Spending.{KeptView}
use Rattle.identity_slots.proofs.Windows.{stocked_by, window_whole}
use Rattle.identity_slots.proofs.vectors.KeptVectors.is_stocked.Goals as goal
use Rattle.identity_slots.proofs.vectors.KeptVectors.is_stocked.Goals.{After-len}

-- there are as many as were given
total : (c : After-len) → c.self.inside.base + c.len.result ≡ length c.self.inside.given
total c =
    ap (λ n. c.self.inside.base + n) (c.len.ensures ∙ c.self.inside.items.ok.0)
    ∙ window_whole c.self.inside.base c.self.inside.spent c.self.inside.given c.self.inside.items.items c.self.invariant

pub overflow_sub-given : goal.overflow_sub-given
overflow_sub-given c =
    let all = total (goal.at.overflow_sub-given c).After-len in let within = c.self.invariant.within in omega (arith, all, within)

pub returns-then-given-self-ge-VECTORS : goal.returns-then-given-self-ge-VECTORS
returns-then-given-self-ge-VECTORS c =
    let same = stocked_by (c.self.inside.base + c.len.result) c.self.inside.spent c.args.self.now
    (total (goal.at.returns-then-given-self-ge-VECTORS c).After-len ∙ ap (λ (v : KeptView). length v.given) c.self.view_is)
    (ap (λ (v : KeptView). v.spent) c.self.view_is) in
    (λ _. same.0 (inl c.if-given-self-ge-VECTORS.true), λ _. le-leb 64 (c.self.inside.base + c.len.result - c.self.inside.spent) c.if-given-self-ge-VECTORS.true)

pub returns-else-given-self-ge-VECTORS : goal.returns-else-given-self-ge-VECTORS
returns-else-given-self-ge-VECTORS c =
    let same = stocked_by (c.self.inside.base + c.len.result) c.self.inside.spent c.args.self.now
    (total (goal.at.returns-else-given-self-ge-VECTORS c).After-len ∙ ap (λ (v : KeptView). length v.given) c.self.view_is)
    (ap (λ (v : KeptView). v.spent) c.self.view_is) in
    let few = c.if-given-self-ge-VECTORS.false in (
      λ many. same.0 (inr (leb-true (2 ^ 62) (c.self.inside.base + c.len.result) many)),
      λ stocked. elim (same.1 stocked) [
        | inl le ↦ absurd (omega (arith, le, few))
        | inr le ↦ le-leb (2 ^ 62) (c.self.inside.base + c.len.result) le
      ],
    )
