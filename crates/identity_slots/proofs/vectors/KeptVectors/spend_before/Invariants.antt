use Rattle.std.proofs.Common.{◌≡◌, ◌-◌, ◌≤◌}
use Rattle.std.specs.Prelude.{max}
use Rattle.identity_slots.specs.Spending.{IsWindow}
use Rattle.identity_slots.proofs.vectors.KeptVectors.spend_before.Given as goal

abbrev pub invariant-loop-self : goal.invariant-loop-self
invariant-loop-self l = record {
  window : IsWindow l.self-inside.base l.self-inside.spent l.self-inside.given l.self-inside.items.items;
  given : l.self-inside.given ≡ l.fn.self.given;
  more : l.fn.self.spent ≤ l.self-inside.spent;
  most : l.self-inside.spent ≤ max l.fn.self.spent l.end;
}

abbrev pub decreases-loop-self : goal.decreases-loop-self
decreases-loop-self l = l.end - l.self-inside.spent
