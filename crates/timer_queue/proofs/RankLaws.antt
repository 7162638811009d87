-- Timers in range have ranks of their own, in the order of owners and kinds.
use Rattle.std.proofs.Common.{◌≡◌, ℕ, ◌+◌, ◌*◌, ◌^◌, ◌%◌, ◌<◌, refl, ap, arith, ◌∙◌}
use Rattle.timer_queue.specs.declared.timer.TimerOwner.{TimerOwner}
use Rattle.timer_queue.specs.declared.timer.TimerOwner.TheVariants.{Stranger, Subscriber}
use Rattle.timer_queue.specs.declared.timer.Kind.{Kind}
use Rattle.timer_queue.specs.declared.timer.Kind.TheVariants.{Procedure, Reachable}
use Rattle.timer_queue.specs.Rank.{rank, owner_rank, kind_rank, IsOwner, TimersApart, InOwnerOrder, ProcedureFirst}

small : (o : TimerOwner) → IsOwner o → owner_rank o < 2 ^ 41
small (Stranger station id) h = omega (arith, h.0, h.1)
small (Subscriber slot) h = omega (arith, h)

bit : (k : Kind) → kind_rank k < 2
bit Procedure = omega arith
bit Reachable = omega arith

parts : (a b c d : ℕ) → a < 2 ^ 41 → b < 2 → c < 2 ^ 41 → d < 2 → (2 * a + b) % 2 ^ 64 ≡ (2 * c + d) % 2 ^ 64 → (a ≡ c) × (b ≡ d)
parts a b c d p q r s e = (omega arith, omega arith)

strangers : (s i t j : ℕ) → i < 2 ^ 32 → j < 2 ^ 32 → s * 2 ^ 32 + i ≡ t * 2 ^ 32 + j → (s ≡ t) × (i ≡ j)
strangers s i t j p q e = (omega arith, omega arith)

same_owner : (a b : TimerOwner) → IsOwner a → IsOwner b → owner_rank a ≡ owner_rank b → a ≡ b
same_owner (Stranger s i) (Stranger t j) p q e =
    let r = strangers s i t j p.1 q.1 e in ap (λ n. Stranger n i) r.0 ∙ ap (λ n. Stranger t n) r.1
same_owner (Stranger s i) (Subscriber n) p q e = absurd (omega (arith, p.0, p.1))
same_owner (Subscriber n) (Stranger s i) p q e = absurd (omega (arith, q.0, q.1))
same_owner (Subscriber n) (Subscriber m) p q e = ap (λ k. Subscriber k) (omega arith)

same_kind : (a b : Kind) → kind_rank a ≡ kind_rank b → a ≡ b
same_kind Procedure Procedure e = refl
same_kind Procedure Reachable e = absurd (omega arith)
same_kind Reachable Procedure e = absurd (omega arith)
same_kind Reachable Reachable e = refl

pub timers_apart : TimersApart
unfolding rank
timers_apart a b p q e =
    let r =
    parts (owner_rank a.owner) (kind_rank a.kind) (owner_rank b.owner) (kind_rank b.kind) (small a.owner p) (bit a.kind)
    (small b.owner q) (bit b.kind) e in
    ap (λ o. record { owner = o; kind = a.kind }) (same_owner a.owner b.owner p q r.0) ∙ ap (λ k. record { owner = b.owner; kind = k }) (same_kind a.kind b.kind r.1)

pub in_owner_order : InOwnerOrder
unfolding rank
in_owner_order a b p q lt =
    let s = small a.owner p in
    let t = small b.owner q in
    let k = bit a.kind in
    let l = bit b.kind in
    omega arith

pub procedure_first : ProcedureFirst
unfolding rank
procedure_first o p = let s = small o p in omega arith
