-- The parts of a snapshot, saved one after another.
use Rattle.std.proofs.Common.{◌≡◌, ◌≤◌, ◌<◌, ◌+◌, ◌-◌, ℕ, zero, suc, List, [], ◌∷◌, ◌++◌, length, Bool, true, false, cond, Option, Some, None, refl, sym, ◌∙◌, ap, subst, arith, append_assoc}
use Rattle.std.specs.Prelude.{nat_lt, not, slice_get, if◌then◌else◌}
use Rattle.std.specs.List.{concat}
use Rattle.std.proofs.lemmas.Bool.Decides.{nat_tests}
use Rattle.std.proofs.lemmas.List.{append-nil}
use Rattle.std.proofs.lemmas.Option.{same_Some}
use Rattle.sorted_list.specs.Sorted.{lowest_from}
use Rattle.emm_machine.specs.SubscriberView.{SubscriberView}
use Rattle.stranger_machine.specs.declared.table.Known.{Known}
use Rattle.stranger_machine.specs.Table.{known_id}
use Rattle.mme_core.specs.World.{World}
use Rattle.mme_snapshot.specs.declared.part.Part.{Part}
use Rattle.mme_snapshot.specs.declared.part.Part.TheVariants as part
use Rattle.mme_snapshot.specs.Saved.{AreParts, IsNextStranger, IsSavedPart, IsSubscriberAt}

-- ---- the octets so far

pub record SavedSoFar (w : World) (octets : List ℕ) (next : Option Part) : Type 0 where
  pub done : List (List ℕ)
  pub is : octets ≡ concat done
  pub goes : (more : List (List ℕ)) → AreParts w next more → AreParts w (Some part.First) (done ++ more)

pub none_saved : (w : World) (octets : List ℕ) → octets ≡ [] → SavedSoFar w octets (Some part.First)
none_saved w octets none = record { done = []; is = none; goes = λ more h. h }

concat_push : (oss : List (List ℕ)) (os : List ℕ) → concat (oss ++ os ∷ []) ≡ concat oss ++ os
concat_push [] os = append-nil os
concat_push (x ∷ oss) os = ap (λ (l : List ℕ). x ++ l) (concat_push oss os) ∙ sym (append_assoc x (concat oss) os)

pub one_saved : (w : World) (octets after os : List ℕ) (p : Part) (next : Option Part) → SavedSoFar w octets (Some p)
    → IsSavedPart w p os next → after ≡ octets ++ os → SavedSoFar w after next
one_saved w octets after os p next h saved is = record {
  done = h.done ++ os ∷ [];
  is = is ∙ ap (λ (l : List ℕ). l ++ os) h.is ∙ sym (concat_push h.done os);
  goes = λ more parts.
      subst (AreParts w (Some part.First)) (sym (append_assoc h.done (os ∷ []) more)) (h.goes (os ∷ more) (next, saved, parts));
}

pub all_saved : (w : World) (octets : List ℕ) → SavedSoFar w octets None
    → (parts : List (List ℕ)) × (octets ≡ concat parts) × AreParts w (Some part.First) parts
all_saved w octets h = (h.done, h.is, subst (AreParts w (Some part.First)) (append-nil h.done) (h.goes [] refl))

-- ---- how many are left

abbrev one_if : Bool → ℕ
one_if true = 1
one_if false = 0

-- strangers with an id of at least this
abbrev pub not_below : ℕ → List Known → ℕ
not_below least [] = 0
not_below least (k ∷ ks) = one_if (not (nat_lt k.id least)) + not_below least ks

at_most : (b : Bool) → one_if b ≤ 1
at_most true = omega arith
at_most false = omega arith

few : (least : ℕ) (ks : List Known) → not_below least ks ≤ length ks
few least [] = omega arith
few least (k ∷ ks) = let a = at_most (not (nat_lt k.id least)) in let b = few least ks in omega (arith, a, b)

fewer_one : (a b k : ℕ) → a ≤ b → one_if (not (nat_lt k b)) ≤ one_if (not (nat_lt k a))
fewer_one a b k le = fewer_by a b k le (nat_lt k a) (nat_lt k b) refl refl
  where
    fewer_by : (a b k : ℕ) → a ≤ b → (p q : Bool) → nat_lt k a ≡ p → nat_lt k b ≡ q → one_if (not q) ≤ one_if (not p)
    fewer_by a b k le p true h i = omega arith
    fewer_by a b k le false false h i = omega arith
    fewer_by a b k le true false h i =
        let lt : k < b = grind (arith, nat_tests) in
        let no : nat_lt k b ≡ true = grind (arith, nat_tests) in
        absurd (cc (no, i))

fewer : (a b : ℕ) (ks : List Known) → a ≤ b → not_below b ks ≤ not_below a ks
fewer a b [] le = omega arith
fewer a b (k ∷ ks) le = let one = fewer_one a b k.id le in let more = fewer a b ks le in omega (arith, one, more)

-- the first of them is gone after it
gone_by : (least : ℕ) (y k : Known) (ys : List Known) (b : Bool) → nat_lt y.id least ≡ b
    → (lowest_from known_id least ys ≡ Some k → (least ≤ k.id) × (not_below (k.id + 1) ys < not_below least ys))
    → cond b (lowest_from known_id least ys) (Some y) ≡ Some k
    → (least ≤ k.id) × (one_if (not (nat_lt y.id (k.id + 1))) + not_below (k.id + 1) ys < one_if (not b) + not_below least ys)
gone_by least y k ys true is more h =
    let m = more h in
    let up = m.0 in
    let lt : nat_lt y.id (k.id + 1) ≡ true = grind (arith, nat_tests) in
    let less = m.1 in
    (up, rw lt (omega (arith, less)))
gone_by least y k ys false is more h =
    let same : y.id ≡ k.id = ap known_id (same_Some y k h) in
    let up : least ≤ k.id = grind (arith, nat_tests) in
    let lt : nat_lt y.id (k.id + 1) ≡ true = grind (arith, nat_tests) in
    let less = fewer least (k.id + 1) ys (omega (arith, up)) in
    (up, rw lt (omega (arith, less)))

gone : (least : ℕ) (ks : List Known) (k : Known) → lowest_from known_id least ks ≡ Some k
    → (least ≤ k.id) × (not_below (k.id + 1) ks < not_below least ks)
gone least [] k h = absurd (cc h)
gone least (y ∷ ys) k h = gone_by least y k ys (nat_lt y.id least) refl (gone least ys k) h

-- (a bound of the parts from one on)
abbrev pub left_from : World → Option Part → ℕ
left_from w None = 0
left_from w (Some part.First) = length w.strangers + length w.subscribers + 3
left_from w (Some (part.Stranger least)) = not_below least w.strangers + length w.subscribers + 2
left_from w (Some (part.Subscriber slot)) = length w.subscribers - slot

module _ (w : World) where
  left_if : (b : Bool) (slot : ℕ) → left_from w (if b then Some (part.Subscriber slot) else None) ≤ length w.subscribers - slot
  left_if true slot = omega arith
  left_if false slot = omega arith

  within : (slot : ℕ) (xs : List SubscriberView) (x : SubscriberView) → slice_get xs slot ≡ Some x → slot < length xs
  within slot [] x h = absurd (cc h)
  within zero (y ∷ xs) x h = omega arith
  within (suc slot) (y ∷ xs) x h = let lt = within slot xs x h in omega (arith, lt)

  stranger_left : (least : ℕ) (o : Option Known) (os : List ℕ) (next : Option Part) → lowest_from known_id least w.strangers ≡ o
      → IsNextStranger w o os next → left_from w next < left_from w (Some (part.Stranger least))
  stranger_left least None os next is h =
      let le = left_if (nat_lt 0 (length w.subscribers)) 0 in
      subst (λ o. left_from w o < left_from w (Some (part.Stranger least))) (sym h.1) (omega (arith, le))
  stranger_left least (Some k) os next is h =
      let lt = (gone least w.strangers k is).1 in
      subst (λ o. left_from w o < left_from w (Some (part.Stranger least))) (sym h.1) (omega (arith, lt))

  subscriber_left : (slot : ℕ) (o : Option SubscriberView) (os : List ℕ) (next : Option Part) → slice_get w.subscribers slot ≡ o
      → IsSubscriberAt w slot o os next → left_from w next < left_from w (Some (part.Subscriber slot))
  subscriber_left slot None os next is h = absurd h
  subscriber_left slot (Some x) os next is h =
      let lt = within slot w.subscribers x is in
      let le = left_if (nat_lt (slot + 1) (length w.subscribers)) (slot + 1) in
      subst (λ o. left_from w o < left_from w (Some (part.Subscriber slot))) (sym h.1) (omega (arith, lt, le))

  pub fewer_left : (p : Part) (os : List ℕ) (next : Option Part) → IsSavedPart w p os next → left_from w next < left_from w (Some p)
  fewer_left part.First os next h =
      let le = few 0 w.strangers in
      subst (λ o. left_from w o < left_from w (Some part.First)) (sym h.1) (omega (arith, le))
  fewer_left (part.Stranger least) os next h = stranger_left least (lowest_from known_id least w.strangers) os next refl h
  fewer_left (part.Subscriber slot) os next h = subscriber_left slot (slice_get w.subscribers slot) os next refl h
