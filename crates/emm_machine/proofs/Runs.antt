-- Lists whose elements lead from one set into what is left of it.
use Rattle.std.proofs.Common.{List, [], ◌∷◌, ◌++◌, All, AllPairs, arith}
use Rattle.std.proofs.lemmas.List.Elements.{All-nil, All-cons, All-weaker}
use Rattle.std.proofs.lemmas.List.Kept.{AllPairs-cons}

module _ {A : Type 0} (before : A → A → Type 0) where
  -- each is from the set and before all later ones, and what is left of the set is after all of them
  abbrev pub IsRun : (A → Type 0) → (A → Type 0) → List A → Type 0
  IsRun from to [] = (m : A) → to m → from m
  IsRun from to (k ∷ ks) = from k × IsRun (λ m. from m × before k m) to ks

  pub run_onward : (f t : A → Type 0) (ks : List A) → IsRun f t ks → (m : A) → t m → f m
  run_onward f t [] h m q = h m q
  run_onward f t (k ∷ ks) h m q = (run_onward (λ m. f m × before k m) t ks h.1 m q).0

  pub run_narrow : (f t u : A → Type 0) (ks : List A) → IsRun f t ks → ((m : A) → u m → t m) → IsRun f u ks
  run_narrow f t u [] h w = λ m q. h m (w m q)
  run_narrow f t u (k ∷ ks) h w = (h.0, run_narrow (λ m. f m × before k m) t u ks h.1 w)

  run_widen : (f g t : A → Type 0) (ks : List A) → ((m : A) → f m → g m) → IsRun f t ks → IsRun g t ks
  run_widen f g t [] w h = λ m q. w m (h m q)
  run_widen f g t (k ∷ ks) w h =
      (w k h.0, run_widen (λ m. f m × before k m) (λ m. g m × before k m) t ks (λ m q. (w m q.0, q.1)) h.1)

  pub run_append : (f t u : A → Type 0) (ks js : List A) → IsRun f t ks → IsRun t u js → IsRun f u (ks ++ js)
  run_append f t u [] js h g = run_widen t f u js h g
  run_append f t u (k ∷ ks) js h g = (h.0, run_append (λ m. f m × before k m) t u ks js h.1 g)

  pub run_front : (f t : A → Type 0) (ks js : List A) → IsRun f t (ks ++ js) → IsRun f t ks
  run_front f t [] js h = run_onward f t js h
  run_front f t (k ∷ ks) js h = (h.0, run_front (λ m. f m × before k m) t ks js h.1)

  pub run_all : (f t : A → Type 0) (ks : List A) → IsRun f t ks → All f ks
  run_all f t [] h = All-nil f
  run_all f t (k ∷ ks) h =
      All-cons f k ks h.0 (All-weaker (λ m. f m × before k m) f (λ m q. q.0) ks (run_all (λ m. f m × before k m) t ks h.1))

  pub run_pairs : (f t : A → Type 0) (ks : List A) → IsRun f t ks → AllPairs before ks
  run_pairs f t [] h = λ i j d lt within. absurd (omega arith)
  run_pairs f t (k ∷ ks) h =
      let rest = run_all (λ m. f m × before k m) t ks h.1 in
      AllPairs-cons before k ks (All-weaker (λ m. f m × before k m) (before k) (λ m q. q.1) ks rest)
      (run_pairs (λ m. f m × before k m) t ks h.1)
