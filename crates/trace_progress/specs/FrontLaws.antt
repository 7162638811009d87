-- The front of a text: laws of `IsPrefix`.
use Rattle.std.proofs.Common.{◌≡◌, ℕ, List, [], ◌++◌, length, take, drop, refl, sym, ap, ◌∙◌, append_assoc, append-nil}
use Rattle.std.proofs.lemmas.List.{take_at, take-append-drop}
use Rattle.trace_progress.specs.Acts.{IsPrefix}

pub IsPrefix-take : (n : ℕ) (front all : List ℕ) → IsPrefix front all → IsPrefix (take n front) all
IsPrefix-take n front all p = (
  drop n front ++ p.0,
  p.1 ∙ ap (λ v. v ++ p.0) (sym (take-append-drop n front))
      ∙ append_assoc (take n front) (drop n front) p.0,
)

pub IsPrefix-nil : (all : List ℕ) → IsPrefix [] all
IsPrefix-nil all = (all, refl)

pub IsPrefix-all : (all : List ℕ) → IsPrefix all all
IsPrefix-all all = ([], sym (append-nil all))

pub IsPrefix-of : (front all same : List ℕ) → all ≡ same → IsPrefix front all → IsPrefix front same
IsPrefix-of front all same e h = (h.0, sym e ∙ h.1)

pub IsPrefix-after : (before front all : List ℕ) → IsPrefix front all → IsPrefix (before ++ front) (before ++ all)
IsPrefix-after before front all p = (p.0, ap (λ v. before ++ v) p.1 ∙ sym (append_assoc before front p.0))

pub IsPrefix-more : (front all more : List ℕ) → IsPrefix front all → IsPrefix front (all ++ more)
IsPrefix-more front all more p = (p.0 ++ more, ap (λ v. v ++ more) p.1 ∙ append_assoc front p.0 more)

pub IsPrefix-then : (s t u : List ℕ) → IsPrefix s t → IsPrefix t u → IsPrefix s u
IsPrefix-then s t u p q = (p.0 ++ q.0, q.1 ∙ ap (λ v. v ++ q.0) p.1 ∙ append_assoc s p.0 q.0)

-- a text that is cut back to its old length is what it was
pub IsPrefix-cut : (before all after : List ℕ) (n : ℕ) → IsPrefix before all → n ≡ length before → after ≡ take n all
    → after ≡ before
IsPrefix-cut before all after n h e is = is ∙ ap (take n) h.1 ∙ take_at before h.0 n (sym e)
