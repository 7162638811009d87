-- Octets that a writer got and a reader gave, one call after another: laws of the octets that std tells.
use Rattle.std.proofs.Common.{◌≡◌, ℕ, ◌+◌, ◌-◌, ◌≤◌, List, [], ◌++◌, take, drop, length, Option, Some, None, refl, sym, ap, ◌∙◌, append_assoc, arith}
use Rattle.std.specs.Io.KnownBytes.{Appends, Consumes, Keeps}
use Rattle.std.proofs.lemmas.Grind.{common_steps}
use Rattle.std.proofs.lemmas.List.{drop-take, take-append-drop}

pub Appends-nil : (a : Option (List ℕ)) → Appends a a []
Appends-nil None = tt
Appends-nil (Some xs) = grind (arith, common_steps)

pub Appends-keeps : (a b : Option (List ℕ)) → Keeps a b → Appends a b []
Appends-keeps None b k = tt
Appends-keeps (Some xs) None k = absurd k
Appends-keeps (Some xs) (Some ys) k = grind (arith, common_steps, k)

pub Appends-then : (a b c : Option (List ℕ)) (x y : List ℕ) → Appends a b x → Appends b c y → Appends a c (x ++ y)
Appends-then None b c x y p q = tt
Appends-then (Some us) None c x y p q = absurd p
Appends-then (Some us) (Some vs) None x y p q = absurd q
Appends-then (Some us) (Some vs) (Some ws) x y p q = q ∙ ap (λ v. v ++ y) p ∙ append_assoc us x y

pub Appends-same : (a b : Option (List ℕ)) (x y : List ℕ) → x ≡ y → Appends a b x → Appends a b y
Appends-same a b x y e p = rw (← e) p

pub Consumes-nil : (a : Option (List ℕ)) → Consumes a a []
Consumes-nil None = tt
Consumes-nil (Some xs) = refl

pub Consumes-keeps : (a b : Option (List ℕ)) → Keeps a b → Consumes a b []
Consumes-keeps None b k = tt
Consumes-keeps (Some xs) None k = absurd k
Consumes-keeps (Some xs) (Some ys) k = sym k

pub Consumes-then : (a b c : Option (List ℕ)) (x y : List ℕ) → Consumes a b x → Consumes b c y → Consumes a c (x ++ y)
Consumes-then None b c x y p q = tt
Consumes-then (Some us) None c x y p q = absurd p
Consumes-then (Some us) (Some vs) None x y p q = absurd q
Consumes-then (Some us) (Some vs) (Some ws) x y p q = p ∙ ap (λ v. x ++ v) q ∙ sym (append_assoc x y ws)

pub take_then_take : (n m : ℕ) (xs : List ℕ) → n ≤ length xs → take n xs ++ take m (drop n xs) ≡ take (n + m) xs
take_then_take n m xs h =
    let front : take n (take (n + m) xs) ≡ take n xs = grind (arith, common_steps) in
    ap (λ v. v ++ take m (drop n xs)) (sym front) ∙ ap (λ v. take n (take (n + m) xs) ++ v) (sym (drop-take n m xs))
    ∙ take-append-drop n (take (n + m) xs)

pub take_rest : (at : ℕ) (xs : List ℕ) → take (length xs - at) (drop at xs) ≡ drop at xs
take_rest at xs = grind (arith, common_steps)

pub Consumes-same : (a b : Option (List ℕ)) (x y : List ℕ) → x ≡ y → Consumes a b x → Consumes a b y
Consumes-same a b x y e p = rw (← e) p

pub Keeps-same : (a : Option (List ℕ)) → Keeps a a
Keeps-same None = tt
Keeps-same (Some xs) = refl
