-- A piece of a text and what is after its front.
use Rattle.std.proofs.Common.{◌≡◌, ℕ, ◌-◌, List, ◌++◌, length, take, drop, ap, ◌∙◌, arith}
use Rattle.std.specs.Prelude.{slice_range}
use Rattle.std.proofs.lemmas.List.{take_all, take-append-drop, length-drop}

-- a front and what is after it
pub rest_follows : (count : ℕ) (rest : List ℕ) → take count rest ++ slice_range rest count (length rest) ≡ rest
rest_follows count rest =
    ap (λ v. take count rest ++ v) (take_all (length rest - count) (drop count rest) (omega (arith, length-drop count rest)))
    ∙ take-append-drop count rest
