-- Access point names.
use Rattle.std.specs.Prelude.{◌≡◌, ◌≤◌, ◌||◌, ◌==◌, ℕ, Bool, true, List, length}
use Rattle.std.specs.List.{All}
use Rattle.std.specs.Char.{is_ascii_alphanumeric}

-- a letter, a digit or a hyphen
abbrev pub is_label_octet : ℕ → Bool
is_label_octet c = is_ascii_alphanumeric c || (c == 45)

-- a label of 1 to 63 of these (TS 23.003 clause 9.1)
abbrev pub IsLabel : List ℕ → Type 0
IsLabel xs = (1 ≤ length xs) × (length xs ≤ 63) × All (λ c. is_label_octet c ≡ true) xs
