-- Vectors whose secrets are gone.
use Rattle.std.specs.Prelude.{ℕ, zero, suc, List, [], ◌∷◌, replicate}
use Rattle.identity_slots.specs.declared.profile.Vector.{Vector}

-- a vector without its secrets: RAND and AUTN, which are sent plain, are left
abbrev pub forgotten : Vector → Vector
forgotten v = record v { xres = replicate 16 0; kasme = replicate 32 0 }

-- vectors, the first n of which have no secrets any more
abbrev pub first_forgotten : ℕ → List Vector → List Vector
first_forgotten zero vs = vs
first_forgotten (suc n) [] = []
first_forgotten (suc n) (v ∷ vs) = forgotten v ∷ first_forgotten n vs
