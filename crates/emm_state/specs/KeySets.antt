-- The key set identifiers that vectors have (TS 24.301 clause 9.9.3.21).
use Rattle.std.specs.Prelude.{ℕ, ◌%◌}
use Rattle.nas_elements.specs.Codes.{no_key_set}

-- of the vector at a place: those of keys go round
abbrev pub ksi_of : ℕ → ℕ
ksi_of place = place % no_key_set
