-- The messages that a step sends. A message without a written form isn't sent.
use Rattle.std.specs.Prelude.{ℕ, List, [], ◌∷◌, Option, Some, None}
use Rattle.mme_types.specs.declared.octets.Answer.{Answer}
use Rattle.mme_types.specs.declared.octets.Mark.{Mark}

-- the message to a station, under a vector's place and a count where its NAS message is protected
abbrev pub answer_of : ℕ → Option Mark → Option (List ℕ) → List Answer
answer_of station under None = []
answer_of station under (Some octets) = record { station = station; octets = octets; under = under } ∷ []
