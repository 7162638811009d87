-- An answer is one line, and not a long one.
use Rattle.std.specs.Prelude.{◌≡◌, ◌≤◌, ◌<◌, ◌^◌, ℕ, ◌+◌, ◌*◌, true, List, [], ◌∷◌, ◌++◌, length}
use Rattle.nas_elements.specs.Digits.{is_imsi}
use Rattle.mme_answering.specs.declared.out.Owner.{Owner}
use Rattle.mme_answering.specs.declared.out.Owner.TheVariants.{Station, Stranger, Subscriber}
use Rattle.trace_words.specs.Lines.{is_unbroken}
use Rattle.trace_answers.specs.declared.answer.Answer.{Answer}
use Rattle.trace_answers.specs.declared.answer.Answer.TheVariants.{Sent, Refused, State}
use Rattle.trace_answers.specs.Words.{answer_text}

-- a part of a line, of at most this many octets
pub record IsPartWithin (most : ℕ) (text : List ℕ) : Type 0 where
  pub unbroken : is_unbroken text ≡ true
  pub short : length text ≤ most

-- one line of at most this many octets, and the LF that ends it
pub record IsLineWithin (most : ℕ) (text : List ℕ) : Type 0 where
  pub body : List ℕ
  pub ends : text ≡ body ++ 10 ∷ []
  pub unbroken : is_unbroken body ≡ true
  pub short : length body ≤ most

-- how many octets an answer shows
abbrev pub octets_said : Answer → ℕ
octets_said (Sent owner e octets) = length octets.now
octets_said (Refused k) = 0
octets_said (State imsi states) = 0

-- numbers of 8 and of 32 bits
abbrev pub FitsOwner : Owner → Type 0
FitsOwner (Station e) = e < 2 ^ 8
FitsOwner (Stranger id) = id < 2 ^ 32
FitsOwner (Subscriber slot) = slot < 2 ^ 32

-- what the fields of an answer are in a program
abbrev pub FitsAnswer : Answer → Type 0
FitsAnswer (Sent owner e octets) = FitsOwner owner × (e < 2 ^ 8)
FitsAnswer (Refused k) = k < 2 ^ 8
FitsAnswer (State imsi states) = is_imsi imsi ≡ true

-- an answer is one line, longer than its octets in hex by no more than this
abbrev pub AnswersAreLines : Type 0
AnswersAreLines = (answer : Answer) → FitsAnswer answer → IsLineWithin (80 + 2 * octets_said answer) (answer_text answer)
