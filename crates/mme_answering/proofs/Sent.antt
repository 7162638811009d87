-- Messages of which the first were sent.
use Rattle.std.proofs.Common.{◌≡◌, ◌++◌, ◌∷◌, List, [], drop, Some, refl, sym, ◌∙◌, ap}
use Rattle.std.proofs.lemmas.List.{append-nil, append_assoc}
use Rattle.std.specs.Prelude.{slice_get}
use Rattle.mme_types.specs.declared.octets.Answer.{Answer}
use Rattle.mme_answering.specs.declared.out.Out.{Out}
use Rattle.mme_answering.specs.Sending.{SendsSome}

-- none of them
pub sends_none : (all before : List Out) → SendsSome all before before
sends_none all before = ([], all, refl, sym (append-nil before))

pub sends_still : (all before after : List Out) → after ≡ before → SendsSome all before after
sends_still all before after still = ([], all, refl, still ∙ sym (append-nil before))

-- of the same messages
pub sends_same : (all other before after : List Out) → all ≡ other → SendsSome all before after → SendsSome other before after
sends_same all other before after same h = (h.0, h.1, sym same ∙ h.2, h.3)

-- of messages that come first
pub sends_of_first : (first left before after : List Out) → SendsSome first before after → SendsSome (first ++ left) before after
sends_of_first first left before after h = (
  h.0,
  h.1 ++ left,
  ap (λ os. os ++ left) h.2 ∙ append_assoc h.0 h.1 left,
  h.3,
)

-- after messages that were all sent
pub sends_after : (first left before mid after : List Out) → mid ≡ before ++ first → SendsSome left mid after
    → SendsSome (first ++ left) before after
sends_after first left before mid after all h = (
  first ++ h.0,
  h.1,
  ap (λ os. first ++ os) h.2 ∙ sym (append_assoc first h.0 h.1),
  h.3 ∙ ap (λ os. os ++ h.0) all ∙ append_assoc before first h.0,
)

-- ---- a loop

-- all were sent but the last
abbrev pub SentBut : List Out → List Out → List Out → List Out → Type 0
SentBut left all before after = (sent : List Out) × (all ≡ sent ++ left) × (after ≡ before ++ sent)

pub none_yet : (all before : List Out) → SentBut all all before before
none_yet all before = ([], refl, sym (append-nil before))

pub sends_but : (left all before after : List Out) → SentBut left all before after → SendsSome all before after
sends_but left all before after h = (h.0, left, h.1, h.2)

pub more_sent : (part left all before mid after : List Out) → SentBut (part ++ left) all before mid → after ≡ mid ++ part
    → SentBut left all before after
more_sent part left all before mid after h more = (
  h.0 ++ part,
  h.1 ∙ sym (append_assoc h.0 part left),
  more ∙ ap (λ os. os ++ part) h.2 ∙ append_assoc before h.0 part,
)

pub some_sent : (part left all before mid after : List Out) → SentBut (part ++ left) all before mid → SendsSome part mid after
    → SendsSome all before after
some_sent part left all before mid after h some = (
  h.0 ++ some.0,
  some.1 ++ left,
  h.1 ∙ ap (λ os. h.0 ++ (os ++ left)) some.2 ∙ ap (λ os. h.0 ++ os) (append_assoc some.0 some.1 left)
      ∙ sym (append_assoc h.0 some.0 (some.1 ++ left)),
  some.3 ∙ ap (λ os. os ++ some.0) h.2 ∙ append_assoc before h.0 some.0,
)

-- ---- the first of some answers

pub first_of : (answers : List Answer) (x : Answer) → slice_get answers 0 ≡ Some x → answers ≡ x ∷ drop 1 answers
first_of [] x is = absurd (cc is)
first_of (y ∷ ys) x is = cc is
