use Rattle.std.proofs.Common.{◌∙◌, ap, inl, inr, refl, sym, true≢false}
use Rattle.mme_core.specs.World.{happens, is_message}
use Rattle.mme_core.proofs.event.Event.state.Goals as goal

pub returns-in-Up : goal.returns-in-Up
unfolding happens
returns-in-Up c = λ s other. rw c.in-Up.is refl

pub returns-in-Lost : goal.returns-in-Lost
unfolding happens
returns-in-Lost c = λ s other. rw c.in-Lost.is refl

pub returns-in-In : goal.returns-in-In
unfolding happens
returns-in-In c = λ s other. elim c.in-In.is [
  | inl said ↦ absurd (true≢false (sym (ap is_message said.2) ∙ other))
  | inr others ↦ elim others [
    | inl tick ↦ rw tick refl
    | inr rest ↦ elim rest [ inl notice ↦ rw notice.1 refl | inr cancelled ↦ rw cancelled.1 refl ]
  ]
]
