-- Freshness over whole runs: the NAS COUNTs that messages are sent and accepted under, each with the place of its vector, and
-- the vectors that become contexts (TS 24.301 clause 4.4.3, TS 33.401 clause 6.5).
use Rattle.std.specs.Prelude.{◌≡◌, ℕ, ◌<◌, ◌≤◌, ◌==◌, ◌⊎◌, ◌&&◌, Bool, not, nat_lt, if◌then◌else◌, List, [], ◌∷◌, ◌++◌, All, AllPairs, flat_map, Option, Some, None, option_to_list}
use Rattle.std.specs.List.{list_any}
use Rattle.nas_security.specs.Counts.{first_after}
use Rattle.mme_types.specs.declared.octets.Answer.{Answer}
use Rattle.mme_types.specs.declared.octets.Mark.{Mark}
use Rattle.mme_types.specs.Events.{Item}
use Rattle.emm_state.specs.declared.setting.Setting.{Setting}
use Rattle.emm_state.specs.declared.solo.Context.{Context}
use Rattle.emm_state.specs.declared.solo.Phase.{Phase}
use Rattle.emm_state.specs.declared.solo.Phase.TheVariants.{Authenticating}
use Rattle.emm_state.specs.declared.solo.Solo.{Solo}
use Rattle.emm_state.specs.Taking.{IsOnward}
pub use Rattle.emm_state.specs.Taking.{next_place}
use Rattle.emm_machine.specs.Steps.{solo_after, solo_answers, solo_step}

-- ---- runs

-- what messages are sent under, in order
abbrev pub marks_of : List Answer → List Mark
marks_of answers = flat_map (λ a. option_to_list a.under) answers

-- what is sent under over a list of items
abbrev pub sent_marks : Setting → Solo → List Item → List Mark
sent_marks s solo items = flat_map marks_of (solo_answers s solo items)

-- what is accepted under over a list of items
abbrev pub accepted_marks : Setting → Solo → List Item → List Mark
accepted_marks s solo [] = []
accepted_marks s solo (item ∷ items) =
    option_to_list (solo_step s solo item).accepted ++ accepted_marks s (solo_step s solo item).solo items

-- a message is sent under a count of the context that was spent before: its vector was made a context once more
abbrev pub counts_anew : Context → List Mark → Bool
counts_anew x marks = list_any (λ m. (m.place == x.place) && nat_lt m.count x.security.down_next) marks

-- the place of the context that a step makes, whose messages are sent under these: one that wasn't there before, or that counts
-- anew
abbrev pub place_made : Option Context → Option Context → List Mark → List ℕ
place_made before None marks = []
place_made None (Some y) marks = y.place ∷ []
place_made (Some x) (Some y) marks = if (x.place == y.place) && not (counts_anew x marks) then [] else y.place ∷ []

-- the places of the vectors that become contexts over a list of items
abbrev pub places_made : Setting → Solo → List Item → List ℕ
places_made s solo [] = []
places_made s solo (item ∷ items) =
    place_made solo.context (solo_step s solo item).solo.context (marks_of (solo_step s solo item).sent)
    ++ places_made s (solo_step s solo item).solo items

-- ---- what lies ahead of a state

-- the context's next downlink count
abbrev pub next_down : Context → ℕ
next_down x = x.security.down_next

-- the least uplink count above the last that the context accepted
abbrev pub next_up : Context → ℕ
next_up x = first_after x.security.up_last

-- a pair of the context, with its next count or a later one
abbrev pub IsOfContext : (Context → ℕ) → Option Context → Mark → Type 0
IsOfContext next None m = ⊥
IsOfContext next (Some x) m = (m.place ≡ x.place) × (next x ≤ m.count)

-- a pair that may yet come: one of the context, or of a vector that may yet become a context
abbrev pub IsAhead : (Context → ℕ) → Solo → Mark → Type 0
IsAhead next solo m = IsOfContext next solo.context m ⊎ (next_place solo.phase solo.next_vector ≤ m.place)

-- earlier by the vector's place, and of one vector by the count
abbrev pub IsBefore : Mark → Mark → Type 0
IsBefore k m = (k.place < m.place) ⊎ ((k.place ≡ m.place) × (k.count < m.count))

-- ---- states in use

-- the context's vector is none that may yet become a context
abbrev pub IsBelow : Option Context → ℕ → Type 0
IsBelow None place = Unit {0}
IsBelow (Some x) place = x.place < place

-- while a challenge is out, a vector was taken
abbrev pub HasVector : Phase → ℕ → Type 0
HasVector Authenticating next = 0 < next
HasVector _ next = Unit {0}

-- both
abbrev pub IsInUse : Solo → Type 0
IsInUse solo = IsBelow solo.context (next_place solo.phase solo.next_vector) × HasVector solo.phase solo.next_vector

-- ---- the laws

-- a state in use stays so over every run
abbrev pub StaysInUse : Type 0
StaysInUse = (s : Setting) (solo : Solo) (items : List Item) → IsInUse solo → IsInUse (solo_after s solo items)

-- from any state no step leaves one that asks for a vector that was spent
abbrev pub GoesOnward : Type 0
GoesOnward = (s : Setting) (solo : Solo) (item : Item) → IsOnward solo (solo_step s solo item).solo

-- every pair that is sent under lies ahead of the start
abbrev pub SendsAhead : Type 0
SendsAhead = (s : Setting) (solo : Solo) (items : List Item) → IsInUse solo → All (IsAhead next_down solo) (sent_marks s solo items)

-- and every pair that is accepted under
abbrev pub AcceptsAhead : Type 0
AcceptsAhead =
    (s : Setting) (solo : Solo) (items : List Item) → IsInUse solo → All (IsAhead next_up solo) (accepted_marks s solo items)

-- each pair that is sent under is before all later ones, so none is sent under twice
abbrev pub SendsOnce : Type 0
SendsOnce = (s : Setting) (solo : Solo) (items : List Item) → IsInUse solo → AllPairs IsBefore (sent_marks s solo items)

-- and each that is accepted under
abbrev pub AcceptsOnce : Type 0
AcceptsOnce = (s : Setting) (solo : Solo) (items : List Item) → IsInUse solo → AllPairs IsBefore (accepted_marks s solo items)

-- the vectors that become contexts may yet do so at the start
abbrev pub MakesAhead : Type 0
MakesAhead = (s : Setting) (solo : Solo) (items : List Item) → IsInUse solo
    → All (λ place. next_place solo.phase solo.next_vector ≤ place) (places_made s solo items)

-- and each place is below all later ones, so no vector becomes a context twice
abbrev pub MakesOnce : Type 0
MakesOnce = (s : Setting) (solo : Solo) (items : List Item) → IsInUse solo → AllPairs ◌<◌ (places_made s solo items)
