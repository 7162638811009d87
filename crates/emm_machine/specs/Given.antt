-- A subscriber who is given one vector more.
use Rattle.std.specs.Prelude.{ℕ, ◌-◌, ◌^◌, ◌||◌, List, ◌++◌, ◌∷◌, [], Bool, length, nat_le}
use Rattle.identity_slots.specs.declared.profile.Vector.{Vector}
use Rattle.emm_state.specs.declared.setting.Setting.{Setting}
use Rattle.emm_state.specs.Taking.{vectors_spent}
use Rattle.emm_machine.specs.SubscriberView.{SubscriberView}

-- with other vectors
abbrev pub having : List Vector → Setting → Setting
having vs s = record { network = s.network; slot = s.slot; profile = s.profile; vectors = vs }

-- one vector more, at the end
abbrev pub giving : Vector → Setting → Setting
giving v s = having (s.vectors ++ v ∷ []) s

abbrev pub with_given : Vector → SubscriberView → SubscriberView
with_given v w = record { setting = giving v w.setting; solo = w.solo }

-- how many aren't spent: that of a challenge which is out isn't
abbrev pub unspent : SubscriberView → ℕ
unspent w = length w.setting.vectors - vectors_spent w.solo

-- no more are taken: 64 aren't spent, or 2^62 were given
abbrev pub is_stocked : SubscriberView → Bool
is_stocked w = nat_le 64 (unspent w) || nat_le (2 ^ 62) (length w.setting.vectors)
