-- What is remembered of an MME: all but the vectors that are spent, of which nothing is left but KASME, where a context stands on one.
use Rattle.std.specs.Prelude.{ℕ, zero, suc, List, [], ◌∷◌, map, replicate, Option, Some, None}
use Rattle.identity_slots.specs.declared.profile.Vector.{Vector}
use Rattle.emm_state.specs.declared.setting.Setting.{Setting}
use Rattle.emm_state.specs.declared.solo.Context.{Context}
use Rattle.emm_state.specs.declared.solo.Solo.{Solo}
use Rattle.emm_state.specs.Taking.{vectors_spent}
use Rattle.emm_machine.specs.Given.{having}
use Rattle.emm_machine.specs.SubscriberView.{SubscriberView}
use Rattle.mme_core.specs.World.{World}

-- what stands for a vector that is spent
abbrev pub husk : List ℕ → Vector
husk kasme = record { rand = replicate 16 0; autn = replicate 16 0; xres = replicate 16 0; kasme = kasme }

-- KASME of the context, zeros where there is none
abbrev pub kasme_in : Option Context → List ℕ
kasme_in None = replicate 32 0
kasme_in (Some x) = x.kasme

-- a list, the first k of which are this one
abbrev pub husked : Vector → ℕ → List Vector → List Vector
husked h zero vs = vs
husked h (suc k) [] = []
husked h (suc k) (v ∷ vs) = h ∷ husked h k vs

-- the vectors of a subscriber in a state
abbrev pub remembered_vectors : Solo → List Vector → List Vector
remembered_vectors solo vs = husked (husk (kasme_in solo.context)) (vectors_spent solo) vs

abbrev pub remembered_setting : Solo → Setting → Setting
remembered_setting solo s = having (remembered_vectors solo s.vectors) s

abbrev pub remembered_view : SubscriberView → SubscriberView
remembered_view x = record { setting = remembered_setting x.solo x.setting; solo = x.solo }

abbrev pub remembered : World → World
remembered w = record { sight = w.sight; strangers = w.strangers; subscribers = map remembered_view w.subscribers }
