-- After how many grants an id of one slot comes again: its counter goes round at 65,536.
use Rattle.std.specs.Prelude.{◌≡◌, ◌≢◌, ℕ, zero, suc, ◌+◌, ◌==◌, ◌<◌, if◌then◌else◌, List, [], ◌∷◌, Some}
use Rattle.identity_slots.specs.Ids.{counters, id_of_slot, next_counter}
use Rattle.mme_types.specs.Events.{Item}
use Rattle.emm_state.specs.declared.setting.Setting.{Setting}
use Rattle.emm_state.specs.declared.solo.Solo.{Solo}
use Rattle.emm_machine.specs.Steps.{solo_after, solo_step}
use Rattle.emm_machine.specs.Words.{fresh_solo}

-- ---- ids

-- a slot's counter after n grants
abbrev pub counter_after : ℕ → ℕ → ℕ
counter_after zero counter = counter
counter_after (suc n) counter = next_counter (counter_after n counter)

-- of any 65,536 grants in a row no two give one id
abbrev pub IdsAreNew : Type 0
IdsAreNew =
    (slot counter n m : ℕ) → counter < counters → n < m → m < n + 65536
    → id_of_slot slot (counter_after n counter) ≢ id_of_slot slot (counter_after m counter)

-- and the next gives the first of them
abbrev pub IdsComeAgain : Type 0
IdsComeAgain =
    (slot counter n : ℕ) → counter < counters
    → id_of_slot slot (counter_after (n + 65536) counter) ≡ id_of_slot slot (counter_after n counter)

-- ---- M-TMSIs

-- how many M-TMSIs are given over a list of items
abbrev pub tmsis_given : Setting → Solo → List Item → ℕ
tmsis_given s solo [] = 0
tmsis_given s solo (item ∷ items) =
    (if (solo_step s solo item).solo.tmsis == solo.tmsis then 0 else 1) + tmsis_given s (solo_step s solo item).solo items

-- a phone's M-TMSI is the one of as many grants as there were
abbrev pub TmsisAreCounted : Type 0
TmsisAreCounted =
    (s : Setting) (items : List Item) (tmsi : ℕ) → (solo_after s fresh_solo items).tmsi ≡ Some tmsi
    → tmsi ≡ id_of_slot s.slot (counter_after (tmsis_given s fresh_solo items) 0)
