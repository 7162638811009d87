-- Which radio keys an MME hands out for a subscriber over a list of acts.
use Rattle.std.specs.Prelude.{ℕ, List, [], ◌∷◌, ◌++◌, slice_get}
use Rattle.identity_slots.specs.Provisioned.{Provisioned}
use Rattle.mme_core.specs.declared.config.Config.{Config}
use Rattle.mme_core.specs.Projection.{is_slot, told_in}
use Rattle.mme_core.specs.World.{World, fresh_world}
use Rattle.laws_mme.specs.Acts.{Act, act_after, act_reply, acts_run}
use Rattle.laws_mme.specs.GuardedActs.{vectors_in}
use Rattle.laws_mme.specs.Handed.{AreFresh, Handing}
use Rattle.laws_mme.specs.KeysOfMme.{connection_of, handed_told}

-- the messages with a radio key that a slot is told, each with the connection of the slot's phone after its act
abbrev pub handed_over : ℕ → World → List Act → List Handing
handed_over slot w [] = []
handed_over slot w (act ∷ acts) =
    handed_told (connection_of (slice_get (act_after w act).subscribers slot)) (told_in (is_slot slot) (act_reply w act))
    ++ handed_over slot (act_after w act) acts

-- over every list of acts from the beginning of an MME on, whoever is added and whatever is given meanwhile: the keys are of the
-- vectors that the slot has in the end, and each is before all later ones
abbrev pub ActsHandOutFreshKeys : Type 0
ActsHandOutFreshKeys =
    (config : Config) (p : Provisioned) (acts : List Act) (slot : ℕ)
    → AreFresh (vectors_in (slice_get (acts_run (fresh_world config p) acts).subscribers slot))
    (handed_over slot (fresh_world config p) acts)
