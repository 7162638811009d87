-- What a RESET makes of a station (TS 36.413 clause 8.7.1).
use Rattle.std.specs.Prelude.{ℕ, List, Option, Some, None, map}
use Rattle.s1ap_elements.specs.Resets.{AssociationReset}
use Rattle.s1ap_elements.specs.declared.reset.ResetType.{ResetType}
use Rattle.s1ap_elements.specs.declared.reset.ResetType.TheVariants.{All, Part}
use Rattle.s1ap_pdus.specs.declared.pdu.Pdu.{Pdu}
use Rattle.s1ap_pdus.specs.declared.pdu.Pdu.TheVariants as pdu
use Rattle.mme_types.specs.declared.stations.StationState.{StationState}
use Rattle.mme_types.specs.declared.stations.StationState.TheVariants.{Down, Up, Ready}
use Rattle.mme_types.specs.Listed.{ToReset}
use Rattle.stranger_machine.specs.declared.turn.Notice.TheVariants.{Listed as ListedTo}
use Rattle.stranger_machine.specs.Turns.{sent_to}
use Rattle.mme_routing.specs.Destinations.{Everyone}
use Rattle.mme_routing.specs.Outcome.{Outcome, begins_anew, not_compatible}

-- ---- RESET ACKNOWLEDGE (TS 36.413 clause 9.1.8.2)

-- with the items that a RESET had
abbrev pub acknowledged : Option (List AssociationReset) → Pdu (List ℕ)
acknowledged items = pdu.ResetAcknowledge (record { associations = items })

abbrev pub whole_acknowledge : Pdu (List ℕ)
whole_acknowledge = acknowledged None

-- each item as it was received, in order
abbrev pub items_reset : ToReset → List AssociationReset
items_reset items = map (λ i. record { value = i.value }) items

abbrev pub part_acknowledge : ToReset → Pdu (List ℕ)
part_acknowledge items = acknowledged (Some (items_reset items))

-- ---- what a RESET makes of a station

-- the associations of a list end
abbrev pub ends_listed : ℕ → ToReset → Outcome
ends_listed e items = record { state = None; sent = sent_to e (part_acknowledge items); destination = Everyone (ListedTo e items) }

-- of a station that is set up: the whole interface, or a part of it
abbrev pub set_back : ℕ → ResetType → Outcome
set_back e (All _) = begins_anew e None (sent_to e whole_acknowledge)
set_back e (Part items) = ends_listed e items

abbrev pub reset : ℕ → StationState → ResetType → Outcome
reset e Down reset_type = not_compatible e
reset e Up reset_type = not_compatible e
reset e (Ready tas) reset_type = set_back e reset_type
