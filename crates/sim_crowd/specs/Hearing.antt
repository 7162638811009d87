-- What comes of the MME's messages.
use Rattle.std.specs.Prelude.{ℕ, ◌++◌, is_some, if◌then◌else◌, List, [], ◌∷◌, Option, Some, None, Result, Ok}
use Rattle.s1ap_elements.specs.declared.phone.UeIdPair.{UeIdPair}
use Rattle.s1ap_rows.specs.declared.fault.S1apFault.{S1apFault}
use Rattle.s1ap_pdus.specs.declared.pdu.Pdu.{Pdu}
use Rattle.s1ap_pdus.specs.declared.pdu.Pdu.TheVariants.{InitialContextSetupRequest, PathSwitchRequestAcknowledge}
use Rattle.s1ap_pdus.specs.Pdus.{decoded}
use Rattle.enb_sim.specs.Delivering.{PhoneNasView, pair_with}
use Rattle.sim_crowd.specs.declared.crowd.Crowd.{Crowd}
use Rattle.sim_crowd.specs.declared.whereabouts.Connection.{Connection}
use Rattle.sim_crowd.specs.Acting.{sent_on}
use Rattle.sim_crowd.specs.Crowds.{joined}
use Rattle.sim_crowd.specs.Handsets.{with_heard}
use Rattle.sim_crowd.specs.Phones.{answer_of, changed_handset}
use Rattle.sim_crowd.specs.Sites.{hearing_site}
use Rattle.sim_crowd.specs.Stations.{Told, changed_site, phone_by, site_of, told_at, uplink_by}
use Rattle.sim_crowd.specs.Uplinks.{UplinkView}

-- the message that is sent then, if one is, and the crowd after it
pub record Reaction : Type 0 where
  pub sent : Option UplinkView
  pub crowd : Crowd

abbrev pub reaction : Option UplinkView → Crowd → Reaction
reaction sent c = record { sent = sent; crowd = c }

-- nobody says anything to it
abbrev pub no_reaction : Crowd → Reaction
no_reaction c = reaction None c

abbrev pub connection_at : ℕ → UeIdPair → Connection
connection_at n pair = record { station = n; pair = pair }

-- ---- a NAS message is for the phone of its association, which has that association from now on

abbrev pub replying : Connection → Option (List ℕ) → Crowd → Reaction
replying k None c = no_reaction c
replying k (Some nas) c = reaction (sent_on k nas c) c

abbrev pub hearing_on : ℕ → Connection → List ℕ → Crowd → Reaction
hearing_on phone k nas c =
    replying k (answer_of phone nas c.phones) (record c { phones = changed_handset phone (with_heard nas) c.phones })

abbrev pub handing_by : Option ℕ → Connection → List ℕ → Crowd → Reaction
handing_by None k nas c = no_reaction c
handing_by (Some phone) k nas c = hearing_on phone k nas (joined phone k c)

-- a NAS message on an association is for the phone that the station knows by it
abbrev pub handing : Connection → List ℕ → Crowd → Reaction
handing k nas c = handing_by (phone_by k c.stations) k nas c

-- ---- a message without NAS may give a phone an association, too: a context, or a path that was moved

abbrev pub given_pair : Result (Pdu (List ℕ)) S1apFault → Option UeIdPair
given_pair (Ok (InitialContextSetupRequest m)) = Some (pair_with m.mme_ue_id m.enb_ue_id)
given_pair (Ok (PathSwitchRequestAcknowledge m)) = Some (pair_with m.mme_ue_id m.enb_ue_id)
given_pair _ = None

abbrev pub noticed_by : Option ℕ → Connection → Crowd → Crowd
noticed_by None k c = c
noticed_by (Some phone) k c = joined phone k c

abbrev pub noticed_at : ℕ → Option UeIdPair → Crowd → Crowd
noticed_at n None c = c
noticed_at n (Some pair) c = noticed_by (phone_by (connection_at n pair) c.stations) (connection_at n pair) c

-- a phone whose context is set up, or whose path was moved, has that association
abbrev pub noticed : ℕ → List ℕ → Crowd → Crowd
noticed n os c = noticed_at n (given_pair (decoded os)) c

-- ---- the MME's octets at a station

-- what the phone says to it: the NAS message that the station hands over, if it does
abbrev pub reacting : ℕ → List ℕ → Option PhoneNasView → Crowd → Reaction
reacting n os None c = no_reaction (noticed n os c)
reacting n os (Some message) c = handing (connection_at n message.pair) message.nas c

-- the station took them
abbrev pub with_octets_at : ℕ → List ℕ → Crowd → Crowd
with_octets_at n os c = record c { stations = changed_site n (hearing_site os) c.stations }

-- what is sent then, in order, and the crowd after it
pub record Delivered : Type 0 where
  pub sent : List UplinkView
  pub crowd : Crowd

abbrev pub one_if : Option UplinkView → List UplinkView
one_if None = []
one_if (Some u) = u ∷ []

abbrev pub answered : Option UplinkView → Option UplinkView → Crowd → Delivered
answered of_station of_phone c = record { sent = one_if of_station ++ one_if of_phone; crowd = c }

abbrev pub delivered_with : ℕ → Told → Reaction → Delivered
delivered_with n told r = answered (uplink_by n told.octets) r.sent r.crowd

-- the station's answer first, and then the phone's
abbrev pub delivering_there : ℕ → List ℕ → Crowd → Delivered
delivering_there n os c =
    delivered_with n (told_at n os c.stations) (reacting n os (told_at n os c.stations).nas (with_octets_at n os c))

-- what station and phone answer to octets of the MME, and the crowd then; nothing where there is no such station
abbrev pub delivering : ℕ → List ℕ → Crowd → Delivered
delivering n os c = if is_some (site_of n c.stations) then delivering_there n os c else record { sent = []; crowd = c }
