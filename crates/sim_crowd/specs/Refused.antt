-- How far an act or a message came where memory was refused.
use Rattle.std.specs.Prelude.{◌≡◌, ℕ, ◌⊎◌, List, Option, Some, None}
use Rattle.sim_phone.specs.declared.phone.PhoneAct.{PhoneAct}
use Rattle.sim_phone.specs.declared.phone.PhoneAct.TheVariants as acts
use Rattle.enb_sim.specs.Delivering.{PhoneNasView}
use Rattle.trace_words.specs.declared.act.PhoneWord.{PhoneWord}
use Rattle.trace_words.specs.declared.act.PhoneWord.TheVariants.{Detach, Off, Idle, Deaf, Replay, Forge}
use Rattle.trace_words.specs.declared.act.RadioWord.{RadioWord}
use Rattle.trace_words.specs.declared.act.RadioWord.TheVariants.{Attach, Info, Foreign, Service, Tau, Switch}
use Rattle.sim_crowd.specs.declared.crowd.Crowd.{Crowd}
use Rattle.sim_crowd.specs.declared.whereabouts.Connection.{Connection}
use Rattle.sim_crowd.specs.Acting.{with_phone_act}
use Rattle.sim_crowd.specs.Crowds.{arrived, joined}
use Rattle.sim_crowd.specs.Handsets.{in_use, with_heard}
use Rattle.sim_crowd.specs.Hearing.{connection_at, with_octets_at}
use Rattle.sim_crowd.specs.Phones.{changed_handset}
use Rattle.sim_crowd.specs.Stations.{phone_by, told_at}

-- the phone was asked to do something, and did nothing
abbrev pub with_phone_asked : ℕ → Crowd → Crowd
with_phone_asked phone c = record c { phones = changed_handset phone in_use c.phones }

-- ---- acts: before the crowd was c, and now it is d

-- the phone did nothing, or it did this act, of which nothing is sent
abbrev pub StopsSpeaking : ℕ → PhoneAct → Crowd → Crowd → Type 0
StopsSpeaking phone act c d = (d ≡ with_phone_asked phone c) ⊎ (d ≡ with_phone_act phone act c)

-- all is as it was, but that the phone may have the association to which its path was moved
abbrev pub StopsArriving : ℕ → Crowd → Crowd → Type 0
StopsArriving phone c d = (d ≡ c) ⊎ (d ≡ arrived phone c)

-- all is as it was, or the phone has that association and stops as it speaks
abbrev pub StopsGoing : ℕ → PhoneAct → Crowd → Crowd → Type 0
StopsGoing phone act c d = (d ≡ c) ⊎ StopsSpeaking phone act (arrived phone c) d

-- no act is refused where there is no such phone
abbrev pub StopsThere : RadioWord → Option ℕ → Crowd → Crowd → Type 0
StopsThere word None c d = ⊥
StopsThere Attach (Some phone) c d = StopsSpeaking phone acts.Attach c d
StopsThere Info (Some phone) c d = StopsSpeaking phone acts.Info c d
StopsThere Foreign (Some phone) c d = StopsSpeaking phone acts.Foreign c d
StopsThere Service (Some phone) c d = StopsSpeaking phone acts.Service c d
StopsThere Tau (Some phone) c d = StopsGoing phone acts.Tau c d
StopsThere Switch (Some phone) c d = StopsArriving phone c d

-- nor is a phone ever refused to be deaf
abbrev pub StopsActing : PhoneWord → Option ℕ → Crowd → Crowd → Type 0
StopsActing word None c d = ⊥
StopsActing Detach (Some phone) c d = StopsGoing phone acts.Detach c d
StopsActing Off (Some phone) c d = StopsGoing phone acts.Off c d
StopsActing Idle (Some phone) c d = StopsArriving phone c d
StopsActing Deaf (Some phone) c d = ⊥
StopsActing Replay (Some phone) c d = StopsGoing phone acts.Replay c d
StopsActing Forge (Some phone) c d = StopsGoing phone acts.Forge c d

-- ---- messages

-- the phone took nothing, or it took the NAS message, and what it answers isn't sent
abbrev pub StopsHearing : ℕ → List ℕ → Crowd → Crowd → Type 0
StopsHearing phone nas c d =
    (d ≡ with_phone_asked phone c) ⊎ (d ≡ record c { phones = changed_handset phone (with_heard nas) c.phones })

abbrev pub StopsHandingTo : Option ℕ → Connection → List ℕ → Crowd → Crowd → Type 0
StopsHandingTo None k nas c d = ⊥
StopsHandingTo (Some phone) k nas c d = (d ≡ c) ⊎ StopsHearing phone nas (joined phone k c) d

-- nobody took more of it, or the phone has the association on which the message came, and stops as it hears it
abbrev pub StopsReacting : ℕ → Option PhoneNasView → Crowd → Crowd → Type 0
StopsReacting n None c d = d ≡ c
StopsReacting n (Some message) c d =
    StopsHandingTo (phone_by (connection_at n message.pair) c.stations) (connection_at n message.pair) message.nas c d

-- all is as it was, or the station took the octets
abbrev pub StopsDelivering : ℕ → List ℕ → Crowd → Crowd → Type 0
StopsDelivering n os c d = (d ≡ c) ⊎ StopsReacting n (told_at n os c.stations).nas (with_octets_at n os c) d
