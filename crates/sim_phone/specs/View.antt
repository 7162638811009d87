-- A phone, and what becomes of it.
use Rattle.std.specs.Prelude.{ℕ, Bool, true, false, is_some, if◌then◌else◌, List, [], ◌∷◌, Option, Some, None}
use Rattle.std.specs.Int.{w32, to_be_bytes}
use Rattle.nas_elements.specs.declared.identity.Guti.{Guti}
use Rattle.nas_elements.specs.declared.identity.MobileIdentity.TheVariants as identity
use Rattle.nas_elements.specs.Identities.{first_of}
use Rattle.nas_messages.specs.Protection.{split}
use Rattle.s1ap_elements.specs.declared.phone.STmsi.{STmsi}
use Rattle.identity_slots.specs.declared.profile.Vector.{Vector}
use Rattle.sim_phone.specs.declared.phone.PhoneAct.{PhoneAct}
use Rattle.sim_phone.specs.declared.phone.PhoneAct.TheVariants.{Attach, Info, Foreign, Service, Tau, Detach, Off, Replay, Forge}
use Rattle.sim_phone.specs.declared.registration.Registration.{Registration}
use Rattle.sim_phone.specs.Messages.{foreign_guti, unregistered}
use Rattle.sim_phone.specs.Protecting.{Spoken, forged, leaving}
use Rattle.sim_phone.specs.Answering.{Card, phone_answer}
use Rattle.sim_phone.specs.Asking.{attach_saying, detach_saying, service_saying, update_saying}

pub record PhoneView : Type 0 where
  pub imsi : List ℕ
  pub vectors : List Vector
  pub deaf : Bool  -- whether it answers nothing
  pub registration : Registration
  pub sent : Option (List ℕ)  -- its last message in the protected form

abbrev pub card_of : PhoneView → Card
card_of p = record { imsi = p.imsi; vectors = p.vectors }

-- octets in the protected form
abbrev pub kept_form : Option (List ℕ) → Option (List ℕ)
kept_form None = None
kept_form (Some os) = if is_some (split os) then Some os else None

-- a phone that has spoken
abbrev pub after_saying : Spoken → PhoneView → PhoneView
after_saying s p = record p { registration = s.registration; sent = first_of (kept_form s.octets) p.sent }

-- what a phone says, and what it is then
pub record Move : Type 0 where
  pub octets : Option (List ℕ)
  pub phone : PhoneView

-- nothing is said, and nothing changes
abbrev pub unmoved : PhoneView → Move
unmoved p = record { octets = None; phone = p }

abbrev pub saying_of : Spoken → PhoneView → Move
saying_of s p = record { octets = s.octets; phone = after_saying s p }

-- what a phone says by an act, and what it is then; an act by which there is nothing to say can't be done, and leaves the phone
abbrev pub doing : Spoken → PhoneView → Move
doing s p = if is_some s.octets then saying_of s p else unmoved p

-- a lie changes nothing: it is no protected message of the phone's own
abbrev pub lie_of : Option (List ℕ) → PhoneView → Move
lie_of octets p = record { octets = octets; phone = p }

-- an act
unfoldable pub acted : PhoneAct → PhoneView → Move
acted Attach p = doing (attach_saying (identity.Imsi p.imsi) false) p
acted Info p = doing (attach_saying (identity.Imsi p.imsi) true) p
acted Foreign p = doing (attach_saying (identity.Temporary foreign_guti) false) p
acted Service p = doing (service_saying p.registration) p
acted Tau p = doing (update_saying p.registration) p
acted Detach p = doing (detach_saying p.imsi p.registration false) p
acted Off p = doing (leaving (detach_saying p.imsi p.registration true)) p
acted Replay p = lie_of p.sent p
acted Forge p = lie_of (forged p.sent) p

-- NAS octets of the network
unfoldable pub hearing : List ℕ → PhoneView → Move
hearing os p = if p.deaf then unmoved p else saying_of (phone_answer (card_of p) p.registration os) p

-- the S-TMSI that a GUTI is longer by its network and its group than (TS 23.003 clause 2.9)
abbrev pub short_identity : Guti → STmsi
short_identity g = record { code = g.code ∷ []; m_tmsi = to_be_bytes w32 g.tmsi }

abbrev pub new_phone : List ℕ → List Vector → PhoneView
new_phone imsi vectors = record { imsi = imsi; vectors = vectors; deaf = false; registration = unregistered; sent = None }
