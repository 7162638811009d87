-- The ranges of what a phone's messages are built of. A definition's numbers are any and its strings of any length; in the code
-- these hold by the types, and of what a phone keeps by how it came about.
use Rattle.std.specs.Prelude.{◌≡◌, ℕ, ◌^◌, ◌<◌, ◌≤◌, true, List, length, slice_get, Option, Some, None}
use Rattle.per_streams.specs.Octet.{AreBytes, all_below}
use Rattle.nas_elements.specs.declared.identity.Guti.{Guti}
use Rattle.nas_elements.specs.Digits.{is_imsi}
use Rattle.identity_slots.specs.declared.profile.Vector.{Vector}
use Rattle.sim_phone.specs.declared.registration.Registration.{Registration}
use Rattle.sim_phone.specs.Sides.{PhoneContextView}
use Rattle.sim_phone.specs.View.{PhoneView}
use Rattle.laws_network.specs.Ranges.{IsBrief}
use Rattle.laws_simulation.specs.NasSent.{IsFormIf}

-- a network, a group, a code and a number of 32 bits (TS 23.003 clause 2.8)
pub record GutiInRange (g : Guti) : Type 0 where
  pub plmn : AreBytes 3 g.plmn.octets
  pub group : AreBytes 2 g.group
  pub code : g.code < 256
  pub tmsi : g.tmsi < 2 ^ 32

abbrev pub GutiInRangeIf : Option Guti → Type 0
GutiInRangeIf None = Unit {0}
GutiInRangeIf (Some g) = GutiInRange g

-- what is answered to a challenge has 4 to 16 octets (TS 24.301 clause 9.9.3.4)
pub record AnswerInRange (v : Vector) : Type 0 where
  pub some : 4 ≤ length v.xres
  pub brief : IsBrief 16 v.xres

abbrev pub AnswersInRange : List Vector → Type 0
AnswersInRange vectors = (place : ℕ) (v : Vector) → slice_get vectors place ≡ Some v → AnswerInRange v

-- a context's key is octets
abbrev pub PhoneContextInRange : PhoneContextView → Type 0
PhoneContextInRange c = all_below 256 c.integrity ≡ true

abbrev pub PhoneContextInRangeIf : Option PhoneContextView → Type 0
PhoneContextInRangeIf None = Unit {0}
PhoneContextInRangeIf (Some c) = PhoneContextInRange c

pub record RegistrationInRange (r : Registration) : Type 0 where
  pub challenge : PhoneContextInRangeIf r.challenge
  pub context : PhoneContextInRangeIf r.context
  pub guti : GutiInRangeIf r.guti

-- an IMSI, vectors and a registration in range; and its last message in the protected form is one
pub record PhoneInRange (p : PhoneView) : Type 0 where
  pub imsi : is_imsi p.imsi ≡ true
  pub vectors : AnswersInRange p.vectors
  pub registration : RegistrationInRange p.registration
  pub sent : IsFormIf p.sent
