-- What a phone sends, by its acts and to what it hears: messages of the profile alone.
use Rattle.std.specs.Prelude.{◌≡◌, ℕ, true, List, [], ◌∷◌, Option, None}
use Rattle.std.specs.List.{AllByRecursion}
use Rattle.per_streams.specs.Octet.{all_below}
use Rattle.nas_elements.specs.Digits.{is_imsi}
use Rattle.identity_slots.specs.declared.profile.Vector.{Vector}
use Rattle.sim_phone.specs.declared.phone.PhoneAct.{PhoneAct}
use Rattle.sim_phone.specs.declared.phone.PhoneAct.TheVariants.{Replay, Forge}
use Rattle.sim_phone.specs.View.{Move, PhoneView, acted, hearing, new_phone}
use Rattle.laws_network.specs.Ranges.{IsBrief}
use Rattle.laws_simulation.specs.NasSent.{IsFormIf, IsPhoneNas, IsPhoneNasIf}
use Rattle.laws_simulation.specs.PhoneRanges.{AnswersInRange, PhoneInRange}

-- ---- one act, one message

-- what is sent is a message of the profile, and the phone stays in range
pub record MovesWell (m : Move) : Type 0 where
  pub sent : IsPhoneNasIf m.octets
  pub phone : PhoneInRange m.phone

-- so by each act
abbrev pub ActsMoveWell : Type 0
ActsMoveWell = (act : PhoneAct) (p : PhoneView) → PhoneInRange p → MovesWell (acted act p)

-- the two that lie send the protected form of such a message, too, and nothing else
abbrev pub LiesAreForms : Type 0
LiesAreForms = (p : PhoneView) → PhoneInRange p → IsFormIf (acted Replay p).octets × IsFormIf (acted Forge p).octets

-- and to whatever octets it hears
abbrev pub HearingMovesWell : Type 0
HearingMovesWell = (nas : List ℕ) (p : PhoneView) → PhoneInRange p → all_below 256 nas ≡ true → MovesWell (hearing nas p)

-- a message that a phone sends has at most 1,100 octets
abbrev pub PhoneNasIsBrief : Type 0
PhoneNasIsBrief = (os : List ℕ) → IsPhoneNas os → IsBrief 1100 os

-- ---- over runs

-- what happens to a phone: it acts, it hears octets, it turns deaf
pub data PhoneInput : Type 0 where
  acts : PhoneAct → PhoneInput
  hears : List ℕ → PhoneInput
  deafens : PhoneInput

abbrev pub deafened : PhoneView → Move
deafened p = record { octets = None; phone = record p { deaf = true } }

abbrev pub phone_moved : PhoneInput → PhoneView → Move
phone_moved (acts act) p = acted act p
phone_moved (hears nas) p = hearing nas p
phone_moved deafens p = deafened p

-- octets are heard
abbrev pub InputIsOctets : PhoneInput → Type 0
InputIsOctets (acts act) = Unit {0}
InputIsOctets (hears nas) = all_below 256 nas ≡ true
InputIsOctets deafens = Unit {0}

-- what is sent at each input
abbrev pub phone_sends : PhoneView → List PhoneInput → List (Option (List ℕ))
phone_sends p [] = []
phone_sends p (i ∷ is) = (phone_moved i p).octets ∷ phone_sends (phone_moved i p).phone is

-- a phone whose IMSI and vectors are in range begins in range
abbrev pub PhoneBeginsInRange : Type 0
PhoneBeginsInRange =
    (imsi : List ℕ) (vectors : List Vector) → is_imsi imsi ≡ true → AnswersInRange vectors
    → PhoneInRange (new_phone imsi vectors)

-- from a phone in range on, whatever happens to it, it sends messages of the profile alone
abbrev pub PhonesSendWell : Type 0
PhonesSendWell =
    (p : PhoneView) (is : List PhoneInput) → PhoneInRange p → AllByRecursion InputIsOctets is
    → AllByRecursion IsPhoneNasIf (phone_sends p is)
