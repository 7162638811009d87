-- A phone that is kept, and where it is.
use Rattle.std.specs.Prelude.{ℕ, ◌++◌, Bool, true, false, if◌then◌else◌, List, [], ◌∷◌, Option, Some, None, option_map}
use Rattle.s1ap_elements.specs.declared.phone.STmsi.{STmsi}
use Rattle.identity_slots.specs.declared.profile.Vector.{Vector}
use Rattle.sim_phone.specs.declared.phone.PhoneAct.{PhoneAct}
use Rattle.sim_phone.specs.declared.phone.PhoneAct.TheVariants.{Service}
use Rattle.sim_phone.specs.View.{PhoneView, acted, hearing, new_phone, short_identity}
use Rattle.sim_crowd.specs.declared.whereabouts.Standing.{Standing}
use Rattle.sim_crowd.specs.Whereabouts.{standing_nowhere}

-- a phone with its IMSI, whether it was asked to do something, and where it is
pub record HandsetView : Type 0 where
  pub imsi : List ℕ
  pub phone : PhoneView
  pub used : Bool  -- whether it was asked to do something; it takes no vector more then
  pub standing : Standing

-- the phone, which is made of its IMSI and its vectors once it is needed
abbrev pub made_phone : List ℕ → List Vector → Option PhoneView → PhoneView
made_phone imsi vectors None = new_phone imsi vectors
made_phone imsi vectors (Some p) = p

-- a phone that has no vector and was nowhere yet
abbrev pub new_handset : List ℕ → HandsetView
new_handset imsi = record { imsi = imsi; phone = new_phone imsi []; used = false; standing = standing_nowhere }

-- one vector more, after the others
abbrev pub with_vector_more : Vector → HandsetView → HandsetView
with_vector_more vector h =
    if h.used then h else record h { phone = record h.phone { vectors = h.phone.vectors ++ vector ∷ [] } }

abbrev pub in_use : HandsetView → HandsetView
in_use h = record h { used = true }

-- ---- what a phone says by an act

-- a NAS message, and the S-TMSI that goes beside it in an INITIAL UE MESSAGE
pub record Words : Type 0 where
  pub nas : List ℕ
  pub s_tmsi : Option STmsi

-- SERVICE REQUEST alone has it
abbrev pub s_tmsi_beside : PhoneAct → PhoneView → Option STmsi
s_tmsi_beside Service p = option_map short_identity p.registration.guti
s_tmsi_beside _ p = None

abbrev pub words_beside : Option STmsi → Option (List ℕ) → Option Words
words_beside s_tmsi nas = option_map (λ os. record { nas = os; s_tmsi = s_tmsi }) nas

abbrev pub words_by : PhoneAct → PhoneView → Option Words
words_by act p = words_beside (s_tmsi_beside act (acted act p).phone) (acted act p).octets

abbrev pub with_act : PhoneAct → HandsetView → HandsetView
with_act act h = record h { phone = (acted act h.phone).phone; used = true }

-- the phone took a NAS message of the network
abbrev pub with_heard : List ℕ → HandsetView → HandsetView
with_heard nas h = record h { phone = (hearing nas h.phone).phone; used = true }

-- the phone answers nothing from now on
abbrev pub with_deafness : HandsetView → HandsetView
with_deafness h = record h { phone = record h.phone { deaf = true }; used = true }

-- ---- where it is

abbrev pub with_standing : Standing → HandsetView → HandsetView
with_standing standing h = record h { standing = standing }
