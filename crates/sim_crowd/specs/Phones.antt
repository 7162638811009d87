-- The phones of a script, in the order in which they were added: each is known by its place.
use Rattle.std.specs.Prelude.{◌≡◌, ℕ, ◌++◌, true, is_some, bytes_eq, position, slice_get, if◌then◌else◌, List, [], ◌∷◌, Option, Some, None}
use Rattle.nas_elements.specs.Digits.{is_imsi}
use Rattle.identity_slots.specs.declared.profile.Vector.{Vector}
use Rattle.identity_slots.specs.Provisioned.{imsi_number}
use Rattle.sim_phone.specs.declared.phone.PhoneAct.{PhoneAct}
use Rattle.sim_phone.specs.View.{hearing}
use Rattle.sim_crowd.specs.declared.index.Entry.{Entry}
use Rattle.sim_crowd.specs.declared.whereabouts.Standing.{Standing}
use Rattle.sim_crowd.specs.Index.{place_under}
use Rattle.sim_crowd.specs.Items.{changed_item}
use Rattle.sim_crowd.specs.Handsets.{HandsetView, Words, new_handset, with_vector_more, words_by}
use Rattle.sim_crowd.specs.Whereabouts.{standing_nowhere}

-- the place of the first phone with this IMSI, if there is one
abbrev pub phone_named : List ℕ → List HandsetView → Option ℕ
phone_named imsi hs = position (λ h. bytes_eq h.imsi imsi) hs

-- an index has the place of the phone with an IMSI under that IMSI's number
abbrev pub IsPhoneIndex : List Entry → List HandsetView → Type 0
IsPhoneIndex index hs = (imsi : List ℕ) → is_imsi imsi ≡ true → place_under (imsi_number imsi) index ≡ phone_named imsi hs

-- the phone at a place is changed so, if there is one
abbrev pub changed_handset : ℕ → (HandsetView → HandsetView) → List HandsetView → List HandsetView
changed_handset phone f hs = changed_item (Some phone) f hs

-- a phone more, unless there is one of its IMSI
abbrev pub with_handset : List ℕ → List HandsetView → List HandsetView
with_handset imsi hs = if is_some (phone_named imsi hs) then hs else hs ++ new_handset imsi ∷ []

-- the phone with an IMSI has one vector more, if there is such a phone
abbrev pub with_vector_for : List ℕ → Vector → List HandsetView → List HandsetView
with_vector_for imsi vector hs = changed_item (phone_named imsi hs) (with_vector_more vector) hs

-- where a phone is; one that isn't there is nowhere
abbrev pub standing_in : Option HandsetView → Standing
standing_in None = standing_nowhere
standing_in (Some h) = h.standing

-- where a phone is
abbrev pub standing_of : ℕ → List HandsetView → Standing
standing_of phone hs = standing_in (slice_get hs phone)

-- what a phone says by an act, if it can be done
abbrev pub words_in : PhoneAct → Option HandsetView → Option Words
words_in act None = None
words_in act (Some h) = words_by act h.phone

-- what a phone says by an act, if it can
abbrev pub words_of : ℕ → PhoneAct → List HandsetView → Option Words
words_of phone act hs = words_in act (slice_get hs phone)

-- what a phone answers to a NAS message, if it answers
abbrev pub answer_in : List ℕ → Option HandsetView → Option (List ℕ)
answer_in nas None = None
answer_in nas (Some h) = (hearing nas h.phone).octets

-- what a phone answers to a NAS message, if anything
abbrev pub answer_of : ℕ → List ℕ → List HandsetView → Option (List ℕ)
answer_of phone nas hs = answer_in nas (slice_get hs phone)
