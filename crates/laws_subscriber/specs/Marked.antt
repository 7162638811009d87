-- The NAS messages with a security header that are sent: each is the protected form under the vector and the count that its message
-- is marked with (TS 24.301 clause 4.4.3, 9.1).
use Rattle.std.specs.Prelude.{◌≡◌, ℕ, List, [], ◌∷◌, All, filter, flat_map, slice_get, Option, Some, None, Result, Ok, Err, option_to_list}
use Rattle.std.specs.List.{AllZip}
use Rattle.s1ap_pdus.specs.declared.pdu.Pdu.{Pdu}
use Rattle.s1ap_pdus.specs.declared.pdu.Pdu.TheVariants as pdu
use Rattle.s1ap_pdus.specs.Pdus.{decoded}
use Rattle.nas_messages.specs.declared.protection.SecurityHeader.{SecurityHeader}
use Rattle.eps_keys.specs.Eia2.{eia2}
use Rattle.eps_keys.specs.Hmac.{nas_integrity_key}
use Rattle.nas_security.specs.Protecting.{protected_by}
use Rattle.identity_slots.specs.declared.profile.Vector.{Vector}
use Rattle.mme_types.specs.declared.octets.Answer.{Answer}
use Rattle.mme_types.specs.declared.octets.Mark.{Mark}
use Rattle.mme_types.specs.Events.{Item}
use Rattle.emm_state.specs.declared.setting.Setting.{Setting}
use Rattle.emm_state.specs.declared.solo.Solo.{Solo}
use Rattle.emm_machine.specs.Freshness.{sent_marks}
use Rattle.emm_machine.specs.Steps.{solo_answers}
use Rattle.laws_subscriber.specs.Sound.{IsSound, has_security_header}

-- the NAS messages in an S1AP message of the network, in order
abbrev pub nas_within : Pdu (List ℕ) → List (List ℕ)
nas_within (pdu.DownlinkNasTransport m) = m.nas ∷ []
nas_within (pdu.InitialContextSetupRequest m) = flat_map (λ e. option_to_list e.value.nas) m.erabs
nas_within _ = []

-- those with a security header
abbrev pub protected_within : Pdu (List ℕ) → List (List ℕ)
protected_within m = filter has_security_header (nas_within m)

-- the protected form of some message under the mark, by the key of the vector at its place
abbrev pub IsFormUnder : List Vector → Mark → List ℕ → Type 0
IsFormUnder vectors mark form =
    (v : Vector) × (header : SecurityHeader) × (nas : List ℕ) × (slice_get vectors mark.place ≡ Some v)
    × (form ≡ protected_by (eia2 (nas_integrity_key v.kasme)) mark.count header nas)

-- with a mark there is one, which is a protected form under it; without one there is none
abbrev pub AreFormsUnder : List Vector → Option Mark → List (List ℕ) → Type 0
AreFormsUnder vectors None forms = forms ≡ []
AreFormsUnder vectors (Some mark) forms = (form : List ℕ) × (forms ≡ form ∷ []) × IsFormUnder vectors mark form

-- so it is with a message that is sent: it is a message of the grammar
abbrev pub IsMarked : List Vector → Answer → Type 0
IsMarked vectors a = (m : Pdu (List ℕ)) × (decoded a.octets ≡ Ok m) × AreFormsUnder vectors a.under (protected_within m)

-- and with all that are sent over a list of items
abbrev pub SendsMarked : Type 0
SendsMarked =
    (s : Setting) (solo : Solo) (items : List Item) → IsSound s solo
    → All (IsMarked s.vectors) (flat_map (λ sent. sent) (solo_answers s solo items))

-- ---- in order

abbrev pub protected_in : {F : Type 0} → Result (Pdu (List ℕ)) F → List (List ℕ)
protected_in (Ok m) = protected_within m
protected_in (Err fault) = []

-- the NAS messages with a security header among what is sent
abbrev pub protected_among : List Answer → List (List ℕ)
protected_among answers = flat_map (λ a. protected_in (decoded a.octets)) answers

-- over a list of items they are, one for one and in order, the protected forms under the marks that are sent
abbrev pub SendsInOrder : Type 0
SendsInOrder =
    (s : Setting) (solo : Solo) (items : List Item) → IsSound s solo
    → AllZip (IsFormUnder s.vectors) (sent_marks s solo items) (flat_map protected_among (solo_answers s solo items))
