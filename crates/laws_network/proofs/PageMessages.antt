-- Which of the messages that are built is PAGING, and what that one says.
use Rattle.std.proofs.Common.{◌≡◌, ℕ, false, inl, inr, List, [], ◌∷◌, Option, Some, None, Ok, refl, sym, ◌∙◌, ap, true≢false}
use Rattle.std.specs.Int.{w32, to_be_bytes}
use Rattle.std.proofs.lemmas.Option.{same_Some}
use Rattle.std.proofs.lemmas.Result.{IfOk-at_ok}
use Rattle.s1ap_causes.specs.declared.cause.Cause.{Cause}
use Rattle.s1ap_elements.specs.declared.phone.Tai.{Tai}
use Rattle.s1ap_elements.specs.declared.phone.UePagingId.TheVariants.{STmsi}
use Rattle.s1ap_pdus.specs.declared.pdu.Paging.{Paging}
use Rattle.s1ap_pdus.specs.declared.pdu.Pdu.{Pdu}
use Rattle.s1ap_pdus.specs.declared.pdu.Pdu.TheVariants as pdu
use Rattle.s1ap_pdus.specs.Pdus.{decoded, encoded}
use Rattle.identity_slots.specs.declared.profile.Profile.{Profile}
use Rattle.mme_types.specs.declared.connection.Connection.{Connection}
use Rattle.mme_types.specs.declared.network.Network.{Network}
use Rattle.mme_signalling.specs.Pdus.{context_setup, downlink, error_indication, paging, path_switch_acknowledge, path_switch_failure, release_command}
use Rattle.laws_mme.specs.Premises.{IsIndication}
use Rattle.laws_network.specs.Paged.{is_page, reads_page}

-- ---- those that aren't

pub no_downlink : (k : Connection) (nas : List ℕ) → is_page (downlink k nas) ≡ false
unfolding downlink
no_downlink k nas = refl

pub no_setup : (n : Network) (p : Profile) (capability : List ℕ) (k : Connection) (key : List ℕ) (nas : Option (List ℕ))
    → is_page (context_setup n p capability k key nas) ≡ false
unfolding context_setup
no_setup n p capability k key nas = refl

pub no_release : (id enb_ue_id : ℕ) (cause : Cause) → is_page (release_command id enb_ue_id cause) ≡ false
unfolding release_command
no_release id enb_ue_id cause = refl

pub no_acknowledge : (k : Connection) (hop : List ℕ) (count : ℕ) → is_page (path_switch_acknowledge k hop count) ≡ false
unfolding path_switch_acknowledge
no_acknowledge k hop count = refl

no_error : (id enb_ue_id : ℕ) (cause : Cause) → is_page (error_indication id enb_ue_id cause) ≡ false
unfolding error_indication
no_error id enb_ue_id cause = refl

no_failure : (id enb_ue_id : ℕ) (cause : Cause) → is_page (path_switch_failure id enb_ue_id cause) ≡ false
unfolding path_switch_failure
no_failure id enb_ue_id cause = refl

pub no_indication : (message : Pdu (List ℕ)) → IsIndication message → is_page message ≡ false
no_indication message is = elim is.3 [
  | inl error ↦ ap is_page error ∙ no_error is.0 is.1 is.2
  | inr failure ↦ ap is_page failure ∙ no_failure is.0 is.1 is.2
]

-- ---- what is read of them

module _ (written : (m : Pdu (List ℕ)) (os : List ℕ) → encoded m ≡ Some os → decoded os ≡ Ok m) where
  pub reads_none : (m : Pdu (List ℕ)) (os : List ℕ) → encoded m ≡ Some os → is_page m ≡ false → reads_page (decoded os) ≡ false
  reads_none m os is none = ap reads_page (written m os is) ∙ none

  pub never_read : {A : Type 0} (m : Pdu (List ℕ)) (os : List ℕ) (p : Paging (List ℕ)) → encoded m ≡ Some os → is_page m ≡ false
      → decoded os ≡ Ok (pdu.Paging p) → A
  never_read m os p is none reads = absurd (true≢false (sym (ap reads_page reads) ∙ reads_none m os is none))

  pub same_message : (m n : Pdu (List ℕ)) (os : List ℕ) → encoded m ≡ Some os → decoded os ≡ Ok n → m ≡ n
  same_message m n os is reads = IfOk-at_ok (λ (x : Pdu (List ℕ)). m ≡ x) (sym (written m os is) ∙ reads) refl

-- ---- what PAGING says

paging_in : Pdu (List ℕ) → Option (Paging (List ℕ))
paging_in (pdu.Paging m) = Some m
paging_in _ = None

pub says : (n : Network) (imsi : List ℕ) (tmsi : ℕ) (tai : Tai) (m : Paging (List ℕ)) → paging n imsi tmsi tai ≡ pdu.Paging m
    → (m.tai_list ≡ record { value = record { tai = tai } } ∷ [])
    × (m.paging_id ≡ STmsi (record { code = n.code; m_tmsi = to_be_bytes w32 tmsi }))
unfolding paging paging_in
says n imsi tmsi tai m is =
    let same = same_Some _ m (ap paging_in is) in
    (ap (λ (p : Paging (List ℕ)). p.tai_list) (sym same), ap (λ (p : Paging (List ℕ)). p.paging_id) (sym same))
