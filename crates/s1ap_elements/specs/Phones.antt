-- What messages say of phones, by its names, and as its format has it.
use Rattle.std.specs.Prelude.{ℕ, List, [], ◌∷◌, get_or, map}
use Rattle.std.specs.Borrow.{Bor}
use Rattle.std.proofs.Common.{inl, inr}
use Rattle.per_bits.specs.Formats.{Value, left_of, right_of}
use Rattle.s1ap_elements.specs.declared.container.Listed.{Listed}
use Rattle.s1ap_elements.specs.Ids as id
use Rattle.s1ap_elements.specs.Formats.{ignore, tai, tai_item, tai_list, eutran_cgi, s_tmsi, ue_paging_id, rrc_cause, cn_domain, ue_id_pair, ue_s1ap_ids, security_capabilities, security_context}
use Rattle.s1ap_elements.specs.declared.phone.Tai.{Tai}
use Rattle.s1ap_elements.specs.declared.phone.TaiItem.{TaiItem}
use Rattle.s1ap_elements.specs.declared.phone.EutranCgi.{EutranCgi}
use Rattle.s1ap_elements.specs.declared.phone.STmsi.{STmsi as SubscriberTmsi}
use Rattle.s1ap_elements.specs.declared.phone.UePagingId.{UePagingId}
use Rattle.s1ap_elements.specs.declared.phone.UePagingId.TheVariants.{STmsi, Imsi}
use Rattle.s1ap_elements.specs.declared.phone.RrcCause.{RrcCause}
use Rattle.s1ap_elements.specs.declared.phone.RrcCause.TheVariants as rrc
use Rattle.s1ap_elements.specs.declared.phone.CnDomain.{CnDomain}
use Rattle.s1ap_elements.specs.declared.phone.CnDomain.TheVariants.{Ps, Cs}
use Rattle.s1ap_elements.specs.declared.phone.UeIdPair.{UeIdPair}
use Rattle.s1ap_elements.specs.declared.phone.UeS1apIds.{UeS1apIds}
use Rattle.s1ap_elements.specs.declared.phone.UeS1apIds.TheVariants.{Pair, MmeUeId}
use Rattle.s1ap_elements.specs.declared.phone.SecurityCapabilities.{SecurityCapabilities}
use Rattle.s1ap_elements.specs.declared.phone.SecurityContext.{SecurityContext}

abbrev pub typed_tai : Tai → Value tai
typed_tai t = (t.plmn, (t.tac, tt))

abbrev pub named_tai : Value tai → Tai
named_tai v = record { plmn = v.0; tac = v.1.0 }

abbrev pub typed_tai_item : TaiItem → Value tai_item
typed_tai_item t = (typed_tai t.tai, tt)

abbrev pub named_tai_item : Value tai_item → TaiItem
named_tai_item v = record { tai = named_tai v.0 }

-- an element of a list of tracking areas
abbrev pub ListedTai : Type 0
ListedTai = Listed TaiItem id.tai_item ignore

abbrev pub typed_tai_list : List ListedTai → Value tai_list
typed_tai_list ts = map (λ t. (typed_tai_item t.value, tt)) ts

abbrev pub named_tai_list : Value tai_list → List ListedTai
named_tai_list v = map (λ x. record { value = named_tai_item x.0 }) v

abbrev pub typed_eutran_cgi : EutranCgi → Value eutran_cgi
typed_eutran_cgi c = (c.plmn, (c.cell, tt))

abbrev pub named_eutran_cgi : Value eutran_cgi → EutranCgi
named_eutran_cgi v = record { plmn = v.0; cell = v.1.0 }

abbrev pub typed_s_tmsi : SubscriberTmsi → Value s_tmsi
typed_s_tmsi t = (t.code, (t.m_tmsi, tt))

abbrev pub named_s_tmsi : Value s_tmsi → SubscriberTmsi
named_s_tmsi v = record { code = v.0; m_tmsi = v.1.0 }

-- without where its octets lie in memory
abbrev pub ue_paging_id_lists : UePagingId (Bor (List ℕ)) → UePagingId (List ℕ)
ue_paging_id_lists (STmsi t) = STmsi t
ue_paging_id_lists (Imsi o) = Imsi o.now

abbrev pub typed_ue_paging_id : UePagingId (List ℕ) → Value ue_paging_id
typed_ue_paging_id (STmsi t) = left_of (typed_s_tmsi t)
typed_ue_paging_id (Imsi o) = right_of o

abbrev pub named_ue_paging_id : Value ue_paging_id → UePagingId (List ℕ)
named_ue_paging_id (inl v) = STmsi (named_s_tmsi v)
named_ue_paging_id (inr o) = Imsi o

-- the causes in their order
abbrev pub rrc_causes : List RrcCause
rrc_causes = rrc.Emergency ∷ rrc.HighPriorityAccess ∷ rrc.MtAccess ∷ rrc.MoSignalling ∷ rrc.MoData ∷ []

abbrev pub typed_rrc_cause : RrcCause → Value rrc_cause
typed_rrc_cause rrc.Emergency = left_of 0
typed_rrc_cause rrc.HighPriorityAccess = left_of 1
typed_rrc_cause rrc.MtAccess = left_of 2
typed_rrc_cause rrc.MoSignalling = left_of 3
typed_rrc_cause rrc.MoData = left_of 4
typed_rrc_cause (rrc.Extended n) = right_of n

abbrev pub named_rrc_cause : Value rrc_cause → RrcCause
named_rrc_cause (inl n) = get_or rrc_causes n rrc.Emergency
named_rrc_cause (inr n) = rrc.Extended n

abbrev pub typed_cn_domain : CnDomain → Value cn_domain
typed_cn_domain Ps = 0
typed_cn_domain Cs = 1

abbrev pub named_cn_domain : Value cn_domain → CnDomain
named_cn_domain n = get_or (Ps ∷ Cs ∷ []) n Ps

abbrev pub typed_ue_id_pair : UeIdPair → Value ue_id_pair
typed_ue_id_pair p = (p.mme_ue_id, (p.enb_ue_id, tt))

abbrev pub named_ue_id_pair : Value ue_id_pair → UeIdPair
named_ue_id_pair v = record { mme_ue_id = v.0; enb_ue_id = v.1.0 }

abbrev pub typed_ue_s1ap_ids : UeS1apIds → Value ue_s1ap_ids
typed_ue_s1ap_ids (Pair p) = left_of (typed_ue_id_pair p)
typed_ue_s1ap_ids (MmeUeId n) = right_of n

abbrev pub named_ue_s1ap_ids : Value ue_s1ap_ids → UeS1apIds
named_ue_s1ap_ids (inl v) = Pair (named_ue_id_pair v)
named_ue_s1ap_ids (inr n) = MmeUeId n

abbrev pub typed_security_capabilities : SecurityCapabilities → Value security_capabilities
typed_security_capabilities c = (c.encryption, (c.integrity, tt))

abbrev pub named_security_capabilities : Value security_capabilities → SecurityCapabilities
named_security_capabilities v = record { encryption = v.0; integrity = v.1.0 }

abbrev pub typed_security_context : SecurityContext → Value security_context
typed_security_context c = (c.chaining_count, (c.next_hop, tt))

abbrev pub named_security_context : Value security_context → SecurityContext
named_security_context v = record { chaining_count = v.0; next_hop = v.1.0 }
