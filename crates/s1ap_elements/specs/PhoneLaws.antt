-- What messages say of phones keeps its names.
use Rattle.std.proofs.Common.{◌≡◌, ℕ, zero, suc, ◌-◌, ◌≤◌, List, refl, inl, inr, arith}
use Rattle.per_bits.specs.Formats.{Value}
use Rattle.s1ap_elements.specs.Formats.{tai_list, ue_paging_id, rrc_cause, cn_domain, ue_s1ap_ids}
use Rattle.s1ap_elements.specs.Phones.{ListedTai, typed_tai_item, named_tai_item, typed_tai_list, named_tai_list, typed_ue_paging_id, named_ue_paging_id, rrc_causes, typed_rrc_cause, named_rrc_cause, typed_cn_domain, named_cn_domain, typed_ue_s1ap_ids, named_ue_s1ap_ids}
use Rattle.s1ap_elements.specs.declared.phone.UePagingId.{UePagingId}
use Rattle.s1ap_elements.specs.declared.phone.UePagingId.TheVariants.{STmsi, Imsi}
use Rattle.s1ap_elements.specs.declared.phone.RrcCause.{RrcCause}
use Rattle.s1ap_elements.specs.declared.phone.RrcCause.TheVariants as rrc
use Rattle.s1ap_elements.specs.declared.phone.CnDomain.{CnDomain}
use Rattle.s1ap_elements.specs.declared.phone.CnDomain.TheVariants.{Ps, Cs}
use Rattle.s1ap_elements.specs.declared.phone.UeS1apIds.{UeS1apIds}
use Rattle.s1ap_elements.specs.declared.phone.UeS1apIds.TheVariants.{Pair, MmeUeId}
use Rattle.s1ap_elements.specs.ListLaws.{map_back}
use Rattle.s1ap_causes.specs.NameLaws.{Spelled, names_again}

pub tai_list_again : (ts : List ListedTai) → named_tai_list (typed_tai_list ts) ≡ ts
tai_list_again ts = map_back (λ t. (typed_tai_item t.value, tt)) (λ x. record { value = named_tai_item x.0 }) (λ t. refl) ts

pub tai_list_spelled : (v : Value tai_list) → typed_tai_list (named_tai_list v) ≡ v
tai_list_spelled v = map_back (λ x. record { value = named_tai_item x.0 }) (λ t. (typed_tai_item t.value, tt)) (λ x. refl) v

pub ue_paging_id_again : (p : UePagingId (List ℕ)) → named_ue_paging_id (typed_ue_paging_id p) ≡ p
ue_paging_id_again (STmsi t) = refl
ue_paging_id_again (Imsi o) = refl

pub ue_paging_id_spelled : (v : Value ue_paging_id) → typed_ue_paging_id (named_ue_paging_id v) ≡ v
ue_paging_id_spelled (inl t) = refl
ue_paging_id_spelled (inr o) = refl

pub rrc_cause_again : (c : RrcCause) → named_rrc_cause (typed_rrc_cause c) ≡ c
rrc_cause_again rrc.Emergency = refl
rrc_cause_again rrc.HighPriorityAccess = refl
rrc_cause_again rrc.MtAccess = refl
rrc_cause_again rrc.MoSignalling = refl
rrc_cause_again rrc.MoData = refl
rrc_cause_again (rrc.Extended n) = refl

pub rrc_cause_spelled : (v : Value rrc_cause) → Spelled rrc_cause v → typed_rrc_cause (named_rrc_cause v) ≡ v
rrc_cause_spelled (inl k) s =
    names_again typed_rrc_cause rrc_causes rrc.Emergency 4 (refl, (refl, (refl, (refl, (refl, tt))))) refl k s
rrc_cause_spelled (inr k) s = refl

pub cn_domain_again : (d : CnDomain) → named_cn_domain (typed_cn_domain d) ≡ d
cn_domain_again Ps = refl
cn_domain_again Cs = refl

domain_is : (n : ℕ) → n - 0 ≤ 1 - 0 → typed_cn_domain (named_cn_domain n) ≡ n
domain_is zero h = refl
domain_is (suc zero) h = refl
domain_is (suc (suc n)) h = absurd (omega (arith, h))

pub cn_domain_spelled : (v : Value cn_domain) → Spelled cn_domain v → typed_cn_domain (named_cn_domain v) ≡ v
cn_domain_spelled v s = domain_is v s.2.1

pub ue_s1ap_ids_again : (i : UeS1apIds) → named_ue_s1ap_ids (typed_ue_s1ap_ids i) ≡ i
ue_s1ap_ids_again (Pair p) = refl
ue_s1ap_ids_again (MmeUeId n) = refl

pub ue_s1ap_ids_spelled : (v : Value ue_s1ap_ids) → typed_ue_s1ap_ids (named_ue_s1ap_ids v) ≡ v
ue_s1ap_ids_spelled (inl p) = refl
ue_s1ap_ids_spelled (inr n) = refl
