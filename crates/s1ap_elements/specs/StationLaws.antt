-- What stations and MMEs say of themselves keeps its names.
use Rattle.std.proofs.Common.{◌≡◌, ℕ, List, refl, ap, ◌∙◌, inl, inr}
use Rattle.s1ap_elements.specs.Stations.{typed_enb_id, named_enb_id, typed_global_enb_id, named_global_enb_id, each, typed_supported_ta, named_supported_ta, typed_supported_tas, named_supported_tas, typed_served_gummei, named_served_gummei, typed_served_gummeis, named_served_gummeis, typed_paging_drx, named_paging_drx, paging_cycles}
use Rattle.s1ap_elements.specs.declared.station.EnbId.{EnbId}
use Rattle.s1ap_elements.specs.declared.station.EnbId.TheVariants.{Macro, Home}
use Rattle.s1ap_elements.specs.declared.station.GlobalEnbId.{GlobalEnbId}
use Rattle.s1ap_elements.specs.declared.station.SupportedTa.{SupportedTa}
use Rattle.s1ap_elements.specs.declared.station.ServedGummei.{ServedGummei}
use Rattle.s1ap_elements.specs.declared.station.PagingDrx.{PagingDrx}
use Rattle.s1ap_elements.specs.declared.station.PagingDrx.TheVariants.{Frames32, Frames64, Frames128, Frames256, Extended}
use Rattle.per_bits.specs.Formats.{Value}
use Rattle.s1ap_elements.specs.Formats.{enb_id, global_enb_id, supported_ta, supported_tas, served_gummei, served_gummeis, paging_drx}
use Rattle.s1ap_elements.specs.ListLaws.{map_back, each_is}
use Rattle.s1ap_causes.specs.NameLaws.{Spelled, names_again}

enb_id_again : (e : EnbId) → named_enb_id (typed_enb_id e) ≡ e
enb_id_again (Macro b) = refl
enb_id_again (Home b) = refl

pub global_enb_id_again : (s : GlobalEnbId) → named_global_enb_id (typed_global_enb_id s) ≡ s
global_enb_id_again s =
    let f : EnbId → GlobalEnbId = λ e. record { plmn = s.plmn; id = e } in
    ap f (enb_id_again s.id)

supported_ta_again : (a : SupportedTa) → named_supported_ta (typed_supported_ta a) ≡ a
supported_ta_again a =
    let f : List (List ℕ) → SupportedTa = λ ps. record { tac = a.tac; plmns = ps } in
    ap f (each_is a.plmns)

pub supported_tas_again : (tas : List SupportedTa) → named_supported_tas (typed_supported_tas tas) ≡ tas
supported_tas_again tas = map_back typed_supported_ta named_supported_ta supported_ta_again tas

served_gummei_again : (s : ServedGummei) → named_served_gummei (typed_served_gummei s) ≡ s
served_gummei_again s =
    let f : List (List ℕ) → ServedGummei = λ ps. record { plmns = ps; groups = each s.groups; codes = each s.codes } in
    let g : List (List ℕ) → ServedGummei = λ gs. record { plmns = s.plmns; groups = gs; codes = each s.codes } in
    let h : List (List ℕ) → ServedGummei = λ cs. record { plmns = s.plmns; groups = s.groups; codes = cs } in
    ap f (each_is s.plmns) ∙ ap g (each_is s.groups) ∙ ap h (each_is s.codes)

pub served_gummeis_again : (ss : List ServedGummei) → named_served_gummeis (typed_served_gummeis ss) ≡ ss
served_gummeis_again ss = map_back typed_served_gummei named_served_gummei served_gummei_again ss

pub paging_drx_again : (p : PagingDrx) → named_paging_drx (typed_paging_drx p) ≡ p
paging_drx_again Frames32 = refl
paging_drx_again Frames64 = refl
paging_drx_again Frames128 = refl
paging_drx_again Frames256 = refl
paging_drx_again (Extended n) = refl

-- and what is spelled has its format's value again

pub enb_id_spelled : (v : Value enb_id) → typed_enb_id (named_enb_id v) ≡ v
enb_id_spelled (inl b) = refl
enb_id_spelled (inr b) = refl

pub global_enb_id_spelled : (v : Value global_enb_id) → typed_global_enb_id (named_global_enb_id v) ≡ v
global_enb_id_spelled v = rw (enb_id_spelled v.1.0) refl

supported_ta_spelled : (v : Value supported_ta) → typed_supported_ta (named_supported_ta v) ≡ v
supported_ta_spelled v = rw (each_is v.1.0) refl

pub supported_tas_spelled : (v : Value supported_tas) → typed_supported_tas (named_supported_tas v) ≡ v
supported_tas_spelled v = map_back named_supported_ta typed_supported_ta supported_ta_spelled v

served_gummei_spelled : (v : Value served_gummei) → typed_served_gummei (named_served_gummei v) ≡ v
served_gummei_spelled v = rw (each_is v.0, each_is v.1.0, each_is v.1.1.0) refl

pub served_gummeis_spelled : (v : Value served_gummeis) → typed_served_gummeis (named_served_gummeis v) ≡ v
served_gummeis_spelled v = map_back named_served_gummei typed_served_gummei served_gummei_spelled v

pub paging_drx_spelled : (v : Value paging_drx) → Spelled paging_drx v → typed_paging_drx (named_paging_drx v) ≡ v
paging_drx_spelled (inl k) s = names_again typed_paging_drx paging_cycles Frames32 3 (refl, (refl, (refl, (refl, tt)))) refl k s
paging_drx_spelled (inr k) s = refl
