-- What stations and MMEs say of themselves, by its names, and as its format has it.
use Rattle.std.specs.Prelude.{ℕ, List, [], ◌∷◌, get_or, map}
use Rattle.std.proofs.Common.{inl, inr}
use Rattle.per_bits.specs.Formats.{Value, left_of, right_of}
use Rattle.s1ap_elements.specs.Formats.{enb_id, global_enb_id, supported_ta, supported_tas, served_gummei, served_gummeis, paging_drx}
use Rattle.s1ap_elements.specs.declared.station.EnbId.{EnbId}
use Rattle.s1ap_elements.specs.declared.station.EnbId.TheVariants.{Macro, Home}
use Rattle.s1ap_elements.specs.declared.station.GlobalEnbId.{GlobalEnbId}
use Rattle.s1ap_elements.specs.declared.station.SupportedTa.{SupportedTa}
use Rattle.s1ap_elements.specs.declared.station.ServedGummei.{ServedGummei}
use Rattle.s1ap_elements.specs.declared.station.PagingDrx.{PagingDrx}
use Rattle.s1ap_elements.specs.declared.station.PagingDrx.TheVariants.{Frames32, Frames64, Frames128, Frames256, Extended}

abbrev pub typed_enb_id : EnbId → Value enb_id
typed_enb_id (Macro b) = left_of b
typed_enb_id (Home b) = right_of b

abbrev pub named_enb_id : Value enb_id → EnbId
named_enb_id (inl b) = Macro b
named_enb_id (inr b) = Home b

abbrev pub typed_global_enb_id : GlobalEnbId → Value global_enb_id
typed_global_enb_id s = (s.plmn, (typed_enb_id s.id, tt))

abbrev pub named_global_enb_id : Value global_enb_id → GlobalEnbId
named_global_enb_id v = record { plmn = v.0; id = named_enb_id v.1.0 }

-- a list of strings as they stand
abbrev pub each : List (List ℕ) → List (List ℕ)
each xs = map (λ o. o) xs

abbrev pub typed_supported_ta : SupportedTa → Value supported_ta
typed_supported_ta a = (a.tac, (each a.plmns, tt))

abbrev pub named_supported_ta : Value supported_ta → SupportedTa
named_supported_ta v = record { tac = v.0; plmns = v.1.0 }

abbrev pub typed_supported_tas : List SupportedTa → Value supported_tas
typed_supported_tas tas = map typed_supported_ta tas

abbrev pub named_supported_tas : Value supported_tas → List SupportedTa
named_supported_tas v = map named_supported_ta v

abbrev pub typed_served_gummei : ServedGummei → Value served_gummei
typed_served_gummei s = (each s.plmns, (each s.groups, (each s.codes, tt)))

abbrev pub named_served_gummei : Value served_gummei → ServedGummei
named_served_gummei v = record { plmns = v.0; groups = v.1.0; codes = v.1.1.0 }

abbrev pub typed_served_gummeis : List ServedGummei → Value served_gummeis
typed_served_gummeis s = map typed_served_gummei s

abbrev pub named_served_gummeis : Value served_gummeis → List ServedGummei
named_served_gummeis v = map named_served_gummei v

-- the cycles in their order
abbrev pub paging_cycles : List PagingDrx
paging_cycles = Frames32 ∷ Frames64 ∷ Frames128 ∷ Frames256 ∷ []

abbrev pub typed_paging_drx : PagingDrx → Value paging_drx
typed_paging_drx Frames32 = left_of 0
typed_paging_drx Frames64 = left_of 1
typed_paging_drx Frames128 = left_of 2
typed_paging_drx Frames256 = left_of 3
typed_paging_drx (Extended n) = right_of n

abbrev pub named_paging_drx : Value paging_drx → PagingDrx
named_paging_drx (inl n) = get_or paging_cycles n Frames32
named_paging_drx (inr n) = Extended n
