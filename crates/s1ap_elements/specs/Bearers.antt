-- What messages say of bearers, by its names, and as its format has it.
use Rattle.std.specs.Prelude.{ℕ, List, map, option_map}
use Rattle.std.specs.Borrow.{Bor}
use Rattle.per_bits.specs.Formats.{Value}
use Rattle.s1ap_elements.specs.declared.container.Listed.{Listed}
use Rattle.s1ap_elements.specs.Ids as id
use Rattle.s1ap_elements.specs.Formats.{reject, ignore, ambr, arp, gbr, qos, erab_to_be_setup, erab_tunnel, erabs_to_be_setup, erabs_setup, erabs_to_be_switched}
use Rattle.s1ap_elements.specs.declared.bearer.Ambr.{Ambr}
use Rattle.s1ap_elements.specs.declared.bearer.Arp.{Arp}
use Rattle.s1ap_elements.specs.declared.bearer.Gbr.{Gbr}
use Rattle.s1ap_elements.specs.declared.bearer.Qos.{Qos}
use Rattle.s1ap_elements.specs.declared.bearer.ErabToBeSetup.{ErabToBeSetup}
use Rattle.s1ap_elements.specs.declared.bearer.ErabTunnel.{ErabTunnel}

abbrev pub typed_ambr : Ambr → Value ambr
typed_ambr a = (a.down, (a.up, tt))

abbrev pub named_ambr : Value ambr → Ambr
named_ambr v = record { down = v.0; up = v.1.0 }

abbrev pub typed_arp : Arp → Value arp
typed_arp a = (a.priority, (a.capability, (a.vulnerability, tt)))

abbrev pub named_arp : Value arp → Arp
named_arp v = record { priority = v.0; capability = v.1.0; vulnerability = v.1.1.0 }

abbrev pub typed_gbr : Gbr → Value gbr
typed_gbr g = (g.maximum_down, (g.maximum_up, (g.down, (g.up, tt))))

abbrev pub typed_qos : Qos → Value qos
typed_qos q = (q.qci, (typed_arp q.arp, tt))

abbrev pub named_qos : Value qos → Qos
named_qos v = record { qci = v.0; arp = named_arp v.1.0 }

-- without where its octets lie in memory
abbrev pub erab_to_be_setup_lists : ErabToBeSetup (Bor (List ℕ)) → ErabToBeSetup (List ℕ)
erab_to_be_setup_lists e =
    record { id = e.id; qos = e.qos; address = e.address; teid = e.teid; nas = option_map (λ o. o.now) e.nas }

abbrev pub typed_erab_to_be_setup : ErabToBeSetup (List ℕ) → Value erab_to_be_setup
typed_erab_to_be_setup e = (e.id, (typed_qos e.qos, (e.address, (e.teid, (e.nas, tt)))))

abbrev pub named_erab_to_be_setup : Value erab_to_be_setup → ErabToBeSetup (List ℕ)
named_erab_to_be_setup v = record { id = v.0; qos = named_qos v.1.0; address = v.1.1.0; teid = v.1.1.1.0; nas = v.1.1.1.1.0 }

-- an element of the bearers that are to be set up
abbrev pub ErabToBeSetupItem : Type 0 → Type 0
ErabToBeSetupItem B = Listed (ErabToBeSetup B) id.erab_to_be_setup_item_ctxt_su_req reject

abbrev pub erabs_to_be_setup_lists : List (ErabToBeSetupItem (Bor (List ℕ))) → List (ErabToBeSetupItem (List ℕ))
erabs_to_be_setup_lists es = map (λ e. record { value = erab_to_be_setup_lists e.value }) es

abbrev pub typed_erabs_to_be_setup : List (ErabToBeSetupItem (List ℕ)) → Value erabs_to_be_setup
typed_erabs_to_be_setup es = map (λ e. (typed_erab_to_be_setup e.value, tt)) es

-- as code has them
abbrev pub seen_erabs_to_be_setup : List (ErabToBeSetupItem (Bor (List ℕ))) → Value erabs_to_be_setup
seen_erabs_to_be_setup es = map (λ e. (typed_erab_to_be_setup (erab_to_be_setup_lists e.value), tt)) es

abbrev pub named_erabs_to_be_setup : Value erabs_to_be_setup → List (ErabToBeSetupItem (List ℕ))
named_erabs_to_be_setup v = map (λ x. record { value = named_erab_to_be_setup x.0 }) v

abbrev pub typed_erab_tunnel : ErabTunnel → Value erab_tunnel
typed_erab_tunnel e = (e.id, (e.address, (e.teid, tt)))

abbrev pub named_erab_tunnel : Value erab_tunnel → ErabTunnel
named_erab_tunnel v = record { id = v.0; address = v.1.0; teid = v.1.1.0 }

-- an element of the bearers that were set up
abbrev pub ErabSetupItem : Type 0
ErabSetupItem = Listed ErabTunnel id.erab_setup_item_ctxt_su_res ignore

abbrev pub typed_erabs_setup : List ErabSetupItem → Value erabs_setup
typed_erabs_setup es = map (λ e. (typed_erab_tunnel e.value, tt)) es

abbrev pub named_erabs_setup : Value erabs_setup → List ErabSetupItem
named_erabs_setup v = map (λ x. record { value = named_erab_tunnel x.0 }) v

-- an element of the bearers that are to be switched
abbrev pub ErabToBeSwitchedItem : Type 0
ErabToBeSwitchedItem = Listed ErabTunnel id.erab_to_be_switched_dl_item reject

abbrev pub typed_erabs_to_be_switched : List ErabToBeSwitchedItem → Value erabs_to_be_switched
typed_erabs_to_be_switched es = map (λ e. (typed_erab_tunnel e.value, tt)) es

abbrev pub named_erabs_to_be_switched : Value erabs_to_be_switched → List ErabToBeSwitchedItem
named_erabs_to_be_switched v = map (λ x. record { value = named_erab_tunnel x.0 }) v
