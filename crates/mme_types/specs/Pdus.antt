-- The S1AP messages that the machine sends.
use Rattle.std.specs.Prelude.{ℕ, ◌+◌, ◌*◌, ◌-◌, ◌/◌, ◌%◌, ◌==◌, Bool, true, false, if◌then◌else◌, List, [], ◌∷◌, slice_index, Option, Some}
use Rattle.std.specs.Int.{w32, to_be_bytes}
use Rattle.s1ap_pdus.specs.per_streams.Bits.{octet_bits}
use Rattle.s1ap_pdus.specs.s1ap_elements.declared.bearer.Qos.{Qos}
use Rattle.s1ap_pdus.specs.s1ap_causes.declared.cause.Cause.{Cause}
use Rattle.s1ap_pdus.specs.s1ap_causes.declared.cause.Cause.TheVariants as causes
use Rattle.s1ap_pdus.specs.s1ap_causes.declared.cause.RadioNetworkCause.TheVariants as radio
use Rattle.s1ap_pdus.specs.s1ap_causes.declared.cause.TransportCause.TheVariants as transport
use Rattle.s1ap_pdus.specs.s1ap_causes.declared.cause.NasCause.TheVariants as nas
use Rattle.s1ap_pdus.specs.s1ap_causes.declared.cause.ProtocolCause.TheVariants as protocol
use Rattle.s1ap_pdus.specs.s1ap_causes.declared.cause.MiscCause.TheVariants as misc
use Rattle.s1ap_pdus.specs.s1ap_elements.declared.phone.CnDomain.TheVariants.{Ps}
use Rattle.s1ap_pdus.specs.s1ap_elements.declared.phone.Tai.{Tai}
use Rattle.s1ap_pdus.specs.s1ap_elements.declared.phone.UePagingId.TheVariants.{STmsi}
use Rattle.s1ap_pdus.specs.s1ap_elements.declared.phone.UeS1apIds.TheVariants.{Pair}
use Rattle.s1ap_pdus.specs.declared.pdu.Pdu.{Pdu}
use Rattle.s1ap_pdus.specs.declared.pdu.Pdu.TheVariants as pdu
use Rattle.nas_elements.specs.Digits.{imsi_text}
use Rattle.nas_elements.specs.Codes.{default_bearer}
use Rattle.identity_slots.specs.declared.profile.Profile.{Profile}
use Rattle.mme_types.specs.declared.network.Network.{Network}
use Rattle.mme_types.specs.declared.connection.Connection.{Connection}

unfoldable pub downlink : Connection → List ℕ → Pdu (List ℕ)
downlink k nas = pdu.DownlinkNasTransport (record { mme_ue_id = k.id; enb_ue_id = k.enb_ue_id; nas = nas })

unfoldable pub release_command : ℕ → ℕ → Cause → Pdu (List ℕ)
release_command id enb_ue_id cause =
    pdu.UeContextReleaseCommand (record { ids = Pair (record { mme_ue_id = id; enb_ue_id = enb_ue_id }); cause = cause })

-- a cause of a later release isn't written
abbrev pub is_extended : Cause → Bool
is_extended (causes.RadioNetwork (radio.Extended n)) = true
is_extended (causes.Transport (transport.Extended n)) = true
is_extended (causes.Nas (nas.Extended n)) = true
is_extended (causes.Protocol (protocol.Extended n)) = true
is_extended (causes.Misc (misc.Extended n)) = true
is_extended _ = false

abbrev pub cause_of_request : Cause → Cause
cause_of_request cause = if is_extended cause then causes.RadioNetwork radio.Unspecified else cause

unfoldable pub error_indication : ℕ → ℕ → Cause → Pdu (List ℕ)
error_indication id enb_ue_id cause =
    pdu.ErrorIndication (record { mme_ue_id = Some id; enb_ue_id = Some enb_ue_id; cause = Some cause })

unfoldable pub path_switch_failure : ℕ → ℕ → Cause → Pdu (List ℕ)
path_switch_failure id enb_ue_id cause =
    pdu.PathSwitchRequestFailure (record { mme_ue_id = id; enb_ue_id = enb_ue_id; cause = cause })

-- with the next hop and its chaining count
unfoldable pub path_switch_acknowledge : Connection → List ℕ → ℕ → Pdu (List ℕ)
path_switch_acknowledge k hop count =
    pdu.PathSwitchRequestAcknowledge
    (record { mme_ue_id = k.id; enb_ue_id = k.enb_ue_id; context = record { chaining_count = count; next_hop = hop } })

-- QCI 9 at priority 15, which takes from nobody and from which nothing is taken
abbrev pub qos : Qos
qos = record { qci = 9; arp = record { priority = 15; capability = 0; vulnerability = 0 } }

abbrev pub is_bit_set : ℕ → ℕ → Bool
is_bit_set n weight = n / weight % 2 == 1

-- the algorithms 1 to 7 of an octet that begins with algorithm 0, as the first of 16 (TS 36.413 clause 9.2.1.40)
abbrev pub algorithm_bits : ℕ → List Bool
algorithm_bits o =
    is_bit_set o 64 ∷ is_bit_set o 32 ∷ is_bit_set o 16 ∷ is_bit_set o 8 ∷ is_bit_set o 4 ∷ is_bit_set o 2 ∷ is_bit_set o 1 ∷ false
    ∷ false ∷ false ∷ false ∷ false ∷ false ∷ false ∷ false ∷ false ∷ []

-- the E-RAB of the default bearer, by its identity: its tunnel at the S-GW, and the NAS message where there is one
unfoldable pub context_setup : Network → Profile → List ℕ → Connection → List ℕ → Option (List ℕ) → Pdu (List ℕ)
context_setup n p capability k kenb nas =
    pdu.InitialContextSetupRequest (
    record {
      mme_ue_id = k.id;
      enb_ue_id = k.enb_ue_id;
      ambr = record { down = n.down; up = n.up };
      erabs = record {
        value = record { id = default_bearer; qos = qos; address = octet_bits p.gateway; teid = p.teid; nas = nas };
      } ∷ [];
      capabilities = record {
        encryption = algorithm_bits (slice_index capability 0);
        integrity = algorithm_bits (slice_index capability 1);
      };
      key = kenb;
    }
    )

-- the number that digits stand for, after v
abbrev pub number_from : ℕ → List ℕ → ℕ
number_from v [] = v
number_from v (c ∷ cs) = number_from (v * 10 + (c - 48)) cs

-- the IMSI modulo 1024 (TS 36.304 clause 7.1)
unfoldable pub ue_index : List ℕ → ℕ
ue_index imsi = number_from 0 (imsi_text imsi) % 1024

abbrev pub index_bits : ℕ → List Bool
index_bits n =
    is_bit_set n 512 ∷ is_bit_set n 256 ∷ is_bit_set n 128 ∷ is_bit_set n 64 ∷ is_bit_set n 32 ∷ is_bit_set n 16 ∷ is_bit_set n 8
    ∷ is_bit_set n 4 ∷ is_bit_set n 2 ∷ is_bit_set n 1 ∷ []

unfoldable pub paging : Network → List ℕ → ℕ → Tai → Pdu (List ℕ)
paging n imsi tmsi tai =
    pdu.Paging (
    record {
      ue_index = index_bits (ue_index imsi);
      paging_id = STmsi (record { code = n.code; m_tmsi = to_be_bytes w32 tmsi });
      domain = Ps;
      tai_list = record { value = record { tai = tai } } ∷ [];
    }
    )
