-- The ranges of what messages are built of. A definition's numbers are any and its strings of any length; in the code these hold by
-- the types, and of what is kept by how it came about.
use Rattle.std.specs.Prelude.{◌≡◌, ℕ, ◌^◌, ◌<◌, ◌≤◌, true, List, length, Option, Some, None}
use Rattle.per_streams.specs.Octet.{AreBytes, all_below}
use Rattle.s1ap_elements.specs.declared.phone.Tai.{Tai}
use Rattle.s1ap_pdus.specs.declared.pdu.Pdu.{Pdu}
use Rattle.s1ap_pdus.specs.Pdus.{encoded}
use Rattle.identity_slots.specs.declared.profile.Profile.{Profile}
use Rattle.identity_slots.specs.declared.profile.Vector.{Vector}
use Rattle.mme_types.specs.declared.connection.Connection.{Connection}
use Rattle.mme_types.specs.declared.connection.RadioKeys.{RadioKeys}
use Rattle.mme_types.specs.declared.network.Network.{Network}

-- a message has a written form, so it is sent
abbrev pub IsWritten : Pdu (List ℕ) → Type 0
IsWritten m = (os : List ℕ) × (encoded m ≡ Some os)

-- at most n octets
pub record IsBrief (most : ℕ) (os : List ℕ) : Type 0 where
  pub few : length os ≤ most
  pub octets : all_below 256 os ≡ true

-- n octets, where there are some
abbrev pub AreBytesIf : ℕ → Option (List ℕ) → Type 0
AreBytesIf n None = Unit {0}
AreBytesIf n (Some os) = AreBytes n os

abbrev pub IsBriefIf : ℕ → Option (List ℕ) → Type 0
IsBriefIf most None = Unit {0}
IsBriefIf most (Some os) = IsBrief most os

-- the MME UE S1AP ID and the eNB UE S1AP ID (TS 36.413 clauses 9.2.3.3, 9.2.3.4)
pub record ConnectionInRange (k : Connection) : Type 0 where
  pub id : k.id < 2 ^ 32
  pub enb_ue_id : k.enb_ue_id < 2 ^ 24

-- keys of 256 bits, and the next hop chaining count (TS 36.413 clauses 9.2.1.41, 9.2.1.26)
pub record KeysInRange (keys : RadioKeys) : Type 0 where
  pub kenb : AreBytes 32 keys.kenb
  pub next_hop : AreBytesIf 32 keys.next_hop
  pub chaining_count : keys.chaining_count < 8

-- (TS 36.413 clauses 9.2.3.8, 9.2.3.7)
pub record TaiInRange (tai : Tai) : Type 0 where
  pub plmn : AreBytes 3 tai.plmn
  pub tac : AreBytes 2 tai.tac

-- the network's identities, its APN's label, and rates up to 10 Gbit/s (TS 36.413 clause 9.2.1.19)
pub record NetworkInRange (n : Network) : Type 0 where
  pub plmn : AreBytes 3 n.plmn
  pub group : AreBytes 2 n.group
  pub code : AreBytes 1 n.code
  pub apn : IsBrief 63 n.apn
  pub down : n.down ≤ 10000000000
  pub up : n.up ≤ 10000000000

-- IPv4 addresses and a tunnel's endpoint
pub record ProfileInRange (p : Profile) : Type 0 where
  pub address : AreBytes 4 p.address
  pub gateway : AreBytes 4 p.gateway
  pub teid : AreBytes 4 p.teid

-- (TS 33.401 clause 6.1.1)
pub record VectorInRange (v : Vector) : Type 0 where
  pub rand : AreBytes 16 v.rand
  pub autn : AreBytes 16 v.autn
