use Rattle.eps_keys.specs.declared.direction.DirectionBit.TheVariants.{Downlink}
use Rattle.eps_keys.specs.Eia2.{eia2}
use Rattle.laws_network.specs.KeyLaws.{brief_mac, integrity_key_below, kenb_bytes, next_hop_bytes}
use Rattle.laws_network.specs.NasLaws.{brief_protected}
use Rattle.laws_network.proofs.messages.keys_and_forms_are_octets.Goals as goal

pub returns : goal.returns
returns c = record {
  radio = kenb_bytes;
  hop = next_hop_bytes;
  integrity = integrity_key_below;
  mac = brief_mac;
  form = λ key count header nas octets brief. brief_protected (eia2 key) count header nas (λ message. brief_mac key octets count Downlink message) brief;
}
