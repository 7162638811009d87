-- The laws of NAS messages that the proofs stand on, as they are given.
use Rattle.std.specs.Prelude.{◌≡◌, ℕ, List, Some, Ok, length}
use Rattle.nas_messages.specs.declared.emm_types.Direction.{Direction}
use Rattle.nas_messages.specs.declared.emm_types.Emm.{Emm}
use Rattle.nas_messages.specs.declared.esm_types.Esm.{Esm}
use Rattle.nas_messages.specs.declared.protection.Protected.{Protected}
use Rattle.nas_messages.specs.EsmMessages.{IsWritableEsm, SpellsEsm, decoded_esm, encoded_esm}
use Rattle.nas_messages.specs.Messages.{Goes, IsWritable, SpellsEmm, decoded_emm, encoded_emm}
use Rattle.nas_messages.specs.Protection.{protected_form, split}

pub record NasLawsGiven : Type 0 where
  pub decoded : (direction : Direction) (m : Emm (List ℕ)) → IsWritable m → Goes direction m
      → decoded_emm direction (encoded_emm m) ≡ Ok m
  pub esm_decoded : (m : Esm (List ℕ)) → IsWritableEsm m → decoded_esm (encoded_esm m) ≡ Ok m
  pub are_split : (os : List ℕ) (p : Protected (List ℕ)) → os ≡ protected_form p → length p.mac ≡ 4 → split os ≡ Some p
  pub spelled : (direction : Direction) (os : List ℕ) (m : Emm (List ℕ)) → decoded_emm direction os ≡ Ok m
      → SpellsEmm direction m os
  pub esm_spelled : (os : List ℕ) (m : Esm (List ℕ)) → decoded_esm os ≡ Ok m → SpellsEsm m os
