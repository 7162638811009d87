use Rattle.nas_messages.specs.EsmMessages.{HasEsmFault, SpellsEsm, decoded_esm}
use Rattle.laws_codecs.proofs.NasOutcomes.{alone, one, some}
use Rattle.laws_codecs.proofs.nas.one_esm_outcome.Goals as goal

pub returns-clause-some : goal.returns-clause-some
returns-clause-some c = some decoded_esm SpellsEsm HasEsmFault c.decoded_esm_is_spelled.ensures c.fault_of_esm_is_named.ensures

pub returns-clause-one : goal.returns-clause-one
returns-clause-one c =
    one decoded_esm SpellsEsm HasEsmFault (λ os m. c.spelled_esm_is_decoded.ensures m os) c.named_is_esm_fault.ensures

pub returns-clause-alone : goal.returns-clause-alone
returns-clause-alone c = alone decoded_esm SpellsEsm HasEsmFault c.named_is_esm_fault.ensures
