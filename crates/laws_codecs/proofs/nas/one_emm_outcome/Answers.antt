use Rattle.nas_messages.specs.Messages.{HasFault, SpellsEmm, decoded_emm}
use Rattle.laws_codecs.proofs.NasOutcomes.{alone, one, some}
use Rattle.laws_codecs.proofs.nas.one_emm_outcome.Goals as goal

pub returns-clause-some : goal.returns-clause-some
returns-clause-some c =
    λ direction. some (decoded_emm direction) (SpellsEmm direction) (HasFault direction) (c.decoded_is_spelled.ensures direction) (c.fault_is_named.ensures direction)

pub returns-clause-one : goal.returns-clause-one
returns-clause-one c =
    λ direction. one (decoded_emm direction) (SpellsEmm direction) (HasFault direction) (λ os m. c.spelled_is_decoded.ensures direction m os) (c.named_is_emm_fault.ensures direction)

pub returns-clause-alone : goal.returns-clause-alone
returns-clause-alone c =
    λ direction. alone (decoded_emm direction) (SpellsEmm direction) (HasFault direction) (c.named_is_emm_fault.ensures direction)
