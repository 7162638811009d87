use Rattle.laws_network.specs.SizeLaws.{short_writable, written_size}
use Rattle.laws_network.proofs.sizes.short_values_are_writable.Goals as goal

pub returns-clause-size : goal.returns-clause-size
returns-clause-size c = written_size

pub returns-clause-writable : goal.returns-clause-writable
returns-clause-writable c = short_writable
