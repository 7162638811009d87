use Rattle.per_streams.specs.BitLaws.{bits-push}
use Rattle.per_streams.proofs.writer.with_bit.Goals as goal

pub returns-clause-bits : goal.returns-clause-bits
returns-clause-bits c = bits-push c.args.used c.args.current c.args.bit c.requires.fits
