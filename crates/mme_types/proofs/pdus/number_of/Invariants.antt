use Rattle.std.proofs.Common.{◌≡◌, ◌<◌, ◌%◌, drop}
use Rattle.mme_types.specs.Pdus.{number_from}
use Rattle.mme_types.proofs.pdus.number_of.Given as goal

abbrev pub invariant-loop-digit : goal.invariant-loop-digit
invariant-loop-digit l =
    (l.number < 1024) × (number_from l.number (drop l.digit-index l.digits) % 1024 ≡ number_from 0 l.digits % 1024)
