-- ESM causes (TS 24.301 annex B and clause 9.9.4.4).
use Rattle.std.specs.Prelude.{ℕ}
use Rattle.esm_machine.specs.declared.cause.EsmCause.{EsmCause}
use Rattle.esm_machine.specs.declared.cause.EsmCause.TheVariants.{RequestRejected, LastDisconnection, OnlyIpv4, InvalidMandatory, UnknownType, NotCompatible}

abbrev pub esm_cause_code : EsmCause → ℕ
esm_cause_code RequestRejected = 31
esm_cause_code LastDisconnection = 49
esm_cause_code OnlyIpv4 = 50
esm_cause_code InvalidMandatory = 96
esm_cause_code UnknownType = 97
esm_cause_code NotCompatible = 98
