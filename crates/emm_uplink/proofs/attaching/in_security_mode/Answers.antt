use Rattle.std.proofs.Common.{rules, refl}
use Rattle.emm_uplink.specs.Attaching.{in_security_mode, keyed, secured, secured_by, took}
use Rattle.emm_uplink.proofs.attaching.in_security_mode.Goals as goal

-- src/attaching.rt:455:1
pub returns-then-is_complete : goal.returns-then-is_complete
unfolding in_security_mode secured_by secured keyed took
returns-then-is_complete c = let done = c.secured.ensures _ refl in search rules
