-- The octets that a station sends.
use Rattle.std.proofs.Common.{◌≡◌, ℕ, List, Bor, refl}
use Rattle.mme_core.specs.World.{happens}
use Rattle.mme_core.specs.declared.event.Event.TheVariants as event
use Rattle.trace_progress.specs.Effects.{in_event}
use Rattle.c_session.specs.declared.session.Session.{Session}
use Rattle.c_session.specs.Sessions.{happened}

-- where octets lie in memory is nothing to the MME
pub heard_octets : (s : Session) (e : ℕ) (octets : Bor (List ℕ)) → happened s (event.In e octets) ≡ happened s (in_event e octets.now)
unfolding happens
heard_octets s e octets = refl
