-- What is stored of a state.
use Rattle.std.specs.Prelude.{◌≡◌, Option, Some, None}
use Rattle.eps_keys.specs.Hmac.{nas_integrity_key}
use Rattle.emm_state.specs.declared.solo.Context.{Context}
use Rattle.emm_state.specs.declared.solo.Solo.{Solo}
use Rattle.snapshot_states.specs.declared.saving.Clocks.{Clocks}

-- a state with other countdowns
abbrev pub with_clocks : Clocks → Solo → Solo
with_clocks clocks solo = record solo { procedure = clocks.procedure; reachable = clocks.reachable }

-- the integrity key of a context is that of its KASME (TS 33.401 clause A.7), as it is in every sound state
abbrev pub HasOwnKey : Option Context → Type 0
HasOwnKey None = Unit {0}
HasOwnKey (Some x) = x.security.integrity ≡ nas_integrity_key x.kasme
