-- A security context whose keys are gone.
use Rattle.std.specs.Prelude.{ℕ, List, None, Some, replicate}
use Rattle.nas_security.specs.Context.{SecurityContextView}
use Rattle.emm_state.specs.declared.solo.Context.{Context}

-- zeros stand in place of each key
abbrev pub without_keys : Context → Context
without_keys x = record {
  place = x.place;
  security = record { integrity = replicate 16 0; ksi = 0; down_next = 0; up_last = None };
  kasme = replicate 32 0;
  radio = record { kenb = replicate 32 0; next_hop = Some (replicate 32 0); chaining_count = 0 };
}
