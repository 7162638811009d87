-- What a handle owns.
use Rattle.std.specs.Prelude.{Option, Some, None}
use base.Fml.{Fml, feq}
use denote.RawPtr.{Ptr, null_ptr}
use Rattle.std.specs.Box.Ownership.{box_owns}
use Rattle.std.specs.declared.alloc.Global.{Global}
use Rattle.std.specs.contracts.impls.GlobalAllocator.TheImpl.{ghosts}
use Rattle.c_session.specs.declared.session.Session.{Session}
use Rattle.c_session.specs.contracts.session.Session.{the_row}

-- the heap's handle, which holds nothing
abbrev pub heap : Global
heap = record { memory = record { seal = tt } }

-- a handle with no session is null. Else the session lies at the pointer, on the heap, and the handle has the right to free its
-- block
abbrev pub handle_owns : Ptr → Option Session → Fml
handle_owns p None = feq Ptr p null_ptr
handle_owns p (Some s) = box_owns (ghosts.dealloc_token heap) the_row p s
