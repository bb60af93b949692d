-- What a holder owns.
use base.Fml.{Fml, ftrue}
use base.Stored.{Coded}
use denote.RawPtr.{Ptr}
use Rattle.std.specs.Prelude.{Option, Some, None}
use Rattle.std.specs.Coded.{coded_option}
use Rattle.std.specs.Box.Ownership.{box_owns}
use Rattle.std.specs.Global.{Global}
use Rattle.std.specs.contracts.impls.GlobalAllocator.TheImpl.{ghosts}
use Rattle.amqp_link_object.specs.contracts.state.State.{the_row}

-- the box at p and the right to free it, or nothing
abbrev pub holder_owns : Global → Ptr → Option the_row.Denot → Fml
holder_owns alloc p None = ftrue
holder_owns alloc p (Some x) = box_owns (ghosts.dealloc_token alloc) the_row p x

abbrev pub state_coded : Coded (Option the_row.Denot)
state_coded = coded_option the_row.coded
