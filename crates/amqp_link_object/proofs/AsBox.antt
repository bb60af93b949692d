-- A holder and a loose box own what a box at the same types owns.
use mir.Syntax.{impl, tnil, dnil}
use mathlib.Core.List.{[]}
use denote.Signature.{Slot, plain}
use Rattle.std.proofs.BoxSteps.Form.{Bx}
use Rattle.std.specs.contracts.alloc.Global as heap
use Rattle.std.proofs.alloc.Global.TheLaws as heap_laws
use Rattle.std.specs.contracts.impls.GlobalAllocator.TheImpl.{ghosts, dict}
use Rattle.amqp_link_object.specs.contracts.state.State as state
use Rattle.amqp_link_object.proofs.state.State.TheLaws as state_laws
use Rattle.amqp_link_object.specs.contracts.loose.Loose as loose
use Rattle.amqp_link_object.specs.contracts.holder.Holder as holder

abbrev pub E : Bx
E = record { row = state.the_row; laws = state_laws.the_row_laws; al = record { row = heap.the_row; laws = heap_laws.the_row_laws; g = ghosts; d = dict; drops = impl [] tnil dnil } }

abbrev pub FromLoose : Slot 0
FromLoose = plain (λ _. loose.the_row state.the_row heap.the_row ghosts)

abbrev pub FromHolder : Slot 0
FromHolder = plain (λ _. holder.the_row)
