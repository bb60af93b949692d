-- What contracts see of the two queues of a pair.
use Rattle.std.specs.Prelude.{◌-◌, ◌<◌, List, flat_map, length, All}
use Rattle.std.specs.VecDeque.{deque_len, deque_capacity}
use Rattle.amqp_link_pair.specs.Queues.{WireAndRoom, ListAndRoom}
use Rattle.amqp_link_pair.specs.declared.resuming.Resuming.TheInside.{Inside as OfResuming}
use Rattle.amqp_link_pair.specs.declared.wire.Batch.{Batch}
use Rattle.amqp_link_pair.specs.declared.wire.Wire.TheInside.{Inside as OfWire}
use Rattle.amqp_link_worlds.specs.Wires.{OnWire, under}

-- the transfers of one batch
abbrev pub of_batch : Batch → List OnWire
of_batch batch = under batch.tag batch.frames.items

-- all transfers, batch after batch
abbrev pub wire_view : OfWire → WireAndRoom
wire_view wire = record {
  transfers = flat_map of_batch wire.batches.items;
  room = deque_capacity wire.batches - deque_len wire.batches;
}

-- no batch is empty
abbrev pub HasNoGap : OfWire → Type 0
HasNoGap wire = All (λ (batch : Batch). 0 < length batch.frames.items) wire.batches.items

abbrev pub list_view : OfResuming → ListAndRoom
list_view list = record {
  list = list.deliveries.items;
  room = deque_capacity list.deliveries - deque_len list.deliveries;
}
