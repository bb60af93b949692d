-- What contracts see of a queue.
use Rattle.std.specs.Prelude.{◌-◌, ◌<◌, flat_map, length, All}
use Rattle.std.specs.VecDeque.{deque_len, deque_capacity}
use Rattle.amqp_link_credit.specs.Queues.{QueueAndRoom}
use Rattle.amqp_link_credit.specs.declared.queue.Queue.TheInside.{Inside}

-- all frames, batch after batch
abbrev pub queue_view : Inside → QueueAndRoom
queue_view queue = record {
  frames = flat_map (λ batch. batch.items) queue.batches.items;
  room = deque_capacity queue.batches - deque_len queue.batches;
}

-- no batch is empty
abbrev pub HasNoEmptyBatch : Inside → Type 0
HasNoEmptyBatch queue = All (λ batch. 0 < length batch.items) queue.batches.items
