-- What contracts see of the queue of settled deliveries.
use Rattle.std.specs.Prelude.{ℕ, ◌-◌, List}
use Rattle.std.specs.VecDeque.{deque_len, deque_capacity}
use Rattle.amqp_link_core.specs.Held.{Held}
use Rattle.amqp_link_inbox.specs.declared.settled.Settled.TheInside.{Inside}

-- the deliveries, and for how many more there is room
pub record HeldAndRoom : Type 0 where
  pub list : List Held
  pub room : ℕ

abbrev pub queue_view : Inside → HeldAndRoom
queue_view settled = record {
  list = settled.queue.items;
  room = deque_capacity settled.queue - deque_len settled.queue;
}
