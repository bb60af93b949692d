-- The frames under way to the receiver of a credit run.
use Rattle.std.specs.Prelude.{ℕ, List, [], ◌∷◌, Option, Some, None}
use Rattle.amqp_link_types.specs.declared.frame.LinkFrame.{LinkFrame}

-- the next to arrive
abbrev pub front_of : {X : Type 0} → List X → Option X
front_of [] = None
front_of (next ∷ rest) = Some next

-- a queue: the frames under way, and for how many more batches there is room
pub record QueueAndRoom : Type 0 where
  pub frames : List LinkFrame
  pub room : ℕ
