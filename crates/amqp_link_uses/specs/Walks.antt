-- What the calls of a walk keep.
use Rattle.std.specs.Prelude.{ℕ, List}
use Rattle.amqp_link.specs.Worlds.{World, IsRegistered}

-- what is registered with a tag is registered with it afterwards, too
abbrev pub KeepsRegistered : World → World → Type 0
KeepsRegistered old new = (tag payload : List ℕ) → IsRegistered old tag payload → IsRegistered new tag payload
