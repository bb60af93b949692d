-- What an object has.
use Rattle.std.specs.Prelude.{Option}
use Rattle.amqp_link_object.specs.declared.state.State.{State}
use Rattle.amqp_link_object.specs.declared.object.Object.{Object}

-- the value, if there is one
abbrev pub value_in : Object → Option State
value_in object = object.holder.state
