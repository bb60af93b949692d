-- What bytes are decoded as, out of memory aside.
use Rattle.std.specs.Prelude.{ℕ, List, [], Result, Ok, Err}
use Rattle.std.specs.Option.{option_map_or}
use Rattle.amqp_link_payloads.specs.Section.{contents_of}
use Rattle.amqp_link_payloads.specs.declared.error.DecodeError.{DecodeError}
use Rattle.amqp_link_payloads.specs.declared.error.DecodeError.TheVariants.{NotOneDataSection}
use Rattle.amqp_link_payloads.specs.declared.message.Message.{Message}
use Rattle.amqp_link_payloads.specs.declared.message.data_body.DataBody.{DataBody}
use Rattle.amqp_link_payloads.specs.declared.message.whole.Whole.{Whole}

-- the data, if the bytes are exactly one data section
abbrev pub data_message : List ℕ → Result (Message DataBody) DecodeError
data_message bytes = option_map_or
    (λ contents. Ok (record { preamble = []; body = record { 0 = contents }; footer = [] }))
    (contents_of bytes) (Err NotOneDataSection)

-- all bytes
abbrev pub whole_message : List ℕ → Result (Message Whole) DecodeError
whole_message bytes = Ok (record { preamble = []; body = record { 0 = bytes }; footer = [] })
