use Rattle.std.proofs.Common.{rules, ◌≡◌, Err}
use Rattle.amqp_link_uses.proofs.RelayLemmas.{none_where_none_lists, is_error_of_call}
use Rattle.amqp_link_uses.proofs.relay.take_attach.Goals as goal

pub returns-in_err-exchange-clause-memory : goal.returns-in_err-exchange-clause-memory
returns-in_err-exchange-clause-memory c = λ is.
    let out : c.from_residual.result ≡ Err c.in_err-exchange.field-0.0 = search rules in
    let of_call = is_error_of_call out c.in_err-exchange.was is in
    (none_where_none_lists _ (c.on_incoming_attach.ensures.memory of_call), c.on_incoming_attach.ensures.growth of_call)
