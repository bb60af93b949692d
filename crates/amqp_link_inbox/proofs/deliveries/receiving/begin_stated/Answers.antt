use Rattle.amqp_link_inbox.proofs.deliveries.receiving.begin_stated.Goals as goal

pub returns-in-Err-clause-back : goal.returns-in-Err-clause-back
returns-in-Err-clause-back g c = c.take_apart.ensures.back c.args.transfer c.args.payload c.in_ok-held.ensures.ok
