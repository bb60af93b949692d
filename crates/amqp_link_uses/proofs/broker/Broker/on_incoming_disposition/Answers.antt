use Rattle.std.proofs.Common.{Some, subst}
use Rattle.amqp_link_uses.specs.Brokers.{DisposesAt}
use Rattle.amqp_link_uses.proofs.broker.Broker.on_incoming_disposition.Goals as goal

pub returns-clause-taken : goal.returns-clause-taken
returns-clause-taken c =
    let outgoing = c.dispose_on.new.outgoing.items in
    rw (← c.self.view_is) (record {
      outcome = Some (c.in-Some.own, c.in-Some.outcome);
      outgoing = outgoing;
      takes = subst (λ o. DisposesAt c.args.link c.args.settled c.args.state c.args.tag.now c.self.inside.outgoing.items c.in-Ok.answer.echo o outgoing)
          c.in-Some.is c.in-Ok.ensures.taken;
      origin_is = c.return_outcome-origin.ensures.origin;
      broker = c.return_outcome-origin.ensures.after;
    })
