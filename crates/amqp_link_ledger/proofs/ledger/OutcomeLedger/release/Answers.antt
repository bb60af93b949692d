use Rattle.amqp_link_ledger.proofs.ReleaseLemmas.{recorded_either_way}
use Rattle.amqp_link_ledger.proofs.ledger.OutcomeLedger.release.Goals as goal

pub invariant_of-self : goal.invariant_of-self
invariant_of-self g c =
    let inside = c.self.inside in
    let call = c.release in
    recorded_either_way call.result inside.link.unsettled inside.registrations call.new.self c.args.before c.self.invariant call.ensures.released call.ensures.ended call.ensures.left
