use Rattle.std.proofs.Common.{◌≡◌, ◌⊎◌, ◌+◌, ◌<◌, ◌≤◌, ap, arith, length, rules, subst, sym}
use Rattle.std.specs.Prelude.{get_or}
use Rattle.amqp_link_uses.specs.Brokers.{free}
use Rattle.amqp_link_uses.proofs.BrokerLemmas.{credit_within}
use Rattle.amqp_link_uses.proofs.broker.Broker.grant.Goals as goal

pub grant-requires : goal.grant-requires
grant-requires c =
    let b = c.args.self.now in
    let s = c.in-Some.from.now in
    let is : s ≡ get_or b.incoming c.args.link s = search rules in
    let within : c.args.link < length b.incoming = search rules in
    let small : c.args.more ≤ free b = omega (arith, c.if-free-more.false, c.free-free.ensures) in
    let credit = s.inbox.link.flow_state.link_credit in
    subst (λ room. (c.args.more ≡ 0) ⊎ (credit + c.args.more ≤ room)) (sym (ap (λ broker. broker.room) c.self.view_is))
    (credit_within b c.args.link c.args.more s within is small)
