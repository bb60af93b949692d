use Rattle.std.proofs.Common.{◌≡◌, ◌∙◌, Some, ap, rules, sym}
use Rattle.std.specs.Map.{set_value}
use Rattle.std.specs.Str.{bytes_eq}
use Rattle.amqp_link.specs.Entries.{entry_at}
use Rattle.amqp_link_uses.specs.Brokers.{IncomingState, awaits, carried_by}
use Rattle.amqp_link_uses.proofs.BrokerLemmas.{kept_in_place, left_in_place}
use Rattle.amqp_link_uses.proofs.broker.incoming.Incoming.carry_back.Goals.{then-awaits, else-awaits}
use Rattle.amqp_link_uses.proofs.broker.incoming.Incoming.carry_back.Goals as goal

pub returns : goal.returns
returns c =
    let origin = c.args.origin.now in
    let tag = c.in-Some.tag in
    let place = c.in-Some-get_mut.place.now in
    let messages = c.self.inside.messages.entries in
    let old : IncomingState = record { inbox = c.self.inside.inbox; messages = messages } in
    let is : origin.tag ≡ Some tag = search rules in
    let found : entry_at messages tag ≡ Some place = search rules in
    let of_call : c.awaits.result ≡ awaits origin.number (Some place) = c.awaits.ensures in
    elim c.if-awaits.branch [
      | then-awaits w ↦ ap (λ i. record { inbox = i.inbox; messages = i.messages.entries }) w.self-inside-is
          ∙ kept_in_place origin tag c.args.state old place _ is found (sym of_call ∙ w.if-awaits.true)
          ((c.get_mut.follows.holds w.replace.new.dest).0 ∙ ap (λ p. set_value (bytes_eq tag) messages p) w.replace.ensures.after)
          ∙ ap (λ s. carried_by origin c.args.state s) c.self.view_is
      | else-awaits w ↦ ap (λ i. record { inbox = i.inbox; messages = i.messages.entries }) w.self-inside-is
          ∙ left_in_place origin tag c.args.state old place _ is found (sym of_call ∙ w.if-awaits.false)
          (c.get_mut.follows.holds place).0
          ∙ ap (λ s. carried_by origin c.args.state s) c.self.view_is
    ]
