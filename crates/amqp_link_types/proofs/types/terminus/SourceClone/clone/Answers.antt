use Rattle.std.proofs.Common.{◌≡◌, true, rules}
use Rattle.amqp_link_values.specs.Copies.{carries_any}
use Rattle.amqp_link_types.specs.Copies.{source_carries_more}
use Rattle.amqp_link_types.proofs.CopyLemmas.{last_carry}
use Rattle.amqp_link_types.proofs.types.terminus.SourceClone.clone.Goals as goal

-- equal where each copied field is
pub returns-clause-copy : goal.returns-clause-copy
returns-clause-copy c = λ i. record {
  address = c.in_ok-address.ensures.first i;
  durable = c.args.self.now.durable;
  expiry_policy = c.args.self.now.expiry_policy;
  timeout = c.args.self.now.timeout;
  dynamic = c.args.self.now.dynamic;
  dynamic_node_properties = c.in_ok-address.ensures.second i;
  distribution_mode = c.args.self.now.distribution_mode;
  filter = c.in_ok-filter.ensures.first i;
  default_outcome = c.in_ok-filter.ensures.second i;
  outcomes = c.in_ok-outcomes.ensures.first i;
  capabilities = c.in_ok-outcomes.ensures.second i;
}

pub returns-in_err-outcomes-clause-memory : goal.returns-in_err-outcomes-clause-memory
returns-in_err-outcomes-clause-memory c =
    let source = c.args.self.now in
    let carries : source_carries_more source ≡ true
    = last_carry _ carries_any carries_any source.outcomes source.capabilities c.in_err-outcomes.ensures.memory in
    search rules
