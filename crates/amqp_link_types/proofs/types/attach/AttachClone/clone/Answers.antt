use Rattle.amqp_link_types.proofs.types.attach.AttachClone.clone.Goals as goal

-- equal where each copied field is
pub returns-clause-copy : goal.returns-clause-copy
returns-clause-copy c = λ i. record {
  name = c.in_ok-name.ensures.copy i;
  handle = c.args.self.now.handle;
  role = c.args.self.now.role;
  snd_settle_mode = c.args.self.now.snd_settle_mode;
  rcv_settle_mode = c.args.self.now.rcv_settle_mode;
  source = c.in_ok-source.ensures.first i;
  target = c.in_ok-source.ensures.second i;
  unsettled = c.in_ok-unsettled.ensures.first i;
  incomplete_unsettled = c.args.self.now.incomplete_unsettled;
  initial_delivery_count = c.args.self.now.initial_delivery_count;
  max_message_size = c.args.self.now.max_message_size;
  offered_capabilities = c.in_ok-offered_capabilities.ensures.first i;
  desired_capabilities = c.in_ok-offered_capabilities.ensures.second i;
  properties = c.in_ok-unsettled.ensures.second i;
}
