use Rattle.std.proofs.Common.{None, Some}
use Rattle.amqp_link_uses.specs.Brokers.{done_in, ended_by_step, origin_at}
use Rattle.amqp_link_uses.proofs.PlaceLemmas.{attached_there, disposed_of, granted_within, outcome_returns, resumed_there, room_kept, room_taken, sent_on, settled_there, taken_in, taken_settled_in}
use Rattle.amqp_link_uses.proofs.broker.laws.the_room_is_never_passed.Goals as goal

pub returns : goal.returns
returns c = record {
  granted = granted_within;
  taken = λ link tag old new t. room_taken (record { link = link; tag = Some tag; number = old.next_number }) old new (taken_in link tag old new t);
  taken_settled = λ link old new t. room_taken (record { link = link; tag = None; number = old.next_number }) old new (taken_settled_in link old new t);
  sent = λ link old result new s. room_kept (done_in result) old new (sent_on link old result new s);
  returned = λ link tag outcome b. room_kept (origin_at link tag b.outgoing) b _ (outcome_returns link tag outcome b);
  disposed = λ link settled state tag old echo origin new d. room_kept origin old new (disposed_of link settled state tag old echo origin new d);
  settled = λ link s t b is same. room_kept None b _ (settled_there link s t b is same);
  attached = λ link o p b is same. room_kept None b _ (attached_there link o p b is same);
  resumed = λ is_sent link old result new s. room_kept (ended_by_step result) old new (resumed_there is_sent link old result new s);
}
