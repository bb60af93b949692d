use Rattle.std.proofs.Common.{refl}
use Rattle.amqp_link_uses.proofs.PlaceLemmas.{attached_there, disposed_of, outcome_returns, resumed_there, sent_on, taken_in, taken_settled_in}
use Rattle.amqp_link_uses.proofs.broker.laws.each_message_is_in_one_place.Goals as goal

pub returns : goal.returns
returns c = record {
  taken = λ f link tag old new t. (taken_in link tag old new t).messages f;
  taken_settled = λ f link old new t. (taken_settled_in link old new t).messages f;
  sent = λ f link old result new s. (sent_on link old result new s).messages f;
  returned = λ f link tag outcome b. (outcome_returns link tag outcome b).messages f;
  disposed = λ f link settled state tag old echo origin new d. (disposed_of link settled state tag old echo origin new d).messages f;
  incoming = λ f link s b. refl;
  attached = λ f link o p b is same. (attached_there link o p b is same).messages f;
  resumed = λ f is_sent link old result new s. (resumed_there is_sent link old result new s).messages f;
}
