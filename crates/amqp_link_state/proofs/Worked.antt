-- Values of the definitions that were worked out by hand: docs/DEFINITIONS.md lists them.
use Rattle.std.proofs.Common.{◌≡◌, ◌+◌, ◌*◌, ◌^◌, pos, negsuc, true, false, refl, Some, None}
use Rattle.amqp_link_state.specs.Counts.{sdiff, granted, count_limit, after_consuming}
use Rattle.amqp_link_state.specs.Counts.{flow_of, credit_after, sender_after, sender_reply, receiver_after, receiver_reply}
use Rattle.amqp_link_state.specs.Counts.{with_stated, stated_flow}
use Rattle.amqp_link_state.specs.Counts.{given_back, keeping_reply, sender_flow, sender_keeping, with_available}
use Rattle.amqp_link_state.specs.declared.state.LinkFlowStateInner.{LinkFlowStateInner}
use Rattle.amqp_link_types.specs.declared.types.performatives.LinkFlow.{LinkFlow}

count_wraps : sdiff 2 4294967290 ≡ pos 8
count_wraps = refl

-- of numbers past 2^32 too
count_of_any_size : sdiff (5 * 2 ^ 32) (3 * 2 ^ 32 + 7) ≡ negsuc 6
count_of_any_size = refl

count_behind : sdiff 2147483648 0 ≡ negsuc 2147483647
count_behind = refl

grant_past_the_wrap : granted 4294967290 10 2 ≡ 2
grant_past_the_wrap = refl

grant_held_at_most : granted 5 4294967295 0 ≡ 4294967295
grant_held_at_most = refl

grant_of_none_left : granted 2147483648 10 0 ≡ 0
grant_of_none_left = refl

abbrev at_the_wrap : LinkFlowStateInner
at_the_wrap = record {
  initial_delivery_count = 0;
  delivery_count = 4294967295;
  link_credit = 3;
  available = 0;
  drain = false;
  properties = None;
}

limit_at_the_wrap : count_limit at_the_wrap ≡ 2
limit_at_the_wrap = refl

limit_stays : count_limit (after_consuming 1 at_the_wrap) ≡ 2
limit_stays = refl

-- a receiver that has seen three deliveries fewer grants 10 and drains
abbrev draining : LinkFlow
draining = record {
  handle = record { 0 = 4 };
  delivery_count = Some 4294967292;
  link_credit = Some 10;
  available = Some 6;
  drain = true;
  echo = false;
  properties = None;
}

granted_by_a_flow : credit_after draining at_the_wrap ≡ 7
granted_by_a_flow = refl

nothing_granted : credit_after (record draining { link_credit = None }) at_the_wrap ≡ 3
nothing_granted = refl

-- where the flow has no count, the initial count 0 is meant: one ahead of the own
granted_at_the_initial_count : credit_after (record draining { delivery_count = None }) at_the_wrap ≡ 11
granted_at_the_initial_count = refl

drained_sender : sender_after draining at_the_wrap ≡ record at_the_wrap { delivery_count = 6; link_credit = 0; drain = true }
drained_sender = refl

reply_to_a_drain : sender_reply draining at_the_wrap (record { 0 = 9 }) ≡ Some (record {
  handle = record { 0 = 9 };
  delivery_count = Some 6;
  link_credit = Some 0;
  available = Some 0;
  drain = true;
  echo = false;
  properties = None;
})
reply_to_a_drain = refl

kept_of_a_drain : sender_keeping draining at_the_wrap ≡ record at_the_wrap { link_credit = 7; drain = true }
kept_of_a_drain = refl

no_reply_while_it_is_kept : keeping_reply draining at_the_wrap (record { 0 = 9 }) ≡ None
no_reply_while_it_is_kept = refl

-- two of the seven are spent, and five given back
rest_given_back : given_back (after_consuming 2 (sender_keeping draining at_the_wrap)) ≡ record at_the_wrap { delivery_count = 6; link_credit = 0; drain = true }
rest_given_back = refl

two_wait : with_available (Some 2) at_the_wrap ≡ record at_the_wrap { available = 2 }
two_wait = refl

stated_to_the_receiver : sender_flow (with_available (Some 2) at_the_wrap) (record { 0 = 9 }) true true ≡ record {
  handle = record { 0 = 9 };
  delivery_count = Some 4294967295;
  link_credit = Some 3;
  available = Some 2;
  drain = false;
  echo = true;
  properties = None;
}
stated_to_the_receiver = refl

receiver_keeps_its_credit : receiver_after draining at_the_wrap ≡ record at_the_wrap { delivery_count = 4294967292; available = 6 }
receiver_keeps_its_credit = refl

no_echo_is_asked : receiver_reply draining at_the_wrap (record { 0 = 9 }) ≡ None
no_echo_is_asked = refl

echo_is_answered : receiver_reply (record draining { echo = true }) at_the_wrap (record { 0 = 9 }) ≡
    Some (flow_of (receiver_after draining at_the_wrap) (record { 0 = 9 }) false)
echo_is_answered = refl

credit_alone_is_set : with_stated (Some 8) None at_the_wrap ≡ record at_the_wrap { link_credit = 8 }
credit_alone_is_set = refl

stated_to_the_sender : stated_flow (with_stated (Some 8) None at_the_wrap) (record { 0 = 9 }) true false ≡ record {
  handle = record { 0 = 9 };
  delivery_count = Some 4294967295;
  link_credit = Some 8;
  available = None;
  drain = false;
  echo = true;
  properties = None;
}
stated_to_the_sender = refl
