-- Values of the definitions that were worked out by hand: runs near the wrap of the counts.
use Rattle.std.proofs.Common.{◌≡◌, true, false, refl, Some, None, [], ◌∷◌}
use Rattle.amqp_link_state.specs.Counts.{count_limit, after_consuming, with_stated, stated_flow, sender_after, sender_reply, receiver_after, flow_of}
use Rattle.amqp_link_state.specs.declared.state.LinkFlowStateInner.{LinkFlowStateInner}
use Rattle.amqp_link_types.specs.Refusals.{refusal}
use Rattle.amqp_link_worlds.specs.Steps.{zero_output, new_flow}
use Rattle.amqp_link_credit.specs.CreditCalls.{new_run, granting_tests}
use Rattle.amqp_link_credit.specs.CreditWorlds.{CreditWorld}
use Rattle.amqp_link_credit.specs.declared.error.CreditRunError.TheVariants as error

-- ---- three credits at the count 4294967294

abbrev receiver : LinkFlowStateInner
receiver = with_stated (Some 3) (Some false) (new_flow 4294967294)

limit_wraps : count_limit receiver ≡ 1
limit_wraps = refl

abbrev granted_three : CreditWorld
granted_three =
    let w = new_run 4294967294 64 in
    let r = w.receiver in
    record w { receiver = record r { flow_state = receiver }; back = stated_flow receiver zero_output false false ∷ []; stated = count_limit receiver }

two_are_less : refusal (granting_tests granted_three 2) ≡ Some error.LimitLowered
two_are_less = refl

three_are_not : refusal (granting_tests granted_three 3) ≡ None
three_are_not = refl

half_is_too_much : refusal (granting_tests granted_three 2147483648) ≡ Some error.CreditTooLarge
half_is_too_much = refl

most_is_not : refusal (granting_tests granted_three 2147483647) ≡ None
most_is_not = refl

-- the fourth send
abbrev sender : LinkFlowStateInner
sender = sender_after (stated_flow receiver zero_output false false) (new_flow 4294967294)

sender_has_three : sender.link_credit ≡ 3
sender_has_three = refl

abbrev sender_after_three : LinkFlowStateInner
sender_after_three = after_consuming 1 (after_consuming 1 (after_consuming 1 sender))

count_wraps : sender_after_three.delivery_count ≡ 1
count_wraps = refl

none_is_left : sender_after_three.link_credit ≡ 0
none_is_left = refl

receiver_after_three : after_consuming 1 (after_consuming 1 (after_consuming 1 receiver)) ≡ record receiver { delivery_count = 1; link_credit = 0 }
receiver_after_three = refl

-- ---- a drain of three, and two credits after it

abbrev draining : LinkFlowStateInner
draining = with_stated (Some 3) (Some true) (new_flow 4294967294)

abbrev drained : LinkFlowStateInner
drained = sender_after (stated_flow draining zero_output false false) (new_flow 4294967294)

drained_is : drained ≡ record (new_flow 4294967294) { delivery_count = 1; link_credit = 0; drain = true }
drained_is = refl

it_is_answered : sender_reply (stated_flow draining zero_output false false) (new_flow 4294967294) zero_output ≡ Some (flow_of drained zero_output false)
it_is_answered = refl

receiver_hears : receiver_after (flow_of drained zero_output false) draining ≡ record draining { delivery_count = 1 }
receiver_hears = refl

abbrev granted_two : LinkFlowStateInner
granted_two = with_stated (Some 2) (Some false) (record draining { delivery_count = 1 })

two_more : (sender_after (stated_flow granted_two zero_output false false) drained).link_credit ≡ 2
two_more = refl
