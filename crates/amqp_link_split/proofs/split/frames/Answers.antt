use Rattle.std.proofs.Common.{◌≡◌, ◌<◌, ◌≤◌, ◌++◌, ◌∷◌, [], length, take, drop, rules, true, false}
use Rattle.amqp_link_types.specs.Frames.{cleared}
use Rattle.amqp_link_split.proofs.FrameLemmas.{first_with, further_with, Cutting-first, Cutting-more, split_last, fewest_last, each_last, fewest_alone}
use Rattle.amqp_link_split.proofs.split.frames.Goals as goal

pub loop-rest-init : goal.loop-rest-init
loop-rest-init c =
    let whole : c.in_ok-rest.rest ≡ c.args.payload.now = search rules in
    let long : c.args.limit < length c.args.payload.now = search rules in
    let front : c.in_ok-front.front ≡ take c.args.limit c.args.payload.now = search rules in
    let rest : c.split_to.new.self ≡ drop c.args.limit c.args.payload.now = search rules in
    let frames : c.push-2.new.self.items ≡ first_with c.args.input_handle c.args.transfer true c.in_ok-front.front ∷ [] = search rules in
    Cutting-first c.args.input_handle c.args.transfer c.args.payload.now c.args.limit _ _ _ long front rest frames

pub loop-rest-preserved : goal.loop-rest-preserved
loop-rest-preserved c =
    let long : c.args.limit < length c.loop-rest.rest = search rules in
    let piece : c.in_ok-piece.piece ≡ take c.args.limit c.loop-rest.rest = search rules in
    let rest : c.split_to-in-loop-rest.new.self ≡ drop c.args.limit c.loop-rest.rest = search rules in
    let copy : c.in_ok-clone.field-0 ≡ cleared c.args.transfer = search rules in
    let frames : c.push-in-loop-rest.new.self.items
    ≡ c.loop-rest.frames.items ++ further_with c.args.input_handle (cleared c.args.transfer) true c.in_ok-piece.piece ∷ [] = search rules in
    Cutting-more c.args.input_handle c.args.transfer c.args.payload.now c.args.limit _ _ _ _ _ c.loop-rest.invariant long piece rest frames

pub returns-clause-split : goal.returns-clause-split
returns-clause-split c =
    let short : length c.loop-rest.rest ≤ c.args.limit = search rules in
    let frames : c.push-3.new.self.items
    ≡ c.loop-rest.frames.items ++ further_with c.args.input_handle (cleared c.args.transfer) false c.loop-rest.rest ∷ [] = search rules in
    split_last c.args.input_handle c.args.transfer c.args.payload.now c.args.limit _ _ _ c.loop-rest.invariant short frames

pub returns-clause-each : goal.returns-clause-each
returns-clause-each c =
    let short : length c.loop-rest.rest ≤ c.args.limit = search rules in
    let frames : c.push-3.new.self.items
    ≡ c.loop-rest.frames.items ++ further_with c.args.input_handle (cleared c.args.transfer) false c.loop-rest.rest ∷ [] = search rules in
    each_last c.args.input_handle c.args.transfer c.args.payload.now c.args.limit _ _ _ c.loop-rest.invariant short frames

pub returns-clause-fewest : goal.returns-clause-fewest
returns-clause-fewest c =
    let short : length c.loop-rest.rest ≤ c.args.limit = search rules in
    let frames : c.push-3.new.self.items
    ≡ c.loop-rest.frames.items ++ further_with c.args.input_handle (cleared c.args.transfer) false c.loop-rest.rest ∷ [] = search rules in
    fewest_last c.args.input_handle c.args.transfer c.args.payload.now c.args.limit _ _ _ c.loop-rest.invariant short frames

pub returns-then-len-limit-clause-fewest : goal.returns-then-len-limit-clause-fewest
returns-then-len-limit-clause-fewest c =
    let short : length c.args.payload.now ≤ c.args.limit = search rules in
    let one : length c.push.new.self.items ≡ 1 = search rules in
    fewest_alone c.args.payload.now c.args.limit (length c.push.new.self.items) short one
