use Rattle.std.proofs.Common.{rules, ◌≡◌, Some, OnOk}
use Rattle.amqp_link_worlds.specs.Steps.{held_after}
use Rattle.amqp_link_pair.proofs.KeptLemmas.{held_added}
use Rattle.amqp_link_pair.proofs.receiving.go_on.Goals as goal

pub returns-clause-ok : goal.returns-clause-ok
returns-clause-ok c =
    let arrived = c.in_ok-transfer in
    let added : OnOk c.try_add.result (c.try_add.new.self ≡ held_after (Some c.args.held.now) c.args.id c.args.frame.now) =
    held_added c.try_add.result c.args.held.now c.try_add.new.self c.args.frame.now c.args.id c.args.begins_delivery arrived.transfer arrived.payload c.requires.can c.requires.turn
    arrived.ensures.transfer arrived.ensures.payload c.try_add.ensures.merged c.try_add.ensures.silent c.try_add.ensures.pieces in
    search rules
