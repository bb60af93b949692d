use Rattle.std.proofs.Common.{[], ap, Err}
use Rattle.std.specs.List.{concat}
use Rattle.amqp_link_credit.proofs.HandLemmas.{only_memory}
use Rattle.amqp_link_credit.proofs.credit_run.receiving.hand_out.Goals as goal

pub out_of_memory-requires : goal.out_of_memory-requires
out_of_memory-requires c =
    only_memory c.in-Err.error c.args.receiver.now c.on_complete_transfer-answer.new.self c.performative.result.now c.args.whole.performative
    c.position-number.result.0 c.position-number.result.1 (record { preamble = []; body = record { 0 = concat c.pieces.result.now }; footer = [] }) c.in-Err.ensures.refused c.performative.ensures c.requires.taken

pub returns-in-Err-clause-left : goal.returns-in-Err-clause-left
returns-in-Err-clause-left c =
    (c.in-Err.ensures.memory (ap Err (only_memory c.in-Err.error c.args.receiver.now c.on_complete_transfer-answer.new.self c.performative.result.now c.args.whole.performative
    c.position-number.result.0 c.position-number.result.1 (record { preamble = []; body = record { 0 = concat c.pieces.result.now }; footer = [] }) c.in-Err.ensures.refused c.performative.ensures c.requires.taken))).0
