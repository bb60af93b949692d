use Rattle.std.proofs.Common.{◌-◌, ◌∙◌, take, drop, ap, sym}
use Rattle.amqp_link_payloads.specs.Header.{header_len}
use Rattle.amqp_link_payloads.proofs.HeaderLemmas.{ending_small, ending_large, ending_none}
use Rattle.amqp_link_payloads.proofs.TailLemmas.{quick_none, last_three, last_ten}
use Rattle.amqp_link_payloads.proofs.position.header.header_before.Goals as goal

pub returns-then-not-may_end : goal.returns-then-not-may_end
returns-then-not-may_end c = sym (quick_none c.args.bytes.now c.args.i c.requires.before (sym c.may_end.ensures ∙ c.if-not-may_end.true))

pub returns-then-header_len-eq3 : goal.returns-then-header_len-eq3
returns-then-header_len-eq3 c =
    sym (ending_small (take 10 (drop (c.args.i - 9) c.args.bytes.now)) (ap header_len (sym (last_three c.args.bytes.now c.args.i c.requires.before)) ∙ sym c.header_len.ensures ∙ c.if-header_len-eq3.true))

pub returns-then-header_len-eq10 : goal.returns-then-header_len-eq10
returns-then-header_len-eq10 c =
    let xs = c.args.bytes.now in
    let i = c.args.i in
    sym (ending_large (take 10 (drop (i - 9) xs)) (λ e. c.if-header_len-eq3.false (c.header_len.ensures ∙ ap header_len (last_three xs i c.requires.before) ∙ e))
    (ap header_len (sym (last_ten xs i c.requires.before)) ∙ sym c.header_len-else-header_len-eq3.ensures ∙ c.if-header_len-eq10.true))

pub returns-else-header_len-eq10 : goal.returns-else-header_len-eq10
returns-else-header_len-eq10 c =
    let xs = c.args.bytes.now in
    let i = c.args.i in
    sym (ending_none (take 10 (drop (i - 9) xs)) (λ e. c.if-header_len-eq3.false (c.header_len.ensures ∙ ap header_len (last_three xs i c.requires.before) ∙ e))
    (λ e. c.if-header_len-eq10.false (c.header_len-else-header_len-eq3.ensures ∙ ap header_len (last_ten xs i c.requires.before) ∙ e)))
