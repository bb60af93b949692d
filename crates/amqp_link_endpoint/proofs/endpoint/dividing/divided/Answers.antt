use Rattle.std.proofs.Common.{rules, ◌∙◌, sym, length, arith}
use Rattle.std.proofs.Math.Nat.{div-one}
use Rattle.amqp_link_endpoint.specs.Attaching.{FitsFrame}
use Rattle.amqp_link_endpoint.proofs.Halving.{Halved-never, Halved-next}
use Rattle.amqp_link_endpoint.proofs.endpoint.dividing.divided.Goals as goal

pub loop-sent-init : goal.loop-sent-init
loop-sent-init c = record {
  halvings = 0;
  left = c.len-count.ensures.len ∙ sym (div-one (length c.args.entries));
  sent = c.with_all-sent.ensures;
  least = λ i less. absurd (omega arith);
}

pub returns-then-count-eq0-clause-none : goal.returns-then-count-eq0-clause-none
returns-then-count-eq0-clause-none c =
    let large : ¬ FitsFrame c.loop-sent.sent c.args.max_frame_size = search rules in
    Halved-never (rw c.if-count-eq0.true at c.loop-sent.invariant) large

pub loop-sent-preserved : goal.loop-sent-preserved
loop-sent-preserved c =
    let large : ¬ FitsFrame c.loop-sent.sent c.args.max_frame_size = search rules in
    rw c.keep_entries.ensures (Halved-next c.loop-sent.invariant large)
