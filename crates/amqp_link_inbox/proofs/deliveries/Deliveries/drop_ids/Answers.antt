use Rattle.std.proofs.Common.{◌≡◌, ◌∙◌, ◌+◌, ◌<◌, None, Some, ap, arith, length, rules, subst, suc}
use Rattle.std.specs.Map.{values_of}
use Rattle.std.specs.Prelude.{slice_get}
use Rattle.indexmap.specs.IndexMap.{set_value_at}
use Rattle.amqp_link_inbox.proofs.IdLemmas.{halfway, next_dropped}
use Rattle.amqp_link_inbox.proofs.deliveries.Deliveries.drop_ids.Goals as goal

pub loop-index-preserved : goal.loop-index-preserved
loop-index-preserved c =
    let entries = c.self.inside.entries.entries in
    let i = c.loop-index.index in
    let kept = c.in-Some.kept.now in
    let so_far : c.loop-index.self-inside.entries.entries ≡ halfway entries i = c.loop-index.invariant.entries in
    let found : slice_get (values_of c.loop-index.self-inside.entries.entries) i ≡ Some kept = search rules in
    let within : i < length entries = omega (arith, c.loop-index-test.true, c.loop-index.invariant.end) in
    let next : suc i ≡ i + 1 = omega arith in
    record {
      entries = ap (λ l. set_value_at l i (record kept { id = None })) so_far
          ∙ next_dropped entries i kept within (subst (λ l. slice_get (values_of l) i ≡ Some kept) so_far found) ∙ ap (halfway entries) next;
      settled = c.loop-index.invariant.settled;
      end = c.loop-index.invariant.end;
    }
