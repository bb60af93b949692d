use Rattle.std.proofs.Common.{◌≡◌, ◌∙◌, [], None, sym, subst, arith}
use Rattle.std.proofs.lemmas.Grind.{common_steps}
use Rattle.amqp_link_endpoint.specs.Attaching.{States}
use Rattle.amqp_link_exchange.specs.Plans.{IsStepFor, IsProgress}
use Rattle.amqp_link_exchange.proofs.PlanLemmas.{Pairwise-length, progress-begin, progress-end}
use Rattle.amqp_link_exchange.proofs.planning.plan_each.Goals as goal

pub loop-tag-init : goal.loop-tag-init
loop-tag-init c =
    let left : c.into_iter-tag-iterator.result ≡ c.args.remote = (c.into_iter-tag-iterator.ensures.into_iter_gives).0 ∙ c.into_map-tag-items.ensures in
    record {
      each = Pairwise-length (λ e s. IsStepFor e None s) c.args.own.now c.in_ok-steps.steps.items c.in_ok-steps.ensures;
      read = subst (λ l. IsProgress c.args.own.now (record { steps = c.in_ok-steps.steps.items; aborts = l }) c.into_iter-tag-iterator.result c.args.remote) (sym c.new-aborts.ensures.items)
          (subst (λ (l : States). IsProgress c.args.own.now (record { steps = c.in_ok-steps.steps.items; aborts = [] }) l c.args.remote) (sym left)
          (progress-begin c.args.own.now c.in_ok-steps.steps.items c.args.remote c.requires.remote_distinct c.in_ok-steps.ensures));
    }

pub returns : goal.returns
returns c =
    let none : c.loop-tag.tag-iterator ≡ [] = grind (arith, common_steps) in
    progress-end c.args.own.now (record { steps = c.loop-tag.steps.items; aborts = c.loop-tag.aborts.items }) c.args.remote
    (subst (λ (l : States). IsProgress c.args.own.now (record { steps = c.loop-tag.steps.items; aborts = c.loop-tag.aborts.items }) l c.args.remote) none c.loop-tag.invariant.read)
