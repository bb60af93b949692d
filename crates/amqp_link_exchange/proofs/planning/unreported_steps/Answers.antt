use Rattle.std.proofs.Common.{rules, ◌≡◌, ◌∙◌, ◌++◌, ◌∷◌, [], map, sym, subst, ap, None, append_assoc}
use Rattle.std.proofs.lemmas.List.{map-append}
use Rattle.std.specs.Map.Iter.{deref_pair}
use Rattle.amqp_link_types.specs.Entries.{Tag}
use Rattle.amqp_link_types.specs.declared.delivery.UnsettledMessage.{UnsettledMessage}
use Rattle.amqp_link_exchange.specs.Plans.{Pairwise, IsStepFor}
use Rattle.amqp_link_exchange.proofs.PlanLemmas.{Pairwise-push, no_tag}
use Rattle.amqp_link_exchange.proofs.planning.unreported_steps.Goals as goal

pub loop-entry-preserved : goal.loop-entry-preserved
loop-entry-preserved c =
    let done = map deref_pair c.loop-entry.yielded in
    let pair : Tag × UnsettledMessage = (c.in-Some.field-0-0.now, c.in-Some.entry.now) in
    let step : c.loop-entry.entry-iterator ≡ pair ∷ c.next.new.self = search rules in
    let more : map deref_pair (c.loop-entry.yielded ++ (c.in-Some.field-0-0, c.in-Some.entry) ∷ []) ≡ done ++ pair ∷ []
    = map-append deref_pair c.loop-entry.yielded ((c.in-Some.field-0-0, c.in-Some.entry) ∷ []) in
    record {
      whole = ap (λ l. l ++ c.next.new.self) more ∙ append_assoc done (pair ∷ []) c.next.new.self ∙ ap (λ l. done ++ l) (sym step) ∙ c.loop-entry.invariant.whole;
      each = subst (λ l. Pairwise (λ e s. IsStepFor e None s) l c.push.new.self.items) (sym more)
          (subst (λ l. Pairwise (λ e s. IsStepFor e None s) (done ++ pair ∷ []) l) (sym c.in_ok-push.ensures.items)
          (Pairwise-push (λ e s. IsStepFor e None s) done c.loop-entry.steps.items pair (record { plan = c.in_ok-plan.plan; tag = None })
          c.loop-entry.invariant.each (no_tag pair c.in_ok-plan.plan c.in_ok-plan.ensures.planned)));
    }
