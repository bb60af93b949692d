use Rattle.std.proofs.Common.{rules, ◌≡◌, ◌∙◌, ◌++◌, ◌∷◌, [], ap, sym, subst, length, arith, append_assoc}
use Rattle.std.proofs.lemmas.List.{length-append}
use Rattle.std.specs.Vec.Iter.{into_iter_items}
use Rattle.amqp_link_exchange.specs.Plans.{Pairwise, IsResolvable, resumed_by, ended_by_steps, resumed_count, ended_count}
use Rattle.amqp_link_exchange.proofs.PlanLemmas.{resumed_first, ended_first, within_counts}
use Rattle.amqp_link_exchange.proofs.planning.resolve_each.Goals as goal

pub loop-tag-preserved : goal.loop-tag-preserved
loop-tag-preserved c =
    let tag = c.in-Some.tag in
    let entry = c.in-Some.entry in
    let step = c.in-Some-next.step in
    let pairs = c.next.new.self in
    let steps = into_iter_items c.next-in-loop-tag.new.self in
    let left : c.loop-tag.tag-iterator ≡ (tag, entry) ∷ pairs = search rules in
    let more : into_iter_items c.loop-tag.steps ≡ step ∷ steps = search rules in
    let resumed : resumed_by c.loop-tag.tag-iterator (into_iter_items c.loop-tag.steps) ≡ resumed_by ((tag, entry) ∷ []) (step ∷ []) ++ resumed_by pairs steps
    = ap (λ l. resumed_by l (into_iter_items c.loop-tag.steps)) left ∙ ap (λ l. resumed_by ((tag, entry) ∷ pairs) l) more ∙ resumed_first (tag, entry) step pairs steps in
    let ended : ended_by_steps c.loop-tag.tag-iterator (into_iter_items c.loop-tag.steps) ≡ ended_by_steps ((tag, entry) ∷ []) (step ∷ []) ++ ended_by_steps pairs steps
    = ap (λ l. ended_by_steps l (into_iter_items c.loop-tag.steps)) left ∙ ap (λ l. ended_by_steps ((tag, entry) ∷ pairs) l) more ∙ ended_first (tag, entry) step pairs steps in
    let able : Pairwise IsResolvable ((tag, entry) ∷ pairs) (step ∷ steps)
    = subst (λ l. Pairwise IsResolvable ((tag, entry) ∷ pairs) l) more (subst (λ l. Pairwise IsResolvable l (into_iter_items c.loop-tag.steps)) left c.loop-tag.invariant.able) in
    record {
      able = able.1;
      list = ap (λ l. l ++ resumed_by pairs steps) c.resolve_one.ensures.list
          ∙ append_assoc c.loop-tag.list.items (resumed_by ((tag, entry) ∷ []) (step ∷ [])) (resumed_by pairs steps)
          ∙ ap (λ l. c.loop-tag.list.items ++ l) (sym resumed) ∙ c.loop-tag.invariant.list;
      outcomes = ap (λ l. l ++ ended_by_steps pairs steps) c.resolve_one.ensures.outcomes
          ∙ append_assoc c.loop-tag.outcomes.items (ended_by_steps ((tag, entry) ∷ []) (step ∷ [])) (ended_by_steps pairs steps)
          ∙ ap (λ l. c.loop-tag.outcomes.items ++ l) (sym ended) ∙ c.loop-tag.invariant.outcomes;
      list_room = omega (
        arith,
        ap length c.resolve_one.ensures.list,
        length-append c.loop-tag.list.items (resumed_by ((tag, entry) ∷ []) (step ∷ [])),
        (within_counts ((tag, entry) ∷ []) (step ∷ [])).0,
        ap resumed_count more,
        c.loop-tag.invariant.list_room,
        c.resolve_one.ensures.list_capacity,
      );
      outcome_room = omega (
        arith,
        ap length c.resolve_one.ensures.outcomes,
        length-append c.loop-tag.outcomes.items (ended_by_steps ((tag, entry) ∷ []) (step ∷ [])),
        (within_counts ((tag, entry) ∷ []) (step ∷ [])).1,
        ap ended_count more,
        c.loop-tag.invariant.outcome_room,
        c.resolve_one.ensures.outcome_capacity,
      );
      capacity = omega (arith, c.loop-tag.invariant.capacity, c.resolve_one.ensures.list_capacity);
    }
