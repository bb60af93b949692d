use Rattle.std.proofs.Common.{rules, ◌≡◌, ◌∙◌, ◌++◌, ◌∷◌, [], ap, map, sym, append_assoc, Err}
use Rattle.amqp_link_dispositions.specs.Ending.{closed_for, all_closed}
use Rattle.amqp_link_ledger.proofs.ledger.closing.closed_outcomes.Goals as goal

pub loop-preserved : goal.loop-preserved
loop-preserved c =
    let step : c.loop.iterator' ≡ (c.in-Some.field-0.0.now, c.in-Some.field-0.1.now) ∷ c.next.new.self = search rules in
    ap (λ l. l ++ map (λ ended. ended.1) (all_closed c.args.error.now c.next.new.self)) (c.in_ok-push.ensures.items ∙ ap (λ o. c.loop.copies.items ++ o ∷ []) c.in_ok-closed_outcome.ensures)
    ∙ append_assoc c.loop.copies.items (Err (closed_for c.args.error.now) ∷ []) (map (λ ended. ended.1) (all_closed c.args.error.now c.next.new.self))
    ∙ ap (λ l. c.loop.copies.items ++ map (λ ended. ended.1) (all_closed c.args.error.now l)) (sym step)
    ∙ c.loop.invariant
