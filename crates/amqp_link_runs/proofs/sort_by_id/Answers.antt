use Rattle.std.proofs.Common.{rules, ◌≡◌}
use Rattle.std.proofs.lemmas.Fn.{always_returns_same}
use Rattle.amqp_link_runs.proofs.OrderLemmas.{sorted_where_ok}
use Rattle.amqp_link_runs.proofs.sort_by_id.Goals as goal

pub returns-clause-sorted : goal.returns-clause-sorted
returns-clause-sorted g c =
    sorted_where_ok (λ p. p.0) _ c.sort_by_key.result c.args.pairs.now.items c.sort_by_key.new.self.items
    (always_returns_same _ (λ a r. r ≡ a.0.now.0) _ (λ a r f k. search rules))
    c.sort_by_key.ensures.sorted c.sort_by_key.ensures.stable
