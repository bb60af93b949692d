use Rattle.std.proofs.Common.{rules, ◌≡◌, ◌≢◌, ◌++◌, ◌∷◌, [], ◌+◌, subst, sym, refl}
use Rattle.amqp_link_runs.specs.Runs.{AreRuns}
use Rattle.amqp_link_runs.proofs.RunLemmas.{goes_on, begins}
use Rattle.amqp_link_runs.proofs.next_run.Goals as goal

pub returns-then-eq : goal.returns-then-eq
returns-then-eq c =
    let next : c.args.id ≡ c.args.current.last + 1 = search rules in
    λ ids are. goes_on ids c.args.runs.now.items c.args.current _ c.args.id are next refl

pub returns : goal.returns
returns c =
    let pushed : c.push.new.self.items ≡ c.args.runs.now.items ++ c.args.current ∷ [] = search rules in
    let breaks : c.args.id ≢ c.args.current.last + 1 = search rules in
    λ ids are. subst (λ items. AreRuns (ids ++ c.args.id ∷ []) (items ++ record { first = c.args.id; last = c.args.id } ∷ [])) (sym pushed)
    (begins ids c.args.runs.now.items c.args.current _ c.args.id are breaks refl)
