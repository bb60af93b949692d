use Rattle.std.proofs.Common.{subst, sym}
use Rattle.amqp_link_ledger.specs.Fates.{IsNumbered}
use Rattle.amqp_link_ledger.proofs.ReleaseLemmas.{IsNumbered-released}
use Rattle.amqp_link_ledger.proofs.registrations.Registrations.release.Goals as goal

pub invariant_of-self : goal.invariant_of-self
invariant_of-self c =
    let inside = c.self.inside in
    subst (λ r. IsNumbered r inside.numbers.entries) (sym c.release.ensures.records)
    (IsNumbered-released inside.records.records inside.numbers.entries c.args.before c.self.invariant c.in_default.ensures.none)
