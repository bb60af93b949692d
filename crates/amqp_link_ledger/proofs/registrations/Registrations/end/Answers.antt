use Rattle.std.proofs.Common.{◌≡◌, refl, subst, sym, true}
use Rattle.std.specs.Prelude.{IsSomeAnd}
use Rattle.amqp_link_ledger.specs.Fates.{is_pending_fate}
use Rattle.amqp_link_ledger.specs.declared.fate.Fate.TheVariants.{Pending}
use Rattle.amqp_link_ledger.proofs.NumberLemmas.{set_is, untouched_is, IsNumbered-set}
use Rattle.amqp_link_ledger.proofs.registrations.Registrations.end.Goals as goal

pub set_fate-requires : goal.set_fate-requires
set_fate-requires c =
    subst (λ o. IsSomeAnd o (λ r. is_pending_fate r.1 ≡ true)) (sym (c.self.invariant.stands c.args.tag.now c.in-Some.number (sym c.in-Some.ensures.number))) refl

pub invariant_of-self : goal.invariant_of-self
invariant_of-self c =
    let there = c.self.invariant.stands c.args.tag.now c.in-Some.number (sym c.in-Some.ensures.number) in
    rw (c.set_fate.ensures.records c.args.tag.now Pending there)
    (IsNumbered-set _ _ c.self.invariant c.args.tag.now _ c.take_number.ensures.at c.in-Some.number c.args.fate (sym c.in-Some.ensures.number) c.requires)

pub returns-in-Some-clause-records : goal.returns-in-Some-clause-records
returns-in-Some-clause-records c =
    let there = c.self.invariant.stands c.args.tag.now c.in-Some.number (sym c.in-Some.ensures.number) in
    rw (c.set_fate.ensures.records c.args.tag.now Pending there, ← c.self.view_is)
    (set_is _ _ c.self.invariant c.args.tag.now c.in-Some.number c.args.fate (sym c.in-Some.ensures.number))

pub returns-in-None-clause-records : goal.returns-in-None-clause-records
returns-in-None-clause-records c =
    rw (← c.self.view_is) (untouched_is _ _ c.self.invariant c.args.tag.now c.args.fate (sym c.in-None.ensures.number))
