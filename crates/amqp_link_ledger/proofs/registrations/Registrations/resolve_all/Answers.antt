use Rattle.std.proofs.Common.{◌∙◌, sym, ap, refl, [], ◌∷◌}
use Rattle.std.specs.Vec.Iter.{into_iter_items}
use Rattle.amqp_link_ledger.specs.declared.fate.Fate.TheVariants.{Resolved}
use Rattle.amqp_link_ledger.specs.Fates.{with_fates}
use Rattle.amqp_link_ledger.proofs.LoopLemmas.{given_next, given_all, beside_first, beside_others}
use Rattle.amqp_link_ledger.proofs.registrations.Registrations.resolve_all.Goals as goal

pub loop-tag-preserved : goal.loop-tag-preserved
loop-tag-preserved c =
    let list = c.args.ended.now in
    let i = c.loop-tag.tag-index in
    let e = c.loop-tag-item.result in
    let same = sym c.in-Some.ensures.items ∙ c.loop-tag.invariant.outcomes in
    let outcome = beside_first list i e c.loop-tag-test.true c.loop-tag-item.is c.in-Some.outcome (into_iter_items c.next.new.self) same in
    record {
      left = given_next Resolved (λ _. refl) list i e c.loop-tag.self.records c.end.new.self.records _ c.loop-tag-test.true c.loop-tag-item.is
          (c.end.ensures.records ∙ ap (λ o. with_fates ((e.0, Resolved o) ∷ []) c.loop-tag.self.records) outcome) c.loop-tag.invariant.left;
      outcomes = beside_others list i e c.loop-tag-test.true c.loop-tag-item.is c.in-Some.outcome (into_iter_items c.next.new.self) same;
      room = λ h. c.end.ensures.room (c.loop-tag.invariant.room h);
    }

pub returns-clause-records : goal.returns-clause-records
returns-clause-records c =
    given_all Resolved (λ _. refl) c.args.ended.now c.loop-tag.tag-index c.loop-tag.self.records _ c.loop-tag-test.false c.loop-tag.invariant.left
