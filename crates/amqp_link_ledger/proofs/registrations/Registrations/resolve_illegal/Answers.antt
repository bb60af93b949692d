use Rattle.std.proofs.Common.{◌∙◌, sym, ap, refl, [], ◌∷◌}
use Rattle.amqp_link_ledger.specs.declared.fate.Fate.TheVariants.{Resolved}
use Rattle.amqp_link_ledger.specs.Fates.{with_fates}
use Rattle.amqp_link_ledger.proofs.LoopLemmas.{given_next, given_all}
use Rattle.amqp_link_ledger.proofs.registrations.Registrations.resolve_illegal.Goals as goal

pub loop-tag-preserved : goal.loop-tag-preserved
loop-tag-preserved c =
    let e = c.loop-tag-item.result in
    let outcome = ap (λ (x : _). x.1) c.loop-tag-item.is ∙ c.requires c.loop-tag.tag-index e c.loop-tag-test.true in
    record {
      left = given_next Resolved (λ _. refl) c.args.ended.now c.loop-tag.tag-index e c.loop-tag.self.records c.end.new.self.records _ c.loop-tag-test.true c.loop-tag-item.is
          (c.end.ensures.records ∙ ap (λ o. with_fates ((e.0, Resolved o) ∷ []) c.loop-tag.self.records) (sym outcome)) c.loop-tag.invariant.left;
      room = λ h. c.end.ensures.room (c.loop-tag.invariant.room h);
    }

pub returns-clause-records : goal.returns-clause-records
returns-clause-records c =
    given_all Resolved (λ _. refl) c.args.ended.now c.loop-tag.tag-index c.loop-tag.self.records _ c.loop-tag-test.false c.loop-tag.invariant.left
