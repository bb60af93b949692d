use Rattle.std.proofs.Common.{refl}
use Rattle.amqp_link_ledger.specs.declared.fate.Fate.TheVariants.{HandedOut}
use Rattle.amqp_link_ledger.proofs.LoopLemmas.{given_next, given_all}
use Rattle.amqp_link_ledger.proofs.registrations.Registrations.hand_out.Goals as goal

pub loop-tag-preserved : goal.loop-tag-preserved
loop-tag-preserved c = record {
  left = given_next (λ _. HandedOut) (λ _. refl) c.args.list.now c.loop-tag.tag-index c.loop-tag-item.result c.loop-tag.self.records c.end.new.self.records _ c.loop-tag-test.true c.loop-tag-item.is c.end.ensures.records c.loop-tag.invariant.left;
  room = λ h. c.end.ensures.room (c.loop-tag.invariant.room h);
}

pub returns-clause-records : goal.returns-clause-records
returns-clause-records c =
    given_all (λ _. HandedOut) (λ _. refl) c.args.list.now c.loop-tag.tag-index c.loop-tag.self.records _ c.loop-tag-test.false c.loop-tag.invariant.left
