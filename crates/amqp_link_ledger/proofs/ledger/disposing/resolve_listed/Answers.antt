use Rattle.std.proofs.Common.{◌∙◌, sym}
use Rattle.std.specs.Vec.Iter.{into_iter_items}
use Rattle.amqp_link_ledger.proofs.BatchLemmas.{this_outcome, other_outcomes, next_ended, all_ended}
use Rattle.amqp_link_ledger.proofs.ledger.disposing.resolve_listed.Goals as goal

pub loop-tag-preserved : goal.loop-tag-preserved
loop-tag-preserved c =
    let list = c.args.listed.now in
    let i = c.loop-tag.tag-index in
    let e = c.loop-tag-item.result in
    let rest = into_iter_items c.next.new.self in
    record {
      none = λ h. let e = sym c.in-Some.ensures.items ∙ (c.loop-tag.invariant.none h).1 in absurd (cc);
      each = λ own h.
          let before = c.loop-tag.invariant.each own h in
          let same = sym c.in-Some.ensures.items ∙ before.0 in (
            other_outcomes own list i e c.loop-tag-test.true c.loop-tag-item.is c.in-Some.outcome rest same,
            next_ended own list i e c.loop-tag-test.true c.loop-tag-item.is c.in-Some.outcome _ _ _
                (this_outcome own list i e c.loop-tag-test.true c.loop-tag-item.is c.in-Some.outcome rest same)
                c.resolve_if_ended.ensures before.1,
          );
    }

pub returns-clause-each : goal.returns-clause-each
returns-clause-each c = λ own h.
    all_ended own c.args.listed.now c.loop-tag.tag-index c.loop-tag.registrations.records _ c.loop-tag-test.false (c.loop-tag.invariant.each own (c.into_iter-outcomes.ensures.rest ∙ h)).1
