use Rattle.std.proofs.Common.{◌≡◌, sym, subst, refl, true, None}
use Rattle.amqp_link_types.specs.Refusals.{refusal}
use Rattle.amqp_link_worlds.specs.Invariants.{IsWorld}
use Rattle.amqp_link_worlds.specs.Steps.{DropsAbort, next_tests}
use Rattle.amqp_link_worlds.specs.Worlds.{World}
use Rattle.amqp_link_worlds.proofs.WorldLemmas.{IsWorld-drops_abort, Good-from_world}
use Rattle.amqp_link_pair.specs.PairViews.{world_of}
use Rattle.amqp_link_pair.proofs.ResumeLemmas.{aborts_next_of, next_by}
use Rattle.amqp_link_pair.proofs.pair.Pair.drop_abort.Goals as goal

-- the world after it
abbrev new : goal.After-drop → World
new c = record (world_of c.self.inside) { resuming = c.take_first-tag.new.self.list }

may : (c : goal.After-drop) → refusal (next_tests (world_of c.self.inside)) ≡ None
may c = subst (λ w. refusal (next_tests w) ≡ None) (sym c.self.view_is) c.requires.may

did : (c : goal.After-drop) → DropsAbort (world_of c.self.inside) c.take_first-tag.result.0 (new c)
did c = record {
  others = c.take_first-tag.new.self.list;
  listed = aborts_next_of (world_of c.self.inside) c.take_first-tag.result.0 c.take_first-tag.result.1 c.take_first-tag.new.self.list c.self.invariant.world c.take_first-tag.ensures.taken
      (next_by (world_of c.self.inside) _ true c.self.view_is c.requires.aborts);
  world = refl;
}

kept : (c : goal.After-drop) → IsWorld (new c)
kept c = IsWorld-drops_abort (world_of c.self.inside) (new c) c.take_first-tag.result.0 c.self.invariant.world (may c) (did c)

pub invariant_of-self : goal.invariant_of-self
invariant_of-self c = record {
  ends = c.self.invariant.ends;
  world = kept c;
  marks = c.self.invariant.marks;
}

pub returns-clause-done : goal.returns-clause-done
returns-clause-done c = subst (λ w. DropsAbort w c.take_first-tag.result.0 (new c)) c.self.view_is (did c)

pub returns-clause-good : goal.returns-clause-good
returns-clause-good c = Good-from_world (new c) (kept c)

pub returns-clause-kept : goal.returns-clause-kept
returns-clause-kept c = kept c
