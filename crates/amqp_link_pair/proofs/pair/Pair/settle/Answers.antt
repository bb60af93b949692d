use Rattle.std.proofs.Common.{◌≡◌, ◌∙◌, ap, sym, subst, rules, refl, true, None}
use Rattle.amqp_link_types.specs.Refusals.{refusal}
use Rattle.amqp_link_worlds.specs.Invariants.{IsWorld}
use Rattle.amqp_link_worlds.specs.Steps.{Settles, settle_tests}
use Rattle.amqp_link_worlds.specs.Worlds.{World, is_together}
use Rattle.amqp_link_worlds.proofs.WorldLemmas.{IsWorld-settles, Good-from_world}
use Rattle.amqp_link_pair.specs.Endpoints.{phase_of}
use Rattle.amqp_link_pair.specs.PairViews.{AreMarked, world_of}
use Rattle.amqp_link_pair.specs.declared.ends.Ends.{Ends}
use Rattle.amqp_link_pair.proofs.MarkLemmas.{marks_settled}
use Rattle.amqp_link_pair.proofs.ProgressLemmas.{IsMap-kept}
use Rattle.amqp_link_pair.proofs.StepLemmas.{IsEnds-together, settled_ends, settles, with_parts}
use Rattle.amqp_link_pair.proofs.pair.Pair.settle.Goals as goal

-- the world after it
abbrev new : goal.After-remove → World
new c = with_parts (world_of c.self.inside) c.settle.new.self c.remove.new.self

may : (c : goal.After-remove) → refusal (settle_tests (world_of c.self.inside) c.args.tag.now) ≡ None
may c = search rules

on : (c : goal.After-remove) → is_together (world_of c.self.inside).phase ≡ true
on c = search rules

ends_are : (c : goal.After-remove) → c.settle.new.self ≡ settled_ends c.args.tag.now c.self.inside.ends
ends_are c =
    let tag_is : c.new-info.result.delivery_tag ≡ c.args.tag.now = search rules in
    c.settle.ensures ∙ ap (λ tag. settled_ends tag c.self.inside.ends) tag_is

did : (c : goal.After-remove) → Settles (world_of c.self.inside) c.args.tag.now (new c)
did c = settles (world_of c.self.inside) c.self.inside.ends c.settle.new.self c.self.inside.deliveries c.remove.new.self c.args.tag.now (ends_are c) c.remove.ensures

kept : (c : goal.After-remove) → IsWorld (new c)
kept c = IsWorld-settles (world_of c.self.inside) (new c) c.args.tag.now c.self.invariant.world (may c) (did c)

pub invariant_of-self : goal.invariant_of-self
invariant_of-self c = record {
  ends = IsEnds-together c.self.inside.ends c.settle.new.self c.self.invariant.ends (on c)
      (ap (λ (e : Ends). e.stage) (ends_are c)) (ap (λ (e : Ends). e.limit) (ends_are c)) (ap (λ (e : Ends). e.ledger.link.max_frame_size) (ends_are c));
  world = kept c;
  marks = subst (AreMarked (new c)) (sym c.remove.ensures)
      (marks_settled (world_of c.self.inside) (new c) c.self.inside.deliveries c.self.invariant.marks (ap (λ (e : Ends). is_together (phase_of e.stage e.limit)) (ends_are c))
      c.args.tag.now c.self.invariant.world.unsettled (IsMap-kept c.self.inside.deliveries c.self.invariant.world.deliveries)
      (ap (λ (e : Ends). e.ledger.link.unsettled) (ends_are c)) refl);
}

pub returns-clause-done : goal.returns-clause-done
returns-clause-done c = subst (λ w. Settles w c.args.tag.now (new c)) c.self.view_is (did c)

pub returns-clause-good : goal.returns-clause-good
returns-clause-good c = Good-from_world (new c) (kept c)

pub returns-clause-kept : goal.returns-clause-kept
returns-clause-kept c = kept c
