use Rattle.std.proofs.Common.{◌≡◌, ◌∙◌, ap, sym, subst, rules, refl, true, false, None, ◌∷◌}
use Rattle.amqp_link_types.specs.Entries.{with_entry}
use Rattle.std.specs.Prelude.{IsSome}
use Rattle.amqp_link_types.specs.Frames.{link_transfer, performative_of}
use Rattle.amqp_link_types.specs.Refusals.{refusal}
use Rattle.amqp_link_worlds.specs.Invariants.{IsWorld}
use Rattle.amqp_link_worlds.specs.Steps.{Arrives, arrive_tests}
use Rattle.amqp_link_worlds.specs.PairRuns.{aborts_next}
use Rattle.amqp_link_worlds.specs.Wires.{OnWire}
use Rattle.amqp_link_worlds.specs.Worlds.{World, is_together}
use Rattle.amqp_link_worlds.proofs.WorldLemmas.{IsWorld-arrives, IsWorld-turn, Good-from_world, none_hold, not_is_false}
use Rattle.amqp_link_pair.specs.Keeping.{IsReceived, kept_after}
use Rattle.amqp_link_pair.specs.PairViews.{AreMarked, world_of}
use Rattle.amqp_link_pair.specs.declared.deliveries.Kept.{Kept}
use Rattle.amqp_link_pair.specs.declared.ends.Ends.{Ends}
use Rattle.amqp_link_pair.proofs.ArriveLemmas.{aborts_first, arrives, can_receive, first_and_rest, kept_is_transfer}
use Rattle.amqp_link_pair.proofs.MarkLemmas.{marks_arrived}
use Rattle.amqp_link_pair.proofs.StepLemmas.{IsEnds-together, with_parts}
use Rattle.amqp_link_pair.proofs.pair.Pair.transfer_arrives.Goals as goal

pub receive-requires : goal.receive-requires
receive-requires c =
    let same : c.in_ok-tag.tag ≡ c.in-Some.tag.now = search rules in
    let s : OnWire = record { tag = c.in-Some.tag.now; frame = c.in-Some.frame.now } in
    let wire = first_and_rest c.self.inside.wire.transfers s (sym c.in-Some.ensures) in
    let carries : (performative_of s.frame).aborted ≡ false = sym (aborts_first c.self.inside.wire.transfers s _ wire) ∙ ap (λ (w : World). aborts_next w.wire) c.self.view_is ∙ c.requires.carries in
    record {
      can = can_receive (world_of c.self.inside) c.self.inside.deliveries s _ c.in_ok-tag.tag c.args.id c.self.invariant.world refl wire carries same;
      turn = IsWorld-turn (world_of c.self.inside) s _ c.self.invariant.world wire;
    }

pub take_off-requires-clause-transfer : goal.take_off-requires-clause-transfer
take_off-requires-clause-transfer c =
    let same : c.in_ok-tag.tag ≡ c.in-Some.tag.now = search rules in
    let s : OnWire = record { tag = c.in-Some.tag.now; frame = c.in-Some.frame.now } in
    let wire = first_and_rest c.self.inside.wire.transfers s (sym c.in-Some.ensures) in
    let carries : (performative_of s.frame).aborted ≡ false = sym (aborts_first c.self.inside.wire.transfers s _ wire) ∙ ap (λ (w : World). aborts_next w.wire) c.self.view_is ∙ c.requires.carries in
    let taken : c.in-Some-take_first.frame ≡ c.in-Some.frame.now = search rules in
    subst (λ f. IsSome (link_transfer f)) (sym taken)
    (kept_is_transfer _ c.args.id s.frame _ (can_receive (world_of c.self.inside) c.self.inside.deliveries s _ c.in_ok-tag.tag c.args.id c.self.invariant.world refl wire carries same))

-- the transfer that arrives
abbrev first : goal.After-take_off → OnWire
first c = record { tag = c.in-Some.tag.now; frame = c.in-Some.frame.now }

-- the endpoints after it, and the world
abbrev ends : goal.After-take_off → Ends
ends c = record c.self.inside.ends { receiver = c.take_off.new.receiver }

abbrev new : goal.After-take_off → World
new c = record (with_parts (world_of c.self.inside) (ends c) c.receive.new.self) { wire = c.take_first.new.self.transfers }

may : (c : goal.After-take_off) → refusal (arrive_tests (world_of c.self.inside)) ≡ None
may c = subst (λ w. refusal (arrive_tests w) ≡ None) (sym c.self.view_is) c.requires.may

on : (c : goal.After-take_off) → is_together (world_of c.self.inside).phase ≡ true
on c = not_is_false (is_together (world_of c.self.inside).phase) (none_hold (arrive_tests (world_of c.self.inside)) (may c)).0

same : (c : goal.After-take_off) → c.in_ok-tag.tag ≡ c.in-Some.tag.now
same c = search rules

wire : (c : goal.After-take_off) → c.self.inside.wire.transfers ≡ first c ∷ c.take_first.new.self.transfers
wire c = first_and_rest c.self.inside.wire.transfers (first c) (sym c.in-Some.ensures) ∙ ap (λ l. first c ∷ l) (sym c.take_first.ensures.rest)

carries : (c : goal.After-take_off) → (performative_of (first c).frame).aborted ≡ false
carries c = sym (aborts_first c.self.inside.wire.transfers (first c) _ (wire c)) ∙ ap (λ (w : World). aborts_next w.wire) c.self.view_is ∙ c.requires.carries

got : (c : goal.After-take_off) → IsReceived c.self.inside.deliveries c.self.inside.ends.receiver c.in_ok-tag.tag c.args.id c.in-Some.frame.now (c.in_ok-section_number.section_number, c.in_ok-section_number.section_offset) c.in_ok-section_number.whole c.receive.new.self c.receive.new.receiver
got c = search rules

told : (c : goal.After-take_off) → c.take_off.new.receiver ≡ record c.receive.new.receiver { more = (performative_of c.in-Some.frame.now).more }
told c = search rules

did : (c : goal.After-take_off) → Arrives (world_of c.self.inside) c.args.id c.in_ok-tag.tag (c.in_ok-section_number.section_number, c.in_ok-section_number.section_offset) c.in_ok-section_number.whole (new c)
did c =
    arrives (world_of c.self.inside) c.self.inside.deliveries c.receive.new.self c.receive.new.receiver c.take_off.new.receiver (first c) c.take_first.new.self.transfers c.args.id c.in_ok-tag.tag
    (c.in_ok-section_number.section_number, c.in_ok-section_number.section_offset) c.in_ok-section_number.whole refl (wire c) (carries c) (same c) (got c) (told c)

kept : (c : goal.After-take_off) → IsWorld (new c)
kept c = IsWorld-arrives (world_of c.self.inside) (new c) _ _ _ _ c.self.invariant.world (may c) (did c)

pub invariant_of-self-2 : goal.invariant_of-self-2
invariant_of-self-2 c =
    let g = got c in
    let k : Kept = g.before in
    record {
      ends = IsEnds-together c.self.inside.ends (ends c) c.self.invariant.ends (on c) refl refl refl;
      world = kept c;
      marks = subst (AreMarked (new c)) (ap (λ t. with_entry c.self.inside.deliveries t (kept_after k c.args.id c.in-Some.frame.now)) (sym (same c)) ∙ sym g.map)
          (marks_arrived (world_of c.self.inside) (new c) c.self.inside.deliveries c.self.invariant.marks c.self.invariant.world (first c) c.args.id k refl refl (wire c) (carries c));
    }

pub returns-clause-done : goal.returns-clause-done
returns-clause-done c = subst (λ w. Arrives w c.args.id c.in_ok-tag.tag (c.in_ok-section_number.section_number, c.in_ok-section_number.section_offset) c.in_ok-section_number.whole (new c)) c.self.view_is (did c)

pub returns-clause-good : goal.returns-clause-good
returns-clause-good c = Good-from_world (new c) (kept c)

pub returns-clause-kept : goal.returns-clause-kept
returns-clause-kept c = kept c
