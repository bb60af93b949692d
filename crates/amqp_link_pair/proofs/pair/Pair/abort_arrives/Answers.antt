use Rattle.std.proofs.Common.{◌≡◌, ◌∙◌, ◌<◌, ap, sym, subst, rules, refl, true, length, arith, None, ◌∷◌}
use Rattle.std.specs.Prelude.{IsSome}
use Rattle.amqp_link_types.specs.Entries.{without_entry}
use Rattle.amqp_link_types.specs.Frames.{link_transfer, performative_of}
use Rattle.amqp_link_types.specs.Refusals.{refusal}
use Rattle.amqp_link_worlds.specs.Invariants.{IsWorld}
use Rattle.amqp_link_worlds.specs.PairRuns.{aborts_next}
use Rattle.amqp_link_worlds.specs.Steps.{AbortArrives, arrive_tests}
use Rattle.amqp_link_worlds.specs.Wires.{OnWire}
use Rattle.amqp_link_worlds.specs.Worlds.{World, is_together}
use Rattle.amqp_link_worlds.proofs.WorldLemmas.{IsWorld-abort_arrives, IsWorld-aborts, Good-from_world, none_hold, not_is_false}
use Rattle.amqp_link_pair.specs.PairViews.{AreMarked, world_of}
use Rattle.amqp_link_pair.specs.declared.ends.Ends.{Ends}
use Rattle.amqp_link_pair.proofs.ArriveLemmas.{abort_comes, aborted_is_transfer, aborts_first, first_and_rest}
use Rattle.amqp_link_pair.proofs.MarkLemmas.{marks_forgotten}
use Rattle.amqp_link_pair.proofs.ProgressLemmas.{IsMap-kept}
use Rattle.amqp_link_pair.proofs.StepLemmas.{IsEnds-together, with_parts}
use Rattle.amqp_link_pair.proofs.pair.Pair.abort_arrives.Goals as goal

pub unreachable-requires-in_default-clone : goal.unreachable-requires-in_default-clone
unreachable-requires-in_default-clone c =
    let s : OnWire = record { tag = c.in-Some.tag.now; frame = c.in-Some.field-0-1.now } in
    let wire = first_and_rest c.self.inside.wire.transfers s (sym c.in-Some.ensures) in
    let aborts : (performative_of s.frame).aborted ≡ true = sym (aborts_first c.self.inside.wire.transfers s _ wire) ∙ ap (λ (w : World). aborts_next w.wire) c.self.view_is ∙ c.requires.aborts in
    let four : length s.tag ≡ 4 = IsWorld-aborts (world_of c.self.inside) s _ c.self.invariant.world wire aborts in
    let long : 16 < length s.tag = search rules in
    omega (arith, four, long)

pub take_off-requires-clause-transfer : goal.take_off-requires-clause-transfer
take_off-requires-clause-transfer c =
    let s : OnWire = record { tag = c.in-Some.tag.now; frame = c.in-Some.field-0-1.now } in
    let wire = first_and_rest c.self.inside.wire.transfers s (sym c.in-Some.ensures) in
    let aborts : (performative_of s.frame).aborted ≡ true = sym (aborts_first c.self.inside.wire.transfers s _ wire) ∙ ap (λ (w : World). aborts_next w.wire) c.self.view_is ∙ c.requires.aborts in
    let taken : c.in-Some-take_first.frame ≡ c.in-Some.field-0-1.now = search rules in
    subst (λ f. IsSome (link_transfer f)) (sym taken) (aborted_is_transfer s.frame aborts)

-- the transfer that arrives
abbrev first : goal.After-take_off → OnWire
first c = record { tag = c.in-Some.tag.now; frame = c.in-Some.field-0-1.now }

-- the endpoints after it, and the world
abbrev ends : goal.After-take_off → Ends
ends c = record c.self.inside.ends { receiver = c.take_off.new.receiver }

abbrev new : goal.After-take_off → World
new c = record (with_parts (world_of c.self.inside) (ends c) c.remove.new.self) { wire = c.take_first.new.self.transfers }

may : (c : goal.After-take_off) → refusal (arrive_tests (world_of c.self.inside)) ≡ None
may c = subst (λ w. refusal (arrive_tests w) ≡ None) (sym c.self.view_is) c.requires.may

on : (c : goal.After-take_off) → is_together (world_of c.self.inside).phase ≡ true
on c = not_is_false (is_together (world_of c.self.inside).phase) (none_hold (arrive_tests (world_of c.self.inside)) (may c)).0

same : (c : goal.After-take_off) → c.in-Ok.tag ≡ c.in-Some.tag.now
same c = search rules

wire : (c : goal.After-take_off) → c.self.inside.wire.transfers ≡ first c ∷ c.take_first.new.self.transfers
wire c = first_and_rest c.self.inside.wire.transfers (first c) (sym c.in-Some.ensures) ∙ ap (λ l. first c ∷ l) (sym c.take_first.ensures.rest)

aborts : (c : goal.After-take_off) → (performative_of (first c).frame).aborted ≡ true
aborts c = sym (aborts_first c.self.inside.wire.transfers (first c) _ (wire c)) ∙ ap (λ (w : World). aborts_next w.wire) c.self.view_is ∙ c.requires.aborts

told : (c : goal.After-take_off) → c.take_off.new.receiver ≡ record c.on_aborted.new.self { more = (performative_of (first c).frame).more }
told c = search rules

did : (c : goal.After-take_off) → AbortArrives (world_of c.self.inside) c.in-Ok.tag (new c)
did c =
    abort_comes (world_of c.self.inside) c.self.inside.deliveries c.remove.new.self c.on_aborted.new.self c.take_off.new.receiver (first c) c.take_first.new.self.transfers c.in-Ok.tag
    refl (wire c) (aborts c) (same c) c.remove.ensures c.on_aborted.ensures.after (told c)

kept : (c : goal.After-take_off) → IsWorld (new c)
kept c = IsWorld-abort_arrives (world_of c.self.inside) (new c) c.in-Ok.tag c.self.invariant.world (may c) (did c)

pub invariant_of-self : goal.invariant_of-self
invariant_of-self c = record {
  ends = IsEnds-together c.self.inside.ends (ends c) c.self.invariant.ends (on c) refl refl refl;
  world = kept c;
  marks = subst (AreMarked (new c)) (ap (without_entry c.self.inside.deliveries) (sym (same c)) ∙ sym c.remove.ensures)
      (marks_forgotten (world_of c.self.inside) (new c) c.self.inside.deliveries c.self.invariant.marks (IsMap-kept c.self.inside.deliveries c.self.invariant.world.deliveries) (first c) refl refl (wire c));
}

pub returns-clause-done : goal.returns-clause-done
returns-clause-done c = subst (λ w. AbortArrives w c.in-Ok.tag (new c)) c.self.view_is (did c)

pub returns-clause-good : goal.returns-clause-good
returns-clause-good c = Good-from_world (new c) (kept c)

pub returns-clause-kept : goal.returns-clause-kept
returns-clause-kept c = kept c
