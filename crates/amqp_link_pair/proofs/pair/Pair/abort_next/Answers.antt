use Rattle.std.proofs.Common.{◌≡◌, ◌∙◌, ◌++◌, ◌∷◌, [], ap, sym, subst, rules, refl, true, None}
use Rattle.amqp_link_types.specs.Refusals.{refusal}
use Rattle.amqp_link_core.specs.declared.resumption.ResumingDelivery.TheVariants.{Abort}
use Rattle.amqp_link_sender.specs.Senders.{abort_frame}
use Rattle.amqp_link_worlds.specs.Callable.{CanAbort}
use Rattle.amqp_link_worlds.specs.Invariants.{IsWorld}
use Rattle.amqp_link_worlds.specs.Steps.{SendsAbort, next_tests, zero_output}
use Rattle.amqp_link_worlds.specs.Wires.{under}
use Rattle.amqp_link_worlds.specs.Worlds.{World, is_together}
use Rattle.amqp_link_worlds.proofs.CallLemmas.{can_abort}
use Rattle.amqp_link_worlds.proofs.WorldLemmas.{IsWorld-sends_abort, Good-from_world}
use Rattle.amqp_link_pair.specs.PairViews.{world_of}
use Rattle.amqp_link_pair.proofs.ArriveLemmas.{first_and_rest}
use Rattle.amqp_link_pair.proofs.MarkLemmas.{marks_aborting}
use Rattle.amqp_link_pair.proofs.ResumeLemmas.{aborts_next_of, next_by, together_by}
use Rattle.amqp_link_pair.proofs.StepLemmas.{IsEnds-together}
use Rattle.amqp_link_pair.proofs.pair.Pair.abort_next.Goals as goal

pub abort_frames-requires-clause-room : goal.abort_frames-requires-clause-room
abort_frames-requires-clause-room c =
    let w = world_of c.self.inside in
    let listed = first_and_rest c.self.inside.resuming.list (c.in-Some.tag.now, c.in-Some.field-0-1.now) (sym c.in-Some.ensures) in
    let aborts = aborts_next_of w c.in-Some.tag.now c.in-Some.field-0-1.now _ c.self.invariant.world listed (next_by w _ true c.self.view_is c.requires.aborts) in
    let can = can_abort w c.in-Some.tag.now _ c.self.invariant.world (together_by w _ c.self.view_is c.requires.may) aborts in
    let same : c.in_ok-on_wire.on_wire ≡ c.in-Some.tag.now = search rules in
    let link : c.link.result.now ≡ w.ledger.link = search rules in
    rw (same, link) can.room

-- the world after it
abbrev new : goal.After-push → World
new c = record (world_of c.self.inside) { resuming = c.take_first-tag.new.self.list; wire = c.push.new.self.transfers }

may : (c : goal.After-push) → refusal (next_tests (world_of c.self.inside)) ≡ None
may c = subst (λ w. refusal (next_tests w) ≡ None) (sym c.self.view_is) c.requires.may

on : (c : goal.After-push) → is_together (world_of c.self.inside).phase ≡ true
on c = together_by (world_of c.self.inside) _ c.self.view_is c.requires.may

listed : (c : goal.After-push) → (world_of c.self.inside).resuming ≡ (c.take_first-tag.result.0, Abort 0 None) ∷ c.take_first-tag.new.self.list
listed c =
    aborts_next_of (world_of c.self.inside) c.take_first-tag.result.0 c.take_first-tag.result.1 c.take_first-tag.new.self.list c.self.invariant.world c.take_first-tag.ensures.taken
    (next_by (world_of c.self.inside) _ true c.self.view_is c.requires.aborts)

can : (c : goal.After-push) → CanAbort (world_of c.self.inside) c.take_first-tag.result.0
can c = can_abort (world_of c.self.inside) c.take_first-tag.result.0 c.take_first-tag.new.self.list c.self.invariant.world (on c) (listed c)

wire : (c : goal.After-push) → c.push.new.self.transfers
    ≡ (world_of c.self.inside).wire ++ under c.take_first-tag.result.0 (abort_frame zero_output (record { 0 = 0 }) c.take_first-tag.result.0 0 ∷ [])
wire c =
    let same : c.in_ok-on_wire.on_wire ≡ c.take_first-tag.result.0 = search rules in
    let kept : c.reserve.new.self.transfers ≡ c.self.inside.wire.transfers = search rules in
    c.push.ensures ∙ ap (λ l. l ++ under c.in_ok-on_wire.on_wire c.in-Ok.frames.items) kept
    ∙ ap (λ frames. c.self.inside.wire.transfers ++ under c.in_ok-on_wire.on_wire frames) c.in-Ok.ensures
    ∙ ap (λ tag. c.self.inside.wire.transfers ++ under tag (abort_frame zero_output (record { 0 = 0 }) tag 0 ∷ [])) same

did : (c : goal.After-push) → SendsAbort (world_of c.self.inside) c.take_first-tag.result.0 (new c)
did c =
    let a = can c in
    record {
      others = c.take_first-tag.new.self.list;
      handle = record { 0 = 0 };
      listed = listed c;
      handle_is = a.input;
      world = ap (λ l. record (world_of c.self.inside) { resuming = c.take_first-tag.new.self.list; wire = l }) (wire c);
    }

kept : (c : goal.After-push) → IsWorld (new c)
kept c = IsWorld-sends_abort (world_of c.self.inside) (new c) c.take_first-tag.result.0 c.self.invariant.world (may c) (did c)

pub invariant_of-self-2 : goal.invariant_of-self-2
invariant_of-self-2 c =
    let a = can c in
    record {
      ends = IsEnds-together c.self.inside.ends c.self.inside.ends c.self.invariant.ends (on c) refl refl refl;
      world = kept c;
      marks = marks_aborting (world_of c.self.inside) (new c) c.self.inside.deliveries c.self.invariant.marks c.take_first-tag.result.0
          (abort_frame zero_output (record { 0 = 0 }) c.take_first-tag.result.0 0 ∷ []) refl refl a.free (wire c);
    }

pub returns-clause-done : goal.returns-clause-done
returns-clause-done c = subst (λ w. SendsAbort w c.take_first-tag.result.0 (new c)) c.self.view_is (did c)

pub returns-clause-good : goal.returns-clause-good
returns-clause-good c = Good-from_world (new c) (kept c)

pub returns-clause-kept : goal.returns-clause-kept
returns-clause-kept c = kept c
