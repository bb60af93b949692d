use Rattle.amqp_link_ledger.specs.Fates.{HandsOut, after}
use Rattle.std.proofs.Common.{◌≡◌, ap, sym, subst, rules, length, None, Err}
use Rattle.amqp_link_types.specs.Refusals.{refusal}
use Rattle.amqp_link_worlds.specs.Invariants.{IsWorld}
use Rattle.amqp_link_worlds.specs.Steps.{Attaches, LeftByAttach, attach_tests, items_to_resume}
use Rattle.amqp_link_worlds.specs.Worlds.{World}
use Rattle.amqp_link_worlds.specs.declared.error.PairError.TheVariants.{OutOfMemory}
use Rattle.amqp_link_worlds.proofs.WorldLemmas.{IsWorld-attaches, Good-from_world}
use Rattle.amqp_link_pair.specs.Endpoints.{IsAttached, HasStopped, MayAttach, with_ends}
use Rattle.amqp_link_pair.specs.PairViews.{world_of}
use Rattle.amqp_link_pair.proofs.AttachedLemmas.{all_listed, kept_left, left_by, marks_left, only_handed_out, stays_or_stops}
use Rattle.amqp_link_pair.proofs.MarkLemmas.{marks_none}
use Rattle.amqp_link_pair.proofs.pair.Pair.attach.Goals as goal

pub attach-requires : goal.attach-requires
attach-requires c =
    let may : refusal (attach_tests (world_of c.self.inside) c.args.limit) ≡ None = search rules in
    (world_of c.self.inside, record { world = c.self.invariant.world; ends = c.self.invariant.ends; allowed = may })

-- ---- it stops

stopped : (c : goal.After-from_residual-in_err-resuming) → HasStopped c.args.limit (world_of c.self.inside) c.self.inside.ends c.attach.new.self
stopped c =
    let may : refusal (attach_tests (world_of c.self.inside) c.args.limit) ≡ None = search rules in
    let can : MayAttach c.args.limit (world_of c.self.inside) c.self.inside.ends = record { world = c.self.invariant.world; ends = c.self.invariant.ends; allowed = may } in
    c.in_err-resuming.ensures.left (world_of c.self.inside) can

pub invariant_of-self : goal.invariant_of-self
invariant_of-self c =
    let l = stopped c in
    record {
      ends = l.ends;
      world = kept_left c.args.limit (world_of c.self.inside) c.self.inside.ends c.attach.new.self l c.self.invariant.world;
      marks = marks_left c.args.limit (world_of c.self.inside) c.self.inside.ends c.attach.new.self l c.self.inside.deliveries c.self.invariant.marks;
    }

pub returns-in_err-resuming-clause-left : goal.returns-in_err-resuming-clause-left
returns-in_err-resuming-clause-left c =
    let out : c.from_residual-in_err-resuming.result ≡ Err OutOfMemory = search rules in
    subst (λ w. LeftByAttach c.from_residual-in_err-resuming.result w c.args.limit (with_ends (world_of c.self.inside) c.attach.new.self)) c.self.view_is
    (left_by c.from_residual-in_err-resuming.result (world_of c.self.inside) (with_ends (world_of c.self.inside) c.attach.new.self) c.args.limit out
    (stays_or_stops c.args.limit (world_of c.self.inside) c.self.inside.ends c.attach.new.self (stopped c)))

kept_on_way : (c : goal.After-from_residual-in_err-resuming) → IsWorld (with_ends (world_of c.self.inside) c.attach.new.self)
kept_on_way c = kept_left c.args.limit (world_of c.self.inside) c.self.inside.ends c.attach.new.self (stopped c) c.self.invariant.world

pub returns-in_err-resuming-clause-good : goal.returns-in_err-resuming-clause-good
returns-in_err-resuming-clause-good c = Good-from_world (with_ends (world_of c.self.inside) c.attach.new.self) (kept_on_way c)

pub returns-in_err-resuming-clause-kept : goal.returns-in_err-resuming-clause-kept
returns-in_err-resuming-clause-kept c = kept_on_way c

-- ---- both are attached

abbrev new : goal.After-drop-self-inside → World
new c = record (with_ends (world_of c.self.inside) c.attach.new.self) { resuming = c.in_ok-resuming.resuming.list }

allowed : (c : goal.After-drop-self-inside) → refusal (attach_tests (world_of c.self.inside) c.args.limit) ≡ None
allowed c = search rules

attached : (c : goal.After-drop-self-inside) → IsAttached c.args.limit (world_of c.self.inside) c.self.inside.ends c.in_ok-resuming.resuming.list c.attach.new.self
attached c = c.in_ok-resuming.ensures.done (world_of c.self.inside) (record { world = c.self.invariant.world; ends = c.self.invariant.ends; allowed = allowed c })

kept : (c : goal.After-drop-self-inside) → IsWorld (new c)
kept c = IsWorld-attaches (world_of c.self.inside) (new c) c.args.limit (length c.in_ok-resuming.resuming.list) c.self.invariant.world (allowed c) (attached c).attaches

pub invariant_of-self-2 : goal.invariant_of-self-2
invariant_of-self-2 c = record {
  ends = (attached c).ends;
  world = kept c;
  marks = marks_none (new c) c.self.inside.deliveries (ap (λ (v : World). v.ledger.link.unsettled) (attached c).attaches.world);
}

pub returns-clause-done : goal.returns-clause-done
returns-clause-done c =
    subst (λ v. Attaches v c.args.limit c.len-count.result (new c)) c.self.view_is
    (subst (λ n. Attaches (world_of c.self.inside) c.args.limit n (new c)) (sym c.len-count.ensures) (attached c).attaches)

pub returns-clause-listed : goal.returns-clause-listed
returns-clause-listed c =
    subst (λ (v : World). (new c).resuming ≡ items_to_resume v) c.self.view_is
    (all_listed (world_of c.self.inside) (new c) c.args.limit (length c.in_ok-resuming.resuming.list) c.self.invariant.world (allowed c) (attached c).attaches)

pub returns-clause-handed_out : goal.returns-clause-handed_out
returns-clause-handed_out c =
    subst (λ (v : World). (new c).ledger.records ≡ after (HandsOut (new c).resuming) v.ledger.records) c.self.view_is
    (only_handed_out (world_of c.self.inside) (new c) c.args.limit (length c.in_ok-resuming.resuming.list) c.self.invariant.world (allowed c) (attached c).attaches)

pub returns-clause-good : goal.returns-clause-good
returns-clause-good c = Good-from_world (new c) (kept c)

pub returns-clause-kept : goal.returns-clause-kept
returns-clause-kept c = kept c
