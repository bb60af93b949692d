use Rattle.std.specs.Prelude.{is_none}
use Rattle.std.proofs.Common.{◌≡◌, ◌∙◌, ◌<◌, ap, sym, subst, rules, refl, true, false, length, inr, [], None, Some, ◌++◌}
use Rattle.amqp_link_types.specs.Entries.{entry_at, with_entry}
use Rattle.amqp_link_types.specs.Refusals.{refusal}
use Rattle.amqp_link_sender.specs.Senders.{IsSent, new_entry, next_tag}
use Rattle.amqp_link_split.specs.Room.{payload_limit}
use Rattle.amqp_link_split.specs.Split.{IsFewestPieces}
use Rattle.amqp_link_worlds.specs.Invariants.{IsWorld}
use Rattle.amqp_link_worlds.specs.Steps.{Sends, after_one_credit, after_registration, delivery_transfer, send_tests}
use Rattle.amqp_link_worlds.specs.Wires.{frames_of, under}
use Rattle.amqp_link_worlds.specs.Worlds.{World, held_at, is_together}
use Rattle.amqp_link_worlds.specs.declared.error.PairError.TheVariants as error
use Rattle.amqp_link_worlds.proofs.CallLemmas.{can_send}
use Rattle.amqp_link_worlds.proofs.WorldLemmas.{IsWorld-sends, Good-from_world, nothing_listed, nothing_there, none_hold, not_is_false, tag_is_free}
use Rattle.amqp_link_worlds.specs.Before.{before_tag}
use Rattle.amqp_link_pair.specs.Keeping.{just_sent}
use Rattle.amqp_link_pair.specs.PairViews.{AreMarked, world_of}
use Rattle.amqp_link_pair.proofs.MarkLemmas.{marks_entered, not_empty}
use Rattle.amqp_link_pair.proofs.ResumeLemmas.{free, may_send, none_resuming, pending, sends}
use Rattle.amqp_link_pair.proofs.StepLemmas.{IsEnds-together, registered_ends, with_parts}
use Rattle.amqp_link_pair.proofs.pair.Pair.send_next.Goals as goal

pub returns-then-not-branch-clause-refused : goal.returns-then-not-branch-clause-refused
returns-then-not-branch-clause-refused c =
    let may : refusal (before_tag (world_of c.self.inside) c.args.payload.now) ≡ None = search rules in
    let there : is_none (entry_at c.self.inside.deliveries c.in_ok-tag.tag) ≡ false = search rules in
    let tagged : c.in_ok-tag.tag ≡ next_tag (world_of c.self.inside).ledger.link = search rules in
    inr (subst (λ w. refusal (send_tests w c.args.payload.now) ≡ Some error.TagPending) c.self.view_is
    (pending (world_of c.self.inside) c.self.inside.deliveries c.args.payload.now c.in_ok-tag.tag c.self.invariant.world refl may tagged there))

pub send_unsettled-requires : goal.send_unsettled-requires
send_unsettled-requires c =
    let may : refusal (before_tag (world_of c.self.inside) c.args.payload.now) ≡ None = search rules in
    let gone : is_none (entry_at c.self.inside.deliveries c.in_ok-tag.tag) ≡ true = search rules in
    let tagged : c.in_ok-tag.tag ≡ next_tag (world_of c.self.inside).ledger.link = search rules in
    can_send (world_of c.self.inside) c.args.payload.now c.self.invariant.world
    (may_send (world_of c.self.inside) c.self.inside.deliveries c.args.payload.now c.in_ok-tag.tag c.self.invariant.world refl may tagged gone)

-- the world after it
abbrev new : goal.After-push → World
new c = record (with_parts (world_of c.self.inside) (registered_ends c.send_unsettled.new.ledger c.self.inside.ends) c.add.new.self) { wire = c.push.new.self.transfers }

may_before : (c : goal.After-push) → refusal (before_tag (world_of c.self.inside) c.args.payload.now) ≡ None
may_before c = search rules

gone : (c : goal.After-push) → is_none (entry_at c.self.inside.deliveries c.in_ok-tag.tag) ≡ true
gone c = search rules

tagged : (c : goal.After-push) → c.in_ok-tag.tag ≡ next_tag (world_of c.self.inside).ledger.link
tagged c = search rules

sent_tag : (c : goal.After-push) → c.in-Ok.sent ≡ next_tag (world_of c.self.inside).ledger.link
sent_tag c = search rules

same : (c : goal.After-push) → c.in_ok-tag.tag ≡ c.in-Ok.sent
same c = tagged c ∙ sym (sent_tag c)

may : (c : goal.After-push) → refusal (send_tests (world_of c.self.inside) c.args.payload.now) ≡ None
may c = may_send (world_of c.self.inside) c.self.inside.deliveries c.args.payload.now c.in_ok-tag.tag c.self.invariant.world refl (may_before c) (tagged c) (gone c)

on : (c : goal.After-push) → is_together (world_of c.self.inside).phase ≡ true
on c = let tests = none_hold (send_tests (world_of c.self.inside) c.args.payload.now) (may c) in not_is_false (is_together (world_of c.self.inside).phase) tests.0

-- its parts, under the tag that is the answer
registered : (c : goal.After-push) → c.send_unsettled.new.ledger ≡ after_registration (after_one_credit c.self.inside.ends.ledger) c.in-Ok.sent (new_entry 0 c.args.payload.now)
registered c = c.in-Ok.ensures.done ∙ ap (λ tag. after_registration (after_one_credit c.self.inside.ends.ledger) tag (new_entry 0 c.args.payload.now)) (sym (sent_tag c))

added : (c : goal.After-push) → c.add.new.self ≡ with_entry c.self.inside.deliveries c.in-Ok.sent just_sent
added c =
    let put : c.add.new.self ≡ with_entry c.self.inside.deliveries c.in_ok-tag.tag just_sent = search rules in
    put ∙ ap (λ tag. with_entry c.self.inside.deliveries tag just_sent) (same c)

wire : (c : goal.After-push) → c.push.new.self.transfers ≡ (world_of c.self.inside).wire ++ under c.in-Ok.sent c.in-Ok.frames.items
wire c =
    let kept : c.reserve.new.self.transfers ≡ c.self.inside.wire.transfers = search rules in
    c.push.ensures ∙ ap (λ l. l ++ under c.in_ok-tag.tag c.in-Ok.frames.items) kept ∙ ap (λ tag. c.self.inside.wire.transfers ++ under tag c.in-Ok.frames.items) (same c)

count : (c : goal.After-push) → length c.in-Ok.frames.items ≡ c.len-count.result
count c = search rules

did : (c : goal.After-push) → Sends (world_of c.self.inside) c.args.payload.now c.in-Ok.sent c.len-count.result (new c)
did c =
    let link = c.self.inside.ends.ledger.link in
    let framed : IsSent link (delivery_transfer c.in-Ok.sent false) c.args.payload.now c.in-Ok.frames.items =
    subst (λ tag. IsSent link (delivery_transfer tag false) c.args.payload.now c.in-Ok.frames.items) (sym (sent_tag c)) c.in-Ok.ensures.framed in
    let fewest : IsFewestPieces c.args.payload.now (payload_limit (delivery_transfer c.in-Ok.sent false) link.max_frame_size) (length c.in-Ok.frames.items) =
    subst (λ tag. IsFewestPieces c.args.payload.now (payload_limit (delivery_transfer tag false) link.max_frame_size) (length c.in-Ok.frames.items)) (sym (sent_tag c)) c.in-Ok.ensures.fits.fewest in
    subst (λ n. Sends (world_of c.self.inside) c.args.payload.now c.in-Ok.sent n (new c)) (count c)
    (sends (world_of c.self.inside) c.self.inside.ends c.send_unsettled.new.ledger c.self.inside.deliveries c.add.new.self c.args.payload.now c.in-Ok.sent c.in-Ok.frames.items c.push.new.self.transfers
    (sent_tag c) framed fewest (registered c) (added c) (wire c))

kept : (c : goal.After-push) → IsWorld (new c)
kept c = IsWorld-sends (world_of c.self.inside) (new c) c.args.payload.now c.in-Ok.sent c.len-count.result c.self.invariant.world (may c) (did c)

pub invariant_of-self-2 : goal.invariant_of-self-2
invariant_of-self-2 c =
    let some : 0 < length c.in-Ok.frames.items = search rules in
    let w = world_of c.self.inside in
    let none : entry_at w.ledger.link.unsettled c.in-Ok.sent ≡ None =
    ap (entry_at w.ledger.link.unsettled) (sym (same c)) ∙ free w c.self.inside.deliveries c.args.payload.now c.in_ok-tag.tag c.self.invariant.world refl (may_before c) (tagged c) (gone c) in
    let quiet : frames_of c.in-Ok.sent w.wire ≡ [] =
    let unheld : held_at w c.in-Ok.sent ≡ None = ap (held_at w) (sent_tag c) ∙ (tag_is_free w c.args.payload.now (may c)).1 in
    let there = nothing_there w c.in-Ok.sent c.self.invariant.world none (nothing_listed w.resuming c.in-Ok.sent (none_resuming w c.args.payload.now (may_before c))) unheld in there.2 in
    record {
      ends = IsEnds-together c.self.inside.ends (registered_ends c.send_unsettled.new.ledger c.self.inside.ends) c.self.invariant.ends (on c) refl refl (ap (λ l. l.link.max_frame_size) (registered c));
      world = kept c;
      marks = subst (AreMarked (new c)) (sym (added c))
          (marks_entered w (new c) c.self.inside.deliveries c.self.invariant.marks refl c.in-Ok.sent (new_entry 0 c.args.payload.now) just_sent c.in-Ok.frames.items
          (ap (λ l. l.link.unsettled) (registered c)) (wire c) quiet (sym (not_empty c.in-Ok.frames.items some)));
    }

pub returns-clause-done : goal.returns-clause-done
returns-clause-done c = subst (λ w. Sends w c.args.payload.now c.in-Ok.sent c.len-count.result (new c)) c.self.view_is (did c)

pub returns-clause-refused : goal.returns-clause-refused
returns-clause-refused c = subst (λ w. refusal (send_tests w c.args.payload.now) ≡ None) c.self.view_is (may c)

pub returns-clause-good : goal.returns-clause-good
returns-clause-good c = Good-from_world (new c) (kept c)

pub returns-clause-kept : goal.returns-clause-kept
returns-clause-kept c = kept c
