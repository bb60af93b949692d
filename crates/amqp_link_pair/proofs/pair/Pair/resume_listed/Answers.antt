use Rattle.std.proofs.Common.{◌≡◌, ◌∙◌, ◌<◌, ap, sym, subst, rules, refl, true, false, length, None, ◌++◌}
use Rattle.amqp_link_types.specs.Refusals.{refusal}
use Rattle.amqp_link_worlds.specs.Callable.{CanResume}
use Rattle.amqp_link_worlds.specs.Invariants.{IsWorld}
use Rattle.amqp_link_worlds.specs.Resumptions.{resumes}
use Rattle.amqp_link_worlds.specs.Steps.{Resumes, after_registration, next_tests}
use Rattle.amqp_link_worlds.specs.Wires.{under}
use Rattle.amqp_link_worlds.specs.Worlds.{World, is_together}
use Rattle.amqp_link_worlds.proofs.CallLemmas.{can_resume}
use Rattle.amqp_link_worlds.proofs.WorldLemmas.{IsWorld-resumes, Good-from_world, listed_quiet}
use Rattle.amqp_link_pair.specs.PairViews.{world_of}
use Rattle.amqp_link_pair.specs.Queues.{IsMadeOf}
use Rattle.amqp_link_pair.proofs.ArriveLemmas.{first_and_rest}
use Rattle.amqp_link_pair.proofs.MarkLemmas.{marks_noted, not_empty}
use Rattle.amqp_link_pair.proofs.ResumeLemmas.{it_has_entry, may_resume, next_by, rest_there, resumes_next, together_by}
use Rattle.amqp_link_pair.proofs.StepLemmas.{IsEnds-together, is_kept, registered_ends, with_parts}
use Rattle.amqp_link_pair.proofs.pair.Pair.resume_listed.Goals as goal

pub resumption_of-requires-clause-rest : goal.resumption_of-requires-clause-rest
resumption_of-requires-clause-rest c =
    let w = world_of c.self.inside in
    let on = together_by w _ c.self.view_is c.requires.may in
    let listed = first_and_rest c.self.inside.resuming.list (c.in-Some.tag.now, c.in-Some.next.now) (sym c.in-Some.ensures) in
    let has = it_has_entry w c.in-Some.tag.now c.in-Some.next.now _ c.self.invariant.world listed (next_by w _ false c.self.view_is c.requires.resumes) in
    rest_there w c.in-Some.tag.now c.in-Some.next.now _ has.0 c.self.invariant.world on listed has.1

pub resume-requires-clause-can : goal.resume-requires-clause-can
resume-requires-clause-can c =
    let w = world_of c.self.inside in
    let on = together_by w _ c.self.view_is c.requires.may in
    let listed = first_and_rest c.self.inside.resuming.list (c.in-Some.tag.now, c.in-Some.next.now) (sym c.in-Some.ensures) in
    let has = it_has_entry w c.in-Some.tag.now c.in-Some.next.now _ c.self.invariant.world listed (next_by w _ false c.self.view_is c.requires.resumes) in
    may_resume w c.in-Some.tag.now c.in-Some.next.now _ has.0 c.self.invariant.world on listed has.1
    c.in_ok-resumption.resumption c.in_ok-resumption.ensures

pub mark-requires : goal.mark-requires
mark-requires c =
    let w = world_of c.self.inside in
    let on = together_by w _ c.self.view_is c.requires.may in
    let has = it_has_entry w c.take_first-tag.result.0 c.take_first-tag.result.1 c.take_first-tag.new.self.list c.self.invariant.world c.take_first-tag.ensures.taken (next_by w _ false c.self.view_is c.requires.resumes) in
    let can = can_resume w c.take_first-tag.result.0 c.take_first-tag.result.1 c.take_first-tag.new.self.list has.0 c.self.invariant.world on c.take_first-tag.ensures.taken has.1 in
    is_kept c.self.inside.deliveries c.take_first-tag.result.0 can.before can.known

-- the world after it
abbrev new : goal.After-push → World
new c = record (with_parts (world_of c.self.inside) (registered_ends c.resume.new.ledger c.self.inside.ends) c.mark.new.self) { resuming = c.take_first-tag.new.self.list; wire = c.push.new.self.transfers }

may : (c : goal.After-push) → refusal (next_tests (world_of c.self.inside)) ≡ None
may c = subst (λ w. refusal (next_tests w) ≡ None) (sym c.self.view_is) c.requires.may

on : (c : goal.After-push) → is_together (world_of c.self.inside).phase ≡ true
on c = together_by (world_of c.self.inside) _ c.self.view_is c.requires.may

can : (c : goal.After-push) → CanResume (world_of c.self.inside) c.take_first-tag.result.0 c.take_first-tag.result.1
can c =
    let has = it_has_entry (world_of c.self.inside) c.take_first-tag.result.0 c.take_first-tag.result.1 c.take_first-tag.new.self.list c.self.invariant.world c.take_first-tag.ensures.taken (next_by (world_of c.self.inside) _ false c.self.view_is c.requires.resumes) in
    can_resume (world_of c.self.inside) c.take_first-tag.result.0 c.take_first-tag.result.1 c.take_first-tag.new.self.list has.0 c.self.invariant.world (on c) c.take_first-tag.ensures.taken has.1

made : (c : goal.After-push) → IsMadeOf c.in_ok-resumption.resumption c.take_first-tag.result.0 c.take_first-tag.result.1
made c =
    let tags : c.in-Some.tag.now ≡ c.take_first-tag.result.0 = search rules in
    let nexts : c.in-Some.next.now ≡ c.take_first-tag.result.1 = search rules in
    subst (λ t. IsMadeOf c.in_ok-resumption.resumption t c.take_first-tag.result.1) tags (subst (λ n. IsMadeOf c.in_ok-resumption.resumption c.in-Some.tag.now n) nexts c.in_ok-resumption.ensures)

flagged : (c : goal.After-push) → c.is_resumed-is_resumed.result ≡ resumes c.take_first-tag.result.1
flagged c = search rules

registered : (c : goal.After-push) → let k = can c in c.resume.new.ledger ≡ after_registration c.self.inside.ends.ledger c.take_first-tag.result.0 k.entry
registered c =
    let k = can c in
    let m = made c in
    c.in-Ok.ensures.done k.entry k.kept ∙ ap (λ tag. after_registration c.self.inside.ends.ledger tag k.entry) m.tag_is

wire : (c : goal.After-push) → c.push.new.self.transfers ≡ (world_of c.self.inside).wire ++ under c.take_first-tag.result.0 c.in-Ok.frames.items
wire c =
    let same : c.in_ok-on_wire.on_wire ≡ c.take_first-tag.result.0 = search rules in
    let kept : c.reserve.new.self.transfers ≡ c.self.inside.wire.transfers = search rules in
    c.push.ensures ∙ ap (λ l. l ++ under c.in_ok-on_wire.on_wire c.in-Ok.frames.items) kept ∙ ap (λ tag. c.self.inside.wire.transfers ++ under tag c.in-Ok.frames.items) same

count : (c : goal.After-push) → length c.in-Ok.frames.items ≡ c.len-count.result
count c = search rules

did : (c : goal.After-push) → Resumes (world_of c.self.inside) c.take_first-tag.result.0 c.len-count.result c.is_resumed-is_resumed.result (new c)
did c =
    let k = can c in
    subst (λ n. Resumes (world_of c.self.inside) c.take_first-tag.result.0 n c.is_resumed-is_resumed.result (new c)) (count c)
    (resumes_next (world_of c.self.inside) c.self.inside.ends c.resume.new.ledger c.self.inside.deliveries c.mark.new.self c.take_first-tag.result.0 c.take_first-tag.result.1 c.take_first-tag.new.self.list k.entry k.before
    c.in_ok-resumption.resumption c.in-Ok.frames.items c.is_resumed-is_resumed.result c.push.new.self.transfers
    c.take_first-tag.ensures.taken k.kept k.known (made c) (flagged c) c.in-Ok.ensures.framed c.in-Ok.ensures.fits.fewest (registered c) c.mark.ensures (wire c))

kept : (c : goal.After-push) → IsWorld (new c)
kept c = IsWorld-resumes (world_of c.self.inside) (new c) _ _ _ c.self.invariant.world (may c) (did c)

pub invariant_of-self-2 : goal.invariant_of-self-2
invariant_of-self-2 c =
    let k = can c in
    let some : 0 < length c.in-Ok.frames.items = search rules in
    record {
      ends = IsEnds-together c.self.inside.ends (registered_ends c.resume.new.ledger c.self.inside.ends) c.self.invariant.ends (on c) refl refl (ap (λ l. l.link.max_frame_size) (registered c));
      world = kept c;
      marks = marks_noted (world_of c.self.inside) (new c) c.self.inside.deliveries c.self.invariant.marks refl c.mark.new.self c.take_first-tag.result.0 k.entry k.before false c.in-Ok.frames.items
          (ap (λ l. l.link.unsettled) (registered c)) (wire c)
          (listed_quiet (world_of c.self.inside) c.take_first-tag.result.0 c.take_first-tag.result.1 c.take_first-tag.new.self.list c.self.invariant.world c.take_first-tag.ensures.taken k.before k.known)
          k.known c.mark.ensures (sym (not_empty c.in-Ok.frames.items some));
    }

pub returns-clause-done : goal.returns-clause-done
returns-clause-done c = subst (λ w. Resumes w c.take_first-tag.result.0 c.len-count.result c.is_resumed-is_resumed.result (new c)) c.self.view_is (did c)

pub returns-clause-good : goal.returns-clause-good
returns-clause-good c = Good-from_world (new c) (kept c)

pub returns-clause-kept : goal.returns-clause-kept
returns-clause-kept c = kept c
