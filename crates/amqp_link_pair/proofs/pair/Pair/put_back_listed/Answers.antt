use Rattle.std.proofs.Common.{◌≡◌, ◌∙◌, ap, sym, subst, rules, refl, true, false, None}
use Rattle.std.specs.Prelude.{is_some}
use Rattle.amqp_link_types.specs.Refusals.{refusal}
use Rattle.amqp_link_worlds.specs.Callable.{CanResume}
use Rattle.amqp_link_worlds.specs.Invariants.{IsWorld}
use Rattle.amqp_link_worlds.specs.Steps.{PutsBack, after_registration, next_tests}
use Rattle.amqp_link_worlds.specs.Worlds.{World, is_together}
use Rattle.amqp_link_worlds.proofs.CallLemmas.{can_resume}
use Rattle.amqp_link_worlds.proofs.WorldLemmas.{IsWorld-puts_back, Good-from_world, listed_quiet}
use Rattle.amqp_link_pair.specs.PairViews.{world_of}
use Rattle.amqp_link_pair.proofs.MarkLemmas.{marks_put_back}
use Rattle.amqp_link_pair.proofs.ResumeLemmas.{it_has_entry, next_by, together_by}
use Rattle.amqp_link_pair.proofs.StepLemmas.{IsEnds-together, is_kept, puts_back, registered_ends, with_parts}
use Rattle.amqp_link_pair.proofs.pair.Pair.put_back_listed.Goals as goal

pub put_back-requires-clause-entry : goal.put_back-requires-clause-entry
put_back-requires-clause-entry c =
    let w = world_of c.self.inside in
    let has = it_has_entry w c.take_first-tag.result.0 c.take_first-tag.result.1 c.take_first-tag.new.self.list c.self.invariant.world c.take_first-tag.ensures.taken (next_by w _ false c.self.view_is c.requires.resumes) in
    ap is_some has.1

pub mark-requires : goal.mark-requires
mark-requires c =
    let w = world_of c.self.inside in
    let on = together_by w _ c.self.view_is c.requires.may in
    let has = it_has_entry w c.take_first-tag.result.0 c.take_first-tag.result.1 c.take_first-tag.new.self.list c.self.invariant.world c.take_first-tag.ensures.taken (next_by w _ false c.self.view_is c.requires.resumes) in
    let can = can_resume w c.take_first-tag.result.0 c.take_first-tag.result.1 c.take_first-tag.new.self.list has.0 c.self.invariant.world on c.take_first-tag.ensures.taken has.1 in
    is_kept c.self.inside.deliveries c.take_first-tag.result.0 can.before can.known

-- the world after it
abbrev new : goal.After-mark → World
new c = record (with_parts (world_of c.self.inside) (registered_ends c.put_back.new.ledger c.self.inside.ends) c.mark.new.self) { resuming = c.take_first-tag.new.self.list }

may : (c : goal.After-mark) → refusal (next_tests (world_of c.self.inside)) ≡ None
may c = subst (λ w. refusal (next_tests w) ≡ None) (sym c.self.view_is) c.requires.may

on : (c : goal.After-mark) → is_together (world_of c.self.inside).phase ≡ true
on c = together_by (world_of c.self.inside) _ c.self.view_is c.requires.may

can : (c : goal.After-mark) → CanResume (world_of c.self.inside) c.take_first-tag.result.0 c.take_first-tag.result.1
can c =
    let has = it_has_entry (world_of c.self.inside) c.take_first-tag.result.0 c.take_first-tag.result.1 c.take_first-tag.new.self.list c.self.invariant.world c.take_first-tag.ensures.taken (next_by (world_of c.self.inside) _ false c.self.view_is c.requires.resumes) in
    can_resume (world_of c.self.inside) c.take_first-tag.result.0 c.take_first-tag.result.1 c.take_first-tag.new.self.list has.0 c.self.invariant.world (on c) c.take_first-tag.ensures.taken has.1

registered : (c : goal.After-mark) → let k = can c in c.put_back.new.ledger ≡ after_registration c.self.inside.ends.ledger c.take_first-tag.result.0 k.entry
registered c =
    let k = can c in
    let same : c.in_ok-own.own ≡ c.take_first-tag.result.0 = search rules in
    c.in_default-put_back.ensures.done k.entry k.kept ∙ ap (λ tag. after_registration c.self.inside.ends.ledger tag k.entry) same

did : (c : goal.After-mark) → PutsBack (world_of c.self.inside) c.take_first-tag.result.0 (new c)
did c =
    let k = can c in
    puts_back (world_of c.self.inside) c.self.inside.ends c.put_back.new.ledger c.self.inside.deliveries c.mark.new.self c.take_first-tag.result.0 c.take_first-tag.result.1 c.take_first-tag.new.self.list k.entry k.before
    c.take_first-tag.ensures.taken k.kept k.known (registered c) c.mark.ensures

kept : (c : goal.After-mark) → IsWorld (new c)
kept c = IsWorld-puts_back (world_of c.self.inside) (new c) c.take_first-tag.result.0 c.self.invariant.world (may c) (did c)

pub invariant_of-self-2 : goal.invariant_of-self-2
invariant_of-self-2 c =
    let k = can c in
    record {
      ends = IsEnds-together c.self.inside.ends (registered_ends c.put_back.new.ledger c.self.inside.ends) c.self.invariant.ends (on c) refl refl (ap (λ l. l.link.max_frame_size) (registered c));
      world = kept c;
      marks = marks_put_back (world_of c.self.inside) (new c) c.self.inside.deliveries c.mark.new.self c.self.invariant.marks refl c.take_first-tag.result.0 k.entry k.before
          (ap (λ l. l.link.unsettled) (registered c)) refl
          (listed_quiet (world_of c.self.inside) c.take_first-tag.result.0 c.take_first-tag.result.1 c.take_first-tag.new.self.list c.self.invariant.world c.take_first-tag.ensures.taken k.before k.known)
          k.known c.mark.ensures;
    }

pub returns-clause-done : goal.returns-clause-done
returns-clause-done c = subst (λ w. PutsBack w c.take_first-tag.result.0 (new c)) c.self.view_is (did c)

pub returns-clause-good : goal.returns-clause-good
returns-clause-good c = Good-from_world (new c) (kept c)

pub returns-clause-kept : goal.returns-clause-kept
returns-clause-kept c = kept c
