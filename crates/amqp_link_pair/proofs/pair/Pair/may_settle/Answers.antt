use Rattle.std.proofs.Common.{◌≡◌, ◌∙◌, ap, subst, rules, None, Some, true, false, refl}
use Rattle.std.specs.Prelude.{IsSome}
use Rattle.amqp_link_types.specs.Entries.{entry_at}
use Rattle.amqp_link_types.specs.Refusals.{refusal}
use Rattle.amqp_link_worlds.specs.Steps.{is_empty, settle_tests}
use Rattle.amqp_link_worlds.specs.Worlds.{is_together}
use Rattle.amqp_link_worlds.specs.declared.error.PairError.TheVariants as error
use Rattle.amqp_link_pair.specs.HandingOut.{held_in}
use Rattle.amqp_link_pair.specs.PairViews.{world_of}
use Rattle.amqp_link_pair.proofs.SettleLemmas.{given_up, unknown, not_whole, still_to_resume, under_way, may_settle, has_id, some_is_not_none}
use Rattle.amqp_link_pair.proofs.pair.Pair.may_settle.Goals as goal

pub returns-in_default : goal.returns-in_default
returns-in_default c =
    let on : is_together (world_of c.self.inside).phase ≡ true = search rules in
    let none : entry_at c.self.inside.deliveries c.args.tag.now ≡ None = search rules in
    subst (λ w. refusal (settle_tests w c.args.tag.now) ≡ Some error.UnknownTag) c.self.view_is
    (unknown (world_of c.self.inside) c.self.inside.deliveries c.args.tag.now refl on (ap held_in none))

pub returns-in_default-held : goal.returns-in_default-held
returns-in_default-held c =
    let on : is_together (world_of c.self.inside).phase ≡ true = search rules in
    let known : entry_at c.self.inside.deliveries c.args.tag.now ≡ Some c.in-Some.kept.now = search rules in
    let none : c.in-Some.kept.now.progress.held ≡ None = search rules in
    subst (λ w. refusal (settle_tests w c.args.tag.now) ≡ Some error.UnknownTag) c.self.view_is
    (unknown (world_of c.self.inside) c.self.inside.deliveries c.args.tag.now refl on (ap held_in known ∙ none))

pub returns-then-kept : goal.returns-then-kept
returns-then-kept c =
    let on : is_together (world_of c.self.inside).phase ≡ true = search rules in
    let known : entry_at c.self.inside.deliveries c.args.tag.now ≡ Some c.in-Some.kept.now = search rules in
    let gone : c.in-Some.kept.now.progress.withdrawn ≡ true = search rules in
    subst (λ w. refusal (settle_tests w c.args.tag.now) ≡ Some error.UnknownTag) c.self.view_is
    (given_up (world_of c.self.inside) c.self.inside.deliveries c.args.tag.now refl on c.in-Some.kept.now known c.in-Some-held.held c.in-Some-held.is gone)

pub returns-then-not-kept : goal.returns-then-not-kept
returns-then-not-kept c =
    let on : is_together (world_of c.self.inside).phase ≡ true = search rules in
    let known : entry_at c.self.inside.deliveries c.args.tag.now ≡ Some c.in-Some.kept.now = search rules in
    let stays : c.in-Some.kept.now.progress.withdrawn ≡ false = search rules in
    let part : c.in-Some.kept.now.progress.whole ≡ false = search rules in
    subst (λ w. refusal (settle_tests w c.args.tag.now) ≡ Some error.NotWhole) c.self.view_is
    (not_whole (world_of c.self.inside) c.self.inside.deliveries c.args.tag.now refl on c.in-Some.kept.now known c.in-Some-held.held c.in-Some-held.is stays part)

pub returns-then-not-is_empty : goal.returns-then-not-is_empty
returns-then-not-is_empty c =
    let on : is_together (world_of c.self.inside).phase ≡ true = search rules in
    let known : entry_at c.self.inside.deliveries c.args.tag.now ≡ Some c.in-Some.kept.now = search rules in
    let stays : c.in-Some.kept.now.progress.withdrawn ≡ false = search rules in
    let whole : c.in-Some.kept.now.progress.whole ≡ true = search rules in
    let some : is_empty (world_of c.self.inside).resuming ≡ false = search rules in
    subst (λ w. refusal (settle_tests w c.args.tag.now) ≡ Some error.ResumeFirst) c.self.view_is
    (still_to_resume (world_of c.self.inside) c.self.inside.deliveries c.args.tag.now refl on c.in-Some.kept.now known c.in-Some-held.held c.in-Some-held.is stays whole some)

pub returns-then-kept-2 : goal.returns-then-kept-2
returns-then-kept-2 c =
    let on : is_together (world_of c.self.inside).phase ≡ true = search rules in
    let known : entry_at c.self.inside.deliveries c.args.tag.now ≡ Some c.in-Some.kept.now = search rules in
    let stays : c.in-Some.kept.now.progress.withdrawn ≡ false = search rules in
    let whole : c.in-Some.kept.now.progress.whole ≡ true = search rules in
    let none : is_empty (world_of c.self.inside).resuming ≡ true = search rules in
    subst (λ w. refusal (settle_tests w c.args.tag.now) ≡ Some error.OnWire) c.self.view_is
    (under_way (world_of c.self.inside) c.self.inside.deliveries c.args.tag.now refl on c.in-Some.kept.now known c.in-Some-held.held c.in-Some-held.is stays whole none c.self.invariant.world c.self.invariant.marks c.if-kept-2.true)

pub unreachable-requires : goal.unreachable-requires
unreachable-requires c =
    let on : is_together (world_of c.self.inside).phase ≡ true = search rules in
    let known : entry_at c.self.inside.deliveries c.args.tag.now ≡ Some c.in-Some.kept.now = search rules in
    let stays : c.in-Some.kept.now.progress.withdrawn ≡ false = search rules in
    let whole : c.in-Some.kept.now.progress.whole ≡ true = search rules in
    let none : is_empty (world_of c.self.inside).resuming ≡ true = search rules in
    let id : IsSome c.in-Some-held.held.performative.delivery_id =
    has_id (world_of c.self.inside) c.self.inside.deliveries c.args.tag.now refl on c.in-Some.kept.now known c.in-Some-held.held c.in-Some-held.is stays whole none c.self.invariant.world c.self.invariant.marks in
    let gone : c.in-Some-held.held.performative.delivery_id ≡ None = search rules in
    some_is_not_none c.in-Some-held.held.performative.delivery_id id gone

pub returns : goal.returns
returns c =
    let on : is_together (world_of c.self.inside).phase ≡ true = search rules in
    let known : entry_at c.self.inside.deliveries c.args.tag.now ≡ Some c.in-Some.kept.now = search rules in
    let stays : c.in-Some.kept.now.progress.withdrawn ≡ false = search rules in
    let whole : c.in-Some.kept.now.progress.whole ≡ true = search rules in
    let none : is_empty (world_of c.self.inside).resuming ≡ true = search rules in
    subst (λ w. refusal (settle_tests w c.args.tag.now) ≡ None) c.self.view_is
    (may_settle (world_of c.self.inside) c.self.inside.deliveries c.args.tag.now refl on c.in-Some.kept.now known c.in-Some-held.held c.in-Some-held.is stays whole none c.self.invariant.world c.self.invariant.marks c.if-kept-2.false)
