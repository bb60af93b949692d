use Rattle.std.proofs.Common.{◌≡◌, ◌∙◌, subst, rules, refl, true, None}
use Rattle.std.specs.Prelude.{IfOk, IsErrOf}
use Rattle.amqp_link_types.specs.Entries.{entry_at}
use Rattle.amqp_link_types.specs.Refusals.{AnswersOrOutOfMemory, refusal}
use Rattle.amqp_link_worlds.specs.Steps.{HandsOutDelivery, LeftByHandOut, hand_out_tests}
use Rattle.amqp_link_worlds.specs.Worlds.{is_together}
use Rattle.amqp_link_worlds.specs.declared.error.PairError.TheVariants.{OutOfMemory}
use Rattle.amqp_link_worlds.proofs.WorldLemmas.{Good-from_world}
use Rattle.amqp_link_worlds.specs.Before.{before_decoding}
use Rattle.amqp_link_pair.specs.HandingOut.{handing_out_tests}
use Rattle.amqp_link_pair.specs.PairViews.{world_of}
use Rattle.amqp_link_pair.proofs.HandOutLemmas.{answers_same, can_take, credit_tests_are, hands_out, left_by_hand_out, marks_after, outcome_of, tests_are, with_kept, world_after}
use Rattle.amqp_link_pair.proofs.StepLemmas.{IsEnds-together}
use Rattle.amqp_link_pair.proofs.pair.Pair.hand_out.Goals as goal

pub hand_out-requires : goal.hand_out-requires
hand_out-requires g c =
    let on : is_together (world_of c.self.inside).phase ≡ true = search rules in
    can_take (world_of c.self.inside) c.self.inside.deliveries c.args.tag.now refl c.self.invariant.world on

pub invariant_of-self : goal.invariant_of-self
invariant_of-self g c =
    let w = world_of c.self.inside in
    let on : is_together (world_of c.self.inside).phase ≡ true = search rules in
    let o = outcome_of c.args.tag.now c.self.inside.deliveries c.self.inside.ends.receiver c.hand_out.new.self c.hand_out.new.receiver g.B.FromBody.decoded c.hand_out.result c.hand_out.ensures.done c.hand_out.ensures.left in
    record {
      ends = IsEnds-together c.self.inside.ends (record c.self.inside.ends { receiver = c.hand_out.new.receiver }) c.self.invariant.ends on refl refl refl;
      world = world_after w c.args.tag.now c.self.inside.deliveries c.hand_out.new.self c.hand_out.new.receiver refl c.self.invariant.world on o;
      marks = marks_after w c.args.tag.now c.self.inside.deliveries c.hand_out.new.self c.hand_out.new.receiver refl c.self.invariant.marks o;
    }

pub returns-clause-done : goal.returns-clause-done
returns-clause-done g c =
    let w = world_of c.self.inside in
    subst (λ v. IfOk c.hand_out.result (λ delivery. HandsOutDelivery g.B.FromBody.decoded v c.args.tag.now delivery (with_kept w c.hand_out.new.self c.hand_out.new.receiver))) c.self.view_is
    (hands_out w c.args.tag.now c.self.inside.deliveries c.hand_out.new.self c.hand_out.new.receiver refl g.B.FromBody.decoded c.hand_out.result c.hand_out.ensures.done)

pub returns-clause-refused : goal.returns-clause-refused
returns-clause-refused g c =
    let w = world_of c.self.inside in
    let on : is_together (world_of c.self.inside).phase ≡ true = search rules in
    subst (λ v. AnswersOrOutOfMemory OutOfMemory c.hand_out.result (hand_out_tests g.B.FromBody.decoded v c.args.tag.now)) c.self.view_is
    (answers_same c.hand_out.result (handing_out_tests g.B.FromBody.decoded (entry_at c.self.inside.deliveries c.args.tag.now) w.receiver) (hand_out_tests g.B.FromBody.decoded w c.args.tag.now)
    (tests_are g.B.FromBody.decoded w c.self.inside.deliveries c.args.tag.now refl on) c.hand_out.ensures.refused)

pub returns-clause-memory : goal.returns-clause-memory
returns-clause-memory g c =
    let w = world_of c.self.inside in
    let on : is_together (world_of c.self.inside).phase ≡ true = search rules in
    subst (λ v. IsErrOf c.hand_out.result OutOfMemory → refusal (before_decoding v c.args.tag.now) ≡ None) c.self.view_is
    (λ h. credit_tests_are w c.self.inside.deliveries c.args.tag.now refl on ∙ c.hand_out.ensures.memory h)

pub returns-clause-left : goal.returns-clause-left
returns-clause-left g c =
    let w = world_of c.self.inside in
    subst (λ v. LeftByHandOut c.hand_out.result v c.args.tag.now (with_kept w c.hand_out.new.self c.hand_out.new.receiver)) c.self.view_is
    (left_by_hand_out w c.args.tag.now c.self.inside.deliveries c.hand_out.new.self c.hand_out.new.receiver refl _ c.hand_out.result c.hand_out.ensures.left)

pub returns-clause-good : goal.returns-clause-good
returns-clause-good g c =
    let w = world_of c.self.inside in
    let on : is_together (world_of c.self.inside).phase ≡ true = search rules in
    let o = outcome_of c.args.tag.now c.self.inside.deliveries c.self.inside.ends.receiver c.hand_out.new.self c.hand_out.new.receiver g.B.FromBody.decoded c.hand_out.result c.hand_out.ensures.done c.hand_out.ensures.left in
    Good-from_world (with_kept w c.hand_out.new.self c.hand_out.new.receiver)
    (world_after w c.args.tag.now c.self.inside.deliveries c.hand_out.new.self c.hand_out.new.receiver refl c.self.invariant.world on o)

pub returns-clause-kept : goal.returns-clause-kept
returns-clause-kept g c =
    let on : is_together (world_of c.self.inside).phase ≡ true = search rules in
    let o = outcome_of c.args.tag.now c.self.inside.deliveries c.self.inside.ends.receiver c.hand_out.new.self c.hand_out.new.receiver g.B.FromBody.decoded c.hand_out.result c.hand_out.ensures.done c.hand_out.ensures.left in
    world_after (world_of c.self.inside) c.args.tag.now c.self.inside.deliveries c.hand_out.new.self c.hand_out.new.receiver refl c.self.invariant.world on o
