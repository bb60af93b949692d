use Rattle.std.proofs.Common.{◌≡◌, ◌+◌, ◌++◌, ◌∙◌, ◌<◌, ◌^◌, ℕ, List, take, sym, ap, subst, arith}
use Rattle.std.proofs.lemmas.List.{take_all}
use Rattle.std.specs.List.{concat}
use Rattle.std.specs.Option.{SomeIff}
use Rattle.amqp_link_payloads.specs.Counts.{HasCounted, number_below}
use Rattle.amqp_link_payloads.specs.Position.{position}
use Rattle.amqp_link_payloads.specs.Scan.{Keeps}
use Rattle.amqp_link_payloads.specs.Tail.{IsTailOf, blanked}
use Rattle.amqp_link_payloads.proofs.CountLemmas.{counted_all, nothing_counted, below_some, below_none}
use Rattle.amqp_link_payloads.proofs.PositionLemmas.{concat_next, pair_same}
use Rattle.amqp_link_payloads.proofs.position.position_of.Goals as goal

pub loop-piece-init : goal.loop-piece-init
loop-piece-init c = record { tail = c.new-tail.ensures; counts = nothing_counted c.new-counts.result c.new-counts.ensures }

pub loop-piece-preserved : goal.loop-piece-preserved
loop-piece-preserved c =
    let front : List ℕ = concat (take c.loop-piece.piece-index c.args.pieces.now) in
    let next : concat (take (c.loop-piece.piece-index + 1) c.args.pieces.now) ≡ front ++ c.as_slice.result.now
    = concat_next c.args.pieces.now c.loop-piece.piece-index c.piece-item.result c.loop-piece-test.true c.piece-item.is
    ∙ ap (λ t. front ++ t) (sym c.as_slice.ensures) in
    let read = c.read.ensures 0 front c.loop-piece.invariant.tail c.loop-piece.invariant.counts in
    record {
      tail = subst (IsTailOf c.read.result.0) (sym next) read.0;
      counts = subst (λ F. Keeps HasCounted c.read.result.1 (blanked F) 0) (sym next) read.1;
    }

pub returns-in_err-counts : goal.returns-in_err-counts
returns-in_err-counts c =
    let all = counted_all c.loop-piece.counts (concat (take c.loop-piece.piece-index c.args.pieces.now)) c.loop-piece.invariant.counts in
    let whole : concat (take c.loop-piece.piece-index c.args.pieces.now) ≡ concat c.args.pieces.now
    = ap concat (take_all c.loop-piece.piece-index c.args.pieces.now c.loop-piece-test.false) in
    subst (λ o. SomeIff o (((position (concat c.args.pieces.now)).0 < 2 ^ 32) × ((position (concat c.args.pieces.now)).1 < 2 ^ 64)) (position (concat c.args.pieces.now)))
    (sym c.from_residual.ensures)
    (λ both. omega (arith, both.0, below_none (2 ^ 32) _ (ap (λ F. number_below (2 ^ 32) (position F).0) (sym whole) ∙ sym all.0 ∙ c.in_err-counts.was)))

pub returns-in_err-counts-2 : goal.returns-in_err-counts-2
returns-in_err-counts-2 c =
    let all = counted_all c.loop-piece.counts (concat (take c.loop-piece.piece-index c.args.pieces.now)) c.loop-piece.invariant.counts in
    let whole : concat (take c.loop-piece.piece-index c.args.pieces.now) ≡ concat c.args.pieces.now
    = ap concat (take_all c.loop-piece.piece-index c.args.pieces.now c.loop-piece-test.false) in
    subst (λ o. SomeIff o (((position (concat c.args.pieces.now)).0 < 2 ^ 32) × ((position (concat c.args.pieces.now)).1 < 2 ^ 64)) (position (concat c.args.pieces.now)))
    (sym c.from_residual-in_err-counts-2.ensures)
    (λ both. omega (arith, both.1, below_none (2 ^ 64) _ (ap (λ F. number_below (2 ^ 64) (position F).1) (sym whole) ∙ sym all.1 ∙ c.in_err-counts-2.was)))

pub returns : goal.returns
returns c =
    let all = counted_all c.loop-piece.counts (concat (take c.loop-piece.piece-index c.args.pieces.now)) c.loop-piece.invariant.counts in
    let whole : concat (take c.loop-piece.piece-index c.args.pieces.now) ≡ concat c.args.pieces.now
    = ap concat (take_all c.loop-piece.piece-index c.args.pieces.now c.loop-piece-test.false) in
    let number = below_some (2 ^ 32) _ c.in_ok-counts.field-0 (ap (λ F. number_below (2 ^ 32) (position F).0) (sym whole) ∙ sym all.0 ∙ c.in_ok-counts.was) in
    let offset = below_some (2 ^ 64) _ c.in_ok-counts-2.field-0 (ap (λ F. number_below (2 ^ 64) (position F).1) (sym whole) ∙ sym all.1 ∙ c.in_ok-counts-2.was) in
    ((number.0, offset.0), pair_same _ _ _ _ (sym number.1) (sym offset.1))
