use Rattle.std.proofs.Common.{◌≡◌, ◌+◌, ◌++◌, ◌∙◌, ℕ, List, take, sym, ap, subst}
use Rattle.std.proofs.lemmas.List.{take_all}
use Rattle.std.specs.List.{concat}
use Rattle.amqp_link_payloads.specs.Scan.{Keeps}
use Rattle.amqp_link_payloads.specs.Seek.{Seeks}
use Rattle.amqp_link_payloads.specs.Tail.{IsTailOf, blanked}
use Rattle.amqp_link_payloads.proofs.BlankLemmas.{if_within}
use Rattle.amqp_link_payloads.proofs.PositionLemmas.{concat_next}
use Rattle.amqp_link_payloads.proofs.SeekLemmas.{place_sought}
use Rattle.amqp_link_payloads.proofs.position.place_in.Goals as goal

pub loop-piece-preserved : goal.loop-piece-preserved
loop-piece-preserved c =
    let front : List ℕ = concat (take c.loop-piece.piece-index c.args.pieces.now) in
    let next : concat (take (c.loop-piece.piece-index + 1) c.args.pieces.now) ≡ front ++ c.as_slice.result.now
    = concat_next c.args.pieces.now c.loop-piece.piece-index c.piece-item.result c.loop-piece-test.true c.piece-item.is
    ∙ ap (λ t. front ++ t) (sym c.as_slice.ensures) in
    let read = c.read.ensures c.args.section_number front c.loop-piece.invariant.tail c.loop-piece.invariant.seek in
    record {
      tail = subst (IsTailOf c.read.result.0) (sym next) read.0;
      seek = subst (λ F. Keeps (Seeks c.args.section_number) c.read.result.1 (blanked F) 0) (sym next) read.1;
    }

pub returns-clause-place : goal.returns-clause-place
returns-clause-place c = λ fits.
    let all : concat (take c.loop-piece.piece-index c.args.pieces.now) ≡ concat c.args.pieces.now
    = ap concat (take_all c.loop-piece.piece-index c.args.pieces.now c.loop-piece-test.false) in
    place_sought c.args.section_number c.args.section_offset c.loop-piece.seek (concat c.args.pieces.now) c.place.result fits
    (subst (λ F. Keeps (Seeks c.args.section_number) c.loop-piece.seek (blanked F) 0) all c.loop-piece.invariant.seek) c.place.ensures

pub returns-clause-within : goal.returns-clause-within
returns-clause-within c = if_within (concat c.args.pieces.now) c.args.section_number c.args.section_offset c.place.result (returns-clause-place c c.in_ok-joined_len.ensures.0)
