use Rattle.std.proofs.Common.{◌≡◌, ◌++◌, ◌∷◌, [], List, ℕ, sym, ap, ◌∙◌, subst}
use Rattle.std.specs.List.{concat}
use Rattle.amqp_link_payloads.proofs.PositionLemmas.{concat_push}
use Rattle.amqp_link_core.specs.Carries.{IsKept}
use Rattle.amqp_link_core.proofs.CountLemmas.{not_refused}
use Rattle.amqp_link_core.proofs.incomplete_transfer.pieces.push_piece.Goals as goal

pub returns-in-Ok-clause-carry : goal.returns-in-Ok-clause-carry
returns-in-Ok-clause-carry c =
    let front = concat c.args.pieces.now.items in
    let all : concat c.push-2.new.self.items ≡ front ++ c.args.piece
    = ap concat (c.in-Ok.ensures.items ∙ ap (λ (held : List (List ℕ)). held ++ c.args.piece ∷ []) c.reserve_first.ensures)
    ∙ concat_push c.args.pieces.now.items c.args.piece in
    subst (IsKept c.push.new.self) (sym all) (record {
      pushed = c.in_default.ensures.pushed front c.requires;
      counted = not_refused (front ++ c.args.piece) (c.in_default.ensures.refused front c.requires);
    })
