use Rattle.std.proofs.Common.{◌≡◌, ◌∙◌, refl, ap, Bool, true, [], ◌∷◌, ◌==◌, ◌&&◌, ◌||◌, not, length, arith}
use Rattle.std.proofs.lemmas.Bool.{ne_eqb}
use Rattle.std.specs.Prelude.{unwrap_or}
use Rattle.amqp_link_types.specs.Entries.{Entries}
use Rattle.amqp_link_types.specs.declared.delivery.UnsettledMessage.{UnsettledMessage}
use Rattle.amqp_link_endpoint.specs.Attaching.{States}
use Rattle.amqp_link_sender.specs.SenderAttaches.{is_nothing}
use Rattle.amqp_link_sender.proofs.sender_link.SenderLink.plan_rest.Goals as goal

something : (own : Entries UnsettledMessage) (remote : States) (rest : Bool) → ((own ≡ []) × (remote ≡ []) → ⊥) → (not (is_nothing own remote) || rest) ≡ true
something [] [] rest h = absurd (h (refl, refl))
something [] (e ∷ remote) rest h = ap (λ b. not b || rest) (ne_eqb (length (e ∷ remote)) 0 (λ same. absurd (omega (arith, same))))
something (e ∷ own) remote rest h = ap (λ b. not (b && length remote == 0) || rest) (ne_eqb (length (e ∷ own)) 0 (λ same. absurd (omega (arith, same))))

-- a plan of two empty maps allocates nothing
pub returns-in-Err-plan_exchange-clause-memory : goal.returns-in-Err-plan_exchange-clause-memory
returns-in-Err-plan_exchange-clause-memory g c =
    rw (← c.self.view_is) (something _ (unwrap_or c.args.unsettled []) _
    (λ none. c.in-Err-plan_exchange.ensures.memory (none.0, c.entries_of-remote.ensures ∙ none.1)))
