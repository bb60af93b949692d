-- Whole credit runs.
use Rattle.std.proofs.Common.{◌≡◌, sym, ap, ◌∙◌, subst, ℕ, ◌<◌, ◌≤◌, ◌^◌, List, [], ◌∷◌, ◌++◌, append_assoc}
use Rattle.std.proofs.lemmas.List.{append-nil}
use Rattle.amqp_link_credit.specs.CreditCalls.{new_run}
use Rattle.amqp_link_credit.specs.CreditRuns.{RunCall, OfGrant, OfSend, OfPiece, OfCompletion, OfFlow, OfBack, DoesCall, IsCreditRun, sent_in, completed_in}
use Rattle.amqp_link_credit.specs.CreditWorlds.{CreditWorld, under_way, IsCreditWorld}
use Rattle.amqp_link_credit.specs.CreditDeliveries.{Part}
use Rattle.amqp_link_credit.proofs.RunLemmas.{IsCreditWorld-new, IsCreditWorld-grants, IsCreditWorld-sends, IsCreditWorld-pieces, IsCreditWorld-completes, IsCreditWorld-flows, IsCreditWorld-backs}

-- each step keeps what a run keeps
pub IsCreditWorld-step : (m : RunCall) (old new : CreditWorld) → IsCreditWorld old → DoesCall old m new → IsCreditWorld new
IsCreditWorld-step (OfGrant credit drain echo) old new k s = IsCreditWorld-grants old new credit drain echo k s.0 s.1
IsCreditWorld-step (OfSend payload settled tag count) old new k s = IsCreditWorld-sends old new payload settled tag count k s.0 s.1
IsCreditWorld-step (OfPiece id) old new k s = IsCreditWorld-pieces old new id k s
IsCreditWorld-step (OfCompletion id answer) old new k s = IsCreditWorld-completes old new id answer k s
IsCreditWorld-step OfFlow old new k s = IsCreditWorld-flows old new k s
IsCreditWorld-step (OfBack replied) old new k s = IsCreditWorld-backs old new replied k s

pub IsCreditWorld-steps : (calls : List RunCall) (old new : CreditWorld) → IsCreditWorld old → IsCreditRun old calls new → IsCreditWorld new
IsCreditWorld-steps [] old new k s = subst IsCreditWorld (sym s) k
IsCreditWorld-steps (m ∷ calls) old new k s = IsCreditWorld-steps calls s.0 new (IsCreditWorld-step m old s.0 k s.1) s.2

pub run_is_kept : (count limit : ℕ) (calls : List RunCall) (new : CreditWorld) → count < 2 ^ 32 → 29 ≤ limit → IsCreditRun (new_run count limit) calls new → IsCreditWorld new
run_is_kept count limit calls new h room s = IsCreditWorld-steps calls (new_run count limit) new (IsCreditWorld-new count limit h room) s

-- ---- deliveries complete in the order of their sends

same_way : (a b : CreditWorld) (c d e : List Part) → under_way b ≡ under_way a → c ++ d ≡ under_way b ++ e → c ++ d ≡ under_way a ++ e
same_way a b c d e same h = h ∙ ap (λ ds. ds ++ e) same

-- what was completed, and what is still under way, is what was under way, and what was sent
pub in_order : (calls : List RunCall) (old new : CreditWorld) → IsCreditRun old calls new → completed_in calls ++ under_way new ≡ under_way old ++ sent_in calls
in_order [] old new s = ap under_way s ∙ sym (append-nil (under_way old))
in_order (OfGrant credit drain echo ∷ calls) old new s = same_way old s.0 (completed_in calls) (under_way new) (sent_in calls) (ap under_way s.1.1.world) (in_order calls s.0 new s.2)
in_order (OfSend payload settled tag count ∷ calls) old new s =
    in_order calls s.0 new s.2 ∙ ap (λ ds. ds ++ sent_in calls) s.1.1.added ∙ append_assoc (under_way old) ((tag, payload) ∷ []) (sent_in calls)
in_order (OfPiece id ∷ calls) old new s = same_way old s.0 (completed_in calls) (under_way new) (sent_in calls) s.1.same (in_order calls s.0 new s.2)
in_order (OfCompletion id answer ∷ calls) old new s =
    ap (λ ds. (answer.info.delivery_tag, answer.message.body.0) ∷ ds) (in_order calls s.0 new s.2) ∙ ap (λ ds. ds ++ sent_in calls) (sym s.1.first)
in_order (OfFlow ∷ calls) old new s = same_way old s.0 (completed_in calls) (under_way new) (sent_in calls) s.1.same (in_order calls s.0 new s.2)
in_order (OfBack replied ∷ calls) old new s = same_way old s.0 (completed_in calls) (under_way new) (sent_in calls) s.1.same (in_order calls s.0 new s.2)
