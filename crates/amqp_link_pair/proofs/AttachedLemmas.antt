-- An attach of both endpoints is a step of the pair's world, and so is one that stops on the way.
use Rattle.std.proofs.Common.{◌≡◌, ◌∙◌, sym, ap, subst, ℕ, false, inl, inr}
use Rattle.std.specs.Prelude.{None, Result, Err}
use Rattle.amqp_link_types.specs.Entries.{Entries}
use Rattle.amqp_link_types.specs.Refusals.{refusal}
use Rattle.amqp_link_ledger.specs.Fates.{HandsOut, Resolves, after}
use Rattle.amqp_link_ledger.proofs.RecordLemmas.{resolves-none}
use Rattle.amqp_link_worlds.specs.Invariants.{IsWorld}
use Rattle.amqp_link_worlds.specs.Steps.{Attaches, LeftByAttach, StaysOrStops, attach_tests, items_to_resume, list_to_resume}
use Rattle.amqp_link_worlds.specs.Worlds.{World, is_together}
use Rattle.amqp_link_worlds.specs.declared.error.PairError.{PairError}
use Rattle.amqp_link_worlds.specs.declared.error.PairError.TheVariants as error
use Rattle.amqp_link_worlds.proofs.WorldLemmas.{IsWorld-stops, attach_returns_none, attach_list_is, none_hold}
use Rattle.amqp_link_pair.specs.Endpoints.{HasStopped, with_ends}
use Rattle.amqp_link_pair.specs.PairViews.{AreMarked}
use Rattle.amqp_link_pair.specs.declared.deliveries.Kept.{Kept}
use Rattle.amqp_link_pair.specs.declared.ends.Ends.{Ends}
use Rattle.amqp_link_pair.proofs.MarkLemmas.{marks_apart}

module _ (limit : ℕ) (w : World) (old new : Ends) (left : HasStopped limit w old new) where
  -- the world stays, or stops
  pub stays_or_stops : StaysOrStops (with_ends w old) limit (with_ends w new)
  stays_or_stops =
      elim left.stays as (λ _. StaysOrStops (with_ends w old) limit (with_ends w new)) [
        | inl same ↦ inl (ap (with_ends w) same)
        | inr stop ↦ inr stop
      ]

  -- and keeps what a pair keeps
  pub kept_left : IsWorld (with_ends w old) → IsWorld (with_ends w new)
  kept_left k =
      elim left.stays as (λ _. IsWorld (with_ends w new)) [
        | inl same ↦ subst (λ e. IsWorld (with_ends w e)) (sym same) k
        | inr stop ↦ IsWorld-stops stop.0 (with_ends w old) (with_ends w new) limit k stop.1
      ]

  pub marks_left : (kept : Entries Kept) → AreMarked (with_ends w old) kept → AreMarked (with_ends w new) kept
  marks_left kept marks =
      elim left.stays as (λ _. AreMarked (with_ends w new) kept) [
        | inl same ↦ subst (λ e. AreMarked (with_ends w e) kept) (sym same) marks
        | inr stop ↦ let s = stop.1 in marks_apart (with_ends w new) kept (ap (λ (v : World). is_together v.phase) s.world)
      ]

pub left_by : {A : Type 0} (r : Result A PairError) (old new : World) (limit : ℕ) → r ≡ Err error.OutOfMemory → StaysOrStops old limit new → LeftByAttach r old limit new
left_by r old new limit is s = subst (λ r. LeftByAttach r old limit new) (sym is) s

-- each pending delivery is handed out, in the order of the sender's map, and none is resolved
module _ (old new : World) (limit count : ℕ) (k : IsWorld old) (may : refusal (attach_tests old limit) ≡ None) (a : Attaches old limit count new) where
  off : is_together old.phase ≡ false
  off = (none_hold (attach_tests old limit) may).0

  pub all_listed : new.resuming ≡ items_to_resume old
  all_listed = ap (λ (w : World). w.resuming) a.world ∙ attach_list_is old k off

  pub only_handed_out : new.ledger.records ≡ after (HandsOut new.resuming) old.ledger.records
  only_handed_out =
      ap (λ (w : World). w.ledger.records) a.world
      ∙ ap (λ outcomes. after (HandsOut (list_to_resume old)) (after (Resolves outcomes) old.ledger.records)) (attach_returns_none old k off)
      ∙ ap (after (HandsOut (list_to_resume old))) (resolves-none old.ledger.records)
      ∙ ap (λ list. after (HandsOut list) old.ledger.records) (sym (ap (λ (w : World). w.resuming) a.world))
