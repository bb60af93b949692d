-- A delivery of a pair is withdrawn.
use Rattle.std.proofs.Common.{◌≡◌, ◌∙◌, sym, ap, refl, Bool, true, false, ◌||◌, Option, None, Some, ℕ}
use Rattle.std.specs.Prelude.{if◌then◌else◌, IsSome, is_some}
use Rattle.std.specs.Option.{option_map_or}
use Rattle.amqp_link_types.specs.Entries.{Tag, Entries, entry_at, with_entry, without_entry}
use Rattle.amqp_link_types.specs.Refusals.{refusal}
use Rattle.amqp_link_types.specs.declared.types.terminus.Target.{Target}
use Rattle.amqp_link_types.proofs.MapLemmas.{false_is_not_true}
use Rattle.amqp_link_ledger.specs.Fates.{Withdraws, after}
use Rattle.amqp_link_ledger.specs.Ledgers.{Ledger}
use Rattle.amqp_link_worlds.specs.Invariants.{IsWorld}
use Rattle.amqp_link_worlds.specs.Steps.{WithdrawsDelivery, after_withdrawal, has_flag, is_apart, withdraw_tests}
use Rattle.amqp_link_worlds.specs.Worlds.{World, Phase, Apart, Halfway, Together, held_at, is_together}
use Rattle.amqp_link_worlds.specs.declared.error.PairError.TheVariants as error
use Rattle.amqp_link_worlds.specs.declared.progress.Progress.{Progress}
use Rattle.amqp_link_worlds.proofs.WorldLemmas.{none_hold, not_is_false, nothing_listed, tag_is_taken}
use Rattle.amqp_link_pair.specs.Endpoints.{IsEnds, IsOnWayAt, phase_of}
use Rattle.amqp_link_pair.specs.HandingOut.{held_in}
use Rattle.amqp_link_pair.specs.Keeping.{progress_of, withdrawn_of, without_withdrawn}
use Rattle.amqp_link_pair.specs.declared.deliveries.Kept.{Kept}
use Rattle.amqp_link_pair.specs.declared.ends.Ends.{Ends}
use Rattle.amqp_link_pair.specs.declared.ends.Stage.{Stage}
use Rattle.amqp_link_pair.specs.declared.ends.Stage.TheVariants as stage
use Rattle.amqp_link_pair.proofs.ProgressLemmas.{known_at, progress_at, progress_in, progress_of-withdrawn}
use Rattle.amqp_link_pair.proofs.ResumeLemmas.{some_kept}

pub some_of : {A : Type 0} (o : Option A) → IsSome o → (a : A) × (o ≡ Some a)
some_of None h = absurd (false_is_not_true h)
some_of (Some a) h = (a, refl)

pub apart_off : (p : Phase) → is_apart p ≡ true → is_together p ≡ false
apart_off Apart h = sym (ap (λ (b : Bool). false) h)
apart_off (Halfway limit) h = absurd (false_is_not_true h)
apart_off (Together limit) h = absurd (false_is_not_true h)

module _ (w : World) (kept : Entries Kept) (tag : Tag) (world : IsWorld w) (is : w.deliveries ≡ progress_of kept) (may : refusal (withdraw_tests w tag) ≡ None) where
  pub apart : is_apart w.phase ≡ true
  apart = not_is_false (is_apart w.phase) (none_hold (withdraw_tests w tag) may).0

  own : is_some (entry_at w.ledger.link.unsettled tag) ≡ true
  own = let tests = none_hold (withdraw_tests w tag) may in not_is_false (is_some (entry_at w.ledger.link.unsettled tag)) tests.1.0

  -- it is kept
  pub kept_there : IsSome (entry_at kept tag)
  kept_there =
      sym (some_kept kept tag) ∙ ap (λ m. is_some (entry_at m tag)) (sym is)
      ∙ tag_is_taken w tag world (nothing_listed w.resuming tag (world.apart (apart_off w.phase apart)))
      ∙ ap (λ b. b || is_some (held_at w tag)) own

-- whether it is whole, by what is kept of it
whole_in : (o : Option Kept) → option_map_or (λ (p : Progress). p.whole) (progress_in o) false ≡ option_map_or (λ (k : Kept). k.progress.whole) o false
whole_in None = refl
whole_in (Some k) = refl

module _ (w : World) (kept : Entries Kept) (tag : Tag) (is : w.deliveries ≡ progress_of kept) where
  flag_is : has_flag (λ p. p.whole) w tag ≡ option_map_or (λ (k : Kept). k.progress.whole) (entry_at kept tag) false
  flag_is = ap (λ m. option_map_or (λ (p : Progress). p.whole) (entry_at m tag) false) is ∙ ap (λ o. option_map_or (λ (p : Progress). p.whole) o false) (progress_at kept tag) ∙ whole_in (entry_at kept tag)

  pub ended : is_apart w.phase ≡ true → is_some (entry_at w.ledger.link.unsettled tag) ≡ true → option_map_or (λ (k : Kept). k.progress.whole) (entry_at kept tag) false ≡ true
      → refusal (withdraw_tests w tag) ≡ Some error.AlreadyWhole
  ended off own whole = rw (off, own, flag_is, whole) refl

  pub may_withdraw : is_apart w.phase ≡ true → is_some (entry_at w.ledger.link.unsettled tag) ≡ true → option_map_or (λ (k : Kept). k.progress.whole) (entry_at kept tag) false ≡ false
      → refusal (withdraw_tests w tag) ≡ None
  may_withdraw off own whole = rw (off, own, flag_is, whole) refl

-- what is left of all deliveries
pub left_is : (kept left : Entries Kept) (tag : Tag) (k : Kept) → entry_at kept tag ≡ Some k → (is_some (held_in (entry_at kept tag)) ≡ false → left ≡ without_entry kept tag)
    → (is_some (held_in (entry_at kept tag)) ≡ true → left ≡ with_entry kept tag (withdrawn_of k)) → left ≡ without_withdrawn tag k kept
left_is kept left tag k known none some =
    let at : is_some (held_in (entry_at kept tag)) ≡ is_some k.progress.held = ap (λ o. is_some (held_in o)) known in
    let each : (b : Bool) → (b ≡ false → left ≡ without_entry kept tag) → (b ≡ true → left ≡ with_entry kept tag (withdrawn_of k))
    → left ≡ (if b then with_entry kept tag (withdrawn_of k) else without_entry kept tag) =
    λ b. elim b as (λ b. (b ≡ false → left ≡ without_entry kept tag) → (b ≡ true → left ≡ with_entry kept tag (withdrawn_of k))
    → left ≡ (if b then with_entry kept tag (withdrawn_of k) else without_entry kept tag)) [
      | true ↦ λ none some. some refl
      | false ↦ λ none some. none refl
    ] in
    each (is_some k.progress.held) (λ h. none (at ∙ h)) (λ h. some (at ∙ h))

-- the withdrawal is a step of the world
pub withdraws : (w : World) (kept left : Entries Kept) (ledger : Ledger Target) (tag : Tag) (k : Kept) → w.deliveries ≡ progress_of kept → entry_at kept tag ≡ Some k
    → ledger.link ≡ record w.ledger.link { unsettled = without_entry w.ledger.link.unsettled tag } → ledger.records ≡ after (Withdraws tag) w.ledger.records
    → left ≡ without_withdrawn tag k kept → WithdrawsDelivery w tag (record w { ledger = ledger; deliveries = progress_of left })
withdraws w kept left ledger tag k is known link records gone = record {
  before = k.progress;
  known = ap (λ m. entry_at m tag) is ∙ known_at kept tag k known;
  world = (λ i. record w {
    ledger = record { link = link i; records = records i };
    deliveries = (ap progress_of gone ∙ progress_of-withdrawn kept tag k ∙ ap (λ m. after_withdrawal m tag k.progress) (sym is)) i;
  });
}

on_way_apart : (s : Stage) (limit : ℕ) (e : Ends) → is_apart (phase_of s limit) ≡ true → IsOnWayAt s e
on_way_apart stage.Apart limit e h = tt
on_way_apart stage.Asked limit e h = absurd (false_is_not_true h)
on_way_apart stage.Taken limit e h = absurd (false_is_not_true h)
on_way_apart stage.Answered limit e h = absurd (false_is_not_true h)
on_way_apart stage.Together limit e h = absurd (false_is_not_true h)

pub IsEnds-apart : (old new : Ends) → IsEnds old → is_apart (phase_of old.stage old.limit) ≡ true → new.stage ≡ old.stage → new.limit ≡ old.limit
    → new.ledger.link.max_frame_size ≡ old.ledger.link.max_frame_size → IsEnds new
IsEnds-apart old new k off s l f = record {
  limit = f ∙ k.limit ∙ sym l;
  on_way = on_way_apart new.stage new.limit new ((λ i. is_apart (phase_of (s i) (l i))) ∙ off);
}
