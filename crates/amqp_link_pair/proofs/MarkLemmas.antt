-- What a pair keeps of each pending delivery shows, after each call, whether transfers of it are under way.
use Rattle.std.proofs.Common.{◌≡◌, ◌∙◌, sym, ap, subst, refl, Bool, true, false, not, ◌&&◌, ℕ, ◌<◌, List, [], ◌∷◌, ◌++◌, length, None, Some, Option, arith, inl, inr}
use Rattle.std.specs.Prelude.{is_some, IsSome, IfSome}
use Rattle.amqp_link_types.specs.Entries.{Tag, Entries, IsMap, entry_at, with_entry, without_entry}
use Rattle.amqp_link_types.specs.Frames.{performative_of}
use Rattle.amqp_link_types.specs.declared.delivery.UnsettledMessage.{UnsettledMessage}
use Rattle.amqp_link_types.specs.declared.frame.LinkFrame.{LinkFrame}
use Rattle.amqp_link_types.specs.declared.types.delivery_state.DeliveryState.{DeliveryState}
use Rattle.amqp_link_types.proofs.MapLemmas.{entry_at-put, entry_at-put_other, false_is_not_true}
use Rattle.amqp_link_core.specs.declared.resumption.ResumingDelivery.{ResumingDelivery}
use Rattle.amqp_link_ledger.specs.declared.fate.Fate.{Fate}
use Rattle.amqp_link_ledger.specs.Fates.{fates_of}
use Rattle.amqp_link_worlds.specs.Invariants.{IsKeptAs, IsWorld}
use Rattle.amqp_link_worlds.specs.Steps.{is_empty}
use Rattle.amqp_link_worlds.specs.Wires.{OnWire, frames_of, under}
use Rattle.amqp_link_worlds.specs.Worlds.{World, AreAborts, EndsInTime, is_together}
use Rattle.amqp_link_worlds.specs.declared.progress.Progress.{Progress}
use Rattle.amqp_link_worlds.proofs.EntriesOf.{by_tag, removed_here, removed_there}
use Rattle.amqp_link_worlds.proofs.WorldLemmas.{frames_first, frames_other, frames_sent, frames_sent_other}
use Rattle.std.proofs.lemmas.List.{append-nil}
use Rattle.amqp_link_pair.specs.Keeping.{kept_after, marked, progress_of}
use Rattle.amqp_link_pair.specs.PairViews.{AreMarked}
use Rattle.amqp_link_pair.specs.declared.deliveries.Kept.{Kept}
use Rattle.amqp_link_pair.proofs.ProgressLemmas.{something_kept}

-- what is kept of a pending delivery, by its parts
abbrev pub IsMarkedAs : Option UnsettledMessage → Option Kept → List LinkFrame → Type 0
IsMarkedAs own kept frames = IsSome own → IfSome kept (λ k. k.is_under_way ≡ not (is_empty frames))

marked_as : {o p : Option UnsettledMessage} {k l : Option Kept} {fs gs : List LinkFrame} → o ≡ p → k ≡ l → fs ≡ gs → IsMarkedAs o k fs → IsMarkedAs p l gs
marked_as {p = p} {k = k} {l = l} {fs = fs} a b c h = subst (λ gs. IsMarkedAs p l gs) c (subst (λ j. IsMarkedAs p j fs) b (subst (λ o. IsMarkedAs o k fs) a h))

-- of a world that is not attached nothing is asked
pub marks_apart : (w : World) (kept : Entries Kept) → is_together w.phase ≡ false → AreMarked w kept
marks_apart w kept off on = absurd (false_is_not_true (sym off ∙ on))

-- nor if nothing is pending
pub marks_none : (w : World) (kept : Entries Kept) → w.ledger.link.unsettled ≡ [] → AreMarked w kept
marks_none w kept none on tag h = absurd (false_is_not_true (ap (λ (m : Entries UnsettledMessage). is_some (entry_at m tag)) (sym none) ∙ h))

pub not_empty : {A : Type 0} (xs : List A) → 0 < length xs → not (is_empty xs) ≡ true
not_empty [] h = absurd (omega (arith, h))
not_empty (x ∷ xs) h = refl

module _ (old new : World) (kept : Entries Kept) (marks : AreMarked old kept) (phase : is_together new.phase ≡ is_together old.phase) where
  before : is_together new.phase ≡ true → is_together old.phase ≡ true
  before on = sym phase ∙ on

  -- an entry enters under a tag of which nothing is under way, and its frames follow, if there are any
  module _ (tag : Tag) (entry : UnsettledMessage) (k : Kept) (frames : List LinkFrame)
      (own : new.ledger.link.unsettled ≡ with_entry old.ledger.link.unsettled tag entry)
      (wire : new.wire ≡ old.wire ++ under tag frames)
      (quiet : frames_of tag old.wire ≡ [])
      (mark : k.is_under_way ≡ not (is_empty frames)) where
    pub marks_entered : AreMarked new (with_entry kept tag k)
    marks_entered on =
        by_tag (λ t. IsMarkedAs (entry_at new.ledger.link.unsettled t) (entry_at (with_entry kept tag k) t) (frames_of t new.wire)) tag
        (marked_as refl (sym (entry_at-put kept tag k)) (sym (frames_sent tag old.wire frames quiet) ∙ ap (frames_of tag) (sym wire)) (λ _. mark))
        (λ other n. marked_as
        (sym (entry_at-put_other old.ledger.link.unsettled tag other entry n) ∙ ap (λ m. entry_at m other) (sym own))
        (sym (entry_at-put_other kept tag other k n))
        (sym (frames_sent_other other tag old.wire frames n) ∙ ap (frames_of other) (sym wire))
        (marks (before on) other))

  -- the same by what is noted of a delivery of which this was kept
  module _ (left : Entries Kept) (tag : Tag) (entry : UnsettledMessage) (p : Progress) (b : Bool) (frames : List LinkFrame)
      (own : new.ledger.link.unsettled ≡ with_entry old.ledger.link.unsettled tag entry)
      (wire : new.wire ≡ old.wire ++ under tag frames)
      (quiet : frames_of tag old.wire ≡ [])
      (known : entry_at (progress_of kept) tag ≡ Some p)
      (notes : (k : Kept) → entry_at kept tag ≡ Some k → left ≡ with_entry kept tag (marked b k))
      (mark : not b ≡ not (is_empty frames)) where
    pub marks_noted : AreMarked new left
    marks_noted =
        let found = something_kept kept tag p known in
        let k : Kept = found.0 in
        subst (AreMarked new) (sym (notes k found.1)) (marks_entered tag entry (marked b k) frames own wire quiet mark)

  -- what is kept of a delivery changes, but for its mark
  module _ (tag : Tag) (j k : Kept)
      (own : new.ledger.link.unsettled ≡ old.ledger.link.unsettled)
      (wire : new.wire ≡ old.wire)
      (known : entry_at kept tag ≡ Some j)
      (mark : k.is_under_way ≡ j.is_under_way) where
    pub marks_stay : AreMarked new (with_entry kept tag k)
    marks_stay on =
        by_tag (λ t. IsMarkedAs (entry_at new.ledger.link.unsettled t) (entry_at (with_entry kept tag k) t) (frames_of t new.wire)) tag
        (marked_as (ap (λ m. entry_at m tag) (sym own)) (sym (entry_at-put kept tag k)) (ap (frames_of tag) (sym wire))
        (λ h. mark ∙ subst (λ o. IsMarkedAs (entry_at old.ledger.link.unsettled tag) o (frames_of tag old.wire)) known (marks (before on) tag) h))
        (λ other n. marked_as
        (ap (λ m. entry_at m other) (sym own))
        (sym (entry_at-put_other kept tag other k n))
        (ap (frames_of other) (sym wire))
        (marks (before on) other))

  -- a delivery is settled
  module _ (tag : Tag) (is_map : IsMap old.ledger.link.unsettled) (is_kept : IsMap kept)
      (own : new.ledger.link.unsettled ≡ without_entry old.ledger.link.unsettled tag)
      (wire : new.wire ≡ old.wire) where
    pub marks_settled : AreMarked new (without_entry kept tag)
    marks_settled on =
        by_tag (λ t. IsMarkedAs (entry_at new.ledger.link.unsettled t) (entry_at (without_entry kept tag) t) (frames_of t new.wire)) tag
        (λ h. absurd (false_is_not_true (ap is_some (sym (ap (λ m. entry_at m tag) own ∙ removed_here old.ledger.link.unsettled tag is_map)) ∙ h)))
        (λ other n. marked_as
        (sym (removed_there old.ledger.link.unsettled tag other is_map n) ∙ ap (λ m. entry_at m other) (sym own))
        (sym (removed_there kept tag other is_kept n))
        (ap (frames_of other) (sym wire))
        (marks (before on) other))

-- an entry that is put back enters without frames
pub marks_put_back : (old new : World) (kept left : Entries Kept) → AreMarked old kept → is_together new.phase ≡ is_together old.phase → (tag : Tag) (entry : UnsettledMessage) (p : Progress)
    → new.ledger.link.unsettled ≡ with_entry old.ledger.link.unsettled tag entry → new.wire ≡ old.wire → frames_of tag old.wire ≡ [] → entry_at (progress_of kept) tag ≡ Some p
    → ((k : Kept) → entry_at kept tag ≡ Some k → left ≡ with_entry kept tag (marked true k)) → AreMarked new left
marks_put_back old new kept left marks phase tag entry p own wire quiet known notes =
    marks_noted old new kept marks phase left tag entry p true [] own (wire ∙ sym (append-nil old.wire)) quiet known notes refl

-- ---- an arrival

-- only the last of the transfers under way is not followed by more
more_follow : (whole : Bool) (f : LinkFrame) (frames : List LinkFrame) → EndsInTime whole (f ∷ frames) → (performative_of f).more ≡ not (is_empty frames)
more_follow whole f [] ends = ends
more_follow whole f (g ∷ frames) ends = ends.0

cons_is_nil : {A : Type 0} {x : A} {xs : List A} → x ∷ xs ≡ [] → ⊥
cons_is_nil h = cc

ends_by : (b whole : Bool) (f : LinkFrame) (frames : List LinkFrame) → (b ≡ true → EndsInTime whole (f ∷ frames)) → (b ≡ false → f ∷ frames ≡ []) → EndsInTime whole (f ∷ frames)
ends_by true whole f frames ends quiet = ends refl
ends_by false whole f frames ends quiet = absurd (cons_is_nil (quiet refl))

-- a transfer that carries its delivery is none that aborts it
no_abort : (f : LinkFrame) (frames : List LinkFrame) → (performative_of f).aborted ≡ false → AreAborts (f ∷ frames) → ⊥
no_abort f [] carries aborts = false_is_not_true (sym carries ∙ aborts)
no_abort f (g ∷ frames) carries aborts = aborts

-- what is under way of a pending delivery ends in time
arriving_ends : (b : Bool) (tag : Tag) (own : Option UnsettledMessage) (listed : Option ResumingDelivery) (q : Option Progress) (reported : Option (Option DeliveryState)) (f : LinkFrame) (frames : List LinkFrame) (fates : List Fate)
    → (performative_of f).aborted ≡ false → IsKeptAs b tag own listed q reported (f ∷ frames) fates → (performative_of f).more ≡ not (is_empty frames)
arriving_ends b tag None None None reported f frames fates carries k = absurd (cons_is_nil k.1)
arriving_ends b tag None None (Some p) reported f frames fates carries k = absurd (no_abort f frames carries k.aborts)
arriving_ends b tag (Some entry) None None reported f frames fates carries k = absurd k
arriving_ends b tag (Some entry) None (Some p) reported f frames fates carries k =
    more_follow p.whole f frames (ends_by (b && not p.put_back) p.whole f frames k.0.good.ends k.0.good.quiet)
arriving_ends b tag None (Some next) None reported f frames fates carries k = absurd k
arriving_ends b tag None (Some next) (Some p) reported f frames fates carries k =
    absurd (elim (k) as (λ _. ⊥) [ inl l ↦ cons_is_nil (l.0.under_way.good.quiet refl) | inr a ↦ cons_is_nil (a.withdrawn.quiet refl) ])
arriving_ends b tag (Some entry) (Some next) q reported f frames fates carries k = absurd k

module _ (old new : World) (kept : Entries Kept) (marks : AreMarked old kept) (world : IsWorld old)
    (s : OnWire) (id : ℕ) (k : Kept)
    (phase : is_together new.phase ≡ is_together old.phase)
    (own : new.ledger.link.unsettled ≡ old.ledger.link.unsettled)
    (wire : old.wire ≡ s ∷ new.wire)
    (carries : (performative_of s.frame).aborted ≡ false) where
  pub marks_arrived : AreMarked new (with_entry kept s.tag (kept_after k id s.frame))
  marks_arrived on =
      let first : frames_of s.tag old.wire ≡ s.frame ∷ frames_of s.tag new.wire = ap (frames_of s.tag) wire ∙ frames_first s new.wire in
      let more : (performative_of s.frame).more ≡ not (is_empty (frames_of s.tag new.wire)) =
      arriving_ends (is_together old.phase) s.tag (entry_at old.ledger.link.unsettled s.tag) (entry_at old.resuming s.tag) (entry_at old.deliveries s.tag) (entry_at old.receiver.unsettled s.tag) s.frame (frames_of s.tag new.wire) (fates_of s.tag old.ledger.records) carries
      (subst (λ fs. IsKeptAs (is_together old.phase) s.tag (entry_at old.ledger.link.unsettled s.tag) (entry_at old.resuming s.tag) (entry_at old.deliveries s.tag) (entry_at old.receiver.unsettled s.tag) fs (fates_of s.tag old.ledger.records)) first (world.each s.tag)) in
      by_tag (λ t. IsMarkedAs (entry_at new.ledger.link.unsettled t) (entry_at (with_entry kept s.tag (kept_after k id s.frame)) t) (frames_of t new.wire)) s.tag
      (marked_as refl (sym (entry_at-put kept s.tag (kept_after k id s.frame))) refl (λ _. more))
      (λ other n. marked_as
      (ap (λ m. entry_at m other) (sym own))
      (sym (entry_at-put_other kept s.tag other (kept_after k id s.frame) n))
      (ap (frames_of other) wire ∙ frames_other other s new.wire n)
      (marks (sym phase ∙ on) other))

-- the delivery of the next transfer is forgotten
module _ (old new : World) (kept : Entries Kept) (marks : AreMarked old kept) (is_kept : IsMap kept) (s : OnWire)
    (phase : is_together new.phase ≡ is_together old.phase)
    (own : new.ledger.link.unsettled ≡ old.ledger.link.unsettled)
    (wire : old.wire ≡ s ∷ new.wire) where
  pub marks_forgotten : AreMarked new (without_entry kept s.tag)
  marks_forgotten on =
      by_tag (λ t. IsMarkedAs (entry_at new.ledger.link.unsettled t) (entry_at (without_entry kept s.tag) t) (frames_of t new.wire)) s.tag
      (marked_as refl (sym (removed_here kept s.tag is_kept)) refl (λ _. tt))
      (λ other n. marked_as
      (ap (λ m. entry_at m other) (sym own))
      (sym (removed_there kept s.tag other is_kept n))
      (ap (frames_of other) wire ∙ frames_other other s new.wire n)
      (marks (sym phase ∙ on) other))

-- the frames of a delivery that is not pending are added
module _ (old new : World) (kept : Entries Kept) (marks : AreMarked old kept) (tag : Tag) (frames : List LinkFrame)
    (phase : is_together new.phase ≡ is_together old.phase)
    (own : new.ledger.link.unsettled ≡ old.ledger.link.unsettled)
    (free : entry_at old.ledger.link.unsettled tag ≡ None)
    (wire : new.wire ≡ old.wire ++ under tag frames) where
  pub marks_aborting : AreMarked new kept
  marks_aborting on =
      by_tag (λ t. IsMarkedAs (entry_at new.ledger.link.unsettled t) (entry_at kept t) (frames_of t new.wire)) tag
      (λ h. absurd (false_is_not_true (ap is_some (sym (ap (λ m. entry_at m tag) own ∙ free)) ∙ h)))
      (λ other n. marked_as
      (ap (λ m. entry_at m other) (sym own))
      refl
      (sym (ap (frames_of other) wire ∙ frames_sent_other other tag old.wire frames n))
      (marks (sym phase ∙ on) other))
