-- The next delivery to resume is sent, and a new one.
use Rattle.std.proofs.Common.{◌≡◌, ◌∙◌, sym, ap, subst, refl, ℕ, Bool, true, false, not, ◌||◌, cond, List, [], ◌∷◌, ◌++◌, length, None, Some, Option, inl, inr}
use Rattle.std.specs.Prelude.{if◌then◌else◌, is_some, is_none, IfSome, IsSome}
use Rattle.amqp_link_types.specs.Entries.{Tag, Entries, entry_at, with_entry}
use Rattle.amqp_link_types.specs.Refusals.{refusal}
use Rattle.amqp_link_types.specs.declared.delivery.UnsettledMessage.{UnsettledMessage}
use Rattle.amqp_link_types.specs.declared.frame.LinkFrame.{LinkFrame}
use Rattle.amqp_link_types.specs.declared.types.terminus.Target.{Target}
use Rattle.amqp_link_types.proofs.MapLemmas.{false_is_not_true}
use Rattle.amqp_link_core.specs.declared.resumption.ResumingDelivery.{ResumingDelivery}
use Rattle.amqp_link_core.specs.declared.resumption.ResumingDelivery.TheVariants.{Abort, Resend, RestateOutcome, Resume}
use Rattle.amqp_link_split.specs.Room.{payload_limit}
use Rattle.amqp_link_split.specs.Split.{IsFewestPieces}
use Rattle.amqp_link_sender.specs.Senders.{IsSent, new_entry, next_tag, unsettled_transfer_tests}
use Rattle.amqp_link_ledger.specs.Ledgers.{Ledger}
use Rattle.amqp_link_ledger.proofs.ListSteps.{some_is}
use Rattle.amqp_link_worlds.specs.Invariants.{IsWorld}
use Rattle.amqp_link_worlds.specs.Resumptions.{entry_of, is_abort, rest_of, resumes}
use Rattle.amqp_link_worlds.specs.Steps.{Resumes, Sends, after_one_credit, after_registration, delivery_transfer, next_tests, send_tests}
use Rattle.amqp_link_worlds.specs.Wires.{OnWire, under}
use Rattle.amqp_link_worlds.specs.Worlds.{World, held_at, is_together}
use Rattle.amqp_link_worlds.specs.declared.error.PairError.{PairError}
use Rattle.amqp_link_worlds.specs.declared.error.PairError.TheVariants as error
use Rattle.amqp_link_worlds.specs.declared.progress.Progress.{Progress}
use Rattle.amqp_link_worlds.proofs.CallLemmas.{can_resume, entry_or_abort}
use Rattle.amqp_link_worlds.proofs.WorldLemmas.{none_hold, not_is_false, nothing_in, nothing_listed, tag_is_taken}
use Rattle.amqp_link_worlds.specs.Before.{before_tag}
use Rattle.amqp_link_pair.specs.Keeping.{just_sent, marked, progress_of}
use Rattle.amqp_link_pair.specs.Queues.{IsMadeOf, first_element}
use Rattle.amqp_link_pair.specs.declared.deliveries.Kept.{Kept}
use Rattle.amqp_link_pair.specs.declared.ends.Ends.{Ends}
use Rattle.amqp_link_pair.specs.declared.sending.Resumption.{Resumption}
use Rattle.amqp_link_pair.proofs.ProgressLemmas.{progress_at, progress_in, progress_of-put}
use Rattle.amqp_link_pair.proofs.StepLemmas.{noted, registered_ends, with_parts}

-- ---- a delivery is resumed

module _ (w : World) (tag : Tag) (next : ResumingDelivery) (others : Entries ResumingDelivery) (entry : UnsettledMessage) (world : IsWorld w) (on : is_together w.phase ≡ true) (listed : w.resuming ≡ (tag, next) ∷ others) (has : entry_of next ≡ Some entry) where
  -- it has a rest
  pub rest_there : IsSome (rest_of next)
  rest_there = let can = can_resume w tag next others entry world on listed has in ap is_some can.sends

  -- no test of the sender refuses it
  pub may_resume : (made : Resumption) → IsMadeOf made tag next → refusal (unsettled_transfer_tests w.ledger.link made.transfer made.tag made.rest) ≡ None
  may_resume made is =
      let can = can_resume w tag next others entry world on listed has in
      let rest : can.rest ≡ made.rest = some_is (sym can.sends ∙ is.rest) in
      (λ i. refusal (unsettled_transfer_tests w.ledger.link (is.transfer i) (is.tag_is i) (sym rest i))) ∙ can.allowed

pub resumes_next : (w : World) (ends : Ends) (ledger : Ledger Target) (kept left : Entries Kept) (tag : Tag) (next : ResumingDelivery) (others : Entries ResumingDelivery) (entry : UnsettledMessage) (p : Progress)
    (made : Resumption) (frames : List LinkFrame) (resume : Bool) (wire : List OnWire)
    → w.resuming ≡ (tag, next) ∷ others → entry_of next ≡ Some entry → entry_at (progress_of kept) tag ≡ Some p → IsMadeOf made tag next → resume ≡ resumes next
    → IsSent ends.ledger.link made.transfer made.rest frames
    → IsFewestPieces made.rest (payload_limit made.transfer ends.ledger.link.max_frame_size) (length frames)
    → ledger ≡ after_registration ends.ledger tag entry
    → ((k : Kept) → entry_at kept tag ≡ Some k → left ≡ with_entry kept tag (marked false k))
    → wire ≡ w.wire ++ under tag frames
    → Resumes (with_parts w ends kept) tag (length frames) resume (record (with_parts w (registered_ends ledger ends) left) { resuming = others; wire = wire })
resumes_next w ends ledger kept left tag next others entry p made frames resume wire listed is known of flagged framed fewest l marks on_wire =
    let transfer : made.transfer ≡ delivery_transfer tag resume = of.transfer ∙ ap (delivery_transfer tag) (sym flagged) in
    record {
      next = next;
      others = others;
      entry = entry;
      rest = made.rest;
      frames = frames;
      before = p;
      listed = listed;
      kept = is;
      sends = of.rest;
      flagged = flagged;
      framed = subst (λ t. IsSent ends.ledger.link t made.rest frames) transfer framed;
      fewest = subst (λ t. IsFewestPieces made.rest (payload_limit t ends.ledger.link.max_frame_size) (length frames)) transfer fewest;
      counted = refl;
      known = known;
      world = (λ i. record (with_parts w (registered_ends (l i) ends) kept) { deliveries = noted kept left tag p false known marks i; resuming = others; wire = on_wire i });
    }

-- ---- the next of the list, by whether it is aborted

aborting_has_none : (next : ResumingDelivery) (entry : UnsettledMessage) → entry_of next ≡ Some entry → is_abort next ≡ false
aborting_has_none (Abort format tag) entry h = absurd (cc)
aborting_has_none (Resend e) entry h = refl
aborting_has_none (Resume e rest) entry h = refl
aborting_has_none (RestateOutcome format tag state settled) entry h = refl

-- the first of a list, by what holds of it
first_holds : (list others : Entries ResumingDelivery) (tag : Tag) (next : ResumingDelivery) (b : Bool) → list ≡ (tag, next) ∷ others
    → IfSome (first_element list) (λ n. is_abort n.1 ≡ b) → is_abort next ≡ b
first_holds list others tag next b is h = subst (λ (l : Entries ResumingDelivery). IfSome (first_element l) (λ n. is_abort n.1 ≡ b)) is h

pub it_has_entry : (w : World) (tag : Tag) (next : ResumingDelivery) (others : Entries ResumingDelivery) → IsWorld w → w.resuming ≡ (tag, next) ∷ others
    → IfSome (first_element w.resuming) (λ n. is_abort n.1 ≡ false) → (entry : UnsettledMessage) × (entry_of next ≡ Some entry)
it_has_entry w tag next others world listed h =
    elim (entry_or_abort w tag next others world listed) as (λ _. (entry : UnsettledMessage) × (entry_of next ≡ Some entry)) [
      | inl e ↦ e
      | inr is ↦ absurd (false_is_not_true (sym (first_holds w.resuming others tag next false listed h) ∙ ap is_abort is))
    ]

pub it_is_abort : (w : World) (tag : Tag) (next : ResumingDelivery) (others : Entries ResumingDelivery) → IsWorld w → w.resuming ≡ (tag, next) ∷ others
    → IfSome (first_element w.resuming) (λ n. is_abort n.1 ≡ true) → next ≡ Abort 0 None
it_is_abort w tag next others world listed h =
    elim (entry_or_abort w tag next others world listed) as (λ _. next ≡ Abort 0 None) [
      | inl e ↦ absurd (false_is_not_true (sym (aborting_has_none next e.0 e.1) ∙ first_holds w.resuming others tag next true listed h))
      | inr is ↦ is
    ]

-- the next of the list is to be aborted
pub aborts_next_of : (w : World) (tag : Tag) (next : ResumingDelivery) (others : Entries ResumingDelivery) → IsWorld w → w.resuming ≡ (tag, next) ∷ others
    → IfSome (first_element w.resuming) (λ n. is_abort n.1 ≡ true) → w.resuming ≡ (tag, Abort 0 None) ∷ others
aborts_next_of w tag next others world listed h =
    listed ∙ ap (λ (n : ResumingDelivery). cons (tag, n) others) (it_is_abort w tag next others world listed h)
  where
    cons : (Tag × ResumingDelivery) → Entries ResumingDelivery → Entries ResumingDelivery
    cons x xs = x ∷ xs

-- what the caller has tested of the pair's world, it has of what the pair is made of
pub together_by : (w v : World) → w ≡ v → refusal (next_tests v) ≡ None → is_together w.phase ≡ true
together_by w v is may = ap (λ (w : World). is_together w.phase) is ∙ not_is_false (is_together v.phase) (none_hold (next_tests v) may).0

pub next_by : (w v : World) (b : Bool) → w ≡ v → IfSome (first_element v.resuming) (λ n. is_abort n.1 ≡ b) → IfSome (first_element w.resuming) (λ n. is_abort n.1 ≡ b)
next_by w v b is h = subst (λ (w : World). IfSome (first_element w.resuming) (λ n. is_abort n.1 ≡ b)) (sym is) h

-- ---- a delivery is sent

kept_as : (o : Option Kept) → is_some (progress_in o) ≡ is_some o
kept_as None = refl
kept_as (Some k) = refl

-- a delivery is kept of the tags of which the world has one
pub some_kept : (kept : Entries Kept) (tag : Tag) → is_some (entry_at (progress_of kept) tag) ≡ is_some (entry_at kept tag)
some_kept kept tag = ap is_some (progress_at kept tag) ∙ kept_as (entry_at kept tag)

pub pending_if : (b : Bool) → b ≡ true → error.TagPending ≡ (if b then error.TagPending else error.OutOfMemory)
pending_if b h = rw (h) refl

pub memory_if : (b : Bool) → b ≡ false → error.OutOfMemory ≡ (if b then error.TagPending else error.OutOfMemory)
memory_if b h = rw (h) refl

-- of a tag that is not to be resumed something is kept exactly if it is registered, or the receiver holds something of it
pub taken_where_kept : (w : World) (kept : Entries Kept) (tag : Tag) → IsWorld w → w.deliveries ≡ progress_of kept → w.resuming ≡ []
    → is_some (entry_at kept tag) ≡ (is_some (entry_at w.ledger.link.unsettled tag) || is_some (held_at w tag))
taken_where_kept w kept tag world is none =
    sym (kept_as (entry_at kept tag)) ∙ ap is_some (sym (progress_at kept tag)) ∙ ap (λ m. is_some (entry_at m tag)) (sym is)
    ∙ tag_is_taken w tag world (nothing_listed w.resuming tag none)

is_none_by : {A : Type 0} (o : Option A) → is_none o ≡ not (is_some o)
is_none_by None = refl
is_none_by (Some a) = refl

not_true : (b : Bool) → not b ≡ true → b ≡ false
not_true true h = sym h
not_true false h = refl

not_false : (b : Bool) → not b ≡ false → b ≡ true
not_false true h = refl
not_false false h = sym h

first_false : (a b : Bool) → (a || b) ≡ false → a ≡ false
first_false true b h = h
first_false false b h = refl

pub none_registered : {A : Type 0} (o : Option A) → is_none o ≡ true → o ≡ None
none_registered None h = refl
none_registered (Some a) h = absurd (false_is_not_true h)

fifth : (a b c d e : Bool) (p q r s t : PairError) → a ≡ false → b ≡ false → c ≡ false → d ≡ false
    → refusal ((a, p) ∷ (b, q) ∷ (c, r) ∷ (d, s) ∷ (e, t) ∷ []) ≡ cond e (Some t) None
fifth a b c d e p q r s t ha hb hc hd =
    rw (ha, hb, hc, hd) (elim e as (λ e. refusal ((false, p) ∷ (false, q) ∷ (false, r) ∷ (false, s) ∷ (e, t) ∷ []) ≡ cond e (Some t) None) [ true ↦ refl | false ↦ refl ])

-- what is left to test once the tag is known
pub tag_tested : (w : World) (payload : List ℕ) → refusal (before_tag w payload) ≡ None
    → refusal (send_tests w payload) ≡ cond (is_some (entry_at w.ledger.link.unsettled (next_tag w.ledger.link)) || is_some (held_at w (next_tag w.ledger.link))) (Some error.TagPending) None
tag_tested w payload may =
    let tests = none_hold (before_tag w payload) may in
    fifth _ _ _ _ _ _ _ _ _ _ tests.0 tests.1.0 tests.1.1.0 tests.1.1.1.0

pub none_resuming : (w : World) (payload : List ℕ) → refusal (before_tag w payload) ≡ None → w.resuming ≡ []
none_resuming w payload may = let tests = none_hold (before_tag w payload) may in nothing_in w.resuming tests.1.0

module _ (w : World) (kept : Entries Kept) (payload tag : List ℕ) (world : IsWorld w) (is : w.deliveries ≡ progress_of kept) (may : refusal (before_tag w payload) ≡ None) (tagged : tag ≡ next_tag w.ledger.link) where
  taken : Bool
  taken = is_some (entry_at w.ledger.link.unsettled tag) || is_some (held_at w tag)

  same : is_none (entry_at kept tag) ≡ not taken
  unfolding taken
  same = is_none_by (entry_at kept tag) ∙ ap not (taken_where_kept w kept tag world is (none_resuming w payload may))

  last : (b : Bool) → taken ≡ b → refusal (send_tests w payload) ≡ cond b (Some error.TagPending) None
  unfolding taken
  last b h =
      tag_tested w payload may
      ∙ ap (λ b. cond b (Some error.TagPending) None) (ap (λ t. is_some (entry_at w.ledger.link.unsettled t) || is_some (held_at w t)) (sym tagged) ∙ h)

  pub pending : is_none (entry_at kept tag) ≡ false → refusal (send_tests w payload) ≡ Some error.TagPending
  pending h = last true (not_false taken (sym same ∙ h))

  none_taken : is_none (entry_at kept tag) ≡ true → taken ≡ false
  none_taken h = not_true taken (sym same ∙ h)

  pub free : is_none (entry_at kept tag) ≡ true → entry_at w.ledger.link.unsettled tag ≡ None
  unfolding taken
  free h =
      none_registered (entry_at w.ledger.link.unsettled tag)
      (is_none_by (entry_at w.ledger.link.unsettled tag) ∙ ap not (first_false (is_some (entry_at w.ledger.link.unsettled tag)) (is_some (held_at w tag)) (none_taken h)))

  pub may_send : is_none (entry_at kept tag) ≡ true → refusal (send_tests w payload) ≡ None
  may_send h = last false (none_taken h)

pub sends : (w : World) (ends : Ends) (ledger : Ledger Target) (kept new : Entries Kept) (payload tag : List ℕ) (frames : List LinkFrame) (wire : List OnWire)
    → tag ≡ next_tag ends.ledger.link
    → IsSent ends.ledger.link (delivery_transfer tag false) payload frames
    → IsFewestPieces payload (payload_limit (delivery_transfer tag false) ends.ledger.link.max_frame_size) (length frames)
    → ledger ≡ after_registration (after_one_credit ends.ledger) tag (new_entry 0 payload)
    → new ≡ with_entry kept tag just_sent
    → wire ≡ w.wire ++ under tag frames
    → Sends (with_parts w ends kept) payload tag (length frames) (record (with_parts w (registered_ends ledger ends) new) { wire = wire })
sends w ends ledger kept new payload tag frames wire tagged framed fewest l k on_wire = record {
  frames = frames;
  tagged = tagged;
  framed = framed;
  fewest = fewest;
  counted = refl;
  world = (λ i. record (with_parts w (registered_ends (l i) ends) kept) { deliveries = (ap progress_of k ∙ progress_of-put kept tag just_sent) i; wire = on_wire i });
}
