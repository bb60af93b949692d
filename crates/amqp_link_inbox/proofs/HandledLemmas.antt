-- A transfer that is handled, and why it is refused.
use Rattle.std.proofs.Common.{◌≡◌, ◌∙◌, ◌++◌, ap, refl, subst, sym, Bool, true, false, not, List, [], ◌∷◌, Option, Some, None, is_none, ℕ}
use Rattle.std.specs.Prelude.{◌&&◌, ◌==◌, Result, Ok, Err, IfOk, OnErr, if◌then◌else◌}
use Rattle.std.proofs.lemmas.Result.{IfOk-weaker}
use Rattle.std.specs.Option.{option_or}
use Rattle.amqp_link_types.specs.Entries.{Tag, Entries}
use Rattle.amqp_link_types.specs.declared.types.delivery_state.DeliveryState.{DeliveryState}
use Rattle.amqp_link_types.specs.Refusals.{refusal}
use Rattle.amqp_link_types.specs.declared.types.transfer.Transfer.{Transfer}
use Rattle.amqp_link_core.specs.declared.incomplete_transfer.refused.RefusedTransfer.{RefusedTransfer}
use Rattle.amqp_link_receiver.specs.ReceiverDeliveries.{session_record}
use Rattle.amqp_link_receiver.specs.Receivers.{Receiver}
use Rattle.amqp_link_inbox.specs.Inboxes.{Arrives, Handles, InboxState, IsHandled, inbox_with, is_new, store_of}
use Rattle.amqp_link_inbox.specs.Storing.{IsStated, Store}
use Rattle.amqp_link_inbox.specs.declared.arrival.Arrival.{Arrival}
use Rattle.amqp_link_inbox.specs.declared.arrival.Arrived.{Arrived}
use Rattle.amqp_link_inbox.specs.declared.kept.Kept.{Kept}
use Rattle.amqp_link_inbox.specs.declared.kept.Stage.{Stage}
use Rattle.amqp_link_inbox.proofs.StatedLemmas.{stated_handled}

-- ---- the first of two lists of tests that has one that holds

module _ {E : Type 0} where
  pub refused_first : (a b : List (Bool × E)) (e : E) → refusal a ≡ Some e → refusal (a ++ b) ≡ Some e
  refused_first [] b e h = absurd (cc)
  refused_first ((true, x) ∷ a) b e h = h
  refused_first ((false, x) ∷ a) b e h = refused_first a b e h

  pub refused_then : (a b : List (Bool × E)) → refusal a ≡ None → refusal (a ++ b) ≡ refusal b
  refused_then [] b h = refl
  refused_then ((true, x) ∷ a) b h = absurd (cc)
  refused_then ((false, x) ∷ a) b h = refused_then a b h

-- ---- a transfer

module _ {T : Type 0} (s : InboxState T) (t : Transfer) (bytes : List ℕ) (tag : Tag) (came : Arrival) (replaced : Option Stage) (store : Store) (link : Receiver T) where
  pub handled_first : s.under_way ≡ None → t.delivery_tag ≡ Some tag
      → Handles t.aborted (true && not t.resume) true tag t bytes (store_of s) s.link came replaced store link
      → IsHandled s t bytes came replaced (inbox_with store link (Some tag))
  handled_first none named h = record {
    tag = tag;
    tag_is = ap (λ o. option_or o t.delivery_tag) none ∙ named;
    handles = subst (λ b. Handles t.aborted (b && not t.resume) b tag t bytes (store_of s) s.link came replaced store link) (sym (ap is_none none)) h;
    under_way = refl;
  }

  pub handled_further : s.under_way ≡ Some tag
      → Handles t.aborted (false && not t.resume) false tag t bytes (store_of s) s.link came replaced store link
      → IsHandled s t bytes came replaced (inbox_with store link s.under_way)
  handled_further under_way h = record {
    tag = tag;
    tag_is = ap (λ o. option_or o t.delivery_tag) under_way;
    handles = subst (λ b. Handles t.aborted (b && not t.resume) b tag t bytes (store_of s) s.link came replaced store link) (sym (ap is_none under_way)) h;
    under_way = under_way;
  }

module _ {T : Type 0} (s : InboxState T) (t : Transfer) (bytes : List ℕ) (tag : Tag) (store : Store) (link : Receiver T)
    (r : Result (Arrival × Option Stage) RefusedTransfer)
    (done : IfOk r (λ made. Handles t.aborted (false && not t.resume) false tag t bytes (store_of s) s.link made.0 made.1 store link)) where
  pub handled_if_ok : s.under_way ≡ Some tag → IfOk r (λ made. IsHandled s t bytes made.0 made.1 (inbox_with store link s.under_way))
  handled_if_ok under_way = IfOk-weaker r (λ made. Handles t.aborted (false && not t.resume) false tag t bytes (store_of s) s.link made.0 made.1 store link)
      (λ made. IsHandled s t bytes made.0 made.1 (inbox_with store link s.under_way))
      (λ made h. handled_further s t bytes tag made.0 made.1 store link under_way h) done

  pub stated_if_ok : OnErr r ((store ≡ store_of s) × (link ≡ s.link)) → IsStated s.deliveries s.link.unsettled → IsStated store.entries link.unsettled
  stated_if_ok left is = by r done left
    where
      by : (r : Result (Arrival × Option Stage) RefusedTransfer)
          → IfOk r (λ made. Handles t.aborted (false && not t.resume) false tag t bytes (store_of s) s.link made.0 made.1 store link)
          → OnErr r ((store ≡ store_of s) × (link ≡ s.link)) → IsStated store.entries link.unsettled
      by (Ok made) h left = stated_handled (store_of s) s.link is tag t bytes t.aborted (false && not t.resume) false made.0 made.1 store link h
      by (Err e) h left =
          subst (λ (o : Store). IsStated o.entries link.unsettled) (sym left.0)
          (subst (λ (l : Receiver T). IsStated s.deliveries l.unsettled) (sym left.1) is)

-- what was handled, once the link notes whether more is to come
pub arrives : {T : Type 0} (old mid : InboxState T) (t : Transfer) (bytes : List ℕ) (came : Arrived) → IsHandled old t bytes came.arrival came.replaced mid
    → came.tag ≡ (if t.more then None else mid.under_way)
    → came.without_credit ≡ (not t.aborted && is_new old t && (old.link.flow_state.link_credit == 0))
    → came.session ≡ session_record old.link t
    → Arrives old t bytes came (record mid { link = record mid.link { more = t.more }; under_way = if t.more then mid.under_way else None })
arrives old mid t bytes came h last credit session = record {
  tag = h.tag;
  tag_is = h.tag_is;
  link = mid.link;
  handles = h.handles;
  link_is = refl;
  under_way = ap (λ o. if t.more then o else None) h.under_way;
  last = last ∙ ap (λ o. if t.more then None else o) h.under_way;
  credit = credit;
  session = session;
}

-- ---- dispositions

-- what is kept and stated after dispositions, and the rest as it was
pub disposed_is : {T : Type 0} (s : InboxState T) (store : Store) (link : Receiver T) (entries : Entries Kept) (unsettled : Entries (Option DeliveryState))
    → store.entries ≡ entries → store.settled ≡ s.settled → link ≡ record s.link { unsettled = unsettled }
    → inbox_with store link s.under_way ≡ record s { link = record s.link { unsettled = unsettled }; deliveries = entries }
disposed_is s store link entries unsettled kept waiting stated =
    λ i. record { link = stated i; deliveries = kept i; settled = waiting i; under_way = s.under_way }
