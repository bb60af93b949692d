-- What the contract of each call says is a step.
use Rattle.std.proofs.Common.{◌≡◌, ◌⊎◌, ◌∙◌, ap, refl, subst, sym, Bool, true, false, List, [], ◌∷◌, Option, Some, None, Result, Ok, Err}
use Rattle.std.specs.Prelude.{IfErr, IfOk, IsOk, MatchOption, MatchResult, OnErr, OnOk, if◌then◌else◌}
use Rattle.std.specs.List.{filter}
use Rattle.amqp_link_types.specs.Deliveries.{Info}
use Rattle.amqp_link_types.specs.Entries.{Tag, without_entries}
use Rattle.amqp_link_types.specs.declared.types.attach.Attach.{Attach}
use Rattle.amqp_link_types.specs.declared.types.delivery_state.DeliveryState.{DeliveryState}
use Rattle.amqp_link_types.specs.declared.types.errors.ReceiverAttachError.{ReceiverAttachError}
use Rattle.amqp_link_types.proofs.MapLemmas.{false_is_not_true}
use Rattle.amqp_link_dispositions.specs.Keeping.{after_dispositions, tags_of}
use Rattle.amqp_link_dispositions.specs.Listed.{kept_in_order}
use Rattle.amqp_link_endpoint.specs.AttachTests.{left_after}
use Rattle.amqp_link_receiver.specs.ReceiverAttaches.{receiver_came, receiver_left, receiver_sourced}
use Rattle.amqp_link_receiver.specs.Receivers.{Receiver}
use Rattle.amqp_link_inbox.specs.InboxAttaches.{attached_by, forgotten_by, forgotten_tags, leaves_all, refused_by, without_ids}
use Rattle.amqp_link_inbox.specs.Disposing.{AnswersOutcome, infos_to_dispose}
use Rattle.amqp_link_inbox.specs.Inboxes.{InboxState, store_of}
use Rattle.amqp_link_inbox.specs.declared.error.DisposeError.{DisposeError}
use Rattle.amqp_link_inbox.specs.declared.error.DisposeError.TheVariants.{OutOfMemory}
use Rattle.amqp_link_inbox_runs.specs.InboxSteps.{DisposesAll, Forgets, Has, KeepsAll, keeping}

-- either way of a result, from what its clauses say
pub two_ways : {A E P : Type 0} {P' : Type 0} {Q Q' : E → Type 0} (r : Result A E) → OnOk r P → IfErr r Q → (P → P') → ((e : E) → Q e → Q' e)
    → MatchResult r (λ _. P') Q'
two_ways (Ok a) done left ok err = ok done
two_ways (Err e) done left ok err = err e left

module _ {T : Type 0} {new : InboxState T} where
  pub is_as : (w : InboxState T) → new ≡ w → Has (store_of w) w.link.unsettled new
  is_as w is = record { store = ap store_of is; unsettled = ap (λ (s : InboxState T). s.link.unsettled) is }

  module _ (old : InboxState T) where
    -- a call that changes neither what is kept nor what is stated
    pub keeps_either_way : {A E : Type 0} (r : Result A E) (w : InboxState T) → store_of w ≡ store_of old → w.link.unsettled ≡ old.link.unsettled
        → OnOk r (new ≡ w) → OnErr r (new ≡ old) → KeepsAll old new
    keeps_either_way (Ok a) w store unsettled done left =
        record { store = ap store_of done ∙ store; unsettled = ap (λ (s : InboxState T). s.link.unsettled) done ∙ unsettled }
    keeps_either_way (Err e) w store unsettled done left = is_as old left

    pub keeps_if_moved : {S : Type 0} (o : Option S) (f : S → InboxState T) → ((s : S) → store_of (f s) ≡ store_of old)
        → ((s : S) → (f s).link.unsettled ≡ old.link.unsettled) → MatchOption o (new ≡ old) (λ s. new ≡ f s) → KeepsAll old new
    keeps_if_moved None f store unsettled h = is_as old h
    keeps_if_moved (Some s) f store unsettled h =
        record { store = ap store_of h ∙ store s; unsettled = ap (λ (s : InboxState T). s.link.unsettled) h ∙ unsettled s }

    -- an attach is refused
    refused_has : (b : Bool) (link : Receiver T) → link.unsettled ≡ old.link.unsettled
        → new ≡ (if b then record old { link = link } else record old { link = link; deliveries = without_ids old.deliveries; under_way = None })
        → Has (keeping (if b then old.deliveries else without_ids old.deliveries) old) old.link.unsettled new
    refused_has true link same is = record { store = ap store_of is; unsettled = ap (λ (s : InboxState T). s.link.unsettled) is ∙ same }
    refused_has false link same is = record { store = ap store_of is; unsettled = ap (λ (s : InboxState T). s.link.unsettled) is ∙ same }

-- a refused attach leaves what is stated
left_states : {T : Type 0} (admitted : _) (refused : _) (error : ReceiverAttachError) (r : Receiver T) (attach : Attach)
    → (receiver_left admitted refused error r attach).unsettled ≡ r.unsettled
left_states {T} admitted refused error r attach = by _ _ _ _
  where
    by : (memory : Bool) (a b c : Option ReceiverAttachError)
        → (left_after memory r ((a, r) ∷ (b, receiver_came r attach) ∷ (c, receiver_sourced r attach) ∷ [])).unsettled ≡ r.unsettled
    by true a b c = refl
    by false (Some e) b c = refl
    by false None (Some e) c = refl
    by false None None (Some e) = refl
    by false None None None = refl

-- an attach is taken, or refused
pub takes_attach : {A T : Type 0} (old new : InboxState T) (admitted : _) (refused : _) (attach : Attach) (r : Result A ReceiverAttachError)
    → OnOk r (new ≡ attached_by attach old) → IfErr r (λ error. new ≡ refused_by error (receiver_left admitted refused error old.link attach) old)
    → MatchResult r (λ _. Forgets (forgotten_tags (forgotten_by attach old.deliveries)) old new)
    (λ error. Has (keeping (if leaves_all error then old.deliveries else without_ids old.deliveries) old) old.link.unsettled new)
takes_attach old new admitted refused attach (Ok a) done left = is_as _ done
takes_attach old new admitted refused attach (Err error) done left =
    refused_has old (leaves_all error) (receiver_left admitted refused error old.link attach) (left_states admitted refused error old.link attach) left

-- a delivery is disposed of
pub disposes : {A I : Type 0} {P P' : I → Type 0} {Q Q' : Type 0} (r : Result A DisposeError) (asked : Result I DisposeError) → AnswersOutcome asked r
    → OnOk r (IfOk asked P) → OnErr r Q → ((info : I) → P info → P' info) → (Q → Q')
    → MatchResult r (λ _. (info : I) × (asked ≡ Ok info) × P' info) (λ _. Q')
disposes {P = P} (Ok a) asked answers done left ok err = (answers.0, answers.1, ok answers.0 (subst (λ a. IfOk a P) answers.1 done))
disposes (Err e) asked answers done left ok err = err left

-- several are
pub disposes_all : {A T : Type 0} (old new : InboxState T) (ts tags : List Tag) (is_settled : Info → Bool) (state : DeliveryState)
    (r : Result A DisposeError) → ts ≡ tags → MatchResult r (λ _. IsOk (infos_to_dispose old.link.local_state old.deliveries ts))
    (λ refusal. (refusal ≡ OutOfMemory) ⊎ (infos_to_dispose old.link.local_state old.deliveries ts ≡ Err refusal))
    → OnOk r (IfOk (infos_to_dispose old.link.local_state old.deliveries ts) (λ infos. new ≡ record old {
      link = record old.link { unsettled = after_dispositions is_settled state (kept_in_order old.link.unsettled infos) old.link.unsettled };
      deliveries = without_entries old.deliveries (tags_of (filter is_settled infos));
    })) → OnErr r (new ≡ old)
    → MatchResult r (λ _. (infos : List Info) × (infos_to_dispose old.link.local_state old.deliveries tags ≡ Ok infos) × DisposesAll is_settled state infos old new)
    (λ _. KeepsAll old new)
disposes_all old new ts tags is_settled state (Ok a) same answers done left = by (infos_to_dispose old.link.local_state old.deliveries ts) refl answers done
  where
    by : (asked : Result (List Info) DisposeError) → infos_to_dispose old.link.local_state old.deliveries ts ≡ asked → IsOk asked
        → IfOk asked (λ infos. new ≡ record old {
          link = record old.link { unsettled = after_dispositions is_settled state (kept_in_order old.link.unsettled infos) old.link.unsettled };
          deliveries = without_entries old.deliveries (tags_of (filter is_settled infos));
        })
        → (infos : List Info) × (infos_to_dispose old.link.local_state old.deliveries tags ≡ Ok infos) × DisposesAll is_settled state infos old new
    by (Ok infos) is ok done = (infos, ap (infos_to_dispose old.link.local_state old.deliveries) (sym same) ∙ is, is_as _ done)
    by (Err e) is ok done = absurd (false_is_not_true ok)
disposes_all old new ts tags is_settled state (Err e) same answers done left = is_as old left

-- an outcome is kept
pub keeps_outcome : {P P' Q Q' : Type 0} (r : Result (Unit {0}) DisposeError) (o : Option DisposeError) → MatchOption o (r ≡ Ok tt) (λ e. r ≡ Err e)
    → OnOk r P → OnErr r Q → (P → P') → (Q → Q') → MatchResult r (λ _. (o ≡ None) × P') (λ _. Q')
keeps_outcome (Ok a) None answers done left ok err = (refl, ok done)
keeps_outcome (Ok a) (Some e) answers done left ok err = cc
keeps_outcome (Err e) o answers done left ok err = err left
