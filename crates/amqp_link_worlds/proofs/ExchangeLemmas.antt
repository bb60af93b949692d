-- What an exchange of unsettled maps leaves to resume.
use Rattle.std.proofs.Common.{◌≡◌, ◌∙◌, sym, ap, subst, List, [], ◌∷◌, ◌++◌, refl, map, Option, Some, None, ℕ, ◌≤◌, drop, length, take, arith, length-append}
use Rattle.std.specs.Prelude.{option_map, is_none, is_some, unwrap_or}
use Rattle.std.specs.List.{AllByRecursion, filter_map, cons_option}
use Rattle.amqp_link_types.specs.Entries.{Tag, Entries, entry_at, IsMap}
use Rattle.amqp_link_endpoint.specs.Attaching.{States}
use Rattle.amqp_link_core.specs.Held.{Held, held_bytes}
use Rattle.amqp_link_core.specs.Resuming.{resolution, row, sender_report, receiver_report, nothing, rest_from}
use Rattle.amqp_link_payloads.specs.Position.{position, place}
use Rattle.amqp_link_payloads.proofs.FrontLemmas.{place_of_front}
use Rattle.amqp_link_types.specs.declared.delivery.UnsettledMessage.{UnsettledMessage}
use Rattle.amqp_link_types.specs.declared.types.delivery_state.DeliveryState.{DeliveryState}
use Rattle.amqp_link_core.specs.declared.resumption.Resolution.{Resolution}
use Rattle.amqp_link_core.specs.declared.resumption.Resolution.TheVariants.{Resuming, Outcome}
use Rattle.amqp_link_core.specs.declared.resumption.ResumingDelivery.{ResumingDelivery}
use Rattle.amqp_link_core.specs.declared.resumption.ResumingDelivery.TheVariants.{Abort, Resume}
use Rattle.amqp_link_ledger.specs.declared.fate.Fate.TheVariants.{HandedOut}
use Rattle.amqp_link_exchange.specs.Exchanges.{resolutions, to_resume, to_return, unknown_aborted, deliveries_to_resume, outcomes_returned}
use Rattle.amqp_link_worlds.specs.Resumptions.{entry_of, next_of, rest_of, resumes}
use Rattle.amqp_link_worlds.specs.Worlds.{IsFront, bytes_in, receiver_entry}
use Rattle.amqp_link_worlds.proofs.EntriesOf.{entry_at-map, entry_at-append, entry_at-passing, entry_at-failing, passing, IsMap-map, IsMap-append, IsMap-passing, take-front}
use Rattle.amqp_link_ledger.proofs.ListSteps.{some_is_none}
use Rattle.std.specs.Option.{option_or}

-- ---- the answer to one delivery

place_found : (payload bytes : List ℕ) → IsFront bytes payload → place payload (position bytes).0 (position bytes).1 ≡ Some (length bytes)
place_found payload bytes front =
    let is : take (length bytes) payload ≡ bytes = ap (take (length bytes)) (sym front.1) ∙ take-front bytes front.0 in
    let within : length bytes ≤ length payload = omega (arith, length-append bytes front.0, ap length front.1) in
    ap (λ b. place payload (position b).0 (position b).1) (sym is) ∙ place_of_front payload (length bytes) within

rest_found : (payload bytes : List ℕ) → IsFront bytes payload → rest_from payload (position bytes).0 (position bytes).1 ≡ drop (length bytes) payload
rest_found payload bytes front = ap (λ o. unwrap_or (option_map (λ i. drop i payload) o) payload) (place_found payload bytes front)

pub answer_is : (tag : Tag) (entry : UnsettledMessage) (h : Option Held) (remote : Option (Option DeliveryState)) → entry.state ≡ None → remote ≡ receiver_entry h
    → IsFront (bytes_in h) entry.payload → resolution tag entry remote ≡ Resuming (next_of entry h)
answer_is tag entry None remote own is front =
    ap (λ s. row tag entry (sender_report s) (receiver_report remote)) own ∙ ap (λ r. row tag entry nothing (receiver_report r)) is
answer_is tag entry (Some held) remote own is front =
    ap (λ s. row tag entry (sender_report s) (receiver_report remote)) own ∙ ap (λ r. row tag entry nothing (receiver_report r)) is
    ∙ ap (λ rest. Resuming (Resume entry rest)) (rest_found entry.payload (held_bytes held) front)

-- its parts
pub entry_goes_on : (entry : UnsettledMessage) (h : Option Held) → entry_of (next_of entry h) ≡ Some entry
entry_goes_on entry None = refl
entry_goes_on entry (Some held) = refl

pub rest_goes_on : (entry : UnsettledMessage) (h : Option Held) → rest_of (next_of entry h) ≡ Some (drop (length (bytes_in h)) entry.payload)
rest_goes_on entry None = refl
rest_goes_on entry (Some held) = refl

pub flag_goes_on : (entry : UnsettledMessage) (h : Option Held) → resumes (next_of entry h) ≡ is_some h
flag_goes_on entry None = refl
flag_goes_on entry (Some held) = refl

-- ---- the whole list

abbrev pub next_in : Resolution → ResumingDelivery
next_in (Resuming next) = next
next_in (Outcome outcome) = Abort 0 None

-- what it has of a tag, by both maps' entries
abbrev pub next_for : Tag → Option UnsettledMessage → Option (Option DeliveryState) → Option ResumingDelivery
next_for tag (Some entry) reported = Some (next_in (resolution tag entry reported))
next_for tag None reported = option_map (λ _. Abort 0 None) reported

abbrev pub IsResuming : Resolution → Type 0
IsResuming r = (next : ResumingDelivery) × (r ≡ Resuming next)

module _ (remote : States) where
  abbrev pub answer_to : Tag → UnsettledMessage → Resolution
  answer_to tag entry = resolution tag entry (entry_at remote tag)

  abbrev AllGoOn : Entries UnsettledMessage → Type 0
  AllGoOn own = AllByRecursion (λ e. IsResuming (answer_to e.0 e.1)) own

  all_resumed : (own : Entries UnsettledMessage) → AllGoOn own → filter_map to_resume (resolutions own remote) ≡ map (λ e. (e.0, next_in (answer_to e.0 e.1))) own
  all_resumed [] h = refl
  all_resumed (e ∷ own) h =
      ap (λ r. cons_option (to_resume (e.0, r)) (filter_map to_resume (resolutions own remote))) h.0.1
      ∙ ap (λ r. (e.0, next_in r) ∷ filter_map to_resume (resolutions own remote)) (sym h.0.1)
      ∙ ap (λ l. (e.0, next_in (answer_to e.0 e.1)) ∷ l) (all_resumed own h.1)

  none_returned : (own : Entries UnsettledMessage) → AllGoOn own → outcomes_returned own remote ≡ []
  none_returned [] h = refl
  none_returned (e ∷ own) h =
      ap (λ r. cons_option (to_return (e.0, r)) (filter_map to_return (resolutions own remote))) h.0.1 ∙ none_returned own h.1

  -- where all go on
  module _ (own : Entries UnsettledMessage) (all : AllGoOn own) where
    abbrev answers : Entries ResumingDelivery
    answers = map (λ e. (e.0, next_in (answer_to e.0 e.1))) own

    -- what the receiver alone names is aborted
    pub list_is : deliveries_to_resume own remote ≡ map (λ e. (e.0, next_in (answer_to e.0 e.1))) own ++ unknown_aborted own remote
    list_is = ap (λ l. l ++ unknown_aborted own remote) (all_resumed own all)

    pub outcomes_are : outcomes_returned own remote ≡ []
    outcomes_are = none_returned own all

    -- a tag that only the receiver names
    aborted_at : (tag : Tag) → entry_at (unknown_aborted own remote) tag ≡ option_map (λ _. Abort 0 None) (entry_at (passing (λ t. is_none (entry_at own t)) remote) tag)
    aborted_at tag = entry_at-map (λ _ _. Abort 0 None) (passing (λ t. is_none (entry_at own t)) remote) tag

    either_list : (tag : Tag) (o : Option UnsettledMessage) → entry_at own tag ≡ o
        → option_or (option_map (λ entry. next_in (answer_to tag entry)) o) (entry_at (unknown_aborted own remote) tag) ≡ next_for tag o (entry_at remote tag)
    either_list tag (Some entry) is = refl
    either_list tag None is = aborted_at tag ∙ ap (option_map (λ _. Abort 0 None)) (entry_at-passing (λ t. is_none (entry_at own t)) remote tag (ap is_none is))

    pub listed_at : (tag : Tag) → entry_at (deliveries_to_resume own remote) tag ≡ next_for tag (entry_at own tag) (entry_at remote tag)
    listed_at tag =
        ap (λ (l : Entries ResumingDelivery). entry_at l tag) list_is
        ∙ entry_at-append answers (unknown_aborted own remote) tag
        ∙ ap (λ o. option_or o (entry_at (unknown_aborted own remote) tag)) (entry_at-map (λ t entry. next_in (answer_to t entry)) own tag)
        ∙ either_list tag (entry_at own tag) refl

    not_answered : (tag : Tag) (next : ResumingDelivery) (o : Option UnsettledMessage) → entry_at own tag ≡ o → entry_at (unknown_aborted own remote) tag ≡ Some next
        → option_map (λ entry. next_in (answer_to tag entry)) o ≡ None
    not_answered tag next None is found = refl
    not_answered tag next (Some entry) is found =
        absurd (some_is_none (sym found ∙ aborted_at tag ∙ ap (option_map (λ _. Abort 0 None)) (entry_at-failing (λ t. is_none (entry_at own t)) remote tag (ap is_none is))))

    pub IsMap-listed : IsMap own → IsMap remote → IsMap (deliveries_to_resume own remote)
    IsMap-listed is theirs =
        subst IsMap (sym list_is)
        (IsMap-append answers (unknown_aborted own remote) (IsMap-map (λ t entry. next_in (answer_to t entry)) own is)
        (IsMap-map (λ _ _. Abort 0 None) (passing (λ t. is_none (entry_at own t)) remote) (IsMap-passing (λ t. is_none (entry_at own t)) remote theirs))
        (λ tag next found. entry_at-map (λ t entry. next_in (answer_to t entry)) own tag ∙ not_answered tag next (entry_at own tag) refl found))

-- all of a list are handed out
pub given_at : (list : Entries ResumingDelivery) (tag : Tag) → entry_at (map (λ d. (d.0, HandedOut)) list) tag ≡ option_map (λ _. HandedOut) (entry_at list tag)
given_at list tag = entry_at-map (λ _ _. HandedOut) list tag
