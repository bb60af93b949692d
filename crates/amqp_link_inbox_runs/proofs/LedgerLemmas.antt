-- What an inbox holds of a delivery that a ledger sends is a front of its payload.
use Rattle.std.proofs.Common.{◌≡◌, ◌∙◌, ◌++◌, ap, append_assoc, refl, subst, sym, Bool, true, false, List, [], ◌∷◌, Option, Some, None, ℕ}
use Rattle.std.specs.Prelude.{◌&&◌, ◌||◌, IfSome, flat_map, if◌then◌else◌, is_some, unwrap_or}
use Rattle.std.specs.List.{list_any}
use Rattle.std.proofs.lemmas.List.{append-nil}
use Rattle.amqp_link_payloads.specs.Position.{position}
use Rattle.amqp_link_types.specs.Entries.{Tag}
use Rattle.amqp_link_types.proofs.MapLemmas.{false_is_not_true}
use Rattle.amqp_link_core.specs.Resuming.{rest_from}
use Rattle.amqp_link_inbox.specs.Bytes.{bytes_at}
use Rattle.amqp_link_inbox.specs.Inboxes.{InboxState}
use Rattle.amqp_link_inbox.specs.Storing.{IsStated}
use Rattle.amqp_link_inbox_runs.specs.FromLedger.{AreAttachments, Comes, ComesBy, ComesWhole, ComesWholeBy, FollowOn, Opens, brought, does_start, lacking, since_begun}
use Rattle.amqp_link_inbox_runs.specs.InboxRuns.{IsRun, Moment, begins_by, brings, came, come_after, come_by, does_begin, held_at, payload_of, start_by}
use Rattle.amqp_link_inbox_runs.specs.InboxSteps.{Decoder}
use Rattle.amqp_link_inbox_runs.proofs.HeldLemmas.{Are, at_first, run_are}

-- the rest after a front is what follows it
abbrev pub RestFollows : Type 0
RestFollows = (front rest : List ℕ) → rest_from (front ++ rest) (position front).0 (position front).1 ≡ rest

-- what is held as a front, or nothing
held_opens : (payload : List ℕ) (held : Option (List ℕ)) → IfSome held (λ b. Opens b payload) → Opens (unwrap_or held []) payload
held_opens payload None h = (payload, refl)
held_opens payload (Some bytes) h = h

if_are : (P : List ℕ → Type 0) (bytes : List ℕ) (held : Option (List ℕ)) → Are bytes held → P bytes → IfSome held P
if_are P bytes None are p = tt
if_are P bytes (Some b) are p = subst P (sym are) p

-- ---- transfers that follow on

-- the bytes after a call, by whether it brings some of the delivery, and begins it
abbrev next_bytes : Bool → Bool → List ℕ → List ℕ → List ℕ
next_bytes brings begins payload held = if brings && begins then payload else held ++ (if brings then payload else [])

follows_on : (brings begins : Bool) (start : Option (ℕ × ℕ)) (bytes held : List ℕ) → (brings && is_some start) ≡ false
    → come_by brings begins start bytes held ≡ next_bytes brings begins bytes held
follows_on false begins start bytes held h = sym (append-nil held)
follows_on true true start bytes held h = refl
follows_on true false None bytes held h = refl
follows_on true false (Some start) bytes held h = absurd (false_is_not_true (sym h))

either : (b c : Bool) → (b || c) ≡ false → (b ≡ false) × (c ≡ false)
either true c h = absurd (false_is_not_true (sym h))
either false c h = (refl, h)

module _ {T B : Type 0} (tag : Tag) where
  all_since : (moments : List (Moment T B)) → list_any (does_begin tag) moments ≡ false → since_begun tag moments ≡ moments
  all_since [] none = refl
  all_since (m ∷ moments) none = by (does_begin tag m) (list_any (does_begin tag) moments) none
    where
      by : (d any : Bool) → (d || any) ≡ false → (if any then since_begun tag moments else m ∷ moments) ≡ m ∷ moments
      by true any h = absurd (false_is_not_true (sym h))
      by false true h = absurd (false_is_not_true (sym h))
      by false false h = refl

  -- what has come, as the bytes of the transfers since the delivery began
  abbrev Flat : List ℕ → List (Moment T B) → List ℕ
  Flat held moments = (if list_any (does_begin tag) moments then [] else held) ++ flat_map (brought tag) (since_begun tag moments)

  came_next : (m : Moment T B) (moments : List (Moment T B)) (held : List ℕ)
      → Flat (next_bytes (brings tag m) (begins_by m.before m.call) (payload_of m.call) held) moments ≡ Flat held (m ∷ moments)
  came_next m moments held =
      by (list_any (does_begin tag) moments) refl (brings tag m) (begins_by m.before m.call)
      ∙ ap (λ l. (if does_begin tag m || list_any (does_begin tag) moments then [] else held) ++ l) (sym (each (list_any (does_begin tag) moments)))
    where
      each : (any : Bool) → flat_map (brought tag) (if any then since_begun tag moments else m ∷ moments)
          ≡ (if any then flat_map (brought tag) (since_begun tag moments) else brought tag m ++ flat_map (brought tag) moments)
      each true = refl
      each false = refl

      by : (any : Bool) → list_any (does_begin tag) moments ≡ any → (b n : Bool)
          → (if any then [] else next_bytes b n (payload_of m.call) held) ++ flat_map (brought tag) (since_begun tag moments)
          ≡ (if (b && n) || any then [] else held)
          ++ (if any then flat_map (brought tag) (since_begun tag moments) else (if b then payload_of m.call else []) ++ flat_map (brought tag) moments)
      by true any true true = refl
      by true any true false = refl
      by true any false n = refl
      by false none true true = ap (λ l. payload_of m.call ++ flat_map (brought tag) l) (all_since moments none)
      by false none true false =
          ap (λ l. (held ++ payload_of m.call) ++ flat_map (brought tag) l) (all_since moments none)
          ∙ append_assoc held (payload_of m.call) (flat_map (brought tag) moments)
      by false none false n =
          ap (λ l. (held ++ []) ++ flat_map (brought tag) l) (all_since moments none)
          ∙ append_assoc held [] (flat_map (brought tag) moments)

  came_flat : (moments : List (Moment T B)) (held : List ℕ) → FollowOn tag moments → came held tag moments ≡ Flat held moments
  came_flat [] held on = sym (append-nil held)
  came_flat (m ∷ moments) held on =
      let each = either (does_start tag m) (list_any (does_start tag) moments) on in
      came_flat moments (come_after tag m held) each.1
      ∙ ap (λ b. Flat b moments) (follows_on (brings tag m) (begins_by m.before m.call) (start_by m.before m.call m.answer) (payload_of m.call) held each.0)
      ∙ came_next m moments held

-- ---- from a ledger

module _ {T B : Type 0} (follows : RestFollows) (tag : Tag) (payload : List ℕ) (decoded : Decoder B) where
  -- what is lacking follows what is held
  lacking_follows : (old : InboxState T) → Opens (held_at old tag) payload → held_at old tag ++ lacking tag payload old ≡ payload
  lacking_follows old opens =
      ap (λ p. held_at old tag ++ rest_from p (position (held_at old tag)).0 (position (held_at old tag)).1) (sym opens.1)
      ∙ ap (λ r. held_at old tag ++ r) (follows (held_at old tag) opens.0) ∙ opens.1

  now_opens : (old : InboxState T) (moments : List (Moment T B)) → Opens (held_at old tag) payload → Comes tag payload old moments
      → Opens (came (held_at old tag) tag moments) payload
  now_opens old moments opens comes =
      subst (λ l. Opens l payload) (sym (came_flat tag moments (held_at old tag) comes.0)) (by (list_any (does_begin tag) moments) refl comes.1)
    where
      by : (b : Bool) → list_any (does_begin tag) moments ≡ b → ComesBy tag payload b old moments
          → Opens ((if b then [] else held_at old tag) ++ flat_map (brought tag) (since_begun tag moments)) payload
      by true is comes = comes
      by false is comes = (
        comes.0,
        append_assoc (held_at old tag) (flat_map (brought tag) (since_begun tag moments)) comes.0
            ∙ ap (λ ms. held_at old tag ++ (flat_map (brought tag) ms ++ comes.0)) (all_since tag moments is)
            ∙ ap (λ r. held_at old tag ++ r) comes.1 ∙ lacking_follows old opens,
      )

  now_whole : (old : InboxState T) (moments : List (Moment T B)) → Opens (held_at old tag) payload → ComesWhole tag payload old moments
      → came (held_at old tag) tag moments ≡ payload
  now_whole old moments opens comes = came_flat tag moments (held_at old tag) comes.0 ∙ by (list_any (does_begin tag) moments) refl comes.1
    where
      by : (b : Bool) → list_any (does_begin tag) moments ≡ b → ComesWholeBy tag payload b old moments
          → (if b then [] else held_at old tag) ++ flat_map (brought tag) (since_begun tag moments) ≡ payload
      by true is comes = comes
      by false is comes =
          ap (λ ms. held_at old tag ++ flat_map (brought tag) ms) (all_since tag moments is)
          ∙ ap (λ r. held_at old tag ++ r) comes ∙ lacking_follows old opens

  after_run : (P : List ℕ → Type 0) (old new : InboxState T) (moments : List (Moment T B)) → IsStated old.deliveries old.link.unsettled → IsRun decoded old moments new
      → P (came (held_at old tag) tag moments) → IfSome (bytes_at new.deliveries tag) P
  after_run P old new moments is run p =
      if_are P (came (held_at old tag) tag moments) (bytes_at new.deliveries tag)
      (run_are decoded tag old new moments (held_at old tag) is run (at_first (bytes_at old.deliveries tag))) p

  pub whole_comes : (old new : InboxState T) (moments : List (Moment T B)) → IsStated old.deliveries old.link.unsettled
      → IfSome (bytes_at old.deliveries tag) (λ held. Opens held payload) → IsRun decoded old moments new → ComesWhole tag payload old moments
      → IfSome (bytes_at new.deliveries tag) (λ held. held ≡ payload)
  whole_comes old new moments is opens run comes =
      after_run (λ held. held ≡ payload) old new moments is run (now_whole old moments (held_opens payload (bytes_at old.deliveries tag) opens) comes)

  run_stated : (old new : InboxState T) (moments : List (Moment T B)) → IsStated old.deliveries old.link.unsettled → IsRun decoded old moments new
      → IsStated new.deliveries new.link.unsettled
  run_stated old new [] is run = subst (λ (w : InboxState T). IsStated w.deliveries w.link.unsettled) (sym run) is
  run_stated old new (m ∷ moments) is run = run_stated m.after new moments run.2 run.3

  pub fronts_come : (old new : InboxState T) (attachments : List (List (Moment T B))) → IsStated old.deliveries old.link.unsettled
      → IfSome (bytes_at old.deliveries tag) (λ held. Opens held payload) → AreAttachments tag payload decoded old attachments new
      → IfSome (bytes_at new.deliveries tag) (λ held. Opens held payload)
  fronts_come old new [] is opens are = subst (λ (w : InboxState T). IfSome (bytes_at w.deliveries tag) (λ held. Opens held payload)) (sym are) opens
  fronts_come old new (moments ∷ attachments) is opens are =
      let next : InboxState T = are.0 in
      fronts_come next new attachments (run_stated old next moments is are.1)
      (after_run (λ held. Opens held payload) old next moments is are.1 (now_opens old moments (held_opens payload (bytes_at old.deliveries tag) opens) are.2)) are.3
