-- What holds over whole runs.
use Rattle.std.proofs.Common.{◌≡◌, ◌≢◌, ◌∙◌, sym, ap, subst, Bool, true, false, cond, List, [], ◌∷◌, ◌++◌, refl, ℕ, map, not, inl, inr, Ok, Err, Result, append_assoc, ◌||◌, drop}
use Rattle.std.specs.Prelude.{Option, Some, None, option_and_then, flat_map}
use Rattle.std.specs.List.{list_any}
use Rattle.std.proofs.lemmas.List.{append-nil}
use Rattle.amqp_link_types.specs.Entries.{Tag, Entries, entry_at, with_entry}
use Rattle.amqp_link_types.specs.Frames.{payload_of}
use Rattle.amqp_link_types.specs.Refusals.{refusal}
use Rattle.amqp_link_core.specs.Held.{Held}
use Rattle.amqp_link_payloads.specs.declared.error.DecodeError.{DecodeError}
use Rattle.amqp_link_payloads.specs.declared.message.Message.{Message}
use Rattle.amqp_link_types.specs.declared.delivery.UnsettledMessage.{UnsettledMessage}
use Rattle.amqp_link_core.specs.declared.resumption.ResumingDelivery.{ResumingDelivery}
use Rattle.amqp_link_core.specs.declared.resumption.ResumingDelivery.TheVariants.{Abort}
use Rattle.amqp_link_types.proofs.MapLemmas.{false_is_not_true, same_tag, other_tag, entry_at-put, entry_at-put_other}
use Rattle.amqp_link_ledger.specs.Fates.{MovesOnce, Enters, HandsOut, Resolves, Withdraws, after, fates_of, latest, fate_given}
use Rattle.amqp_link_ledger.specs.declared.fate.Fate.TheVariants.{Resolved, Withdrawn}
use Rattle.amqp_link_ledger.proofs.CountLemmas.{fates_registered_other, fates_given, none_given}
use Rattle.amqp_link_ledger.proofs.ListSteps.{some_is}
use Rattle.amqp_link_ledger.proofs.MoveLemmas.{MovesOnce-refl, MovesOnce-trans, MovesOnce-after}
use Rattle.amqp_link_exchange.specs.Exchanges.{outcomes_returned}
use Rattle.amqp_link_worlds.specs.Resumptions.{entry_of}
use Rattle.std.specs.Option.{option_or}
use Rattle.amqp_link_sender.specs.Senders.{new_entry}
use Rattle.amqp_link_types.specs.declared.types.delivery_state.DeliveryState.TheVariants.{Accepted}
use Rattle.amqp_link_worlds.specs.PairRuns.{FatesMoveOnce, changes_held, is_send_of, is_arrival_of, tests_of, Does, IsLeft, IsRefused, Step, Moment, IsRun, first_payload, payload_arrived, does_send, since_send, arrived}
use Rattle.amqp_link_worlds.specs.declared.event.AnswerOf.{AnswerOf}
use Rattle.amqp_link_worlds.specs.declared.event.AnswerOf.TheVariants as answer
use Rattle.amqp_link_worlds.specs.declared.event.Event.{Event}
use Rattle.amqp_link_worlds.specs.declared.event.Event.TheVariants.{Attach, Grant, Send, Arrive, Cut, ResumeNext, PutBackNext, HandOut, Settle, Withdraw}
use Rattle.amqp_link_worlds.specs.Steps.{PutsBack, hand_out_tests, list_to_resume, after_hand_out, initial_progress, received}
use Rattle.amqp_link_worlds.specs.declared.error.PairError.{PairError}
use Rattle.amqp_link_worlds.specs.declared.error.PairError.TheVariants.{NotAttached, Decode, OutOfMemory}
use Rattle.amqp_link_worlds.specs.declared.progress.Progress.{Progress}
use Rattle.amqp_link_worlds.specs.Worlds.{World, IsOpen, held_at, bytes_in, is_together, standing, entry_in}
use Rattle.amqp_link_worlds.specs.Invariants.{IsWorld}
use Rattle.amqp_link_worlds.proofs.EntriesOf.{by_tag, entry_at-behind, removed_there}
use Rattle.amqp_link_worlds.proofs.DeliveryLemmas.{bytes_received, taken_out}
use Rattle.amqp_link_worlds.proofs.WorldLemmas.{IsWorld-attaches, IsWorld-stops, IsWorld-grants, IsWorld-sends, IsWorld-arrives, IsWorld-cuts, IsWorld-resumes, IsWorld-puts_back, IsWorld-hands_out, IsWorld-settles, IsWorld-withdraws, IsWorld-sends_abort, IsWorld-drops_abort, IsWorld-abort_arrives, closed_withdrawn, closed_aborted, tag_is_free, held_withdrawn, kept_there, out_of_list, none_hold, not_is_false, open_before_attach, open_arriving, open_listed, closed_settled, attach_keeps, listed_free, in_list, still_listed}

-- ---- each registration keeps its number, and a fate moves once

moves_by : (old new w : World) → new ≡ w → MovesOnce old.ledger.records w.ledger.records → MovesOnce old.ledger.records new.ledger.records
moves_by old new w is m = subst (λ (x : World). MovesOnce old.ledger.records x.ledger.records) (sym is) m

-- ---- what is held of a tag, and whether it is a delivery

abbrev pub IsOpenIn : World → Tag → Type 0
IsOpenIn w tag = IsOpen (latest (fates_of tag w.ledger.records))

abbrev pub bytes_at : World → Tag → List ℕ
bytes_at w tag = bytes_in (held_at w tag)

-- a step that keeps both
record Stays (tag : Tag) (old new : World) : Type 0 where
  pub held : held_at new tag ≡ held_at old tag
  pub was : IsOpenIn new tag → IsOpenIn old tag

Stays-same : (tag : Tag) (old new : World) → new ≡ old → Stays tag old new
Stays-same tag old new is = subst (Stays tag old) (sym is) (record { held = refl; was = λ o. o })

-- by the world that a step leaves
Stays-by : (tag : Tag) (old new w : World) → new ≡ w → held_at w tag ≡ held_at old tag → fates_of tag w.ledger.records ≡ fates_of tag old.ledger.records → Stays tag old new
Stays-by tag old new w is held fates = subst (Stays tag old) (sym is) (record { held = held; was = λ o. subst (λ f. IsOpen (latest f)) fates o })

abbrev held_of : Option Progress → Option Held
held_of q = option_and_then (λ p. p.held) q

-- ---- a delivery's entry, in the map or handed out

entries_by : {own own' : Option UnsettledMessage} {listed listed' : Option ResumingDelivery} → own ≡ own' → listed ≡ listed'
    → option_or own (option_and_then entry_of listed) ≡ option_or own' (option_and_then entry_of listed')
entries_by p q = λ i. option_or (p i) (option_and_then entry_of (q i))

registered_again : (old : World) (tag : Tag) (next : ResumingDelivery) (others : Entries ResumingDelivery) (entry : UnsettledMessage) → IsWorld old → old.resuming ≡ (tag, next) ∷ others → entry_of next ≡ Some entry
    → option_or (entry_at (with_entry old.ledger.link.unsettled tag entry) tag) (option_and_then entry_of (entry_at others tag)) ≡ entry_in (standing old tag)
registered_again old tag next others entry k listed kept =
    ap (λ o. option_or o (option_and_then entry_of (entry_at others tag))) (entry_at-put old.ledger.link.unsettled tag entry)
    ∙ sym kept ∙ sym (entries_by (listed_free old tag next others k listed) (in_list old tag next others k listed))

-- the fates of the tags that are not withdrawn
not_withdrawn : (old : World) (withdrawn other : Tag) → other ≢ withdrawn → fates_of other (after (Withdraws withdrawn) old.ledger.records) ≡ fates_of other old.ledger.records
not_withdrawn old withdrawn other n =
    fates_given other ((withdrawn, Withdrawn) ∷ []) old.ledger.records
    ∙ ap (λ o. map (fate_given o) (fates_of other old.ledger.records)) (entry_at-behind withdrawn other Withdrawn [] n) ∙ none_given (fates_of other old.ledger.records)

-- an abort leaves the list, and its tag has no entry before or after
abort_leaves : (old : World) (tag other : Tag) (others : Entries ResumingDelivery) → IsWorld old → old.resuming ≡ (tag, Abort 0 None) ∷ others
    → option_or (entry_at old.ledger.link.unsettled other) (option_and_then entry_of (entry_at others other)) ≡ entry_in (standing old other)
abort_leaves old tag other others k listed =
    by_tag (λ t. option_or (entry_at old.ledger.link.unsettled t) (option_and_then entry_of (entry_at others t)) ≡ entry_in (standing old t)) tag
    (ap (λ o. option_or (entry_at old.ledger.link.unsettled tag) (option_and_then entry_of o)) (out_of_list old tag (Abort 0 None) others k listed)
    ∙ sym (ap (λ o. option_or (entry_at old.ledger.link.unsettled tag) (option_and_then entry_of o)) (in_list old tag (Abort 0 None) others k listed)))
    (λ t n. entries_by refl (sym (still_listed old tag (Abort 0 None) others k listed t n)))
    other

handed_stays : (tag out : Tag) (old new : World) (p : Progress) → entry_at old.deliveries out ≡ Some p → new ≡ after_hand_out old out p → Stays tag old new
handed_stays tag out old new p known is =
    by_tag (λ t. Stays t old new) out
    (Stays-by out old new (after_hand_out old out p) is (ap held_of (entry_at-put old.deliveries out (taken_out p)) ∙ ap held_of (sym known)) refl)
    (λ other n. Stays-by other old new (after_hand_out old out p) is (ap held_of (entry_at-put_other old.deliveries out other (taken_out p) n)) refl)
    tag

module _ {B : Type 0} (decoded : List ℕ → Result (Message B) DecodeError) where
  -- ---- each step keeps what a pair keeps

  same_world : (old new : World) → IsWorld old → new ≡ old → IsWorld new
  same_world old new k is = subst IsWorld (sym is) k

  done : (old new : World) (e : Event) (answer : AnswerOf B) → IsWorld old → refusal (tests_of decoded old e) ≡ None → Does decoded old e answer new → IsWorld new
  done old new (Attach limit) (answer.Attached count) k may d = IsWorld-attaches old new limit count k may d
  done old new (Grant n) (answer.Granted credit) k may d = IsWorld-grants old new n credit k d
  done old new (Send payload) (answer.Sent tag count) k may d = IsWorld-sends old new payload tag count k may d
  done old new (Arrive id) (answer.Arrived tag section offset whole) k may d = IsWorld-arrives old new id tag (section, offset) whole k may d
  done old new (Arrive id) (answer.Aborted tag) k may d = IsWorld-abort_arrives old new tag k may d
  done old new Cut answer.Cut k may d = IsWorld-cuts old new k may d
  done old new ResumeNext (answer.Resumed tag count resume) k may d = IsWorld-resumes old new tag count resume k may d
  done old new ResumeNext (answer.Aborted tag) k may d = IsWorld-sends_abort old new tag k may d
  done old new PutBackNext (answer.PutBack tag) k may d = elim (d) [ inl entry ↦ IsWorld-puts_back old new tag k may entry | inr abort ↦ IsWorld-drops_abort old new tag k may abort ]
  done old new (HandOut tag) (answer.HandedOut delivery) k may d =
      IsWorld-hands_out old new tag d.before k (not_is_false (is_together old.phase) (none_hold (hand_out_tests decoded old tag) may).0) d.known d.world
  done old new (Settle tag) answer.Settled k may d = IsWorld-settles old new tag k may d
  done old new (Withdraw tag) answer.Withdrawn k may d = IsWorld-withdraws old new tag k may d
  done old new _ _ k may d = absurd d

  left : (old new : World) (e : Event) → IsWorld old → IsLeft decoded old e new → IsWorld new
  left old new (Attach limit) k l = elim (l) [ inl same ↦ same_world old new k same | inr stopped ↦ IsWorld-stops stopped.0 old new limit k stopped.1 ]
  left old new (Grant n) k l = absurd l
  left old new Cut k l = absurd l
  left old new (Withdraw tag) k l = absurd l
  left old new (Send payload) k l = same_world old new k l
  left old new (Arrive id) k l = same_world old new k l.1
  left old new ResumeNext k l = same_world old new k l
  left old new PutBackNext k l = same_world old new k l
  left old new (HandOut tag) k l = same_world old new k l
  left old new (Settle tag) k l = same_world old new k l

  not_attached : (b : Bool) (tests : List (Bool × PairError)) → refusal ((b, NotAttached) ∷ tests) ≡ Some Decode → b ≡ false
  not_attached true tests h = let wrong : NotAttached ≡ Decode = some_is h in absurd (not_decode wrong)
    where
      not_decode : NotAttached ≡ Decode → ⊥
      not_decode h = cc
  not_attached false tests h = refl

  refused : (old new : World) (e : Event) (error : PairError) → IsWorld old → refusal (tests_of decoded old e) ≡ Some error → IsRefused decoded old e error new → IsWorld new
  refused old new (HandOut tag) Decode k may r =
      IsWorld-hands_out old new tag r.0 k (not_is_false (is_together old.phase) (not_attached (not (is_together old.phase)) (drop 1 (hand_out_tests decoded old tag)) may)) r.1 r.2
  refused old new (HandOut tag) _ k may r = same_world old new k r
  refused old new (Attach limit) error k may r = same_world old new k r
  refused old new (Grant n) error k may r = same_world old new k r
  refused old new (Send payload) error k may r = same_world old new k r
  refused old new (Arrive id) error k may r = same_world old new k r
  refused old new Cut error k may r = same_world old new k r
  refused old new ResumeNext error k may r = same_world old new k r
  refused old new PutBackNext error k may r = same_world old new k r
  refused old new (Settle tag) error k may r = same_world old new k r
  refused old new (Withdraw tag) error k may r = same_world old new k r

  pub IsWorld-steps : (old new : World) (e : Event) (r : Result (AnswerOf B) PairError) → IsWorld old → Step decoded old e r new → IsWorld new
  IsWorld-steps old new e (Ok answer) k s = done old new e answer k s.0 s.1
  IsWorld-steps old new e (Err OutOfMemory) k s = left old new e k s.1
  IsWorld-steps old new e (Err error) k s = refused old new e error k s.0 s.1

  pub IsWorld-run : (old new : World) (moments : List (Moment decoded)) → IsWorld old → IsRun decoded old moments new → IsWorld new
  IsWorld-run old new [] k r = same_world old new k r
  IsWorld-run old new (m ∷ moments) k r = IsWorld-run m.after new moments (IsWorld-steps m.before m.after m.event m.answer (subst IsWorld (sym r.0) k) r.1) r.2

  -- ---- fates

  done_moves : (old new : World) (e : Event) (answer : AnswerOf B) → Does decoded old e answer new → MovesOnce old.ledger.records new.ledger.records
  done_moves old new (Attach limit) (answer.Attached count) d = moves_by old new _ d.world
      (MovesOnce-trans old.ledger.records (after (Resolves (outcomes_returned old.ledger.link.unsettled old.receiver.unsettled)) old.ledger.records) _
      (MovesOnce-after (Resolves (outcomes_returned old.ledger.link.unsettled old.receiver.unsettled)) old.ledger.records)
      (MovesOnce-after (HandsOut (list_to_resume old)) (after (Resolves (outcomes_returned old.ledger.link.unsettled old.receiver.unsettled)) old.ledger.records)))
  done_moves old new (Grant n) (answer.Granted credit) d = moves_by old new _ d.world (MovesOnce-refl old.ledger.records)
  done_moves old new (Send payload) (answer.Sent tag count) d = moves_by old new _ d.world (MovesOnce-after (Enters tag) old.ledger.records)
  done_moves old new (Arrive id) (answer.Arrived tag section offset whole) d = moves_by old new _ d.world (MovesOnce-refl old.ledger.records)
  done_moves old new (Arrive id) (answer.Aborted tag) d = moves_by old new _ d.world (MovesOnce-refl old.ledger.records)
  done_moves old new Cut answer.Cut d = moves_by old new _ d.world (MovesOnce-refl old.ledger.records)
  done_moves old new ResumeNext (answer.Resumed tag count resume) d = moves_by old new _ d.world (MovesOnce-after (Enters tag) old.ledger.records)
  done_moves old new ResumeNext (answer.Aborted tag) d = moves_by old new _ d.world (MovesOnce-refl old.ledger.records)
  done_moves old new PutBackNext (answer.PutBack tag) d = elim (d) [
    | inl entry ↦ moves_by old new _ entry.world (MovesOnce-after (Enters tag) old.ledger.records)
    | inr abort ↦ moves_by old new _ abort.world (MovesOnce-refl old.ledger.records)
  ]
  done_moves old new (HandOut tag) (answer.HandedOut delivery) d = moves_by old new _ d.world (MovesOnce-refl old.ledger.records)
  done_moves old new (Settle tag) answer.Settled d = moves_by old new _ d.world (MovesOnce-after (Resolves ((tag, Ok (Some Accepted)) ∷ [])) old.ledger.records)
  done_moves old new (Withdraw tag) answer.Withdrawn d = moves_by old new _ d.world (MovesOnce-after (Withdraws tag) old.ledger.records)
  done_moves old new _ _ d = absurd d

  kept_moves : (old new : World) → new ≡ old → MovesOnce old.ledger.records new.ledger.records
  kept_moves old new is = moves_by old new old is (MovesOnce-refl old.ledger.records)

  left_moves : (old new : World) (e : Event) → IsLeft decoded old e new → MovesOnce old.ledger.records new.ledger.records
  left_moves old new (Attach limit) l = elim (l) [ inl same ↦ kept_moves old new same | inr s ↦ moves_by old new _ s.1.world (MovesOnce-refl old.ledger.records) ]
  left_moves old new (Grant n) l = absurd l
  left_moves old new Cut l = absurd l
  left_moves old new (Withdraw tag) l = absurd l
  left_moves old new (Send payload) l = kept_moves old new l
  left_moves old new (Arrive id) l = kept_moves old new l.1
  left_moves old new ResumeNext l = kept_moves old new l
  left_moves old new PutBackNext l = kept_moves old new l
  left_moves old new (HandOut tag) l = kept_moves old new l
  left_moves old new (Settle tag) l = kept_moves old new l

  refused_moves : (old new : World) (e : Event) (error : PairError) → IsRefused decoded old e error new → MovesOnce old.ledger.records new.ledger.records
  refused_moves old new (HandOut tag) Decode r = moves_by old new _ r.2 (MovesOnce-refl old.ledger.records)
  refused_moves old new (HandOut tag) _ r = kept_moves old new r
  refused_moves old new (Attach limit) error r = kept_moves old new r
  refused_moves old new (Grant n) error r = kept_moves old new r
  refused_moves old new (Send payload) error r = kept_moves old new r
  refused_moves old new (Arrive id) error r = kept_moves old new r
  refused_moves old new Cut error r = kept_moves old new r
  refused_moves old new ResumeNext error r = kept_moves old new r
  refused_moves old new PutBackNext error r = kept_moves old new r
  refused_moves old new (Settle tag) error r = kept_moves old new r
  refused_moves old new (Withdraw tag) error r = kept_moves old new r

  step_moves : (old new : World) (e : Event) (r : Result (AnswerOf B) PairError) → Step decoded old e r new → MovesOnce old.ledger.records new.ledger.records
  step_moves old new e (Ok answer) s = done_moves old new e answer s.1
  step_moves old new e (Err OutOfMemory) s = left_moves old new e s.1
  step_moves old new e (Err error) s = refused_moves old new e error s.1

  -- over any run
  pub MovesOnce-run : (old new : World) (moments : List (Moment decoded)) → IsRun decoded old moments new → MovesOnce old.ledger.records new.ledger.records
  MovesOnce-run old new [] r = kept_moves old new r
  MovesOnce-run old new (m ∷ moments) r =
      MovesOnce-trans old.ledger.records m.after.ledger.records new.ledger.records
      (subst (λ (w : World). MovesOnce w.ledger.records m.after.ledger.records) r.0 (step_moves m.before m.after m.event m.answer r.1))
      (MovesOnce-run m.after new moments r.2)

  -- and from each world of it on
  pub FatesMoveOnce-run : (old new : World) (moments : List (Moment decoded)) → IsRun decoded old moments new → FatesMoveOnce decoded moments new
  FatesMoveOnce-run old new [] r = tt
  FatesMoveOnce-run old new (m ∷ moments) r = (MovesOnce-run m.after new moments r.2, FatesMoveOnce-run m.after new moments r.2)

  -- ---- what is held is what arrived

  -- what arrived of a tag once an answer was given, after what had arrived before
  abbrev arrived_after : Tag → Result (AnswerOf B) PairError → World → List ℕ → List ℕ
  arrived_after tag r w bytes = cond (is_send_of tag r) [] (bytes ++ cond (is_arrival_of tag r) (first_payload w.wire) [])

  -- of a delivery that is what is held, if it was so before
  abbrev Goes : Tag → World → Result (AnswerOf B) PairError → World → Type 0
  Goes tag old r new = (bytes : List ℕ) → (IsOpenIn old tag → bytes ≡ bytes_at old tag) → IsOpenIn new tag → arrived_after tag r old bytes ≡ bytes_at new tag

  stays_on : (tag : Tag) (old new : World) → Stays tag old new → (bytes : List ℕ) → (IsOpenIn old tag → bytes ≡ bytes_at old tag) → IsOpenIn new tag → bytes ++ [] ≡ bytes_at new tag
  stays_on tag old new s bytes h o = append-nil bytes ∙ h (s.was o) ∙ ap bytes_in (sym s.held)

  put_back_goes : (tag next : Tag) (old new : World) → IsWorld old → PutsBack old next new → Goes tag old (Ok (answer.PutBack next)) new
  put_back_goes tag next old new k d =
      by_tag (λ t. Goes t old (Ok (answer.PutBack next)) new) next
      (stays_on next old new (record {
        held = ap (λ (w : World). held_at w next) d.world ∙ ap held_of (entry_at-put old.deliveries next (record d.before { put_back = true })) ∙ ap held_of (sym d.known);
        was = λ _. open_listed old next d.next d.others d.entry k d.listed d.kept;
      }))
      (λ other n. stays_on other old new (Stays-by other old new _ d.world (ap held_of (entry_at-put_other old.deliveries next other (record d.before { put_back = true }) n)) (fates_registered_other next other old.ledger.records n)))
      tag

  done_goes : (tag : Tag) (old new : World) (e : Event) (answer : AnswerOf B) → IsWorld old → refusal (tests_of decoded old e) ≡ None → Does decoded old e answer new → Goes tag old (Ok answer) new
  done_goes tag old new (Attach limit) (answer.Attached count) k may d = stays_on tag old new (record { held = ap (λ (w : World). held_at w tag) d.world; was = open_before_attach old new limit count k may d tag })
  done_goes tag old new (Grant n) (answer.Granted credit) k may d = stays_on tag old new (Stays-by tag old new _ d.world refl refl)
  done_goes tag old new (Send payload) (answer.Sent sent count) k may d =
      by_tag (λ t. Goes t old (Ok (answer.Sent sent count)) new) sent
      (λ bytes h o. ap (λ b. cond b [] (bytes ++ [])) (same_tag sent) ∙ sym (ap (λ (w : World). bytes_at w sent) d.world ∙ ap (λ q. bytes_in (held_of q)) (entry_at-put old.deliveries sent initial_progress)))
      (λ other n bytes h o. ap (λ b. cond b [] (bytes ++ [])) (other_tag other sent n)
      ∙ stays_on other old new (Stays-by other old new _ d.world (ap held_of (entry_at-put_other old.deliveries sent other initial_progress n)) (fates_registered_other sent other old.ledger.records n)) bytes h o)
      tag
  done_goes tag old new (Arrive id) (answer.Arrived at section offset whole) k may d =
      by_tag (λ t. Goes t old (Ok (answer.Arrived at section offset whole)) new) at
      (λ bytes h o.
      let open_before : IsOpenIn old at = subst (IsOpenIn old) (sym d.tagged) (open_arriving old d.first d.rest k d.taken d.carries) in
      ap (λ b. bytes ++ cond b (first_payload old.wire) []) (same_tag at)
      ∙ ap (λ wire. bytes ++ first_payload wire) d.taken
      ∙ ap (λ l. l ++ payload_of d.first.frame) (h open_before ∙ ap (λ q. bytes_in (held_of q)) d.known)
      ∙ sym (bytes_received d.before.held id d.first.frame)
      ∙ sym (ap (λ (w : World). bytes_at w at) d.world ∙ ap (λ q. bytes_in (held_of q)) (entry_at-put old.deliveries at (received d.before id d.first.frame))))
      (λ other n bytes h o. ap (λ b. bytes ++ cond b (first_payload old.wire) []) (other_tag other at n)
      ∙ stays_on other old new (Stays-by other old new _ d.world (ap held_of (entry_at-put_other old.deliveries at other (received d.before id d.first.frame) n)) refl) bytes h o)
      tag
  done_goes tag old new (Arrive id) (answer.Aborted at) k may d =
      by_tag (λ t. Goes t old (Ok (answer.Aborted at)) new) at
      (λ bytes h o. absurd ((closed_aborted old new at k may d).1 (subst (λ (w : World). IsOpenIn w at) d.world o)))
      (λ other n. stays_on other old new (Stays-by other old new _ d.world (ap held_of (removed_there old.deliveries at other k.deliveries n)) refl))
      tag
  done_goes tag old new Cut answer.Cut k may d = stays_on tag old new (Stays-by tag old new _ d.world refl refl)
  done_goes tag old new ResumeNext (answer.Resumed next count resume) k may d =
      by_tag (λ t. Goes t old (Ok (answer.Resumed next count resume)) new) next
      (stays_on next old new (record {
        held = ap (λ (w : World). held_at w next) d.world ∙ ap held_of (entry_at-put old.deliveries next (record d.before { put_back = false })) ∙ ap held_of (sym d.known);
        was = λ _. open_listed old next d.next d.others d.entry k d.listed d.kept;
      }))
      (λ other n. stays_on other old new (Stays-by other old new _ d.world (ap held_of (entry_at-put_other old.deliveries next other (record d.before { put_back = false }) n)) (fates_registered_other next other old.ledger.records n)))
      tag
  done_goes tag old new ResumeNext (answer.Aborted next) k may d = stays_on tag old new (Stays-by tag old new _ d.world refl refl)
  done_goes tag old new PutBackNext (answer.PutBack next) k may d = elim (d) [
    | inl entry ↦ put_back_goes tag next old new k entry
    | inr abort ↦ stays_on tag old new (Stays-by tag old new _ abort.world refl refl)
  ]
  done_goes tag old new (HandOut out) (answer.HandedOut delivery) k may d = stays_on tag old new (handed_stays tag out old new d.before d.known d.world)
  done_goes tag old new (Settle settled) answer.Settled k may d =
      by_tag (λ t. Goes t old (Ok answer.Settled) new) settled
      (λ bytes h o. absurd (closed_settled old new settled k may d o))
      (λ other n. stays_on other old new (Stays-by other old new _ d.world (ap held_of (removed_there old.deliveries settled other k.deliveries n))
      (fates_given other ((settled, Resolved (Ok (Some Accepted))) ∷ []) old.ledger.records
      ∙ ap (λ o. map (fate_given o) (fates_of other old.ledger.records)) (entry_at-behind settled other (Resolved (Ok (Some Accepted))) [] n) ∙ none_given (fates_of other old.ledger.records))))
      tag
  done_goes tag old new (Withdraw withdrawn) answer.Withdrawn k may d =
      by_tag (λ t. Goes t old (Ok answer.Withdrawn) new) withdrawn
      (λ bytes h o. absurd (closed_withdrawn old new withdrawn k may d o))
      (λ other n. stays_on other old new (Stays-by other old new _ d.world (ap held_of (kept_there old.deliveries withdrawn other d.before d.before.held k.deliveries n)) (not_withdrawn old withdrawn other n)))
      tag
  done_goes tag old new _ _ k may d = absurd d

  left_stays : (tag : Tag) (old new : World) (e : Event) → IsLeft decoded old e new → Stays tag old new
  left_stays tag old new (Attach limit) l = elim (l) [ inl same ↦ Stays-same tag old new same | inr s ↦ Stays-by tag old new _ s.1.world refl refl ]
  left_stays tag old new (Grant n) l = absurd l
  left_stays tag old new Cut l = absurd l
  left_stays tag old new (Withdraw t) l = absurd l
  left_stays tag old new (Send payload) l = Stays-same tag old new l
  left_stays tag old new (Arrive id) l = Stays-same tag old new l.1
  left_stays tag old new ResumeNext l = Stays-same tag old new l
  left_stays tag old new PutBackNext l = Stays-same tag old new l
  left_stays tag old new (HandOut t) l = Stays-same tag old new l
  left_stays tag old new (Settle t) l = Stays-same tag old new l

  refused_stays : (tag : Tag) (old new : World) (e : Event) (error : PairError) → IsRefused decoded old e error new → Stays tag old new
  refused_stays tag old new (HandOut out) Decode r = handed_stays tag out old new r.0 r.1 r.2
  refused_stays tag old new (HandOut out) _ r = Stays-same tag old new r
  refused_stays tag old new (Attach limit) error r = Stays-same tag old new r
  refused_stays tag old new (Grant n) error r = Stays-same tag old new r
  refused_stays tag old new (Send payload) error r = Stays-same tag old new r
  refused_stays tag old new (Arrive id) error r = Stays-same tag old new r
  refused_stays tag old new Cut error r = Stays-same tag old new r
  refused_stays tag old new ResumeNext error r = Stays-same tag old new r
  refused_stays tag old new PutBackNext error r = Stays-same tag old new r
  refused_stays tag old new (Settle t) error r = Stays-same tag old new r
  refused_stays tag old new (Withdraw t) error r = Stays-same tag old new r

  step_goes : (tag : Tag) (old new : World) (e : Event) (r : Result (AnswerOf B) PairError) → IsWorld old → Step decoded old e r new → Goes tag old r new
  step_goes tag old new e (Ok answer) k s = done_goes tag old new e answer k s.0 s.1
  step_goes tag old new e (Err OutOfMemory) k s = stays_on tag old new (left_stays tag old new e s.1)
  step_goes tag old new e (Err error) k s = stays_on tag old new (refused_stays tag old new e error s.1)

  -- step by step
  abbrev arrived_on : Tag → List ℕ → List (Moment decoded) → List ℕ
  arrived_on tag bytes [] = bytes
  arrived_on tag bytes (m ∷ moments) = arrived_on tag (arrived_after tag m.answer m.before bytes) moments

  run_goes : (tag : Tag) (old new : World) (moments : List (Moment decoded)) (bytes : List ℕ) → IsWorld old → IsRun decoded old moments new
      → (IsOpenIn old tag → bytes ≡ bytes_at old tag) → IsOpenIn new tag → arrived_on tag bytes moments ≡ bytes_at new tag
  run_goes tag old new [] bytes k r h o = h (subst (λ w. IsOpenIn w tag) r o) ∙ ap (λ w. bytes_at w tag) (sym r)
  run_goes tag old new (m ∷ moments) bytes k r h o =
      let kept : IsWorld m.before = subst IsWorld (sym r.0) k in
      let before : IsOpenIn m.before tag → bytes ≡ bytes_at m.before tag = λ o. h (subst (λ w. IsOpenIn w tag) r.0 o) ∙ ap (λ w. bytes_at w tag) (sym r.0) in
      run_goes tag m.after new moments (arrived_after tag m.answer m.before bytes) (IsWorld-steps m.before m.after m.event m.answer kept r.1) r.2
      (λ o. step_goes tag m.before m.after m.event m.answer kept r.1 bytes before o) o

  -- the same of the whole list
  all_since : (tag : Tag) (moments : List (Moment decoded)) → list_any (does_send decoded tag) moments ≡ false → since_send decoded tag moments ≡ moments
  all_since tag [] h = refl
  all_since tag (m ∷ moments) h = since (is_send_of tag m.answer) (list_any (does_send decoded tag) moments) h
    where
      since : (a b : Bool) → (a || b) ≡ false → cond b (since_send decoded tag moments) (cond a moments (m ∷ moments)) ≡ m ∷ moments
      since true b h = absurd (false_is_not_true (sym h))
      since false true h = absurd (false_is_not_true (sym h))
      since false false h = refl

  arrived_is : (tag : Tag) (moments : List (Moment decoded)) (bytes : List ℕ)
      → arrived_on tag bytes moments ≡ cond (list_any (does_send decoded tag) moments) [] bytes ++ flat_map (payload_arrived decoded tag) (since_send decoded tag moments)
  arrived_is tag [] bytes = sym (append-nil bytes)
  arrived_is tag (m ∷ moments) bytes = arrived_is tag moments (arrived_after tag m.answer m.before bytes) ∙ by (is_send_of tag m.answer) (list_any (does_send decoded tag) moments) (all_since tag moments)
    where
      by : (a b : Bool) → (b ≡ false → since_send decoded tag moments ≡ moments)
          → cond b [] (cond a [] (bytes ++ payload_arrived decoded tag m)) ++ flat_map (payload_arrived decoded tag) (since_send decoded tag moments)
          ≡ cond (a || b) [] bytes ++ flat_map (payload_arrived decoded tag) (cond b (since_send decoded tag moments) (cond a moments (m ∷ moments)))
      by true true all = refl
      by false true all = refl
      by true false all = ap (λ l. flat_map (payload_arrived decoded tag) l) (all refl)
      by false false all = append_assoc bytes (payload_arrived decoded tag m) (flat_map (payload_arrived decoded tag) (since_send decoded tag moments)) ∙ ap (λ l. bytes ++ (payload_arrived decoded tag m ++ flat_map (payload_arrived decoded tag) l)) (all refl)

  -- Of a delivery is held what arrived of it.
  pub held_is_what_arrived : (old new : World) (moments : List (Moment decoded)) → IsWorld old → IsRun decoded old moments new
      → (tag : Tag) → IsOpenIn new tag → bytes_at new tag ≡ arrived decoded old moments tag
  held_is_what_arrived old new moments k r tag o =
      sym (run_goes tag old new moments (bytes_at old tag) k r (λ _. refl) o) ∙ arrived_is tag moments (bytes_at old tag)

  -- ---- only an arrival of a tag and its settlement change what is held of it

  abbrev KeepsHeld : Tag → World → Event → AnswerOf B → World → Type 0
  KeepsHeld tag old e answer new = changes_held tag e answer ≡ false → held_at new tag ≡ held_at old tag

  marked_again : (tag next : Tag) (old new : World) (before after : Progress) (w : World) → new ≡ w → w.deliveries ≡ with_entry old.deliveries next after → entry_at old.deliveries next ≡ Some before → after.held ≡ before.held
      → held_at new tag ≡ held_at old tag
  marked_again tag next old new before after w is put known same =
      by_tag (λ t. held_at new t ≡ held_at old t) next
      (ap (λ (x : World). held_at x next) is ∙ ap (λ m. held_of (entry_at m next)) put ∙ ap held_of (entry_at-put old.deliveries next after) ∙ same ∙ sym (ap held_of known))
      (λ other n. ap (λ (x : World). held_at x other) is ∙ ap (λ m. held_of (entry_at m other)) put ∙ ap held_of (entry_at-put_other old.deliveries next other after n))
      tag

  pub step_keeps_held : (tag : Tag) (old new : World) (e : Event) (answer : AnswerOf B) → IsWorld old → refusal (tests_of decoded old e) ≡ None → Does decoded old e answer new → KeepsHeld tag old e answer new
  step_keeps_held tag old new (Attach limit) (answer.Attached count) k may d = λ _. ap (λ (w : World). held_at w tag) d.world
  step_keeps_held tag old new (Grant n) (answer.Granted credit) k may d = λ _. ap (λ (w : World). held_at w tag) d.world
  step_keeps_held tag old new (Send payload) (answer.Sent sent count) k may d =
      by_tag (λ t. KeepsHeld t old (Send payload) (answer.Sent sent count) new) sent
      (λ _. ap (λ (w : World). held_at w sent) d.world ∙ ap held_of (entry_at-put old.deliveries sent initial_progress) ∙ sym (ap (held_at old) d.tagged ∙ (tag_is_free old payload may).1))
      (λ other n _. ap (λ (w : World). held_at w other) d.world ∙ ap held_of (entry_at-put_other old.deliveries sent other initial_progress n))
      tag
  step_keeps_held tag old new (Arrive id) (answer.Arrived at section offset whole) k may d =
      by_tag (λ t. KeepsHeld t old (Arrive id) (answer.Arrived at section offset whole) new) at
      (λ stays. absurd (false_is_not_true (sym stays ∙ same_tag at)))
      (λ other n _. ap (λ (w : World). held_at w other) d.world ∙ ap held_of (entry_at-put_other old.deliveries at other (received d.before id d.first.frame) n))
      tag
  step_keeps_held tag old new (Arrive id) (answer.Aborted at) k may d =
      by_tag (λ t. KeepsHeld t old (Arrive id) (answer.Aborted at) new) at
      (λ stays. absurd (false_is_not_true (sym stays ∙ same_tag at)))
      (λ other n _. ap (λ (w : World). held_at w other) d.world ∙ ap held_of (removed_there old.deliveries at other k.deliveries n))
      tag
  step_keeps_held tag old new Cut answer.Cut k may d = λ _. ap (λ (w : World). held_at w tag) d.world
  step_keeps_held tag old new ResumeNext (answer.Resumed next count resume) k may d = λ _. marked_again tag next old new d.before (record d.before { put_back = false }) _ d.world refl d.known refl
  step_keeps_held tag old new ResumeNext (answer.Aborted next) k may d = λ _. ap (λ (w : World). held_at w tag) d.world
  step_keeps_held tag old new PutBackNext (answer.PutBack next) k may d = λ _. elim (d) [
    | inl entry ↦ marked_again tag next old new entry.before (record entry.before { put_back = true }) _ entry.world refl entry.known refl
    | inr abort ↦ ap (λ (w : World). held_at w tag) abort.world
  ]
  step_keeps_held tag old new (HandOut out) (answer.HandedOut delivery) k may d = λ _. (handed_stays tag out old new d.before d.known d.world).held
  step_keeps_held tag old new (Settle settled) answer.Settled k may d =
      by_tag (λ t. KeepsHeld t old (Settle settled) answer.Settled new) settled
      (λ stays. absurd (false_is_not_true (sym stays ∙ same_tag settled)))
      (λ other n _. ap (λ (w : World). held_at w other) d.world ∙ ap held_of (removed_there old.deliveries settled other k.deliveries n))
      tag
  step_keeps_held tag old new (Withdraw withdrawn) answer.Withdrawn k may d =
      by_tag (λ t. KeepsHeld t old (Withdraw withdrawn) answer.Withdrawn new) withdrawn
      (λ _. ap (λ (w : World). held_at w withdrawn) d.world ∙ held_withdrawn old.deliveries withdrawn d.before d.before.held refl k.deliveries ∙ sym (ap held_of d.known))
      (λ other n _. ap (λ (w : World). held_at w other) d.world ∙ ap held_of (kept_there old.deliveries withdrawn other d.before d.before.held k.deliveries n))
      tag
  step_keeps_held tag old new _ _ k may d = absurd d

  -- a step that is refused changes nothing of it
  pub refusal_keeps_held : (tag : Tag) (old new : World) (e : Event) (error : PairError) → Step decoded old e (Err error) new → held_at new tag ≡ held_at old tag
  refusal_keeps_held tag old new e OutOfMemory s = (left_stays tag old new e s.1).held
  refusal_keeps_held tag old new e error s = (refused_stays tag old new e error s.1).held

  -- ---- no payload changes

  -- unless it is sent anew, a delivery has the payload that it had
  abbrev KeepsPayload : Tag → World → Result (AnswerOf B) PairError → World → Type 0
  KeepsPayload tag old r new = is_send_of tag r ≡ false → IsOpenIn new tag → entry_in (standing new tag) ≡ entry_in (standing old tag)

  put_back_keeps : (tag next : Tag) (old new : World) → IsWorld old → PutsBack old next new → KeepsPayload tag old (Ok (answer.PutBack next)) new
  put_back_keeps tag next old new k d =
      by_tag (λ t. KeepsPayload t old (Ok (answer.PutBack next)) new) next
      (λ s o. ap (λ (w : World). entry_in (standing w next)) d.world ∙ registered_again old next d.next d.others d.entry k d.listed d.kept)
      (λ other n s o. ap (λ (w : World). entry_in (standing w other)) d.world ∙ entries_by (entry_at-put_other old.ledger.link.unsettled next other d.entry n) (sym (still_listed old next d.next d.others k d.listed other n)))
      tag

  done_keeps : (tag : Tag) (old new : World) (e : Event) (answer : AnswerOf B) → IsWorld old → refusal (tests_of decoded old e) ≡ None → Does decoded old e answer new → KeepsPayload tag old (Ok answer) new
  done_keeps tag old new (Attach limit) (answer.Attached count) k may d = λ _ _. attach_keeps old new limit count k may d tag
  done_keeps tag old new (Grant n) (answer.Granted credit) k may d = λ _ _. ap (λ (w : World). entry_in (standing w tag)) d.world
  done_keeps tag old new (Send payload) (answer.Sent sent count) k may d =
      by_tag (λ t. KeepsPayload t old (Ok (answer.Sent sent count)) new) sent
      (λ s o. absurd (false_is_not_true (sym s ∙ same_tag sent)))
      (λ other n s o. ap (λ (w : World). entry_in (standing w other)) d.world ∙ entries_by (entry_at-put_other old.ledger.link.unsettled sent other (new_entry 0 payload) n) refl)
      tag
  done_keeps tag old new (Arrive id) (answer.Arrived at section offset whole) k may d = λ _ _. ap (λ (w : World). entry_in (standing w tag)) d.world
  done_keeps tag old new (Arrive id) (answer.Aborted at) k may d = λ _ _. ap (λ (w : World). entry_in (standing w tag)) d.world
  done_keeps tag old new Cut answer.Cut k may d = λ _ _. ap (λ (w : World). entry_in (standing w tag)) d.world
  done_keeps tag old new ResumeNext (answer.Resumed next count resume) k may d =
      by_tag (λ t. KeepsPayload t old (Ok (answer.Resumed next count resume)) new) next
      (λ s o. ap (λ (w : World). entry_in (standing w next)) d.world ∙ registered_again old next d.next d.others d.entry k d.listed d.kept)
      (λ other n s o. ap (λ (w : World). entry_in (standing w other)) d.world ∙ entries_by (entry_at-put_other old.ledger.link.unsettled next other d.entry n) (sym (still_listed old next d.next d.others k d.listed other n)))
      tag
  done_keeps tag old new ResumeNext (answer.Aborted next) k may d = λ _ _. ap (λ (w : World). entry_in (standing w tag)) d.world ∙ abort_leaves old next tag d.others k d.listed
  done_keeps tag old new PutBackNext (answer.PutBack next) k may d = elim (d) [
    | inl entry ↦ put_back_keeps tag next old new k entry
    | inr abort ↦ λ _ _. ap (λ (w : World). entry_in (standing w tag)) abort.world ∙ abort_leaves old next tag abort.others k abort.listed
  ]
  done_keeps tag old new (HandOut out) (answer.HandedOut delivery) k may d = λ _ _. ap (λ (w : World). entry_in (standing w tag)) d.world
  done_keeps tag old new (Settle settled) answer.Settled k may d =
      by_tag (λ t. KeepsPayload t old (Ok answer.Settled) new) settled
      (λ s o. absurd (closed_settled old new settled k may d o))
      (λ other n s o. ap (λ (w : World). entry_in (standing w other)) d.world ∙ entries_by (removed_there old.ledger.link.unsettled settled other k.unsettled n) refl)
      tag
  done_keeps tag old new (Withdraw withdrawn) answer.Withdrawn k may d =
      by_tag (λ t. KeepsPayload t old (Ok answer.Withdrawn) new) withdrawn
      (λ s o. absurd (closed_withdrawn old new withdrawn k may d o))
      (λ other n s o. ap (λ (w : World). entry_in (standing w other)) d.world ∙ entries_by (removed_there old.ledger.link.unsettled withdrawn other k.unsettled n) refl)
      tag
  done_keeps tag old new _ _ k may d = absurd d

  left_keeps : (tag : Tag) (old new : World) (e : Event) → IsLeft decoded old e new → entry_in (standing new tag) ≡ entry_in (standing old tag)
  left_keeps tag old new (Attach limit) l = elim (l) [ inl same ↦ ap (λ (w : World). entry_in (standing w tag)) same | inr s ↦ ap (λ (w : World). entry_in (standing w tag)) s.1.world ]
  left_keeps tag old new (Grant n) l = absurd l
  left_keeps tag old new Cut l = absurd l
  left_keeps tag old new (Withdraw t) l = absurd l
  left_keeps tag old new (Send payload) l = ap (λ (w : World). entry_in (standing w tag)) l
  left_keeps tag old new (Arrive id) l = ap (λ (w : World). entry_in (standing w tag)) l.1
  left_keeps tag old new ResumeNext l = ap (λ (w : World). entry_in (standing w tag)) l
  left_keeps tag old new PutBackNext l = ap (λ (w : World). entry_in (standing w tag)) l
  left_keeps tag old new (HandOut t) l = ap (λ (w : World). entry_in (standing w tag)) l
  left_keeps tag old new (Settle t) l = ap (λ (w : World). entry_in (standing w tag)) l

  refused_keeps : (tag : Tag) (old new : World) (e : Event) (error : PairError) → IsRefused decoded old e error new → entry_in (standing new tag) ≡ entry_in (standing old tag)
  refused_keeps tag old new (HandOut out) Decode r = ap (λ (w : World). entry_in (standing w tag)) r.2
  refused_keeps tag old new (HandOut out) _ r = ap (λ (w : World). entry_in (standing w tag)) r
  refused_keeps tag old new (Attach limit) error r = ap (λ (w : World). entry_in (standing w tag)) r
  refused_keeps tag old new (Grant n) error r = ap (λ (w : World). entry_in (standing w tag)) r
  refused_keeps tag old new (Send payload) error r = ap (λ (w : World). entry_in (standing w tag)) r
  refused_keeps tag old new (Arrive id) error r = ap (λ (w : World). entry_in (standing w tag)) r
  refused_keeps tag old new Cut error r = ap (λ (w : World). entry_in (standing w tag)) r
  refused_keeps tag old new ResumeNext error r = ap (λ (w : World). entry_in (standing w tag)) r
  refused_keeps tag old new PutBackNext error r = ap (λ (w : World). entry_in (standing w tag)) r
  refused_keeps tag old new (Settle t) error r = ap (λ (w : World). entry_in (standing w tag)) r
  refused_keeps tag old new (Withdraw t) error r = ap (λ (w : World). entry_in (standing w tag)) r

  -- no call changes a delivery's payload
  pub step_keeps_payload : (tag : Tag) (old new : World) (e : Event) (r : Result (AnswerOf B) PairError) → IsWorld old → Step decoded old e r new → KeepsPayload tag old r new
  step_keeps_payload tag old new e (Ok answer) k s = done_keeps tag old new e answer k s.0 s.1
  step_keeps_payload tag old new e (Err OutOfMemory) k s = λ _ _. left_keeps tag old new e s.1
  step_keeps_payload tag old new e (Err error) k s = λ _ _. refused_keeps tag old new e error s.1

  -- unless it is sent anew, a delivery that is open was open
  abbrev WasOpen : Tag → World → Result (AnswerOf B) PairError → World → Type 0
  WasOpen tag old r new = is_send_of tag r ≡ false → IsOpenIn new tag → IsOpenIn old tag

  same_fates : (tag : Tag) (old new w : World) → new ≡ w → fates_of tag w.ledger.records ≡ fates_of tag old.ledger.records → IsOpenIn new tag → IsOpenIn old tag
  same_fates tag old new w is fates o = subst (λ f. IsOpen (latest f)) fates (subst (λ x. IsOpenIn x tag) is o)

  put_back_was : (tag next : Tag) (old new : World) → IsWorld old → PutsBack old next new → WasOpen tag old (Ok (answer.PutBack next)) new
  put_back_was tag next old new k d =
      by_tag (λ t. WasOpen t old (Ok (answer.PutBack next)) new) next
      (λ s o. open_listed old next d.next d.others d.entry k d.listed d.kept)
      (λ other n s o. same_fates other old new _ d.world (fates_registered_other next other old.ledger.records n) o)
      tag

  done_was : (tag : Tag) (old new : World) (e : Event) (answer : AnswerOf B) → IsWorld old → refusal (tests_of decoded old e) ≡ None → Does decoded old e answer new → WasOpen tag old (Ok answer) new
  done_was tag old new (Attach limit) (answer.Attached count) k may d = λ _ o. open_before_attach old new limit count k may d tag o
  done_was tag old new (Grant n) (answer.Granted credit) k may d = λ _ o. same_fates tag old new _ d.world refl o
  done_was tag old new (Send payload) (answer.Sent sent count) k may d =
      by_tag (λ t. WasOpen t old (Ok (answer.Sent sent count)) new) sent
      (λ s o. absurd (false_is_not_true (sym s ∙ same_tag sent)))
      (λ other n s o. same_fates other old new _ d.world (fates_registered_other sent other old.ledger.records n) o)
      tag
  done_was tag old new (Arrive id) (answer.Arrived at section offset whole) k may d = λ _ o. same_fates tag old new _ d.world refl o
  done_was tag old new (Arrive id) (answer.Aborted at) k may d = λ _ o. same_fates tag old new _ d.world refl o
  done_was tag old new Cut answer.Cut k may d = λ _ o. same_fates tag old new _ d.world refl o
  done_was tag old new ResumeNext (answer.Resumed next count resume) k may d =
      by_tag (λ t. WasOpen t old (Ok (answer.Resumed next count resume)) new) next
      (λ s o. open_listed old next d.next d.others d.entry k d.listed d.kept)
      (λ other n s o. same_fates other old new _ d.world (fates_registered_other next other old.ledger.records n) o)
      tag
  done_was tag old new ResumeNext (answer.Aborted next) k may d = λ _ o. same_fates tag old new _ d.world refl o
  done_was tag old new PutBackNext (answer.PutBack next) k may d = elim (d) [
    | inl entry ↦ put_back_was tag next old new k entry
    | inr abort ↦ λ _ o. same_fates tag old new _ abort.world refl o
  ]
  done_was tag old new (HandOut out) (answer.HandedOut delivery) k may d = λ _ o. (handed_stays tag out old new d.before d.known d.world).was o
  done_was tag old new (Settle settled) answer.Settled k may d =
      by_tag (λ t. WasOpen t old (Ok answer.Settled) new) settled
      (λ s o. absurd (closed_settled old new settled k may d o))
      (λ other n s o. same_fates other old new _ d.world
      (fates_given other ((settled, Resolved (Ok (Some Accepted))) ∷ []) old.ledger.records
      ∙ ap (λ o. map (fate_given o) (fates_of other old.ledger.records)) (entry_at-behind settled other (Resolved (Ok (Some Accepted))) [] n) ∙ none_given (fates_of other old.ledger.records)) o)
      tag
  done_was tag old new (Withdraw withdrawn) answer.Withdrawn k may d =
      by_tag (λ t. WasOpen t old (Ok answer.Withdrawn) new) withdrawn
      (λ s o. absurd (closed_withdrawn old new withdrawn k may d o))
      (λ other n s o. same_fates other old new _ d.world (not_withdrawn old withdrawn other n) o)
      tag
  done_was tag old new _ _ k may d = absurd d

  pub step_was_open : (tag : Tag) (old new : World) (e : Event) (r : Result (AnswerOf B) PairError) → IsWorld old → Step decoded old e r new → WasOpen tag old r new
  step_was_open tag old new e (Ok answer) k s = done_was tag old new e answer k s.0 s.1
  step_was_open tag old new e (Err OutOfMemory) k s = λ _ o. (left_stays tag old new e s.1).was o
  step_was_open tag old new e (Err error) k s = λ _ o. (refused_stays tag old new e error s.1).was o
