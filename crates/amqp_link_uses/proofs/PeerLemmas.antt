-- How far a test peer has driven an endpoint, and what an attach or a detach does to where it stands.
use Rattle.std.proofs.Common.{◌≡◌, ◌∙◌, ap, sym, refl, subst, ℕ, ◌+◌, List, [], ◌∷◌, ◌++◌, append_assoc, length, Bool, true, false, Option, Some, None, is_some, ◌⊎◌, inl, inr}
use Rattle.std.proofs.lemmas.List.{append-nil, length_push}
use Rattle.std.specs.Prelude.{Result, Ok, Err, MatchOption, MatchResult, IfNone, IfOk, OnOk, OnErr, IsErrAnd}
use Rattle.amqp_link.specs.AttachSent.{SendsAttach}
use Rattle.amqp_link.specs.declared.state.LinkState.{LinkState}
use Rattle.amqp_link.specs.Entries.{Entries}
use Rattle.amqp_link.specs.Shown.{Shown, shown_attached, shown_taken, with_terms_of}
use Rattle.amqp_link.specs.declared.LinkFrame.{LinkFrame}
use Rattle.amqp_link.specs.declared.types.Attach.{Attach as TheAttach}
use Rattle.amqp_link.specs.declared.types.OutputHandle.{OutputHandle}
use Rattle.amqp_link.specs.declared.types.TargetArchetype.{TargetArchetype}
use Rattle.amqp_link_uses.specs.Peers.{StateAndHandle, state_and_handle, has_transition_by, is_allowed, DoesFrame, AreAllowed, moves_to, detached_by}
use Rattle.amqp_link_uses.specs.declared.peer.Frame.{Frame}
use Rattle.amqp_link_uses.specs.declared.peer.Frame.TheVariants.{SendAttach, Attach, Flow, SendDetach, DetachReply, Detach}

-- ---- the frames that an endpoint was driven through

-- the endpoint has sent or taken the frames before this place, each of which was allowed; the rest is left
pub record IsDriven (frames rest : List Frame) (place : ℕ) (s t : StateAndHandle) : Type 0 where
  pub done : List Frame
  pub parts : frames ≡ done ++ rest
  pub number : length done ≡ place
  pub allowed : AreAllowed done s t

-- one more frame that is allowed
pub AreAllowed-snoc : (frames : List Frame) (frame : Frame) (s t u : StateAndHandle)
    → AreAllowed frames s t → is_allowed t frame ≡ true → DoesFrame t frame u → AreAllowed (frames ++ frame ∷ []) s u
AreAllowed-snoc [] frame s t u same allowed leads =
    let only : AreAllowed (frame ∷ []) t u = (u, allowed, leads, refl) in
    let P : StateAndHandle → Type 0 = λ x. AreAllowed (frame ∷ []) x u in
    subst P (sym same) only
AreAllowed-snoc (first ∷ frames) frame s t u (next, is, goes, others) allowed leads =
    (next, is, goes, AreAllowed-snoc frames frame next t u others allowed leads)

pub driven_nowhere : {frames rest : List Frame} {place : ℕ} {s : StateAndHandle}
    → rest ≡ frames → place ≡ 0 → IsDriven frames rest place s s
driven_nowhere all start = record { done = []; parts = sym all; number = sym start; allowed = refl }

pub driven_on : {frames left rest : List Frame} {frame : Frame} {place next : ℕ} {s t u : StateAndHandle}
    → IsDriven frames left place s t → left ≡ frame ∷ rest → next ≡ place + 1
    → is_allowed t frame ≡ true → DoesFrame t frame u → IsDriven frames rest next s u
driven_on {rest} {frame} {s} {t} {u} driven first one allowed leads = record {
  done = driven.done ++ frame ∷ [];
  parts = driven.parts ∙ ap (λ l. driven.done ++ l) first ∙ sym (append_assoc driven.done (frame ∷ []) rest);
  number = length_push driven.done frame ∙ ap (λ n. n + 1) driven.number ∙ sym one;
  allowed = AreAllowed-snoc driven.done frame s t u driven.allowed allowed leads;
}

true_is_not_false : true ≡ false → ⊥
true_is_not_false h = cc

-- a frame without transition is not allowed
pub not_allowed_without_transition : (frame : Frame) (s : StateAndHandle) → has_transition_by s.state frame ≡ false → is_allowed s frame ≡ false
not_allowed_without_transition SendAttach s none = none
not_allowed_without_transition (Attach attach) s none = none
not_allowed_without_transition (Flow flow) s none = absurd (true_is_not_false none)
not_allowed_without_transition (SendDetach closed) s none = none
not_allowed_without_transition (DetachReply detach) s none = none
not_allowed_without_transition (Detach detach) s none = none

-- whether there is a transition, by the test that the code makes of the state
pub has_transition_by_test : (frame : Frame) {s t : LinkState} {test answer : Bool}
    → s ≡ t → test ≡ has_transition_by s frame → test ≡ answer → has_transition_by t frame ≡ answer
has_transition_by_test frame same tests is = ap (λ x. has_transition_by x frame) (sym same) ∙ sym tests ∙ is

-- where the next frame is refused: the frames before it, that frame, and those after it
pub driven_to_refusal : {frames left rest : List Frame} {frame : Frame} {place : ℕ} {s t : StateAndHandle}
    → IsDriven frames left place s t → left ≡ frame ∷ rest → is_allowed t frame ≡ false
    → (before : List Frame) × (refused : Frame) × (after : List Frame)
    × (frames ≡ before ++ refused ∷ after) × (length before ≡ place)
    × AreAllowed before s t × (is_allowed t refused ≡ false)
driven_to_refusal {rest} {frame} driven first refused =
    (driven.done, frame, rest, driven.parts ∙ ap (λ l. driven.done ++ l) first, driven.number, driven.allowed, refused)

pub driven_to_end : {frames left : List Frame} {place : ℕ} {s t : StateAndHandle}
    → IsDriven frames left place s t → left ≡ [] → AreAllowed frames s t
driven_to_end {s} {t} driven none =
    let all = driven.parts ∙ ap (λ l. driven.done ++ l) none ∙ append-nil driven.done in
    subst (λ l. AreAllowed l s t) (sym all) driven.allowed

-- ---- what a call does to where the endpoint stands

abbrev stands_at : LinkState → Option OutputHandle → StateAndHandle
stands_at state handle = record { state = state; has_handle = is_some handle }

both_same : {s t : LinkState} {h k : Option OutputHandle} → s ≡ t → h ≡ k → stands_at s h ≡ stands_at t k
both_same {s} {k} states handles = ap (λ h. stands_at s h) handles ∙ ap (λ s. stands_at s k) states

module _ {L V : Type 0} (shown : L → Shown (Entries V)) (old now : L) where
  -- an attach that is sent moves the state by the table, or leaves it if the call is refused
  pub sent_or_stays : {E F : Type 0} (r : Result (LinkFrame × F) E)
      → IfOk r (λ sent. SendsAttach (shown old) (shown old).entries sent.0 (shown now).local_state)
      → OnOk r (shown now ≡ shown_attached (shown old) (shown now).local_state)
      → OnErr r (now ≡ old)
      → DoesFrame (state_and_handle (shown old)) SendAttach (state_and_handle (shown now))
  sent_or_stays (Ok sent) sends shows left =
      inr (sends.attach.incomplete_unsettled, (shown now).local_state, sends.step, ap (λ x. state_and_handle x) shows)
  sent_or_stays (Err error) sends shows left = inl (ap (λ l. state_and_handle (shown l)) left)

  -- an attach that arrives keeps the output handle, taken or refused
  pub keeps_handle : {A E : Type 0} (target : Option TargetArchetype) (attach : TheAttach) (r : Result A E)
      → OnOk r (shown now ≡ shown_taken (shown old) target attach)
      → OnErr r (shown now ≡ with_terms_of (shown old) (shown now))
      → (shown now).output_handle ≡ (shown old).output_handle
  keeps_handle target attach (Ok exchange) taken terms = ap (λ x. x.output_handle) taken
  keeps_handle target attach (Err error) taken terms = ap (λ x. x.output_handle) terms

  -- it moves the state by the table, or leaves it; a refusal can move the state too
  pub stays_or_moves : {A E : Type 0} (illegal out_of_memory : E) (r : Result A E) (next : Option LinkState)
      → (shown now).output_handle ≡ (shown old).output_handle
      → MatchOption next (IsErrAnd r (λ error. error ≡ illegal))
      (λ s. MatchResult r (λ _. (shown now).local_state ≡ s) (λ error. (error ≡ out_of_memory) ⊎ ((shown now).local_state ≡ s)))
      → IfNone next (now ≡ old) → (r ≡ Err out_of_memory → now ≡ old)
      → (state_and_handle (shown now) ≡ state_and_handle (shown old))
      ⊎ ((t : LinkState) × (next ≡ Some t) × (state_and_handle (shown now) ≡ moves_to (state_and_handle (shown old)) t))
  stays_or_moves illegal out_of_memory r None handle step kept memory = inl (ap (λ l. state_and_handle (shown l)) kept)
  stays_or_moves illegal out_of_memory (Ok exchange) (Some s) handle step kept memory = inr (s, refl, both_same step handle)
  stays_or_moves illegal out_of_memory (Err error) (Some s) handle (inl is) kept memory =
      inl (ap (λ l. state_and_handle (shown l)) (memory (ap Err is)))
  stays_or_moves illegal out_of_memory (Err error) (Some s) handle (inr goes) kept memory =
      inr (s, refl, both_same goes handle)

  -- a detach moves the state and releases the output handle wherever there is a transition
  pub moves_by_table : (moved : L → LinkState → Option OutputHandle → L) (next : Option LinkState)
      → ((l : L) (s : LinkState) (h : Option OutputHandle) → shown (moved l s h) ≡ record (shown l) { local_state = s; output_handle = h })
      → MatchOption next (now ≡ old) (λ s. now ≡ moved old s None)
      → state_and_handle (shown now) ≡ detached_by (state_and_handle (shown old)) next
  moves_by_table moved None shows kept = ap (λ l. state_and_handle (shown l)) kept
  moves_by_table moved (Some s) shows goes =
      ap (λ l. state_and_handle (shown l)) goes ∙ ap (λ x. state_and_handle x) (shows old s None)
