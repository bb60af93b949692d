-- The sender of a credit run refuses a payload by the tests of the run, or if it is out of memory.
use Rattle.std.proofs.Common.{◌≡◌, ◌∙◌, ap, ℕ, ◌+◌, ◌<◌, ◌≤◌, ◌^◌, Bool, true, false, ◌&&◌, not, List, [], ◌∷◌, length, refl, Option, Some, None, min, nat_le, arith, ◌==◌}
use Rattle.std.specs.Prelude.{is_some, is_none, unwrap_or}
use Rattle.std.proofs.lemmas.Bool.Decides.{nat_tests}
use Rattle.amqp_link_types.specs.Entries.{Tag, entry_at}
use Rattle.amqp_link_types.specs.Refusals.{refusal}
use Rattle.amqp_link_types.specs.Size.{transfer_len, before, list_of, content}
use Rattle.amqp_link_types.specs.declared.types.definitions.SenderSettleMode.TheVariants as mode
use Rattle.amqp_link_types.specs.declared.types.terminus.Target.{Target}
use Rattle.amqp_link_values.specs.Length.{text_len}
use Rattle.amqp_link_split.specs.Room.{worst, has_room}
use Rattle.amqp_link_types.specs.declared.types.errors.LinkStateError.TheVariants as link
use Rattle.amqp_link_sender.specs.Senders.{Sender, SendStop, missing_credit, refused, payload_tests, next_tag, new_transfer, settled_by_mode}
use Rattle.amqp_link_worlds.specs.Steps.{zero_output}
use Rattle.amqp_link_credit.specs.CreditCalls.{run_transfer, run_delivery, sending_tests_at_sender, sending_tests}
use Rattle.amqp_link_credit.specs.CreditWorlds.{CreditWorld, IsCreditWorld}
use Rattle.amqp_link_credit.specs.Endpoints.{IsReadyToSend}
use Rattle.amqp_link_credit.specs.declared.error.CreditRunError.{CreditRunError}
use Rattle.amqp_link_credit.specs.declared.error.CreditRunError.TheVariants as error

-- its transfer
transfer_is : (s : Sender Target) (tag : Tag) (settled : Bool) → s.snd_settle_mode ≡ mode.Mixed → new_transfer s zero_output tag (run_delivery settled) ≡ run_transfer settled tag
transfer_is s tag settled is = let t = run_transfer settled tag in ap (λ m. record t { settled = Some (settled_by_mode m (Some settled)) }) is

-- its room
worst_of : ℕ → ℕ
worst_of n = list_of (content (Some 1 ∷ Some 5 ∷ Some (text_len n) ∷ Some 1 ∷ Some 1 ∷ Some 1 ∷ None ∷ None ∷ None ∷ None ∷ None ∷ []))

worst-sent : (settled : Bool) (tag : Tag) → length tag ≡ 4 → worst (run_transfer settled tag) ≡ 21
unfolding transfer_len before list_of worst_of
worst-sent true tag four =
    let step : worst (run_transfer true tag) ≡ worst_of (length tag) = refl in
    step ∙ ap worst_of four
worst-sent false tag four =
    let step : worst (run_transfer false tag) ≡ worst_of (length tag) = refl in
    step ∙ ap worst_of four

room_by : (w frame len : ℕ) → w ≡ 21 → 29 ≤ frame → nat_le (4 + w + min 1 len) frame ≡ true
room_by w frame len e h = grind (arith, nat_tests)

length-next_tag : (s : Sender Target) → length (next_tag s) ≡ 4
length-next_tag s = grind arith

-- ---- the tests of the sender that can hold

-- no credit, or a pending tag
stop : Bool → Bool → Option SendStop
stop lacks pending = refusal (
    (false, refused link.IllegalState) ∷ (false, refused link.IllegalState) ∷ (lacks, missing_credit) ∷ (pending, refused link.TagPending)
    ∷ (false, refused link.NoRoom) ∷ [])

reason : Bool → Bool → Option CreditRunError
reason lacks pending = refusal ((lacks, error.CreditMissing) ∷ (pending, error.TagPending) ∷ [])

stop_is : (a b lacks pending c : Bool) (now : Bool) → a ≡ false → b ≡ false → now ≡ pending → c ≡ false
    → refusal ((a, refused link.IllegalState) ∷ (b, refused link.IllegalState) ∷ (lacks, missing_credit) ∷ (now, refused link.TagPending) ∷ (c, refused link.NoRoom) ∷ [])
    ≡ stop lacks pending
unfolding stop
stop_is a b lacks pending c now ha hb hn hc = rw (ha, hb, hn, hc) refl

no_stop : (lacks pending : Bool) → reason lacks pending ≡ None → stop lacks pending ≡ None
unfolding stop reason
no_stop true pending h = absurd (cc)
no_stop false true h = absurd (cc)
no_stop false false h = refl

module _ (s : Sender Target) (payload : List ℕ) (settled : Bool) (k : IsReadyToSend s) where
  abbrev lacks : Bool
  lacks = s.flow_state.link_credit == 0

  abbrev pending : Bool
  pending = not settled && is_some (entry_at s.unsettled (next_tag s))

  tests_are : refusal (payload_tests s (run_delivery settled) payload) ≡ stop lacks pending
  tests_are =
      let t : new_transfer s (unwrap_or s.output_handle zero_output) (next_tag s) (run_delivery settled) ≡ run_transfer settled (next_tag s) =
      ap (λ o. new_transfer s (unwrap_or o zero_output) (next_tag s) (run_delivery settled)) k.output ∙ transfer_is s (next_tag s) settled k.mode in
      stop_is _ _ _ _ _ _
      (ap is_none k.output)
      (ap is_none k.input)
      (ap (λ m. not (settled_by_mode m (Some settled)) && is_some (entry_at s.unsettled (next_tag s))) k.mode)
      (ap (λ t. not (has_room t s.max_frame_size payload)) t ∙ ap not (room_by (worst (run_transfer settled (next_tag s))) s.max_frame_size (length payload) (worst-sent settled (next_tag s) (length-next_tag s)) k.room))

  -- no test of the sender holds if none of the run does
  no_refusal : refusal (sending_tests_at_sender s settled) ≡ None → refusal (payload_tests s (run_delivery settled) payload) ≡ None
  unfolding reason
  no_refusal h = tests_are ∙ no_stop lacks pending h

-- ---- a send of a run

pub can_send : (w : CreditWorld) → IsCreditWorld w → IsReadyToSend w.sender
can_send w k = let a = k.attached in record { output = a.sender_output; input = a.sender_input; mode = a.mode; room = a.room }

rest_of_tests : {E : Type 0} (a : Bool) (p : E) (tests : List (Bool × E)) → refusal ((a, p) ∷ tests) ≡ None → refusal tests ≡ None
rest_of_tests true p tests h = absurd (cc)
rest_of_tests false p tests h = h

pub no_send_refusal : (w : CreditWorld) (payload : List ℕ) (settled : Bool) → IsCreditWorld w → refusal (sending_tests w payload settled) ≡ None → refusal (payload_tests w.sender (run_delivery settled) payload) ≡ None
no_send_refusal w payload settled k none =
    no_refusal w.sender payload settled (can_send w k) (rest_of_tests (nat_le (2 ^ 32) (length payload)) error.PayloadTooLong (sending_tests_at_sender w.sender settled) none)

some_if : (n : ℕ) → (n == 0) ≡ false → 0 < n
some_if n h = grind (arith, nat_tests)

two_tests : {E : Type 0} (a b : Bool) (p q : E) → refusal ((a, p) ∷ (b, q) ∷ []) ≡ None → a ≡ false
two_tests true b p q h = absurd (cc)
two_tests false b p q h = refl

-- a sender that refuses nothing has credit
pub has_credit : (s : Sender Target) (settled : Bool) → refusal (sending_tests_at_sender s settled) ≡ None → 0 < s.flow_state.link_credit
has_credit s settled none = some_if s.flow_state.link_credit (two_tests (s.flow_state.link_credit == 0) (not settled && is_some (entry_at s.unsettled (next_tag s))) _ _ none)
