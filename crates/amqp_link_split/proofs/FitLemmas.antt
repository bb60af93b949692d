-- The frames of a split payload fit the frame limit: no transfer is longer than the one that was measured.
use Rattle.std.proofs.Common.{◌≡◌, sym, subst, ℕ, ◌+◌, ◌-◌, ◌^◌, ◌≤◌, ◌==◌, Bool, true, false, nat_lt, List, [], length, map, All, Option, Some, None, arith}
use Rattle.std.specs.Prelude.{slice_index_or, if◌then◌else◌, option_map}
use Rattle.std.proofs.lemmas.Bool.Decides.{nat_tests}
use Rattle.std.proofs.lemmas.List.{length-map, get_or-map}
use Rattle.amqp_link_types.specs.declared.types.transfer.Transfer.{Transfer}
use Rattle.amqp_link_types.specs.declared.types.definitions.InputHandle.{InputHandle}
use Rattle.amqp_link_types.specs.declared.types.definitions.ReceiverSettleMode.{ReceiverSettleMode}
use Rattle.amqp_link_types.specs.declared.frame.LinkFrame.{LinkFrame}
use Rattle.amqp_link_types.specs.Frames.{cleared, frame_of, payload_of, AreFramesOf}
use Rattle.amqp_link_types.specs.Size.{before, list_of, transfer_len, flag, mode_len}
use Rattle.amqp_link_values.specs.Length.{uint_len, bytes_len, bool_len}
use Rattle.amqp_link_split.specs.Fitting.{outgoing, frame_len, IsFitting}
use Rattle.amqp_link_split.specs.Room.{has_room, payload_limit, worst}
use Rattle.amqp_link_split.specs.Split.{IsSplit, IsFewestPieces}
use Rattle.amqp_link_split.proofs.FrameLemmas.{first_with, further_with}
use Rattle.amqp_link_split.proofs.SplitLemmas.{Least-IsSplit, short_pieces}

-- ---- a field that is left out, or a mark that is not set, makes no list longer

kept : (f : Option ℕ) (m n : ℕ) → m ≤ n → before f m ≤ before f n
unfolding before
kept None m n h = grind (arith, nat_tests)
kept (Some k) m n h = omega arith

left_out : {A : Type 0} (len : A → ℕ) (o : Option A) (m n : ℕ) → ((a : A) → 1 ≤ len a) → m ≤ n
    → before None m ≤ before (option_map len o) n
unfolding before
left_out len None m n some h = grind (arith, nat_tests)
left_out len (Some a) m n some h = grind (arith, nat_tests, some a)

marked : (more : Bool) (m n : ℕ) → m ≤ n → before (flag more) m ≤ before (flag true) n
unfolding before
marked true m n h = omega arith
marked false m n h = grind (arith, nat_tests)

listed : (m n : ℕ) → m ≤ n → list_of m ≤ list_of n
unfolding list_of
listed m n h = grind (arith, nat_tests)

some_uint : (n : ℕ) → 1 ≤ uint_len n
some_uint n = grind (arith, nat_tests)

some_bytes : (bytes : List ℕ) → 1 ≤ bytes_len bytes
some_bytes bytes = grind (arith, nat_tests)

some_bool : (b : Bool) → 1 ≤ bool_len b
some_bool b = omega arith

some_mode : (mode : ReceiverSettleMode) → 1 ≤ mode_len mode
some_mode mode = omega arith

-- ---- no transfer of a delivery is longer than the one that was measured

first_len : (t : Transfer) (more : Bool) → transfer_len (record t { delivery_id = Some (2 ^ 32 - 1); more = more }) ≤ worst t
unfolding transfer_len
first_len t more = listed _ _ (kept _ _ _ (kept _ _ _ (kept _ _ _ (kept _ _ _ (kept _ _ _ (marked more _ _ (omega arith)))))))

further_len : (t : Transfer) (more : Bool) → transfer_len (record (cleared t) { more = more }) ≤ worst t
unfolding transfer_len
further_len t more = listed _ _ (kept _ _ _ (
    left_out uint_len (Some (2 ^ 32 - 1)) _ _ some_uint (
    left_out bytes_len t.delivery_tag _ _ some_bytes (
    left_out uint_len t.message_format _ _ some_uint (
    left_out bool_len t.settled _ _ some_bool (
    marked more _ _ (left_out mode_len t.rcv_settle_mode _ _ some_mode (omega arith))))))))

pub frame_fits : (handle : InputHandle) (t : Transfer) (i n : ℕ) (p : List ℕ) → transfer_len (outgoing (frame_of handle t i n p)) ≤ worst t
frame_fits handle t i n p =
    let more : Bool = nat_lt (i + 1) n in
    elim (i == 0) as (λ b. transfer_len (outgoing (if b then first_with handle t more p else further_with handle (cleared t) more p)) ≤ worst t) [
      | true ↦ first_len t more
      | false ↦ further_len t more
    ]

-- the frames of a transfer for which there is room, whose payloads are a split at the payload limit
module _ (handle : InputHandle) (t : Transfer) (limit : ℕ) (P : List ℕ) (frames : List LinkFrame) (room : has_room t limit P ≡ true)
    (split : IsSplit P (payload_limit t limit) (map payload_of frames)) (each : AreFramesOf handle t frames) where
  filled : 4 + worst t + payload_limit t limit ≤ limit
  filled = grind (arith, nat_tests, room)

  within : All (λ f. frame_len f ≤ limit) frames
  within i d h =
      let f : LinkFrame = slice_index_or frames i d in
      let transfer : transfer_len (outgoing f) ≤ worst t =
      subst (λ g. transfer_len (outgoing g) ≤ worst t) (sym (each i d h)) (frame_fits handle t i (length frames) (payload_of f)) in
      let piece : length (payload_of f) ≤ payload_limit t limit =
      subst (λ p. length p ≤ payload_limit t limit) (get_or-map payload_of frames i d [] h)
      (short_pieces P _ (map payload_of frames) split i [] (omega (arith, length-map frames payload_of))) in
      omega (arith, transfer, piece, filled)

  pub they_fit : IsFitting t limit P frames
  they_fit = record {
    within = within;
    fewest = subst (IsFewestPieces P (payload_limit t limit)) (length-map frames payload_of) (Least-IsSplit P _ (map payload_of frames) split);
  }
