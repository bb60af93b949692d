-- What an inbox keeps of a delivery, and what a transfer makes of that (OASIS AMQP 1.0 core, 2.6.12 and 2.7.5).
use Rattle.std.specs.Prelude.{◌≡◌, ◌++◌, ◌||◌, ◌==◌, not, Bool, true, false, ℕ, List, [], ◌∷◌, Option, Some, None, length, take, if◌then◌else◌}
use Rattle.amqp_link_payloads.specs.Position.{place}
use Rattle.amqp_link_types.specs.declared.types.delivery_state.DeliveryState.{DeliveryState}
use Rattle.amqp_link_types.specs.declared.types.delivery_state.DeliveryState.TheVariants.{Received}
use Rattle.amqp_link_types.specs.declared.types.errors.ReceiverTransferError.TheVariants.{InconsistentFieldInMultiFrameDelivery}
use Rattle.amqp_link_types.specs.declared.types.transfer.Transfer.{Transfer}
use Rattle.amqp_link_core.specs.Held.{Held, held_bytes}
use Rattle.amqp_link_core.specs.IncompleteRefusals.{Test, add_tests}
use Rattle.amqp_link_core.specs.Merging.{Came, Merged}
use Rattle.amqp_link_receiver.specs.ReceiverDeliveries.{is_settled}
use Rattle.amqp_link_inbox.specs.declared.kept.Contents.{Contents}
use Rattle.amqp_link_inbox.specs.declared.kept.Contents.TheVariants as contents
use Rattle.amqp_link_inbox.specs.declared.kept.Kept.{Kept}
use Rattle.amqp_link_inbox.specs.declared.kept.Stage.{Stage}
use Rattle.amqp_link_inbox.specs.declared.kept.Stage.TheVariants as stage

-- ---- how far it has come

abbrev pub stage_in : Contents → Stage
stage_in (contents.Begun held) = stage.Begun
stage_in (contents.Complete held) = stage.Complete
stage_in contents.Taken = stage.Taken

abbrev pub stage_of : Kept → Stage
stage_of kept = stage_in kept.contents

abbrev pub has_begun : Contents → Bool
has_begun (contents.Begun held) = true
has_begun _ = false

-- its last transfer has arrived
abbrev pub completed : Contents → Contents
completed (contents.Begun held) = contents.Complete held
completed (contents.Complete held) = contents.Complete held
completed contents.Taken = contents.Taken

-- ---- a transfer that begins it

-- what is kept of it once the transfer that is held has arrived
abbrev pub first_kept : Held → Bool → Kept
first_kept held more = record {
  contents = if more then contents.Begun held else contents.Complete held;
  settled = is_settled held.performative;
  id = held.performative.delivery_id;
  mode = held.performative.rcv_settle_mode;
}

-- ---- where a resumption starts

-- the position that a state names
abbrev pub position_in : Option DeliveryState → Option (ℕ × ℕ)
position_in (Some (Received number offset)) = Some (number, offset)
position_in _ = None

-- The position from which a transfer resumes its delivery, if it says so: the first one in an attachment does, by its state
-- (3.4.1).
abbrev pub start_of : Bool → Transfer → Option (ℕ × ℕ)
start_of true t = position_in t.state
start_of false t = None

-- the bytes before a position: all of them, where there is none, or where they have no such place
abbrev pub bytes_to : Option ℕ → List ℕ → List ℕ
bytes_to None bytes = bytes
bytes_to (Some place) bytes = take place bytes

abbrev pub bytes_until : Option (ℕ × ℕ) → List ℕ → List ℕ
bytes_until None bytes = bytes
bytes_until (Some start) bytes = bytes_to (place bytes start.0 start.1) bytes

-- what is held of a delivery before that position
abbrev pub held_until : Option (ℕ × ℕ) → Held → Held
held_until start held = record held { pieces = bytes_until start (held_bytes held) ∷ [] }

-- ---- a further transfer

-- What is held once the transfer is added: its bytes follow those before the place where it starts, and its fields are merged
-- with those of the transfers before.
pub record Joins (begins : Bool) (t : Transfer) (bytes : List ℕ) (old new : Held) : Type 0 where
  pub joined : held_bytes new ≡ bytes_until (start_of begins t) (held_bytes old) ++ bytes
  pub fields : (came : List Came) → Merged came old.performative
      → Merged (came ++ record { opens = begins; transfer = t } ∷ []) new.performative

-- The same of a delivery that has begun; a complete one stays as it is, and the transfer has no bytes.
abbrev pub Grows : Bool → Transfer → List ℕ → Contents → Contents → Type 0
Grows begins t bytes (contents.Begun old) new = (held : Held) × Joins begins t bytes old held × (new ≡ contents.Begun held)
Grows begins t bytes old new = (new ≡ old) × (bytes ≡ [])

-- a delivery of which no more is to come is complete
abbrev pub finished : Bool → Contents → Contents
finished true contents = contents
finished false contents = completed contents

-- what is kept once the transfer is added; one that begins a delivery in this attachment gives it its id
pub record IsAdded (begins : Bool) (t : Transfer) (bytes : List ℕ) (old new : Kept) : Type 0 where
  pub grown : Contents
  pub grows : Grows begins t bytes old.contents grown
  pub contents : new.contents ≡ finished t.more grown
  pub settled : new.settled ≡ (old.settled || is_settled t)
  pub id : new.id ≡ (if begins then t.delivery_id else old.id)
  pub mode : new.mode ≡ old.mode

-- why the transfer is refused: as a further one of a delivery that has begun, or since it has bytes of one that is
-- complete
abbrev pub empty_test : List ℕ → List Test
empty_test bytes = (not (length bytes == 0), InconsistentFieldInMultiFrameDelivery) ∷ []

abbrev pub tests_in : Bool → Contents → Transfer → List ℕ → List Test
tests_in begins (contents.Begun held) t bytes = add_tests begins (held_until (start_of begins t) held) t bytes
tests_in begins _ t bytes = empty_test bytes

abbrev pub addition_tests : Bool → Kept → Transfer → List ℕ → List Test
addition_tests begins kept t bytes = tests_in begins kept.contents t bytes
