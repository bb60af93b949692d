-- The dispositions that a sender sends, and the outcomes of its deliveries (OASIS AMQP 1.0 core, 2.6.12 and
-- 2.7.6). A sender in mode `Settled` sends none and has none.
use Rattle.std.specs.Prelude.{◌≡◌, ℕ, ◌&&◌, not, Bool, true, false, List, [], if◌then◌else◌}
use Rattle.amqp_link_types.specs.declared.frame.LinkFrame.{LinkFrame}
use Rattle.amqp_link_types.specs.declared.types.definitions.ReceiverSettleMode.{ReceiverSettleMode}
use Rattle.amqp_link_types.specs.declared.types.delivery_state.DeliveryState.{DeliveryState}
use Rattle.amqp_link_types.specs.Deliveries.{Ended}
use Rattle.amqp_link_types.specs.Entries.{Tag}
use Rattle.amqp_link_dispositions.specs.Ending.{ended_of, disposed}
use Rattle.amqp_link_dispositions.specs.DispositionFrames.{CoverRuns, settles_at_once}
use Rattle.amqp_link_sender.specs.Senders.{Sender, settles}

-- the frames are the dispositions of the runs of these ids; none if the first flag is set, as the mode is
-- `Settled`
abbrev pub DispositionsOfRuns : Bool → Bool → DeliveryState → Bool → List ℕ → List LinkFrame → Type 0
DispositionsOfRuns true settled state batchable ids frames = frames ≡ []
DispositionsOfRuns false settled state batchable ids frames = CoverRuns settled state batchable ids frames

-- a disposition asks for an echo if it does not settle and the receiver settles only after the sender
abbrev pub is_echoed : Bool → ReceiverSettleMode → Bool
is_echoed settled mode = not settled && not (settles_at_once mode)

module _ {T : Type 0} where
  abbrev pub Dispositions : Sender T → Bool → DeliveryState → Bool → List ℕ → List LinkFrame → Type 0
  Dispositions s settled state batchable ids frames = DispositionsOfRuns (settles s.snd_settle_mode) settled state batchable ids frames

  -- the outcomes
  abbrev pub ended_at : Sender T → Bool → List Tag → List Ended
  ended_at s settled tags = if settles s.snd_settle_mode then [] else ended_of settled tags s.unsettled

  -- and the sender afterwards
  abbrev pub after_disposing : Sender T → Bool → DeliveryState → List Tag → Sender T
  after_disposing s settled state tags =
      if settles s.snd_settle_mode then s else record s { unsettled = disposed settled state tags s.unsettled }
