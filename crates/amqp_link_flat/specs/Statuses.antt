-- The number of each refusal, by its name.
use Rattle.std.specs.Prelude.{◌≡◌, ◌≤◌, ◌⊎◌, ℕ}
use Rattle.amqp_link_types.specs.declared.types.errors.LinkStateError.{LinkStateError}
use Rattle.amqp_link_types.specs.declared.types.errors.LinkStateError.TheVariants as link
use Rattle.amqp_link_types.specs.declared.types.errors.DetachError.{DetachError}
use Rattle.amqp_link_types.specs.declared.types.errors.DetachError.TheVariants as detach
use Rattle.amqp_link_types.specs.declared.types.errors.ApplyRemoteDetachError.{ApplyRemoteDetachError}
use Rattle.amqp_link_types.specs.declared.types.errors.ApplyRemoteDetachError.TheVariants as apply_detach
use Rattle.amqp_link_types.specs.declared.types.errors.LinkRelayError.{LinkRelayError}
use Rattle.amqp_link_types.specs.declared.types.errors.LinkRelayError.TheVariants as relay
use Rattle.amqp_link_types.specs.declared.types.errors.SenderAttachError.{SenderAttachError}
use Rattle.amqp_link_types.specs.declared.types.errors.SenderAttachError.TheVariants as sender_attach
use Rattle.amqp_link_types.specs.declared.types.errors.ReceiverAttachError.{ReceiverAttachError}
use Rattle.amqp_link_types.specs.declared.types.errors.ReceiverAttachError.TheVariants as receiver_attach
use Rattle.amqp_link_types.specs.declared.types.errors.ReceiverTransferError.{ReceiverTransferError}
use Rattle.amqp_link_types.specs.declared.types.errors.ReceiverTransferError.TheVariants as transfer

-- the status of a refusal by a link
abbrev pub link_status : LinkStateError → ℕ
link_status link.IllegalState = 10
link_status link.RemoteDetached = 14
link_status (link.RemoteDetachedWithError with_it) = 15
link_status link.RemoteClosed = 16
link_status (link.RemoteClosedWithError with_it) = 17
link_status link.ExpectImmediateDetach = 18
link_status (link.SessionStopped with_it) = 19
link_status link.TagPending = 12
link_status link.NoRoom = 13
link_status link.OutOfMemory = 3

-- the status of a refused detach or close
abbrev pub detach_status : DetachError → ℕ
detach_status detach.IllegalState = 10
detach_status (detach.RemoteDetachedWithError with_it) = 15
detach_status (detach.RemoteClosedWithError with_it) = 17

-- the status of a detach of the peer that is refused, or that carries an error
abbrev pub apply_detach_status : ApplyRemoteDetachError → ℕ
apply_detach_status apply_detach.IllegalState = 10
apply_detach_status (apply_detach.RemoteDetachedWithError with_it) = 15
apply_detach_status (apply_detach.RemoteClosedWithError with_it) = 17

-- the status of a frame that is not passed on to its link
abbrev pub relay_status : LinkRelayError → ℕ
relay_status relay.UnattachedHandle = 35
relay_status relay.TransferFrameToSender = 36
relay_status relay.OutOfMemory = 3

-- the status of an attach that a sender refuses
abbrev pub sender_attach_status : SenderAttachError → ℕ
sender_attach_status (sender_attach.SessionStopped with_it) = 19
sender_attach_status sender_attach.SessionNotMapped = 20
sender_attach_status sender_attach.IllegalState = 10
sender_attach_status sender_attach.NonAttachFrameReceived = 21
sender_attach_status sender_attach.ExpectImmediateDetach = 18
sender_attach_status (sender_attach.RemoteClosedWithError with_it) = 17
sender_attach_status sender_attach.DuplicatedLinkName = 22
sender_attach_status sender_attach.CoordinatorIsNotImplemented = 23
sender_attach_status sender_attach.IncomingTargetIsNone = 24
sender_attach_status sender_attach.SndSettleModeNotSupported = 25
sender_attach_status sender_attach.SourceAddressIsSomeWhenDynamicIsTrue = 26
sender_attach_status sender_attach.TargetAddressIsNoneWhenDynamicIsTrue = 27
sender_attach_status sender_attach.DynamicNodePropertiesIsSomeWhenDynamicIsFalse = 28
sender_attach_status sender_attach.AttachTooLarge = 29
sender_attach_status sender_attach.OutOfMemory = 3

-- the status of an attach that a receiver refuses
abbrev pub receiver_attach_status : ReceiverAttachError → ℕ
receiver_attach_status (receiver_attach.SessionStopped with_it) = 19
receiver_attach_status receiver_attach.IllegalState = 10
receiver_attach_status receiver_attach.NonAttachFrameReceived = 21
receiver_attach_status receiver_attach.ExpectImmediateDetach = 18
receiver_attach_status (receiver_attach.RemoteClosedWithError with_it) = 17
receiver_attach_status receiver_attach.DuplicatedLinkName = 22
receiver_attach_status receiver_attach.IncomingSourceIsNone = 30
receiver_attach_status receiver_attach.InitialDeliveryCountIsNone = 31
receiver_attach_status receiver_attach.CoordinatorIsNotImplemented = 23
receiver_attach_status (receiver_attach.DesiredFilterNotSupported with_it) = 32
receiver_attach_status receiver_attach.SourceAddressIsNoneWhenDynamicIsTrue = 33
receiver_attach_status receiver_attach.TargetAddressIsSomeWhenDynamicIsTrue = 34
receiver_attach_status receiver_attach.DynamicNodePropertiesIsSomeWhenDynamicIsFalse = 28
receiver_attach_status receiver_attach.AttachTooLarge = 29
receiver_attach_status receiver_attach.OutOfMemory = 3

-- the status of a transfer that a receiver refuses
abbrev pub transfer_status : ReceiverTransferError → ℕ
transfer_status transfer.IllegalState = 10
transfer_status transfer.TransferLimitExceeded = 37
transfer_status transfer.DeliveryIdIsNone = 38
transfer_status transfer.DeliveryTagIsNone = 39
transfer_status transfer.IllegalRcvSettleModeInTransfer = 40
transfer_status transfer.InconsistentFieldInMultiFrameDelivery = 41
transfer_status transfer.PayloadTooLong = 42
transfer_status (transfer.MessageDecode with_it) = 43
transfer_status transfer.OutOfMemory = 3

-- the statuses for which a sender refuses what the peer's attach states, from a duplicated name to properties of a node
abbrev pub IsSenderRefusal : ℕ → Type 0
IsSenderRefusal status = (22 ≤ status) × (status ≤ 28)

-- the statuses for which a receiver does, without a filter that it asked for: that refusal carries a value
abbrev pub IsReceiverRefusal : ℕ → Type 0
IsReceiverRefusal status = ((22 ≤ status) × (status ≤ 23)) ⊎ (status ≡ 28)
    ⊎ ((30 ≤ status) × (status ≤ 31)) ⊎ ((33 ≤ status) × (status ≤ 34))
