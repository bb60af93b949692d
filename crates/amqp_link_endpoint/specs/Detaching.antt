-- The results of the calls that take a detach (OASIS AMQP 1.0 core, 2.6.4 to 2.6.6 and 2.7.7).
use Rattle.std.specs.Prelude.{Bool, true, false, Option, Some, None, Result, Ok, Err}
use Rattle.amqp_link_types.specs.declared.frame.LinkFrame.{LinkFrame}
use Rattle.amqp_link_types.specs.declared.frame.LinkFrame.TheVariants as frame
use Rattle.amqp_link_types.specs.declared.types.definitions.Error.{Error}
use Rattle.amqp_link_types.specs.declared.types.definitions.OutputHandle.{OutputHandle}
use Rattle.amqp_link_types.specs.declared.types.errors.DetachError.{DetachError}
use Rattle.amqp_link_types.specs.declared.types.errors.DetachError.TheVariants as detach
use Rattle.amqp_link_types.specs.declared.types.errors.ApplyRemoteDetachError.{ApplyRemoteDetachError}
use Rattle.amqp_link_types.specs.declared.types.errors.ApplyRemoteDetachError.TheVariants as apply

-- the detach that is sent
abbrev pub detach_frame : OutputHandle → Bool → Option Error → LinkFrame
detach_frame handle closed error =
    frame.Detach (record { handle = record { 0 = handle.0 }; closed = closed; error = error })

-- the result of a detach that was recorded: its error, if it carries one
abbrev pub recorded : {E : Type 0} → (Bool → Error → E) → Bool → Option Error → Result (Unit {0}) E
recorded name closed None = Ok tt
recorded name closed (Some error) = Err (name closed error)

-- the error that a reply carries, by whether it closes the link
abbrev pub reply_error : Bool → Error → DetachError
reply_error true error = detach.RemoteClosedWithError error
reply_error false error = detach.RemoteDetachedWithError error

-- the error that a detach carries which the peer initiated
abbrev pub remote_error : Bool → Error → ApplyRemoteDetachError
remote_error true error = apply.RemoteClosedWithError error
remote_error false error = apply.RemoteDetachedWithError error
