-- What a caller that works with either endpoint knows from the traits: what an attach states of its endpoint,
-- and what an endpoint keeps (OASIS AMQP 1.0 core, 2.6.3 and 2.7.3).
use Rattle.std.specs.Prelude.{◌≡◌, [], Option, Some}
use Rattle.amqp_link_types.specs.declared.types.attach.Attach.{Attach}
use Rattle.amqp_link_types.specs.declared.types.delivery_state.DeliveryState.{DeliveryState}
use Rattle.amqp_link_types.specs.Entries.{Entries}
use Rattle.amqp_link_endpoint.specs.AttachFields.{message_limit}
use Rattle.amqp_link_endpoint.specs.Attaching.{IsDivided}
use Rattle.amqp_link_endpoint.specs.Shown.{Shown, count_stated, attach_stated, after_exchange}

-- the attach is that of the endpoint, at its output handle, with these deliveries
pub record IsStatedBy {D : Type 0} (s : Shown D) (entries : Entries (Option DeliveryState)) (attach : Attach) : Type 0 where
  pub name : attach.name ≡ s.name
  pub handle : s.output_handle ≡ Some (record { 0 = attach.handle.0 })
  pub role : attach.role ≡ s.role
  pub snd_settle_mode : attach.snd_settle_mode ≡ s.snd_settle_mode
  pub rcv_settle_mode : attach.rcv_settle_mode ≡ s.rcv_settle_mode
  pub source : attach.source ≡ s.source
  pub target : attach.target ≡ s.target
  pub count : attach.initial_delivery_count ≡ Some (count_stated s)
  pub limit : attach.max_message_size ≡ message_limit s.max_message_size
  pub offered : attach.offered_capabilities ≡ s.offered_capabilities
  pub desired : attach.desired_capabilities ≡ s.desired_capabilities
  pub properties : attach.properties ≡ s.flow_state.properties
  -- as many of the deliveries as fit a frame, and marked incomplete if that is not all
  pub unsettled : IsDivided (attach_stated s (record { 0 = attach.handle.0 })) entries s.max_frame_size attach

-- the endpoint keeps its name, its role, its frame limit and its deliveries
pub record Keeps {D : Type 0} (old new : Shown D) : Type 0 where
  pub name : new.name ≡ old.name
  pub role : new.role ≡ old.role
  pub frame_limit : new.max_frame_size ≡ old.max_frame_size
  pub unsettled : new.unsettled ≡ old.unsettled
  pub entries : new.entries ≡ old.entries

-- the endpoint keeps its name, its role and its frame limit, and none of its deliveries
pub record GivesUp {V : Type 0} (old new : Shown (Entries V)) : Type 0 where
  pub name : new.name ≡ old.name
  pub role : new.role ≡ old.role
  pub frame_limit : new.max_frame_size ≡ old.max_frame_size
  pub unsettled : new.unsettled ≡ []
  pub entries : new.entries ≡ []

-- the endpoint has taken an attach: it keeps its name, its role and its frame limit; a sender's deliveries
-- are resolved, a receiver's stay
pub record Takes {V : Type 0} (old new : Shown (Entries V)) : Type 0 where
  pub name : new.name ≡ old.name
  pub role : new.role ≡ old.role
  pub frame_limit : new.max_frame_size ≡ old.max_frame_size
  pub unsettled : new.unsettled ≡ after_exchange old.role old.unsettled
  pub entries : new.entries ≡ after_exchange old.role old.entries
