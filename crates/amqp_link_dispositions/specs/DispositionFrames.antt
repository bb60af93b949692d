-- The dispositions that an endpoint sends (OASIS AMQP 1.0 core, 2.7.6).
use Rattle.std.specs.Prelude.{◌≡◌, ℕ, ◌+◌, ◌-◌, ◌==◌, Bool, true, false, List, [], map, Option, Some, None, unwrap_or, if◌then◌else◌}
use Rattle.std.specs.List.{range_with_len}
use Rattle.amqp_link_runs.specs.declared.Run.{Run}
use Rattle.amqp_link_runs.specs.Runs.{Runs}
use Rattle.amqp_link_types.specs.declared.frame.LinkFrame.{LinkFrame}
use Rattle.amqp_link_types.specs.declared.frame.LinkFrame.TheVariants as frame
use Rattle.amqp_link_types.specs.declared.types.definitions.ReceiverSettleMode.{ReceiverSettleMode}
use Rattle.amqp_link_types.specs.declared.types.definitions.ReceiverSettleMode.TheVariants.{First, Second}
use Rattle.amqp_link_types.specs.declared.types.definitions.Role.{Role}
use Rattle.amqp_link_types.specs.declared.types.definitions.Role.TheVariants as role
use Rattle.amqp_link_types.specs.declared.types.delivery_state.DeliveryState.{DeliveryState}
use Rattle.amqp_link_types.specs.Deliveries.{Info}
use Rattle.amqp_link_dispositions.specs.declared.groups.Group.{Group}
use Rattle.amqp_link_dispositions.specs.Groups.{AreGroups, numbered}

-- the disposition of one delivery, or of those from the first id to the last
abbrev pub disposition_frame : Role → ℕ → Option ℕ → Bool → DeliveryState → Bool → LinkFrame
disposition_frame role first last settled state batchable = frame.Disposition (record {
  role = role;
  first = first;
  last = last;
  settled = settled;
  state = Some state;
  batchable = batchable;
})

-- the ids that a disposition covers: from the first to the last, or the first alone if there is no last
abbrev pub numbers_named_by : LinkFrame → List ℕ
numbers_named_by (frame.Disposition d) = range_with_len d.first (unwrap_or d.last d.first + 1 - d.first)
numbers_named_by _ = []

-- ---- a sender

-- the disposition of a run; the last id is left out if it is the first
abbrev pub disposition_of_run : Bool → DeliveryState → Bool → Run → LinkFrame
disposition_of_run settled state batchable run =
    disposition_frame role.Sender run.first (if run.first == run.last then None else Some run.last) settled state batchable

-- the frames are the dispositions of the runs of these ids, which are sorted first
pub record CoverRuns (settled : Bool) (state : DeliveryState) (batchable : Bool) (ids : List ℕ) (frames : List LinkFrame) : Type 0 where
  pub runs : List Run
  pub are_runs : Runs ids runs
  pub each : frames ≡ map (disposition_of_run settled state batchable) runs

-- ---- a receiver

-- a receiver in this mode settles deliveries as they arrive, by itself
abbrev pub settles_at_once : ReceiverSettleMode → Bool
settles_at_once First = true
settles_at_once Second = false

-- whether a delivery is settled: as its user passes, otherwise by its own mode, otherwise by the link's
abbrev pub is_settled_by : Option Bool → ReceiverSettleMode → Option ReceiverSettleMode → Bool
is_settled_by given own mode = unwrap_or given (settles_at_once (unwrap_or mode own))

-- the disposition of a group; it always has the last id
abbrev pub disposition_of_group : Option Bool → ReceiverSettleMode → DeliveryState → Bool → Group → LinkFrame
disposition_of_group given own state batchable group =
    disposition_frame role.Receiver group.run.first (Some group.run.last) (is_settled_by given own group.mode) state batchable

-- the frames are the dispositions of the groups of these deliveries, in this order
pub record CoverGroups (given : Option Bool) (own : ReceiverSettleMode) (state : DeliveryState) (batchable : Bool) (infos : List Info) (frames : List LinkFrame) : Type 0 where
  pub groups : List Group
  pub are_groups : AreGroups (map numbered infos) groups
  pub each : frames ≡ map (disposition_of_group given own state batchable) groups
