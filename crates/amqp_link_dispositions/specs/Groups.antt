-- Runs of delivery ids of one mode (OASIS AMQP 1.0 core, 2.7.6): a receiver's disposition settles all its
-- deliveries or none, so they have one mode.
use Rattle.std.specs.Prelude.{◌≡◌, ℕ, ◌+◌, ◌≤◌, List, map, flat_map, Option}
use Rattle.std.specs.List.{AllByRecursion}
use Rattle.amqp_link_runs.specs.Runs.{Neighbours, written_out}
use Rattle.amqp_link_types.specs.declared.types.definitions.ReceiverSettleMode.{ReceiverSettleMode}
use Rattle.amqp_link_types.specs.Deliveries.{Info}
use Rattle.amqp_link_dispositions.specs.declared.groups.Group.{Group}

-- the id of a delivery, and its mode if it has one of its own
abbrev pub Numbered : Type 0
Numbered = ℕ × Option ReceiverSettleMode

abbrev pub numbered : Info → Numbered
numbered info = (info.delivery_id, info.rcv_settle_mode)

-- each id of the run, in the group's mode
abbrev pub group_out : Group → List Numbered
group_out group = map (λ id. (id, group.mode)) (written_out group.run)

-- the second group does not continue the first: it begins with another id than the next, or has another mode
abbrev pub AreParted : Group → Group → Type 0
AreParted group next = next.run.first ≡ group.run.last + 1 → next.mode ≡ group.mode → ⊥

-- The groups, written out, are the deliveries in order, and no two neighbours could be joined.
pub record AreGroups (deliveries : List Numbered) (groups : List Group) : Type 0 where
  pub not_empty : AllByRecursion (λ group. group.run.first ≤ group.run.last) groups
  pub all : flat_map group_out groups ≡ deliveries
  pub longest : Neighbours AreParted groups
