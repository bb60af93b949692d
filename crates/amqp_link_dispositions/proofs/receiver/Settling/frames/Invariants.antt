use Rattle.std.proofs.Common.{◌≡◌, ◌++◌, map, drop}
use Rattle.amqp_link_dispositions.specs.DispositionFrames.{disposition_of_group}
use Rattle.amqp_link_dispositions.proofs.receiver.Settling.frames.Given as goal

-- the frames made and those that are left make the whole list
abbrev pub invariant-loop-group : goal.invariant-loop-group
invariant-loop-group l =
    l.frames.items ++ map (disposition_of_group l.self.given l.self.own l.state l.self.batchable) (drop l.group-index l.groups) ≡ map (disposition_of_group l.self.given l.self.own l.state l.self.batchable) l.groups
