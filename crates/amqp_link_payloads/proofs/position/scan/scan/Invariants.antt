use Rattle.std.proofs.Common.{ℕ, List, ◌++◌, ◌+◌, ◌*◌, take, drop}
use Rattle.amqp_link_payloads.specs.Scan.{Keeps, IsNext}
use Rattle.amqp_link_payloads.proofs.position.scan.scan.Given as goal

abbrev pub invariant-loop-i : goal.invariant-loop-i
invariant-loop-i g l = (aim : ℕ) (F : List ℕ) → IsNext F l.bytes → Keeps (g.S.Starts.has aim) l.fn.starts F l.before
    → Keeps (g.S.Starts.has aim) l.next (F ++ take (l.i * 32) (drop 9 l.bytes)) (l.before + l.i * 32)
