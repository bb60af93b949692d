use Rattle.std.proofs.Common.{◌≡◌, ◌+◌, ◌-◌, ◌∙◌, ◌<◌, ◌≤◌, length, get_or, sym, subst, arith}
use Rattle.amqp_link_payloads.specs.Scan.{Keeps}
use Rattle.amqp_link_payloads.proofs.TailLemmas.{before, before_next}
use Rattle.amqp_link_payloads.proofs.ScanLemmas.{kept_at_once, kept_as, kept_byte, found_at}
use Rattle.amqp_link_payloads.proofs.position.scan.scan_each.Goals as goal
use Rattle.amqp_link_payloads.proofs.position.scan.scan_each.Goals.{then-header-gt0, else-header-gt0}

pub loop-i-init : goal.loop-i-init
loop-i-init g c = λ aim F next keeps. keeps

pub loop-i-preserved : goal.loop-i-preserved
loop-i-preserved g c = λ aim F next keeps.
    let xs = c.args.bytes.now in
    let i = c.loop-i.i in
    let n = c.args.before + (i - 9) in
    let nine : 9 ≤ i = omega (arith, c.requires.head, c.loop-i.auto.i) in
    let within : i < length xs = omega (arith, c.loop-i-test.true, c.requires.within) in
    let more : n + 1 ≡ c.args.before + (i + 1 - 9) = omega arith in
    let here : Keeps (g.S.Starts.has aim) c.loop-i.next (before F xs i) n = c.loop-i.invariant aim F next keeps in
    elim c.if-header-gt0.branch [
      | then-header-gt0 w ↦
          let found = found_at F xs i c.header_before-header.result next nine within c.header_before-header.ensures w.if-header-gt0.true in
          subst (λ s. Keeps (g.S.Starts.has aim) s (before F xs (i + 1)) (c.args.before + (i + 1 - 9))) (sym w.next-is)
          (kept_as (g.S.Starts.has aim) w.start-next.result _ (before F xs (i + 1)) (n + 1) (c.args.before + (i + 1 - 9)) (before_next F xs i nine within) more
          (w.start-next.ensures aim (before F xs i) (get_or xs i 0) found.0 (kept_at_once (g.S.Starts.has aim) c.loop-i.next (before F xs i) n here) found.1 found.2 found.3))
      | else-header-gt0 w ↦
          subst (λ s. Keeps (g.S.Starts.has aim) s (before F xs (i + 1)) (c.args.before + (i + 1 - 9))) (sym w.next-is)
          (kept_byte (g.S.Starts.has aim) c.loop-i.next F xs i n (c.args.before + (i + 1 - 9)) next nine within more
          (sym c.header_before-header.ensures ∙ omega (arith, w.if-header-gt0.false)) here)
    ]

pub returns : goal.returns
returns g c = λ aim F next keeps.
    let xs = c.args.bytes.now in
    let end : c.loop-i.i ≡ c.args.to = omega (arith, c.loop-i-test.false, c.loop-i.auto.i-end c.requires.order) in
    subst (λ k. Keeps (g.S.Starts.has aim) c.loop-i.next (before F xs k) (c.args.before + (k - 9))) end (c.loop-i.invariant aim F next keeps)
