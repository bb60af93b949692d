use Rattle.std.proofs.Common.{◌≡◌, ◌+◌, ◌-◌, ◌*◌, ◌/◌, ◌<◌, ◌≤◌, ◌++◌, ℕ, length, get_or, take, drop, sym, ap, subst, arith, false}
use Rattle.std.proofs.lemmas.List.{append-nil, length-drop, take_all}
use Rattle.amqp_link_payloads.specs.Header.{may_end}
use Rattle.amqp_link_payloads.specs.Scan.{Keeps}
use Rattle.amqp_link_payloads.proofs.TailLemmas.{before, block_none}
use Rattle.amqp_link_payloads.proofs.ScanLemmas.{kept_as, kept_block}
use Rattle.amqp_link_payloads.proofs.position.scan.scan.Goals as goal
use Rattle.amqp_link_payloads.proofs.position.scan.scan.Goals.{then-may_hold_end, else-may_hold_end}

pub loop-i-init : goal.loop-i-init
loop-i-init g c = λ aim F next keeps. kept_as (g.S.Starts.has aim) c.args.starts F _ c.args.before _ (sym (append-nil F)) (omega arith) keeps

pub loop-i-preserved : goal.loop-i-preserved
loop-i-preserved g c = λ aim F next keeps.
    let xs = c.args.bytes.now in
    let n : ℕ = c.loop-i.i * 32 in
    let from : ℕ = 9 + n in
    let within : from + 32 ≤ length xs = omega (arith, c.loop-i-test.true, c.requires.head) in
    let here : Keeps (g.S.Starts.has aim) c.loop-i.next (before F xs from) (c.args.before + n)
    = kept_as (g.S.Starts.has aim) c.loop-i.next _ (before F xs from) (c.args.before + n) (c.args.before + n)
    (ap (λ k. F ++ take k (drop 9 xs)) (let sum : n ≡ from - 9 = omega arith in sum)) (omega arith) (c.loop-i.invariant aim F next keeps) in
    let done : (s : g.row.S.Denot) → Keeps (g.S.Starts.has aim) s (before F xs (from + 32)) (c.args.before + (from + 32 - 9))
    → Keeps (g.S.Starts.has aim) s (F ++ take ((c.loop-i.i + 1) * 32) (drop 9 xs)) (c.args.before + (c.loop-i.i + 1) * 32)
    = λ s there. kept_as (g.S.Starts.has aim) s (before F xs (from + 32)) _ _ _
    (ap (λ k. F ++ take k (drop 9 xs)) (let sum : from + 32 - 9 ≡ (c.loop-i.i + 1) * 32 = omega arith in sum)) (omega arith) there in
    elim c.if-may_hold_end.branch [
      | then-may_hold_end w ↦
          done c.if-may_hold_end.next (subst (λ s. Keeps (g.S.Starts.has aim) s (before F xs (from + 32)) (c.args.before + (from + 32 - 9))) (sym w.next-is)
          (w.scan_each-next.ensures aim F next
          (kept_as (g.S.Starts.has aim) c.loop-i.next (before F xs from) (before F xs from) (c.args.before + n) _ (ap (before F xs) (let same : from ≡ from = omega arith in same)) (omega arith) here)))
      | else-may_hold_end w ↦
          done c.if-may_hold_end.next (subst (λ s. Keeps (g.S.Starts.has aim) s (before F xs (from + 32)) (c.args.before + (from + 32 - 9))) (sym w.next-is)
          (kept_block (g.S.Starts.has aim) c.loop-i.next F xs from 32 (c.args.before + n) (c.args.before + (from + 32 - 9)) next (omega arith) within (omega arith)
          (λ j lo hi. block_none xs from 32 j (omega arith) lo hi within
          (subst (λ m. (k : ℕ) → 2 ≤ k → k < length (take m (drop (from - 2) xs)) → may_end (get_or (take m (drop (from - 2) xs)) (k - 2) 0) (get_or (take m (drop (from - 2) xs)) k 0) ≡ false)
          (let sum : from + 32 - (from - 2) ≡ 32 + 2 = omega arith in sum) (c.may_hold_end.ensures w.if-may_hold_end.false))) here))
    ]

pub returns : goal.returns
returns g c = λ aim F next keeps.
    let xs = c.args.bytes.now in
    let blocks : ℕ = (length xs - 9) / 32 in
    let end : c.loop-i.i ≡ blocks = omega (arith, c.loop-i-test.false, c.loop-i.auto.i-end) in
    let from : ℕ = 9 + blocks * 32 in
    let here : Keeps (g.S.Starts.has aim) c.loop-i.next (F ++ take (blocks * 32) (drop 9 xs)) (c.args.before + blocks * 32)
    = subst (λ i. Keeps (g.S.Starts.has aim) c.loop-i.next (F ++ take (i * 32) (drop 9 xs)) (c.args.before + i * 32)) end (c.loop-i.invariant aim F next keeps) in
    kept_as (g.S.Starts.has aim) c.scan_each.result (before F xs (length xs)) (F ++ drop 9 xs) _ _
    (ap (λ ys. F ++ ys) (take_all (length xs - 9) (drop 9 xs) (omega (arith, length-drop 9 xs)))) (omega arith)
    (c.scan_each.ensures aim F next
    (kept_as (g.S.Starts.has aim) c.loop-i.next _ (before F xs from) _ (c.args.before + (from - 9))
    (ap (λ k. F ++ take k (drop 9 xs)) (let sum : blocks * 32 ≡ from - 9 = omega arith in sum)) (omega arith) here))
