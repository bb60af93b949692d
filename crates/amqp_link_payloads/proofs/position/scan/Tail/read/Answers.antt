use Rattle.std.proofs.Common.{◌≡◌, ◌+◌, ◌-◌, ◌∙◌, ◌<◌, ◌≤◌, ◌++◌, List, ℕ, length, take, drop, refl, sym, ap, subst, arith}
use Rattle.std.proofs.lemmas.List.{length-drop, length-take-le, take_all, take_rest}
use Rattle.amqp_link_payloads.specs.Scan.{Keeps, IsNext}
use Rattle.amqp_link_payloads.specs.Tail.{blanked, recent}
use Rattle.amqp_link_payloads.proofs.JointLemmas.{follows, head_size, head_read, head_next, head_last, still_new, rest_read, rest_next, rest_last}
use Rattle.amqp_link_payloads.proofs.ScanLemmas.{kept_at_once, kept_as}
use Rattle.amqp_link_payloads.proofs.position.scan.Tail.read.Goals as goal
use Rattle.amqp_link_payloads.proofs.position.scan.Tail.read.Goals.{then-piece-le-HEAD, else-piece-le-HEAD}

pub returns : goal.returns
returns g c = λ aim F is keeps.
    let P = c.args.piece.now in
    let t = c.args.self in
    let h : ℕ = c.min-head.result in
    let front : List ℕ = take h P in
    let few : h ≤ length P = omega (arith, c.min-head.ensures) in
    let ten : h ≤ 10 = omega (arith, c.min-head.ensures) in
    let size : length front ≡ h = length-take-le h P few in
    let bytes : List ℕ = take (9 + h) c.joint-joint.result in
    let joined : bytes ≡ t.last ++ follows t.is_new front
    = ap (λ n. take (9 + n) c.joint-joint.result) (sym size) ∙ c.joint-joint.ensures in
    let read : blanked F ++ drop 9 bytes ≡ blanked (F ++ front) = head_read t F is front bytes joined in
    let more : length bytes - 9 ≡ h = omega (arith, head_size t F is front bytes joined, size) in
    let first : Keeps (g.S.Starts.has aim) c.scan-next.result (blanked (F ++ front)) h
    = kept_as (g.S.Starts.has aim) c.scan-next.result (blanked F ++ drop 9 bytes) (blanked (F ++ front)) (0 + (length bytes - 9)) h
    read (omega (arith, more)) (c.scan-next.ensures aim (blanked F) (head_next t F is front bytes joined) keeps) in
    let done : (Keeps (g.S.Starts.has aim) c.if-piece-le-HEAD.next (blanked (F ++ P)) (length P)) × (c.if-piece-le-HEAD.last ≡ recent 9 (blanked (F ++ P)))
    = elim c.if-piece-le-HEAD.branch [
      | then-piece-le-HEAD w ↦
          let all : h ≡ length P = omega (arith, c.min-head.ensures, w.if-piece-le-HEAD.true) in
          let whole : front ≡ P = take_all h P (omega (arith, all)) in
          let nine : h + 9 - h ≡ 9 = omega arith in (
            subst (λ s. Keeps (g.S.Starts.has aim) s (blanked (F ++ P)) (length P)) (sym w.next-is)
                (kept_as (g.S.Starts.has aim) c.scan-next.result (blanked (F ++ front)) (blanked (F ++ P)) h (length P) (ap (λ ys. blanked (F ++ ys)) whole) all first),
            w.last-is ∙ w.copy_from_slice.ensures.after ∙ ap (λ n. take n (drop h c.joint-joint.result)) nine
                ∙ head_last t F is front bytes joined c.joint-joint.result h (sym size) refl ∙ ap (λ ys. recent 9 (blanked (F ++ ys))) whole,
          )
      | else-piece-le-HEAD w ↦
          let long : 10 < length P = omega (arith, w.if-piece-le-HEAD.false) in
          let all : h ≡ 10 = omega (arith, c.min-head.ensures, long) in
          let rest : take (length P - 1) (drop 1 P) ≡ drop 1 P = take_rest P 1 in
          let here : Keeps (g.S.Starts.has aim) c.scan-next.result (blanked (F ++ take 10 P)) 10
          = kept_as (g.S.Starts.has aim) c.scan-next.result (blanked (F ++ front)) (blanked (F ++ take 10 P)) h 10 (ap (λ n. blanked (F ++ take n P)) all) all first in (
            subst (λ s. Keeps (g.S.Starts.has aim) s (blanked (F ++ P)) (length P)) (sym w.next-is)
                (kept_as (g.S.Starts.has aim) w.scan-next-else-piece-le-HEAD.result (blanked (F ++ take 10 P) ++ drop 9 (take (length P - 1) (drop 1 P))) (blanked (F ++ P)) _ (length P)
                (ap (λ ys. blanked (F ++ take 10 P) ++ drop 9 ys) rest ∙ rest_read F P long)
                (omega (arith, ap length rest, length-drop 1 P, long))
                (w.scan-next-else-piece-le-HEAD.ensures aim (blanked (F ++ take 10 P))
                (subst (λ ys. IsNext (blanked (F ++ take 10 P)) ys) (sym rest) (rest_next F P long)) here)),
            w.last-is ∙ w.copy_from_slice-else-piece-le-HEAD.ensures.after ∙ take_rest P (length P - 9) ∙ rest_last F P long,
          )
    ] in (
      record { last_is = done.1; new_is = still_new t F is P c.is_empty.result c.is_empty.ensures },
      c.after.ensures aim (blanked (F ++ P)) (kept_at_once (g.S.Starts.has aim) c.if-piece-le-HEAD.next (blanked (F ++ P)) (length P) done.0),
    )
