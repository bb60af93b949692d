use Rattle.std.proofs.Common.{◌≡◌, ◌+◌, ◌∙◌, ◌++◌, List, ℕ, length, replicate, sym, ap, arith}
use Rattle.std.proofs.lemmas.Slice.{take-put_mid}
use Rattle.std.proofs.lemmas.List.{length-append, take_at}
use Rattle.amqp_link_payloads.specs.Tail.{blanked}
use Rattle.amqp_link_payloads.proofs.JointLemmas.{follows, joint_blank}
use Rattle.amqp_link_payloads.proofs.position.scan.Tail.joint.Goals as goal

pub returns-then-self : goal.returns-then-self
returns-then-self c =
    let front = c.args.front.now in
    let last = c.copy_from_slice.new.self in
    let rest : List ℕ = replicate 10 0xff in
    let size : length last ≡ 9 = c.copy_from_slice.ensures.len in
    let same : c.copy_from_slice-2.new.self ≡ front = c.copy_from_slice-2.ensures.after in
    let all = take-put_mid 9 _ (last ++ rest) c.copy_from_slice-2.new.self (9 + length front)
    (omega (arith, ap length same)) (omega (arith, size, length-append last rest))
    ∙ ap (λ xs. xs ++ c.copy_from_slice-2.new.self) (take_at last rest 9 size)
    ∙ ap (λ xs. last ++ xs) same in
    joint_blank _ last front all size
    ∙ ap (λ xs. xs ++ blanked front) c.copy_from_slice.ensures.after
    ∙ ap (λ b. c.args.self.last ++ follows b front) (sym c.if-self.true)

pub returns-else-self : goal.returns-else-self
returns-else-self c =
    let front = c.args.front.now in
    let last = c.copy_from_slice.new.self in
    let rest : List ℕ = replicate 10 0xff in
    let size : length last ≡ 9 = c.copy_from_slice.ensures.len in
    let same : c.copy_from_slice-2.new.self ≡ front = c.copy_from_slice-2.ensures.after in
    take-put_mid 9 _ (last ++ rest) c.copy_from_slice-2.new.self (9 + length front)
    (omega (arith, ap length same)) (omega (arith, size, length-append last rest))
    ∙ ap (λ xs. xs ++ c.copy_from_slice-2.new.self) (take_at last rest 9 size)
    ∙ ap (λ xs. last ++ xs) same
    ∙ ap (λ xs. xs ++ front) c.copy_from_slice.ensures.after
    ∙ ap (λ b. c.args.self.last ++ follows b front) (sym c.if-self.false)
