use Rattle.std.proofs.Common.{◌≡◌, ◌∙◌, ◌+◌, [], ap, arith, drop, refl, subst, suc, sym, ℕ}
use Rattle.std.specs.Prelude.{IsTrue}
use Rattle.std.proofs.lemmas.List.{nil_from_length}
use Rattle.amqp_link_ledger.specs.Fates.{RecordsAndRoom, after_gone, is_room_for_one, with_released}
use Rattle.amqp_link_ledger.proofs.ReleaseLemmas.{drop_next, dropped, length_gone, released_all, released_before, released_is, room_after}
use Rattle.amqp_link_ledger.proofs.records.RecordList.release.Goals as goal

pub returns-then-before-self-clause-records : goal.returns-then-before-self-clause-records
returns-then-before-self-clause-records c =
    ap (λ (v : RecordsAndRoom). v.records) (sym c.self.view_is) ∙ sym (released_before c.self.inside.kept.items c.args.before c.self.inside.released c.if-before-self.true)
    ∙ ap (λ (v : RecordsAndRoom). with_released c.args.before v.records) c.self.view_is

one_more : (n : ℕ) → n + 1 ≡ suc n
one_more n = omega arith

pub loop-init : goal.loop-init
loop-init c = record {
  count = refl;
  left = dropped c.self.inside.kept.items c.self.inside.released;
  within = omega (arith, length_gone c.self.inside.kept.items c.self.inside.released);
  total = refl;
  fewer = omega arith;
  capacity = refl;
  gone = c.self.invariant.1;
}

pub loop-preserved : goal.loop-preserved
loop-preserved c =
    let all = after_gone c.self.inside.released c.self.inside.kept.items in
    let next = drop_next all c.loop.counter c.in-Some.record c.pop_front.new.self.items (c.loop.invariant.left ∙ c.in-Some.ensures.items) in
    record {
      count = ap (λ n. n + 1) c.loop.invariant.count;
      left = ap (λ n. drop n all) (one_more c.loop.counter) ∙ next.1;
      within = omega (arith, next.0);
      total = omega (arith, c.loop.invariant.total, c.in-Some.ensures.len);
      fewer = omega (arith, c.loop.invariant.fewer, c.in-Some.ensures.len);
      capacity = c.in-Some.ensures.capacity ∙ c.loop.invariant.capacity;
      gone = c.loop.invariant.gone;
    }

pub invariant_of-self : goal.invariant_of-self
invariant_of-self c = (omega (arith, c.loop.invariant.total, c.self.invariant.0), c.loop.invariant.gone)

pub invariant_of-self-in_default : goal.invariant_of-self-in_default
invariant_of-self-in_default c = (omega (arith, c.loop.invariant.total, c.self.invariant.0, c.in_default.ensures.len), c.loop.invariant.gone)

pub returns-in_default-clause-records : goal.returns-in_default-clause-records
returns-in_default-clause-records c =
    let all = after_gone c.self.inside.released c.self.inside.kept.items in
    let n = c.loop.counter in
    let kept = c.loop.self-inside.kept in
    let none : drop n all ≡ [] = c.loop.invariant.left ∙ nil_from_length kept.items (sym kept.ok.0 ∙ c.in_default.ensures.cases.0) in
    ap (λ r. after_gone r c.pop_front.new.self.items) c.loop.invariant.count ∙ ap (after_gone n) (sym c.in_default.ensures.items ∙ sym c.loop.invariant.left)
    ∙ released_is all n c.loop.invariant.within ∙ released_all all n c.args.before none c.loop.invariant.within (omega (arith, c.loop-test.true))
    ∙ ap (λ (v : RecordsAndRoom). with_released c.args.before v.records) c.self.view_is

pub returns-in_default-clause-room : goal.returns-in_default-clause-room
returns-in_default-clause-room c = λ has.
    let kept = c.self.inside.kept in
    let left = c.pop_front.new.self in
    let capacity : left.cap ≡ kept.cap = c.in_default.ensures.capacity ∙ c.loop.invariant.capacity in
    subst (λ cap. IsTrue (is_room_for_one c.loop.self-inside.released left.len cap)) (sym capacity)
    (room_after c.self.inside.released kept.len c.loop.self-inside.released left.len kept.cap (omega (arith, c.loop.invariant.fewer, c.in_default.ensures.len))
    (omega (arith, c.loop.invariant.total, c.in_default.ensures.len)) (subst (λ (v : RecordsAndRoom). IsTrue v.has_room) (sym c.self.view_is) has))

pub returns-clause-records : goal.returns-clause-records
returns-clause-records c =
    let all = after_gone c.self.inside.released c.self.inside.kept.items in
    let here : c.loop.counter ≡ c.args.before = omega (arith, c.loop-test.false, c.loop.auto.counter-end, c.if-before-self.false) in
    ap (λ r. after_gone r c.loop.self-inside.kept.items) c.loop.invariant.count ∙ ap (after_gone c.loop.counter) (sym c.loop.invariant.left)
    ∙ released_is all c.loop.counter c.loop.invariant.within ∙ ap (λ n. with_released n all) here
    ∙ ap (λ (v : RecordsAndRoom). with_released c.args.before v.records) c.self.view_is

pub returns-clause-room : goal.returns-clause-room
returns-clause-room c = λ has.
    let kept = c.self.inside.kept in
    let left = c.loop.self-inside.kept in
    subst (λ cap. IsTrue (is_room_for_one c.loop.self-inside.released left.len cap)) (sym c.loop.invariant.capacity)
    (room_after c.self.inside.released kept.len c.loop.self-inside.released left.len kept.cap c.loop.invariant.fewer c.loop.invariant.total
    (subst (λ (v : RecordsAndRoom). IsTrue v.has_room) (sym c.self.view_is) has))
