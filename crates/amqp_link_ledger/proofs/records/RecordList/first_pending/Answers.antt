use Rattle.std.proofs.Common.{◌≡◌, ◌∙◌, ◌-◌, ◌≤◌, ap, length, refl, slice_get, subst, sym, true, false}
use Rattle.std.specs.Prelude.{IsSomeAnd}
use Rattle.std.proofs.lemmas.Option.{slice_get_read}
use Rattle.amqp_link_ledger.specs.Fates.{NonePending, RecordsAndRoom, is_pending_fate}
use Rattle.amqp_link_ledger.proofs.ReleaseLemmas.{get_from, none_further, none_gone, none_next, past_kept}
use Rattle.amqp_link_ledger.proofs.records.RecordList.first_pending.Goals as goal

pub loop-number-init : goal.loop-number-init
loop-number-init c = subst (λ (v : RecordsAndRoom). NonePending c.self.inside.released v.records) c.self.view_is (none_gone c.self.inside.kept.items c.self.inside.released)

pub returns-in_default-clause-none : goal.returns-in_default-clause-none
returns-in_default-clause-none c =
    none_further c.args.self.now.records c.loop-number.number c.args.before c.loop-number.invariant
    (subst (λ (v : RecordsAndRoom). length v.records ≤ c.loop-number.number) c.self.view_is
    (past_kept c.self.inside.kept.items c.self.inside.released c.loop-number.number c.loop-number.auto.number c.in_default.ensures.item.3))

pub returns-then-is_pending-clause-found : goal.returns-then-is_pending-clause-found
returns-then-is_pending-clause-found c =
    let kept = c.self.inside.kept.items in
    let n = c.loop-number.number in
    let read = slice_get_read kept (length kept) (n - c.self.inside.released) c.in-Some.field-0.now refl c.in-Some.ensures.item.3.0 c.in-Some.ensures.lookup in
    let at = ap (λ (v : RecordsAndRoom). slice_get v.records n) (sym c.self.view_is) ∙ get_from kept c.self.inside.released n c.loop-number.auto.number ∙ read in
    let is : is_pending_fate c.in-Some.field-0.now.1 ≡ true = sym c.is_pending.ensures ∙ c.if-is_pending.true in
    (c.loop-number-test.true, (subst (λ o. IsSomeAnd o (λ r. is_pending_fate r.1 ≡ true)) (sym at) is, c.loop-number.invariant))

pub loop-number-preserved : goal.loop-number-preserved
loop-number-preserved c =
    let kept = c.self.inside.kept.items in
    let n = c.loop-number.number in
    let read = slice_get_read kept (length kept) (n - c.self.inside.released) c.in-Some.field-0.now refl c.in-Some.ensures.item.3.0 c.in-Some.ensures.lookup in
    let at = ap (λ (v : RecordsAndRoom). slice_get v.records n) (sym c.self.view_is) ∙ get_from kept c.self.inside.released n c.loop-number.auto.number ∙ read in
    let is : is_pending_fate c.in-Some.field-0.now.1 ≡ false = sym c.is_pending.ensures ∙ c.if-is_pending.false in
    none_next c.args.self.now.records n c.in-Some.field-0.now c.loop-number.invariant at is
