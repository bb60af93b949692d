use Rattle.std.proofs.Common.{◌≡◌, ◌∙◌, ◌<◌, ◌-◌, ◌≤◌, ap, slice_get, slice_set, subst, sym, true, Some}
use Rattle.std.specs.Prelude.{IsSomeAnd}
use Rattle.std.proofs.lemmas.Option.{get_or_from_slice_get}
use Rattle.amqp_link_ledger.specs.Fates.{RecordsAndRoom, after_gone, is_pending_fate}
use Rattle.amqp_link_ledger.proofs.ReleaseLemmas.{get_from, pending_after, pending_within, set_from}
use Rattle.amqp_link_ledger.proofs.records.RecordList.set_fate.Goals as goal

pub overflow_sub-number : goal.overflow_sub-number
overflow_sub-number c =
    pending_after c.self.inside.kept.items c.self.inside.released c.args.number
    (subst (λ (v : RecordsAndRoom). IsSomeAnd (slice_get v.records c.args.number) (λ r. is_pending_fate r.1 ≡ true)) (sym c.self.view_is) c.requires)

pub index_mut-record-requires : goal.index_mut-record-requires
index_mut-record-requires c =
    let kept = c.self.inside.kept in
    subst (λ n. c.args.number - c.self.inside.released < n) (sym kept.ok.0)
    (pending_within kept.items c.self.inside.released c.args.number
    (subst (λ (v : RecordsAndRoom). IsSomeAnd (slice_get v.records c.args.number) (λ r. is_pending_fate r.1 ≡ true)) (sym c.self.view_is) c.requires))

pub returns-clause-records : goal.returns-clause-records
returns-clause-records c =
    let kept = c.self.inside.kept in
    let r = c.self.inside.released in
    let n = c.args.number in
    let from : r ≤ n = pending_after kept.items r n
    (subst (λ (v : RecordsAndRoom). IsSomeAnd (slice_get v.records n) (λ r. is_pending_fate r.1 ≡ true)) (sym c.self.view_is) c.requires) in
    λ tag old at.
    let here : slice_get kept.items (n - r) ≡ Some (tag, old) = sym (get_from kept.items r n from) ∙ ap (λ (v : RecordsAndRoom). slice_get v.records n) c.self.view_is ∙ at in
    let found = c.index_mut-record.ensures.value ∙ get_or_from_slice_get kept.items (n - r) (tag, old) c.index_mut-record.result.now here in
    set_from kept.items r n (c.index_mut-record.result.now.0, c.replace.new.dest) from
    ∙ ap (λ t. slice_set (after_gone r kept.items) n (t, c.replace.new.dest)) (ap (λ (x : _ × _). x.0) found)
    ∙ ap (λ f. slice_set (after_gone r kept.items) n (tag, f)) c.replace.ensures.after
    ∙ ap (λ (v : RecordsAndRoom). slice_set v.records n (tag, c.args.fate)) c.self.view_is
