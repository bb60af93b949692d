use Rattle.std.proofs.Common.{◌∙◌, ◌-◌, ◌≤◌, ap, arith, length, refl, slice_get, sym, Some}
use Rattle.std.specs.Option.{option_copied, option_map}
use Rattle.std.proofs.lemmas.Option.{slice_get_past, slice_get_read}
use Rattle.amqp_link_ledger.specs.Fates.{RecordsAndRoom}
use Rattle.amqp_link_ledger.proofs.ReleaseLemmas.{get_from, get_gone}
use Rattle.amqp_link_ledger.proofs.records.RecordList.fate.Goals as goal

pub returns-then-number-self : goal.returns-then-number-self
returns-then-number-self c =
    let at = ap (λ (v : RecordsAndRoom). slice_get v.records c.args.number) (sym c.self.view_is) ∙ get_gone c.self.inside.kept.items c.self.inside.released c.args.number c.if-number-self.true in
    ap Some c.self.invariant.1 ∙ sym (ap (option_map (λ e. e.1)) at)

pub returns-in_err-record : goal.returns-in_err-record
returns-in_err-record c =
    let kept = c.self.inside.kept in
    let from : c.self.inside.released ≤ c.args.number = omega (arith, c.if-number-self.false) in
    let past : length kept.items ≤ c.args.number - c.self.inside.released = c.in_err-record.ensures.item.3 in
    let at = ap (λ (v : RecordsAndRoom). slice_get v.records c.args.number) (sym c.self.view_is)
    ∙ get_from kept.items c.self.inside.released c.args.number from ∙ slice_get_past kept.items (c.args.number - c.self.inside.released) past in
    ap option_copied c.from_residual.ensures ∙ sym (ap (option_map (λ e. e.1)) at)

pub returns : goal.returns
returns c =
    let kept = c.self.inside.kept in
    let from : c.self.inside.released ≤ c.args.number = omega (arith, c.if-number-self.false) in
    let read = slice_get_read kept.items (length kept.items) (c.args.number - c.self.inside.released) c.in_ok-record.record.now refl c.in_ok-record.ensures.item.3.0
    c.in_ok-record.ensures.lookup in
    let at = ap (λ (v : RecordsAndRoom). slice_get v.records c.args.number) (sym c.self.view_is)
    ∙ get_from kept.items c.self.inside.released c.args.number from ∙ read in
    sym (ap (option_map (λ e. e.1)) at)
