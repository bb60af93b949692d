use Rattle.std.proofs.Common.{◌≡◌, ◌∙◌, ◌+◌, ap, arith, length, sym}
use Rattle.amqp_link_ledger.specs.Fates.{RecordsAndRoom}
use Rattle.amqp_link_ledger.proofs.ReleaseLemmas.{length_gone, on_ok, room_from}
use Rattle.amqp_link_ledger.proofs.records.RecordList.reserve.Goals as goal

pub returns-clause-room : goal.returns-clause-room
returns-clause-room c =
    let kept = c.self.inside.kept in
    let r = c.self.inside.released in
    let count : c.len.result ≡ r + kept.len = c.len.ensures ∙ ap (λ (v : RecordsAndRoom). length v.records) (sym c.self.view_is) ∙ length_gone kept.items r ∙ ap (λ n. r + n) (sym kept.ok.0) in
    on_ok c.reserve.result c.reserve.ensures.ok
    (λ room. room_from r c.reserve.new.self.len c.reserve.new.self.cap room (omega (arith, count, c.if-len.false, c.len.type_inv, c.reserve.ensures.len)))
