use Rattle.std.proofs.Common.{◌∙◌, ◌+◌, ap, length, sym}
use Rattle.amqp_link_ledger.specs.Fates.{RecordsAndRoom}
use Rattle.amqp_link_ledger.proofs.ReleaseLemmas.{length_gone}
use Rattle.amqp_link_ledger.proofs.records.RecordList.len.Goals as goal

pub returns : goal.returns
returns c =
    let kept = c.self.inside.kept in
    ap (λ n. c.self.inside.released + n) (c.len.ensures ∙ kept.ok.0) ∙ sym (length_gone kept.items c.self.inside.released)
    ∙ ap (λ (v : RecordsAndRoom). length v.records) c.self.view_is
