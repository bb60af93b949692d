use Rattle.std.proofs.Common.{◌∙◌, ap}
use Rattle.amqp_link_ledger.specs.Fates.{RecordsAndRoom, after_gone, registered}
use Rattle.amqp_link_ledger.specs.declared.fate.Fate.TheVariants.{Pending}
use Rattle.amqp_link_ledger.proofs.ReleaseLemmas.{pushed}
use Rattle.amqp_link_ledger.proofs.records.RecordList.push_pending.Goals as goal

pub returns : goal.returns
returns c =
    let r = c.self.inside.released in
    ap (after_gone r) c.push_back_reserved.ensures.items ∙ pushed c.self.inside.kept.items r (c.args.tag, Pending)
    ∙ ap (λ (v : RecordsAndRoom). registered c.args.tag v.records) c.self.view_is
