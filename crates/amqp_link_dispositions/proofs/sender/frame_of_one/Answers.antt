use Rattle.std.proofs.Common.{◌≡◌, ◌∷◌, [], sym, subst, rules}
use Rattle.amqp_link_dispositions.specs.DispositionFrames.{CoverRuns, disposition_of_run}
use Rattle.amqp_link_dispositions.proofs.DispositionFrameLemmas.{one_disposition}
use Rattle.amqp_link_dispositions.proofs.sender.frame_of_one.Goals as goal

pub returns : goal.returns
returns c =
    let items : c.push.new.self.items ≡ disposition_of_run c.args.settled c.args.state c.args.batchable (record { first = c.args.id; last = c.args.id }) ∷ [] = search rules in
    subst (CoverRuns c.args.settled c.args.state c.args.batchable (c.args.id ∷ [])) (sym items)
    (one_disposition c.args.settled c.args.state c.args.batchable c.args.id)
