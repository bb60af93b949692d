use Rattle.amqp_link_verification.proofs.TerminiLemmas.{missing_listed}
use Rattle.amqp_link_verification.proofs.source.SourceVerifySource.verify_as_receiver.Goals as goal

pub returns-in_err-verify_filter-clause-memory : goal.returns-in_err-verify_filter-clause-memory
returns-in_err-verify_filter-clause-memory c = λ is. missing_listed c.args.self.now c.args.other.now c.in_err-verify_filter.ensures.missing
