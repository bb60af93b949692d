use Rattle.std.proofs.Common.{rules}
use Rattle.amqp_link_c.proofs.TakeLemmas.{none_is_given_back}
use Rattle.amqp_link_c.proofs.receiver.taking.take.Goals as goal

pub returns-in-Err-Undecoded-clause-refused : goal.returns-in-Err-Undecoded-clause-refused
returns-in-Err-Undecoded-clause-refused c = absurd (none_is_given_back _ _ (c.in-Err-Undecoded.ensures.undecoded c.in-Err-Undecoded.undecoded (search rules)))

pub returns-in-Err-Undecoded-clause-left : goal.returns-in-Err-Undecoded-clause-left
returns-in-Err-Undecoded-clause-left c = absurd (none_is_given_back _ _ (c.in-Err-Undecoded.ensures.undecoded c.in-Err-Undecoded.undecoded (search rules)))
