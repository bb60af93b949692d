use Rattle.amqp_link_ledger.proofs.OutcomeLemmas.{AreOfPending-disposed, AreOfPending-disposition, AreOfPending-closed, AreOfPending-illegal, AreOfPending-returned}
use Rattle.amqp_link_ledger.proofs.laws.outcomes_are_of_pending_records.Goals as goal

pub returns-clause-disposed : goal.returns-clause-disposed
returns-clause-disposed g c = AreOfPending-disposed

pub returns-clause-disposition : goal.returns-clause-disposition
returns-clause-disposition g c = AreOfPending-disposition

pub returns-clause-closed : goal.returns-clause-closed
returns-clause-closed g c = AreOfPending-closed

pub returns-clause-attached_anew : goal.returns-clause-attached_anew
returns-clause-attached_anew g c = AreOfPending-illegal

pub returns-clause-exchanged : goal.returns-clause-exchanged
returns-clause-exchanged g c = AreOfPending-returned
