use Rattle.amqp_link_worlds.proofs.WorldLemmas.{IsWorld-attaches, IsWorld-stops, IsWorld-grants, IsWorld-sends, IsWorld-arrives, IsWorld-cuts, IsWorld-resumes, IsWorld-puts_back, IsWorld-hands_out, IsWorld-settles, IsWorld-withdraws, IsWorld-sends_abort, IsWorld-drops_abort, IsWorld-abort_arrives}
use Rattle.amqp_link_worlds.proofs.laws.each_call_keeps_a_pair.Goals as goal

pub returns-clause-attach : goal.returns-clause-attach
returns-clause-attach c = IsWorld-attaches

pub returns-clause-halfway : goal.returns-clause-halfway
returns-clause-halfway c = IsWorld-stops

pub returns-clause-grant : goal.returns-clause-grant
returns-clause-grant c = IsWorld-grants

pub returns-clause-send : goal.returns-clause-send
returns-clause-send c = IsWorld-sends

pub returns-clause-arrive : goal.returns-clause-arrive
returns-clause-arrive c = IsWorld-arrives

pub returns-clause-cut : goal.returns-clause-cut
returns-clause-cut c = IsWorld-cuts

pub returns-clause-resume_next : goal.returns-clause-resume_next
returns-clause-resume_next c = IsWorld-resumes

pub returns-clause-put_back_next : goal.returns-clause-put_back_next
returns-clause-put_back_next c = IsWorld-puts_back

pub returns-clause-hand_out : goal.returns-clause-hand_out
returns-clause-hand_out c = IsWorld-hands_out

pub returns-clause-settle : goal.returns-clause-settle
returns-clause-settle c = IsWorld-settles

pub returns-clause-withdraw : goal.returns-clause-withdraw
returns-clause-withdraw c = IsWorld-withdraws

pub returns-clause-resume_next_abort : goal.returns-clause-resume_next_abort
returns-clause-resume_next_abort c = IsWorld-sends_abort

pub returns-clause-put_back_next_abort : goal.returns-clause-put_back_next_abort
returns-clause-put_back_next_abort c = IsWorld-drops_abort

pub returns-clause-arrive_abort : goal.returns-clause-arrive_abort
returns-clause-arrive_abort c = IsWorld-abort_arrives
