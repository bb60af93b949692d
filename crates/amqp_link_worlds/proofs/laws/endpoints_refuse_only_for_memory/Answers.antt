use Rattle.amqp_link_worlds.proofs.CallLemmas.{can_send, next_is_free, can_grant, can_cut, can_resume, held_is_reported, can_complete, can_settle, can_abort, entry_or_abort}
use Rattle.amqp_link_worlds.proofs.WorldLemmas.{IsWorld-receives, IsWorld-turn}
use Rattle.amqp_link_worlds.proofs.laws.endpoints_refuse_only_for_memory.Goals as goal

pub returns-clause-send : goal.returns-clause-send
returns-clause-send c = can_send

pub returns-clause-tag : goal.returns-clause-tag
returns-clause-tag c = next_is_free

pub returns-clause-grant : goal.returns-clause-grant
returns-clause-grant c = can_grant

pub returns-clause-cut : goal.returns-clause-cut
returns-clause-cut c = can_cut

pub returns-clause-arrive : goal.returns-clause-arrive
returns-clause-arrive c = IsWorld-receives

pub returns-clause-turn : goal.returns-clause-turn
returns-clause-turn c = IsWorld-turn

pub returns-clause-report : goal.returns-clause-report
returns-clause-report c = held_is_reported

pub returns-clause-resume_next : goal.returns-clause-resume_next
returns-clause-resume_next c = can_resume

pub returns-clause-hand_out : goal.returns-clause-hand_out
returns-clause-hand_out c = can_complete

pub returns-clause-settle : goal.returns-clause-settle
returns-clause-settle c = can_settle

pub returns-clause-listed : goal.returns-clause-listed
returns-clause-listed c = entry_or_abort

pub returns-clause-resume_next_abort : goal.returns-clause-resume_next_abort
returns-clause-resume_next_abort c = can_abort
