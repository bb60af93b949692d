use Rattle.amqp_link_worlds.proofs.AttachSteps.{world_can_ask, world_can_take_asked, world_can_answer, world_can_take_answered, asking_stays, asked_stays, taken_stays, together_stays, may_go_on, stops_on, attaches_on}
use Rattle.amqp_link_worlds.proofs.laws.an_attach_goes_in_four_steps.Goals as goal

pub returns-clause-ask : goal.returns-clause-ask
returns-clause-ask c = world_can_ask

pub returns-clause-take_asked : goal.returns-clause-take_asked
returns-clause-take_asked c = world_can_take_asked

pub returns-clause-answer : goal.returns-clause-answer
returns-clause-answer c = world_can_answer

pub returns-clause-take_answered : goal.returns-clause-take_answered
returns-clause-take_answered c = world_can_take_answered

pub returns-clause-asked : goal.returns-clause-asked
returns-clause-asked c = λ w limit k is. (asking_stays w limit k is, asked_stays w limit k is)

pub returns-clause-taken : goal.returns-clause-taken
returns-clause-taken c = taken_stays

pub returns-clause-answered : goal.returns-clause-answered
returns-clause-answered c = together_stays

pub returns-clause-allowed : goal.returns-clause-allowed
returns-clause-allowed c = may_go_on

pub returns-clause-stops : goal.returns-clause-stops
returns-clause-stops c = stops_on

pub returns-clause-attaches : goal.returns-clause-attaches
returns-clause-attaches c = attaches_on
