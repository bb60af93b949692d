use Rattle.amqp_link_state.proofs.SerialLemmas.{sdiff_is_nearest, nearest_is_sdiff}
use Rattle.amqp_link_state.proofs.laws.serial_difference_is_the_nearest.Goals as goal

pub returns-clause-nearest : goal.returns-clause-nearest
returns-clause-nearest c = sdiff_is_nearest

pub returns-clause-only : goal.returns-clause-only
returns-clause-only c = nearest_is_sdiff
