use Rattle.amqp_link_runs.proofs.OrderLemmas.{sorted_by-sorted, sorted_by-permutes, sorted_by-stable, sorted_is}
use Rattle.amqp_link_runs.proofs.laws.sorted_is_sorted_stably.Goals as goal

pub returns-clause-sorted : goal.returns-clause-sorted
returns-clause-sorted g c = sorted_by-sorted

pub returns-clause-permutation : goal.returns-clause-permutation
returns-clause-permutation g c = sorted_by-permutes

pub returns-clause-stable : goal.returns-clause-stable
returns-clause-stable g c = sorted_by-stable

pub returns-clause-only : goal.returns-clause-only
returns-clause-only g c = sorted_is
