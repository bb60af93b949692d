use Rattle.amqp_link_split.proofs.SplitLemmas.{Least-IsSplit}
use Rattle.amqp_link_split.proofs.laws.split_pieces_are_the_payload.Goals as goal

pub returns : goal.returns
returns c = record {
  joined = λ payload limit pieces split. split.joined;
  fewest = Least-IsSplit;
}
