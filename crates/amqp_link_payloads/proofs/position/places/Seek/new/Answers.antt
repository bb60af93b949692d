use Rattle.std.proofs.Common.{refl, []}
use Rattle.amqp_link_payloads.proofs.SeekLemmas.{nothing_sought, sought_passed}
use Rattle.amqp_link_payloads.proofs.position.places.Seek.new.Goals as goal

pub returns : goal.returns
returns c = λ xs same fits. sought_passed c.args.number _ [] xs 0 (λ _. nothing_sought _ refl refl c.keep_or_set.ensures refl) same fits
