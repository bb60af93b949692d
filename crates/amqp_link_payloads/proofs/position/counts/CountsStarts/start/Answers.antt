use Rattle.std.proofs.Common.{refl, ◌∷◌, ◌++◌, [], ◌+◌}
use Rattle.amqp_link_payloads.proofs.CountLemmas.{counted_new, counted_passed}
use Rattle.amqp_link_payloads.proofs.position.counts.CountsStarts.start.Goals as goal

pub returns : goal.returns
returns c = λ aim F b n has pos ends size xs same.
    counted_passed _ (F ++ b ∷ []) xs (c.args.at + 1)
    (counted_new c.args.self _ F b n c.args.header c.args.at has pos ends size c.ranges.header.fits
    (c.next_number.ensures _ has.number_is) refl refl) same
