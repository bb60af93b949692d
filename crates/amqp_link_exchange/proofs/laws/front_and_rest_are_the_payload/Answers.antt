use Rattle.std.proofs.Common.{◌∙◌, ◌≤◌, ◌++◌, Option, ap, sym, drop, length, arith, length-append, ℕ}
use Rattle.std.specs.Prelude.{option_map, unwrap_or}
use Rattle.std.proofs.Math.Seq.{take-append_seam, drop-append_seam}
use Rattle.amqp_link_payloads.specs.Position.{position}
use Rattle.amqp_link_payloads.proofs.FrontLemmas.{place_of_front}
use Rattle.amqp_link_core.specs.Resuming.{rest_from}
use Rattle.amqp_link_exchange.proofs.laws.front_and_rest_are_the_payload.Goals as goal

pub returns : goal.returns
returns c = λ front rest.
    let within : length front ≤ length (front ++ rest) = omega (arith, length-append front rest) in
    let at = place_of_front (front ++ rest) (length front) within in
    ap (λ f. rest_from (front ++ rest) (position f).0 (position f).1) (sym (take-append_seam front rest))
    ∙ ap (λ (o : Option ℕ). unwrap_or (option_map (λ i. drop i (front ++ rest)) o) (front ++ rest)) at
    ∙ drop-append_seam front rest
