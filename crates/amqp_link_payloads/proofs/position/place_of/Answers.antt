use Rattle.std.proofs.Common.{◌≡◌, ◌∙◌, [], sym, ap, arith}
use Rattle.amqp_link_payloads.specs.Position.{place}
use Rattle.amqp_link_payloads.proofs.SeekLemmas.{place_sought}
use Rattle.amqp_link_payloads.proofs.BlankLemmas.{place_within_all}
use Rattle.amqp_link_payloads.proofs.position.place_of.Goals as goal

pub returns-in_err-place-clause-place : goal.returns-in_err-place-clause-place
returns-in_err-place-clause-place c =
    let P = c.args.payload.now in
    let read = c.read.ensures c.args.section_number [] c.new.ensures c.new-seek.ensures in
    let is : c.place.result ≡ place c.as_slice.result.now c.args.section_number c.args.section_offset
    = place_sought c.args.section_number c.args.section_offset c.read.result.1 c.as_slice.result.now c.place.result (omega (arith, c.as_slice.type_inv)) read.1 c.place.ensures in
    c.from_residual.ensures ∙ sym c.in_err-place.was ∙ is ∙ ap (λ Q. place Q c.args.section_number c.args.section_offset) c.as_slice.ensures

pub returns-clause-place : goal.returns-clause-place
returns-clause-place c =
    let read = c.read.ensures c.args.section_number [] c.new.ensures c.new-seek.ensures in
    let is : c.place.result ≡ place c.as_slice.result.now c.args.section_number c.args.section_offset
    = place_sought c.args.section_number c.args.section_offset c.read.result.1 c.as_slice.result.now c.place.result (omega (arith, c.as_slice.type_inv)) read.1 c.place.ensures in
    sym c.in_ok-place.was ∙ is ∙ ap (λ Q. place Q c.args.section_number c.args.section_offset) c.as_slice.ensures

pub returns-clause-within : goal.returns-clause-within
returns-clause-within c = place_within_all c.args.payload.now c.args.section_number c.args.section_offset c.in_ok-place.field-0 (sym (returns-clause-place c))
