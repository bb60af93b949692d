use Rattle.std.proofs.Common.{rules, sym, ◌∙◌, ap, Some, arith}
use Rattle.amqp_link_payloads.specs.Section.{IsDataSection}
use Rattle.amqp_link_payloads.proofs.SectionLemmas.{contents_of-some, contents_of-none, contents_last, descriptor-cancel}
use Rattle.amqp_link_payloads.proofs.message.data_body.contents_start.Goals as goal

pub returns-in_err-after_descriptor-clause-none : goal.returns-in_err-after_descriptor-clause-none
returns-in_err-after_descriptor-clause-none c =
    let none = contents_of-none c.args.bytes.now (λ xs is. c.in_err-after_descriptor.ensures.none is.d is.value is.written) in
    search rules

pub returns-in_err-contents-clause-none : goal.returns-in_err-contents-clause-none
returns-in_err-contents-clause-none c =
    let (d, at) = c.in_ok-after_descriptor.ensures.some in
    let none = contents_of-none c.args.bytes.now (λ xs is.
    let same = descriptor-cancel d is.d c.in_ok-after_descriptor.field-0.now is.value (sym at ∙ is.written) in
    c.in_err-contents.ensures.none xs (record { l = is.is_value.l; written = same ∙ is.is_value.written; fits = is.is_value.fits })) in
    search rules

pub returns-clause-some : goal.returns-clause-some
returns-clause-some c =
    let (d, at) = c.in_ok-after_descriptor.ensures.some in
    let is : IsDataSection c.args.bytes.now c.in_ok-contents.contents.now =
    record { d = d; value = c.in_ok-after_descriptor.field-0.now; written = at; is_value = c.in_ok-contents.ensures.some } in
    (omega arith, contents_of-some _ _ is ∙ ap Some (sym (contents_last _ _ is)))
