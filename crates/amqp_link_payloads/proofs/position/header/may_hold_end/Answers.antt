use Rattle.std.proofs.Common.{◌≡◌, ◌-◌, get_or, subst, sym, ◌∙◌, arith, inl, inr, false}
use Rattle.std.proofs.lemmas.Bool.{or_parts, cases_lt}
use Rattle.amqp_link_payloads.specs.Header.{may_end}
use Rattle.amqp_link_payloads.proofs.position.header.may_hold_end.Goals as goal

pub loop-i-init : goal.loop-i-init
loop-i-init c = λ _ k two lt. absurd (omega (arith, two, lt))

pub loop-i-preserved : goal.loop-i-preserved
loop-i-preserved c = λ nowhere k two lt.
    let xs = c.args.bytes.now in
    let both = or_parts c.loop-i.found c.may_end-found.result nowhere in
    elim (cases_lt k c.loop-i.i) [
      | inl before ↦ c.loop-i.invariant both.0 k two before
      | inr past ↦
          let here : c.loop-i.i ≡ k = omega arith in
          subst (λ j. may_end (get_or xs (j - 2) 0) (get_or xs j 0) ≡ false) here (sym c.may_end-found.ensures ∙ both.1)
    ]

pub returns : goal.returns
returns c = λ nowhere k two lt. c.loop-i.invariant nowhere k two (omega (arith, c.loop-i-test.false, lt))
