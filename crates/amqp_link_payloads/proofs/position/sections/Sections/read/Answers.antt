use Rattle.std.proofs.Common.{◌≡◌, ◌++◌, ◌∙◌, ◌^◌, true, false, length-append, sym, subst, arith}
use Rattle.std.specs.Prelude.{MatchOption}
use Rattle.amqp_link_payloads.specs.Position.{position}
use Rattle.amqp_link_payloads.specs.Sections.{is_too_long}
use Rattle.amqp_link_payloads.proofs.CarryLemmas.{many_sections, not_long}
use Rattle.amqp_link_payloads.proofs.CountLemmas.{below_some, below_none, counted_next}
use Rattle.amqp_link_payloads.proofs.position.sections.Sections.read.Goals as goal

pub returns-in_err-counts-clause-refused : goal.returns-in_err-counts-clause-refused
returns-in_err-counts-clause-refused c = λ F has.
    let all = F ++ c.args.piece.now in
    let next = counted_next c.args.self c.new-before.result c.read.result F c.args.piece.now has c.new-before.ensures c.read.ensures in
    subst (λ o. MatchOption o (is_too_long all ≡ true) (λ _. is_too_long all ≡ false)) (sym c.from_residual-in_err-counts.ensures)
    (many_sections all (below_none (2 ^ 32) (position all).0 (sym next.1.0 ∙ c.in_err-counts.was)))

pub returns-in_err-counts-2-clause-refused : goal.returns-in_err-counts-2-clause-refused
returns-in_err-counts-2-clause-refused c = λ F has.
    let all = F ++ c.args.piece.now in
    let next = counted_next c.args.self c.new-before.result c.read.result F c.args.piece.now has c.new-before.ensures c.read.ensures in
    absurd (omega (arith, c.in_ok-length.ensures, has.length_is, length-append F c.args.piece.now, below_none (2 ^ 64) (position all).1 (sym next.1.1 ∙ c.in_err-counts-2.was)))

pub returns-clause-read : goal.returns-clause-read
returns-clause-read c = λ F has.
    let all = F ++ c.args.piece.now in
    let next = counted_next c.args.self c.new-before.result c.read.result F c.args.piece.now has c.new-before.ensures c.read.ensures in
    record {
      number_is = sym (below_some (2 ^ 32) (position all).0 c.in_ok-counts.field-0 (sym next.1.0 ∙ c.in_ok-counts.was)).1;
      offset_is = sym (below_some (2 ^ 64) (position all).1 c.in_ok-counts-2.field-0 (sym next.1.1 ∙ c.in_ok-counts-2.was)).1;
      tail_is = next.0;
      length_is = omega (arith, c.in_ok-length.ensures, has.length_is, length-append F c.args.piece.now);
    }

pub returns-clause-refused : goal.returns-clause-refused
returns-clause-refused c = λ F has.
    let all = F ++ c.args.piece.now in
    let next = counted_next c.args.self c.new-before.result c.read.result F c.args.piece.now has c.new-before.ensures c.read.ensures in
    not_long all (omega (arith, c.in_ok-length.ensures, has.length_is, length-append F c.args.piece.now))
    (below_some (2 ^ 32) (position all).0 c.in_ok-counts.field-0 (sym next.1.0 ∙ c.in_ok-counts.was)).0
