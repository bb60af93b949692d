use Rattle.std.proofs.Common.{rules, ◌≡◌, ◌++◌}
use Rattle.linkrun.proofs.LineLemmas.{number_read}
use Rattle.linkrun.proofs.event.number_after.Goals as goal

pub returns : goal.returns
returns c =
    let begins : c.args.line.now ≡ c.args.word.now ++ c.in_ok-text_after.field-0.now = search rules in
    number_read _ _ _ c.parse_number.result begins c.parse_number.ensures
