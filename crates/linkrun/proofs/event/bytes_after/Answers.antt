use Rattle.std.proofs.Common.{rules, ◌≡◌, ◌++◌}
use Rattle.linkrun.proofs.LineLemmas.{bytes_read, bytes_written}
use Rattle.linkrun.proofs.event.bytes_after.Goals as goal

pub returns-in-Some-clause-ok : goal.returns-in-Some-clause-ok
returns-in-Some-clause-ok c =
    let begins : c.args.line.now ≡ c.args.word.now ++ c.in-Some.text.now = search rules in
    bytes_read _ _ _ c.parse_bytes.result begins c.parse_bytes.ensures.ok

pub returns-in-Some-clause-err : goal.returns-in-Some-clause-err
returns-in-Some-clause-err c =
    let begins : c.args.line.now ≡ c.args.word.now ++ c.in-Some.text.now = search rules in
    bytes_written _ _ _ c.parse_bytes.result begins c.parse_bytes.ensures.err
