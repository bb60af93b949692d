use Rattle.std.proofs.lemmas.Option.{MatchOption-at_none}
use Rattle.linkrun.specs.Line.{Denotes}
use Rattle.linkrun.specs.declared.event.Event.TheVariants.{Call, Show}
use Rattle.amqp_link.specs.declared.pair.Event.TheVariants as call
use Rattle.linkrun.proofs.LineLemmas.{event_denoted}
use Rattle.linkrun.proofs.event.event_with_bytes.Goals as goal

pub returns-in_err-bytes-clause-err : goal.returns-in_err-bytes-clause-err
returns-in_err-bytes-clause-err c = event_denoted _ _ (λ bytes. Call (call.Send bytes)) c.in_err-bytes.ensures.err

pub returns-in_err-from_vec-clause-err : goal.returns-in_err-from_vec-clause-err
returns-in_err-from_vec-clause-err c =
    let denoted : Denotes c.args.line.now (Call (call.Send c.in-Some.bytes.items)) = rw c.in-Some.is at c.in_ok-bytes.ensures.ok in
    event_denoted _ _ (λ bytes. Call (call.Send bytes)) (c.in-Some.bytes.items, denoted)

pub returns-in_err-bytes-2-clause-err : goal.returns-in_err-bytes-2-clause-err
returns-in_err-bytes-2-clause-err c = event_denoted _ _ (λ bytes. Call (call.HandOut bytes)) c.in_err-bytes-2.ensures.err

pub returns-in_err-bytes-3-clause-err : goal.returns-in_err-bytes-3-clause-err
returns-in_err-bytes-3-clause-err c = event_denoted _ _ (λ bytes. Call (call.Settle bytes)) c.in_err-bytes-3.ensures.err

pub returns-in_err-bytes-4-clause-err : goal.returns-in_err-bytes-4-clause-err
returns-in_err-bytes-4-clause-err c = event_denoted _ _ (λ bytes. Call (call.Withdraw bytes)) c.in_err-bytes-4.ensures.err

pub returns-in_err-bytes-5-clause-err : goal.returns-in_err-bytes-5-clause-err
returns-in_err-bytes-5-clause-err c = event_denoted _ _ (λ bytes. Show bytes) c.in_err-bytes-5.ensures.err

pub returns-clause-ok : goal.returns-clause-ok
returns-clause-ok c =
    let send = MatchOption-at_none _ _ c.in_default.is c.in_ok-bytes.ensures.ok in
    let hand_out = MatchOption-at_none _ _ c.in_default-2.is c.in_ok-bytes-2.ensures.ok in
    let settle = MatchOption-at_none _ _ c.in_default-3.is c.in_ok-bytes-3.ensures.ok in
    let withdraw = MatchOption-at_none _ _ c.in_default-4.is c.in_ok-bytes-4.ensures.ok in
    let show = MatchOption-at_none _ _ c.in_default-5.is c.in_ok-bytes-5.ensures.ok in
    λ bytes. (send bytes, hand_out bytes, settle bytes, withdraw bytes, show bytes)
