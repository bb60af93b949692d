use Rattle.std.proofs.Common.{◌≡◌, refl, false, ℕ, List, Ok}
use Rattle.amqp_link.specs.Aborting.{ResumesOrAborts, resumption_answer}
use Rattle.amqp_link.specs.Bodies.{whole_message}
use Rattle.amqp_link.specs.PairRuns.{Does, is_send_of}
use Rattle.amqp_link.specs.Worlds.{World}
use Rattle.amqp_link.specs.declared.pair.Event.TheVariants as event
use Rattle.amqp_link.specs.declared.pair.OrAborted.{OrAborted}
use Rattle.amqp_link.specs.declared.pair.OrAborted.TheVariants as next
use Rattle.amqp_link.specs.declared.pair.Resumed.{Resumed}
use Rattle.amqp_link_uses.proofs.walk.resume.Goals as goal

-- a resumption is a step of a run, whether the delivery is resumed or aborted
does : (old new : World) (resumed : OrAborted Resumed) → ResumesOrAborts old resumed new → Does whole_message old event.ResumeNext (resumption_answer resumed) new
does old new (next.Answer resumed) done = done
does old new (next.Aborted tag) done = done

-- and no send
no_send : (B : Type 0) (tag : List ℕ) (resumed : OrAborted Resumed) → is_send_of {B = B} tag (Ok (resumption_answer resumed)) ≡ false
no_send B tag (next.Answer resumed) = refl
no_send B tag (next.Aborted aborted) = refl

pub returns-clause-keeps : goal.returns-clause-keeps
returns-clause-keeps c =
    let resumed = c.in_ok-next.next in
    let call = c.in_ok-next.ensures in
    λ tag payload. c.held_is_what_was_sent.ensures.stays whole_message tag payload c.args.pair.now c.resume_next.new.self event.ResumeNext
    (Ok (resumption_answer resumed)) c.requires (call.refused, does c.args.pair.now c.resume_next.new.self resumed call.done) (no_send _ tag resumed)
