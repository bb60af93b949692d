-- What an arrival and a resumption do to a pair, where the delivery may be one that is aborted (OASIS AMQP 1.0 core, 2.7.5).
use Rattle.std.specs.Prelude.{ℕ}
use Rattle.amqp_link_worlds.specs.Steps.{Arrives, AbortArrives, Resumes, SendsAbort}
use Rattle.amqp_link_worlds.specs.Worlds.{World}
use Rattle.amqp_link_worlds.specs.declared.event.AnswerOf.{AnswerOf}
use Rattle.amqp_link_worlds.specs.declared.event.AnswerOf.TheVariants as answer
use Rattle.amqp_link_pair.specs.declared.pair.Arrived.{Arrived}
use Rattle.amqp_link_pair.specs.declared.pair.Resumed.{Resumed}
use Rattle.amqp_link_pair.specs.declared.pair.OrAborted.{OrAborted}
use Rattle.amqp_link_pair.specs.declared.pair.OrAborted.TheVariants.{Aborted, Answer}

abbrev pub ArrivesOrAborts : World → ℕ → OrAborted Arrived → World → Type 0
ArrivesOrAborts old id (Answer came) new = Arrives old id came.tag (came.section_number, came.section_offset) came.whole new
ArrivesOrAborts old id (Aborted tag) new = AbortArrives old tag new

abbrev pub ResumesOrAborts : World → OrAborted Resumed → World → Type 0
ResumesOrAborts old (Answer resumed) new = Resumes old resumed.tag resumed.frames resumed.resume new
ResumesOrAborts old (Aborted tag) new = SendsAbort old tag new

-- the answers of a run that state what they returned
abbrev pub arrival_answer : {B : Type 0} → OrAborted Arrived → AnswerOf B
arrival_answer (Answer came) = answer.Arrived came.tag came.section_number came.section_offset came.whole
arrival_answer (Aborted tag) = answer.Aborted tag

abbrev pub resumption_answer : {B : Type 0} → OrAborted Resumed → AnswerOf B
resumption_answer (Answer resumed) = answer.Resumed resumed.tag resumed.frames resumed.resume
resumption_answer (Aborted tag) = answer.Aborted tag
