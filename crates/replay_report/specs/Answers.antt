-- What a row has come to.
use Rattle.std.specs.Prelude.{Some, None}
use Rattle.replay_report.specs.declared.answer.Answer.{Answer}
use Rattle.replay_report.specs.declared.answer.Answer.TheVariants.{Begun, Taken, Refused, Agrees, Differs, Ended}

-- the endpoint has refused the frame or the call
abbrev pub IsRefusal : Answer → Type 0
IsRefusal (Refused reason) = Unit {0}
IsRefusal _ = ⊥

-- the row agrees with the endpoint: no fact differs, nothing is refused, and an end has nothing left but flows
abbrev pub IsAgreement : Answer → Type 0
IsAgreement Begun = Unit {0}
IsAgreement Taken = Unit {0}
IsAgreement (Refused reason) = ⊥
IsAgreement Agrees = Unit {0}
IsAgreement (Differs difference) = ⊥
IsAgreement (Ended None) = Unit {0}
IsAgreement (Ended (Some word)) = ⊥
