-- What contracts see of a credit run.
use Rattle.amqp_link_credit.specs.CreditWorlds.{CreditWorld, IsCreditWorld}
use Rattle.amqp_link_credit.specs.declared.credit_run.CreditRun.TheInside.{Inside}

abbrev pub run_of : Inside → CreditWorld
run_of run = record {
  sender = run.sender;
  receiver = run.receiver;
  held = run.held;
  forward = run.forward.frames;
  back = run.back.items;
  stated = run.stated;
}

abbrev pub IsKeptRun : Inside → Type 0
IsKeptRun run = IsCreditWorld (run_of run)
