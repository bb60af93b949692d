use Rattle.std.proofs.Common.{rules, ◌≡◌, ◌+◌, ◌%◌, None}
use Rattle.amqp_link_types.specs.Refusals.{refusal}
use Rattle.amqp_link_credit.specs.CreditCalls.{granting_tests}
use Rattle.amqp_link_credit.specs.CreditWorlds.{CreditWorld, IsCreditWorld}
use Rattle.amqp_link_credit.specs.RunViews.{run_of}
use Rattle.amqp_link_credit.proofs.RunLemmas.{IsCreditWorld-grants}
use Rattle.amqp_link_credit.proofs.credit_run.CreditRun.grant.Goals as goal

-- the world after it
abbrev new : goal.After-push_back_reserved → CreditWorld
new c = record (run_of c.self.inside) {
  receiver = c.state_credit-flow.new.receiver;
  back = c.push_back_reserved.new.self.items;
  stated = (c.delivery_count-count.result + c.args.credit) % 4294967296;
}

kept : (c : goal.After-push_back_reserved) → IsCreditWorld (new c)
kept c =
    let none : refusal (granting_tests (run_of c.self.inside) c.args.credit) ≡ None = search rules in
    IsCreditWorld-grants (run_of c.self.inside) (new c) c.args.credit c.args.drain c.args.echo c.self.invariant none (record { world = search rules })

pub invariant_of-self-2 : goal.invariant_of-self-2
invariant_of-self-2 c = kept c

pub returns-clause-credit : goal.returns-clause-credit
returns-clause-credit c = (kept c).credit

pub returns-clause-kept : goal.returns-clause-kept
returns-clause-kept c = kept c
