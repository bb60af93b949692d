use Rattle.std.proofs.Common.{◌≡◌, None, Some, refl, rules}
use Rattle.std.proofs.lemmas.Option.{slice_get_past}
use Rattle.std.specs.Prelude.{slice_get}
use Rattle.amqp_link_uses.proofs.BrokerLemmas.{found_at, takes_first_at}
use Rattle.amqp_link_uses.proofs.broker.taking.take_settled_from.Goals as goal

pub returns-in_default-clause-refused : goal.returns-in_default-clause-refused
returns-in_default-clause-refused c =
    let none : slice_get c.args.incoming.now.items c.args.link ≡ None = search (rules, slice_get_past) in
    rw none refl

pub returns-in-Ok-clause-taken : goal.returns-in-Ok-clause-taken
returns-in-Ok-clause-taken c =
    let is : slice_get c.args.incoming.now.items c.args.link ≡ Some c.in-Some.from.now = search (rules, found_at) in
    takes_first_at c.args.link c.args.number c.args.incoming.now.items c.in-Some.from.now c.take_settled.new.self c.in-Ok.taken is c.in-Ok.ensures.taken

pub returns-in-Err-clause-refused : goal.returns-in-Err-clause-refused
returns-in-Err-clause-refused c =
    let is : slice_get c.args.incoming.now.items c.args.link ≡ Some c.in-Some.from.now = search (rules, found_at) in
    rw is c.in-Err.ensures.refused
