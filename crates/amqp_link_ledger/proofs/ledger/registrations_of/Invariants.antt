use Rattle.std.proofs.Common.{◌≡◌, ◌++◌, map}
use Rattle.std.specs.Map.Iter.{deref_pair}
use Rattle.amqp_link_ledger.specs.declared.fate.Fate.TheVariants.{Pending}
use Rattle.amqp_link_ledger.specs.Fates.{IsRecorded}
use Rattle.amqp_link_ledger.proofs.ledger.registrations_of.Given as goal

abbrev pub invariant-loop-tag : goal.invariant-loop-tag
invariant-loop-tag g l =
    let done = map deref_pair l.yielded in
    record {
      whole : done ++ l.tag-iterator ≡ l.fn.pairs;
      records : l.all.records ≡ map (λ entry. (entry.0, Pending)) done;
      recorded : IsRecorded done l.all.records;
    }
