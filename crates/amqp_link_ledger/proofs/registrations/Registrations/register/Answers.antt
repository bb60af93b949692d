use Rattle.std.proofs.Common.{◌≡◌, ◌∙◌, ap, length, Some, if◌then◌else◌, rules}
use Rattle.std.specs.Prelude.{bytes_eq}
use Rattle.amqp_link_types.specs.Entries.{Tag, entry_at}
use Rattle.amqp_link_ledger.specs.Fates.{RecordsAndRoom, pending_count}
use Rattle.amqp_link_ledger.proofs.NumberLemmas.{IsNumbered-registered, numberless}
use Rattle.amqp_link_ledger.proofs.registrations.Registrations.register.Goals as goal

pub invariant_of-self : goal.invariant_of-self
invariant_of-self c =
    let records = c.self.inside.records.records in
    let numbers = c.self.inside.numbers.entries in
    let tag = c.reserved.inside.tag in
    let number : c.len-number.result ≡ length records = search rules in
    let count : pending_count tag records ≡ 0 =
    ap (λ t. pending_count t records) c.reserved.view_is ∙ ap (λ (all : RecordsAndRoom). pending_count c.args.reserved all.records) c.self.view_is ∙ c.requires.free in
    let now = λ (other : Tag). c.put_number.ensures other
    ∙ ap (λ t. if bytes_eq t other then Some c.len-number.result else entry_at numbers other) c.reserved.invariant
    ∙ ap (λ n. if bytes_eq tag other then Some n else entry_at numbers other) number in
    rw c.push_pending.ensures
    (IsNumbered-registered records numbers c.self.invariant tag c.put_number.new.numbers.entries (numberless records numbers c.self.invariant tag count) now)
