use Rattle.std.proofs.Common.{◌≡◌, ◌∙◌, subst, rules, true, false}
use Rattle.std.specs.Prelude.{if◌then◌else◌, is_some}
use Rattle.amqp_link_types.specs.Entries.{entry_at}
use Rattle.amqp_link_sender.specs.Senders.{next_tag}
use Rattle.amqp_link_worlds.specs.declared.error.PairError.TheVariants as error
use Rattle.amqp_link_pair.specs.PairViews.{world_of}
use Rattle.amqp_link_pair.proofs.ResumeLemmas.{some_kept, pending_if, memory_if}
use Rattle.amqp_link_pair.proofs.pair.Pair.pending_or_out_of_memory.Goals as goal

pub returns-then-contains : goal.returns-then-contains
returns-then-contains c =
    let tag = next_tag (world_of c.self.inside).ledger.link in
    let there : is_some (entry_at c.self.inside.deliveries tag) ≡ true = search rules in
    subst (λ w. error.TagPending ≡ (if is_some (entry_at w.deliveries (next_tag w.ledger.link)) then error.TagPending else error.OutOfMemory)) c.self.view_is
    (pending_if _ (some_kept c.self.inside.deliveries tag ∙ there))

pub returns-else-contains : goal.returns-else-contains
returns-else-contains c =
    let tag = next_tag (world_of c.self.inside).ledger.link in
    let none : is_some (entry_at c.self.inside.deliveries tag) ≡ false = search rules in
    subst (λ w. error.OutOfMemory ≡ (if is_some (entry_at w.deliveries (next_tag w.ledger.link)) then error.TagPending else error.OutOfMemory)) c.self.view_is
    (memory_if _ (some_kept c.self.inside.deliveries tag ∙ none))
