use Rattle.std.proofs.Common.{◌≡◌, subst, rules, refl, true, false, None, Some}
use Rattle.std.specs.Prelude.{is_some}
use Rattle.std.specs.Option.{option_map_or}
use Rattle.amqp_link_types.specs.Entries.{entry_at}
use Rattle.amqp_link_types.specs.Refusals.{refusal}
use Rattle.amqp_link_worlds.specs.Steps.{is_apart, withdraw_tests}
use Rattle.amqp_link_worlds.specs.declared.error.PairError.TheVariants as error
use Rattle.amqp_link_pair.specs.PairViews.{world_of}
use Rattle.amqp_link_pair.specs.declared.deliveries.Kept.{Kept}
use Rattle.amqp_link_pair.proofs.WithdrawLemmas.{ended, may_withdraw}
use Rattle.amqp_link_pair.proofs.pair.Pair.may_withdraw.Goals as goal

pub returns-then-is_whole : goal.returns-then-is_whole
returns-then-is_whole c =
    let off : is_apart (world_of c.self.inside).phase ≡ true = search rules in
    let own : is_some (entry_at (world_of c.self.inside).ledger.link.unsettled c.args.tag.now) ≡ true = search rules in
    let whole : option_map_or (λ (k : Kept). k.progress.whole) (entry_at c.self.inside.deliveries c.args.tag.now) false ≡ true = search rules in
    subst (λ w. refusal (withdraw_tests w c.args.tag.now) ≡ Some error.AlreadyWhole) c.self.view_is
    (ended (world_of c.self.inside) c.self.inside.deliveries c.args.tag.now refl off own whole)

pub returns : goal.returns
returns c =
    let off : is_apart (world_of c.self.inside).phase ≡ true = search rules in
    let own : is_some (entry_at (world_of c.self.inside).ledger.link.unsettled c.args.tag.now) ≡ true = search rules in
    let whole : option_map_or (λ (k : Kept). k.progress.whole) (entry_at c.self.inside.deliveries c.args.tag.now) false ≡ false = search rules in
    subst (λ w. refusal (withdraw_tests w c.args.tag.now) ≡ None) c.self.view_is
    (may_withdraw (world_of c.self.inside) c.self.inside.deliveries c.args.tag.now refl off own whole)
