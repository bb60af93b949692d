use Rattle.std.proofs.Common.{◌≡◌, [], sym, refl, Bool, true, false, length, rules}
use Rattle.std.proofs.lemmas.List.{nil_from_length}
use Rattle.std.specs.Prelude.{Some}
use Rattle.amqp_link_types.specs.Entries.{Entries}
use Rattle.amqp_link_types.specs.declared.delivery.UnsettledMessage.{UnsettledMessage}
use Rattle.amqp_link_types.specs.declared.types.delivery_state.DeliveryState.{DeliveryState}
use Rattle.amqp_link_types.proofs.MapLemmas.{changed-nothing}
use Rattle.amqp_link_dispositions.specs.Ending.{disposed, message_with_state}
use Rattle.amqp_link_dispositions.proofs.sender.batch_dispose.Goals as goal

none_disposed : (settled : Bool) (state : DeliveryState) (es : Entries UnsettledMessage) → es ≡ disposed settled state [] es
none_disposed true state es = refl
none_disposed false state es = sym (changed-nothing (message_with_state (Some state)) es)

pub returns-then-is_empty-clause-after : goal.returns-then-is_empty-clause-after
returns-then-is_empty-clause-after c =
    let none : length c.args.listed.now ≡ 0 = search rules in
    rw (nil_from_length c.args.listed.now none) (none_disposed c.args.settled c.args.state c.args.unsettled.now)
