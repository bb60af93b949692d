use Rattle.std.proofs.Common.{◌≡◌, ◌∙◌, None, Some, ap, refl, rules, sym}
use Rattle.amqp_link_payloads.specs.Position.{position}
use Rattle.amqp_link_types.specs.declared.types.errors.ReceiverTransferError.TheVariants.{OutOfMemory}
use Rattle.amqp_link_core.specs.Held.{held_bytes}
use Rattle.amqp_link_inbox.specs.KeptDeliveries.{bytes_until, start_of}
use Rattle.amqp_link_inbox.proofs.StartLemmas.{joins_there, or_before, same_tests, until_end}
use Rattle.amqp_link_inbox.proofs.kept.join.Goals as goal
use Rattle.amqp_link_inbox.proofs.kept.join.Goals.{in_default-via-in-Some+else-ne, in_default-via-in_default}

pub returns-in_default-clause-joined : goal.returns-in_default-clause-joined
returns-in_default-clause-joined c =
    let held = c.args.held.now in
    let there : bytes_until (start_of c.args.begins c.args.transfer) (held_bytes held) ≡ held_bytes held
    = elim c.in_default.branch [
      | in_default-via-in-Some+else-ne w ↦
          let at : start_of c.args.begins c.args.transfer ≡ Some (position (held_bytes held)) = search rules in
          ap (λ s. bytes_until s (held_bytes held)) at ∙ until_end (held_bytes held)
      | in_default-via-in_default w ↦
          let at : start_of c.args.begins c.args.transfer ≡ None = search rules in
          ap (λ s. bytes_until s (held_bytes held)) at
    ] in
    joins_there c.add_or_return.result c.args.begins c.args.transfer c.args.payload held c.add_or_return.new.self there
    c.add_or_return.ensures.merged c.add_or_return.ensures.pieces

pub returns-in_default-clause-refused : goal.returns-in_default-clause-refused
returns-in_default-clause-refused c =
    let held = c.args.held.now in
    let there : bytes_until (start_of c.args.begins c.args.transfer) (held_bytes held) ≡ held_bytes held
    = elim c.in_default.branch [
      | in_default-via-in-Some+else-ne w ↦
          let at : start_of c.args.begins c.args.transfer ≡ Some (position (held_bytes held)) = search rules in
          ap (λ s. bytes_until s (held_bytes held)) at ∙ until_end (held_bytes held)
      | in_default-via-in_default w ↦
          let at : start_of c.args.begins c.args.transfer ≡ None = search rules in
          ap (λ s. bytes_until s (held_bytes held)) at
    ] in
    or_before OutOfMemory _ _ _ (same_tests c.args.begins held held c.args.transfer c.args.payload refl (sym there)) c.add_or_return.ensures.refused
