use Rattle.std.proofs.Common.{◌≡◌, ◌∙◌, ap, sym, rules, None, Some, option_copied}
use Rattle.amqp_link_types.specs.Entries.{entry_at}
use Rattle.amqp_link_worlds.specs.Worlds.{World, held_at}
use Rattle.amqp_link_pair.specs.HandingOut.{held_in}
use Rattle.amqp_link_pair.proofs.ProgressLemmas.{held_of_kept}
use Rattle.amqp_link_pair.proofs.pair.Pair.held.Goals as goal

pub returns-in_err-held-clause-held : goal.returns-in_err-held-clause-held
returns-in_err-held-clause-held c =
    let none : entry_at c.self.inside.deliveries c.args.tag.now ≡ None = search rules in
    let out : option_copied c.from_residual.result ≡ None = search rules in
    out ∙ sym (ap held_in none) ∙ sym (held_of_kept c.self.inside.deliveries c.args.tag.now) ∙ ap (λ (w : World). held_at w c.args.tag.now) c.self.view_is

pub returns-in-Some-clause-held : goal.returns-in-Some-clause-held
returns-in-Some-clause-held c =
    let some : entry_at c.self.inside.deliveries c.args.tag.now ≡ Some c.in_ok-held.field-0.now = search rules in
    ap Some c.deref.ensures ∙ sym c.in-Some.is ∙ sym (ap held_in some) ∙ sym (held_of_kept c.self.inside.deliveries c.args.tag.now)
    ∙ ap (λ (w : World). held_at w c.args.tag.now) c.self.view_is

pub returns-in-None-clause-held : goal.returns-in-None-clause-held
returns-in-None-clause-held c =
    let some : entry_at c.self.inside.deliveries c.args.tag.now ≡ Some c.in_ok-held.field-0.now = search rules in
    sym c.in-None.is ∙ sym (ap held_in some) ∙ sym (held_of_kept c.self.inside.deliveries c.args.tag.now)
    ∙ ap (λ (w : World). held_at w c.args.tag.now) c.self.view_is
