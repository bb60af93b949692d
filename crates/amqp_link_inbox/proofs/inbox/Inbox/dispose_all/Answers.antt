use Rattle.std.proofs.Common.{◌≡◌, rules, subst, sym}
use Rattle.std.specs.List.{filter}
use Rattle.std.specs.Prelude.{IfOk, Ok, Result}
use Rattle.amqp_link_inbox.specs.Disposing.{infos_to_dispose, settled_tags}
use Rattle.amqp_link_inbox.specs.Inboxes.{inbox_with}
use Rattle.amqp_link_inbox.proofs.HandledLemmas.{disposed_is}
use Rattle.amqp_link_types.specs.Entries.{without_entries}
use Rattle.amqp_link_dispositions.specs.Keeping.{after_dispositions, is_settled_one, tags_of}
use Rattle.amqp_link_dispositions.specs.Listed.{kept_in_order}
use Rattle.amqp_link_inbox.specs.Storing.{IsStated}
use Rattle.amqp_link_inbox.proofs.RemovedLemmas.{stated_disposed_all}
use Rattle.amqp_link_inbox.proofs.inbox.Inbox.dispose_all.Goals as goal

when_found : {A E : Type 0} (r : Result A E) (P : A → Type 0) (a : A) → r ≡ Ok a → P a → IfOk r P
when_found r P a found p = subst (λ r. IfOk r P) (sym found) p

pub invariant_of-self : goal.invariant_of-self
invariant_of-self g c =
    let inside = c.self.inside in
    let settles = is_settled_one c.args.settled inside.link.rcv_settle_mode in
    let infos = c.in-Ok.infos.items in
    let entries : c.remove_settled.new.self.entries ≡ without_entries inside.deliveries.entries (tags_of (filter settles infos)) = search rules in
    let unsettled : c.dispose_all.new.self.unsettled ≡ after_dispositions settles c.args.state (kept_in_order inside.link.unsettled infos) inside.link.unsettled
    = search rules in
    subst (λ es. IsStated es c.dispose_all.new.self.unsettled) (sym entries)
    (subst (λ u. IsStated (without_entries inside.deliveries.entries (tags_of (filter settles infos))) u) (sym unsettled)
    (stated_disposed_all settles c.args.state infos inside.deliveries.entries inside.link.unsettled c.self.invariant))

pub returns-in-Ok-dispose_all-clause-after : goal.returns-in-Ok-dispose_all-clause-after
returns-in-Ok-dispose_all-clause-after g c =
    let s = c.args.self.now in
    let found : infos_to_dispose s.link.local_state s.deliveries c.args.tags.now ≡ Ok c.in-Ok.infos.items = search rules in
    let inside = c.self.inside in
    let settles = is_settled_one c.args.settled inside.link.rcv_settle_mode in
    let infos = c.in-Ok.infos.items in
    let entries : c.remove_settled.new.self.entries ≡ without_entries inside.deliveries.entries (tags_of (filter settles infos)) = search rules in
    let link : c.dispose_all.new.self ≡ record inside.link {
      unsettled = after_dispositions settles c.args.state (kept_in_order inside.link.unsettled infos) inside.link.unsettled;
    } = search rules in
    when_found _ _ infos found
    (subst (λ s. inbox_with c.remove_settled.new.self c.dispose_all.new.self inside.under_way ≡ record s {
      link = record s.link {
        unsettled = after_dispositions (is_settled_one c.args.settled s.link.rcv_settle_mode) c.args.state (kept_in_order s.link.unsettled infos) s.link.unsettled;
      };
      deliveries = without_entries s.deliveries (settled_tags c.args.settled s.link.rcv_settle_mode infos);
    }) c.self.view_is
    (disposed_is (inbox_with inside.deliveries inside.link inside.under_way) c.remove_settled.new.self c.dispose_all.new.self _ _ entries c.remove_settled.ensures.settled link))
