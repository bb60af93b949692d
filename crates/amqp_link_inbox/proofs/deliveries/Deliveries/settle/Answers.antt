use Rattle.std.proofs.Common.{◌≡◌, ◌∙◌, ◌++◌, IfSome, Some, ap, false, rules, subst, sym, true}
use Rattle.amqp_link_types.specs.Entries.{entry_at, without_entry}
use Rattle.amqp_link_inbox.proofs.KeptLemmas.{put_again, put_in_place}
use Rattle.amqp_link_inbox.proofs.StoreLemmas.{on_any_err, settled_begun, settled_leaves, store_is}
use Rattle.amqp_link_inbox.specs.KeptDeliveries.{has_begun}
use Rattle.amqp_link_inbox.specs.Storing.{held_in}
use Rattle.amqp_link_inbox.proofs.deliveries.Deliveries.settle.Goals as goal

pub returns-then-has_begun-clause-settled : goal.returns-then-has_begun-clause-settled
returns-then-has_begun-clause-settled c =
    let s = c.args.self.now in
    let kept = c.in-Some.kept.now in
    let after = record kept { settled = true } in
    let known : entry_at s.entries c.args.tag.now ≡ Some kept = search rules in
    let begun : has_begun kept.contents ≡ true = search rules in
    store_is _ _ _ _
    (put_in_place c.self.inside.entries.entries s.entries c.args.tag.now kept after _ (ap (λ s. s.entries) c.self.view_is) known (c.get_mut.follows.holds after).0)
    (ap (λ s. s.settled) c.self.view_is)
    ∙ sym (settled_begun s c.args.tag.now kept known begun)

pub returns-in_err-reserve-clause-left : goal.returns-in_err-reserve-clause-left
returns-in_err-reserve-clause-left c =
    let s = c.args.self.now in
    let kept = c.in-Some.kept.now in
    let known : entry_at s.entries c.args.tag.now ≡ Some kept = search rules in
    on_any_err c.from_residual.result (store_is _ _ _ _
    (put_again c.self.inside.entries.entries s.entries c.args.tag.now kept _ (ap (λ s. s.entries) c.self.view_is) known (c.get_mut.follows.holds kept).0)
    (c.reserve.ensures.same ∙ ap (λ s. s.settled) c.self.view_is))

pub returns-clause-settled : goal.returns-clause-settled
returns-clause-settled c =
    let s = c.args.self.now in
    let kept = c.in-Some.kept.now in
    let known : entry_at s.entries c.args.tag.now ≡ Some kept = search rules in
    let begun : has_begun kept.contents ≡ false = search rules in
    let again = put_again c.self.inside.entries.entries s.entries c.args.tag.now kept _ (ap (λ s. s.entries) c.self.view_is) known (c.get_mut.follows.holds kept).0 in
    let here = ap (λ es. entry_at es c.args.tag.now) again ∙ known in
    let held : c.leave.new.settled.list ≡ c.reserve.new.self.list ++ held_in kept.contents
    = subst (λ o. IfSome o (λ k. c.leave.new.settled.list ≡ c.reserve.new.self.list ++ held_in k.contents)) here c.leave.ensures.settled in
    store_is _ _ _ _ (c.leave.ensures.entries ∙ ap (λ es. without_entry es c.args.tag.now) again)
    (held ∙ ap (λ l. l ++ held_in kept.contents) (c.reserve.ensures.same ∙ ap (λ s. s.settled) c.self.view_is))
    ∙ sym (settled_leaves s c.args.tag.now kept known begun)
