use Rattle.std.proofs.Common.{◌≡◌, ◌∙◌, ◌++◌, IfSome, Some, ap, false, not, refl, rules, subst, true}
use Rattle.std.specs.Prelude.{◌&&◌, ◌||◌}
use Rattle.amqp_link_types.specs.Entries.{entry_at, with_entry, without_entry}
use Rattle.amqp_link_types.proofs.MapLemmas.{entry_at-put, put-same}
use Rattle.amqp_link_receiver.specs.ReceiverDeliveries.{is_settled}
use Rattle.amqp_link_inbox.specs.Storing.{held_in}
use Rattle.amqp_link_inbox.proofs.KeptLemmas.{put_again, put_in_place, put_removed}
use Rattle.amqp_link_inbox.proofs.StoreLemmas.{adds_in_place, adds_last, left_in_place, on_any_err, store_is}
use Rattle.amqp_link_inbox.proofs.deliveries.Deliveries.add.Goals as goal

pub returns-then-not-is_last_of_settled-clause-done : goal.returns-then-not-is_last_of_settled-clause-done
returns-then-not-is_last_of_settled-clause-done g c =
    let s = c.args.self.now in
    let t = c.args.transfer in
    let kept = c.in-Some.kept.now in
    let next = c.add_kept.new.kept in
    let known : entry_at s.entries c.args.tag.now ≡ Some kept = search rules in
    let stays : (not t.more && (kept.settled || is_settled t)) ≡ false = search rules in
    adds_in_place s c.args.link.now c.add_kept.new.link c.args.tag.now kept next c.args.begins t c.args.payload _ _ known c.add_kept.result
    c.add_kept.ensures.added c.add_kept.ensures.link c.add_kept.ensures.arrival stays
    (put_in_place c.self.inside.entries.entries s.entries c.args.tag.now kept next _ (ap (λ s. s.entries) c.self.view_is) known (c.get_mut.follows.holds next).0)
    (ap (λ s. s.settled) c.self.view_is)

pub returns-then-not-is_last_of_settled-clause-left : goal.returns-then-not-is_last_of_settled-clause-left
returns-then-not-is_last_of_settled-clause-left g c =
    let s = c.args.self.now in
    let kept = c.in-Some.kept.now in
    let next = c.add_kept.new.kept in
    let known : entry_at s.entries c.args.tag.now ≡ Some kept = search rules in
    left_in_place s c.args.link.now c.add_kept.new.link c.args.tag.now kept next c.args.begins c.args.transfer c.args.payload _ _ known
    c.add_kept.result c.add_kept.ensures.left
    (put_in_place c.self.inside.entries.entries s.entries c.args.tag.now kept next _ (ap (λ s. s.entries) c.self.view_is) known (c.get_mut.follows.holds next).0)
    (ap (λ s. s.settled) c.self.view_is)

pub returns-in_default-reserve-clause-left : goal.returns-in_default-reserve-clause-left
returns-in_default-reserve-clause-left g c =
    let s = c.args.self.now in
    let kept = c.in-Some.kept.now in
    let known : entry_at s.entries c.args.tag.now ≡ Some kept = search rules in (
      store_is _ _ _ _
          (put_again c.self.inside.entries.entries s.entries c.args.tag.now kept _ (ap (λ s. s.entries) c.self.view_is) known (c.get_mut.follows.holds kept).0)
          (c.reserve.ensures.same ∙ ap (λ s. s.settled) c.self.view_is),
      refl,
    )

pub returns-in_err-came-clause-left : goal.returns-in_err-came-clause-left
returns-in_err-came-clause-left g c =
    let s = c.args.self.now in
    let kept = c.in-Some.kept.now in
    let next = c.add_kept-2.new.kept in
    let known : entry_at s.entries c.args.tag.now ≡ Some kept = search rules in
    let left = c.in_err-came.ensures.left in
    let put = put_in_place c.self.inside.entries.entries s.entries c.args.tag.now kept next _ (ap (λ s. s.entries) c.self.view_is) known (c.get_mut.follows.holds next).0 in
    on_any_err c.from_residual.result (
      store_is _ _ _ _ (put ∙ ap (with_entry s.entries c.args.tag.now) left.0 ∙ put-same s.entries c.args.tag.now kept known)
          (c.reserve.ensures.same ∙ ap (λ s. s.settled) c.self.view_is),
      left.1,
    )

pub returns-clause-done : goal.returns-clause-done
returns-clause-done g c =
    let s = c.args.self.now in
    let t = c.args.transfer in
    let tag = c.args.tag.now in
    let kept = c.in-Some.kept.now in
    let next = c.add_kept-2.new.kept in
    let known : entry_at s.entries tag ≡ Some kept = search rules in
    let leaves : (not t.more && (kept.settled || is_settled t)) ≡ true = search rules in
    let put = put_in_place c.self.inside.entries.entries s.entries tag kept next _ (ap (λ s. s.entries) c.self.view_is) known (c.get_mut.follows.holds next).0 in
    let held : c.leave.new.settled.list ≡ c.reserve.new.self.list ++ held_in next.contents
    = subst (λ o. IfSome o (λ k. c.leave.new.settled.list ≡ c.reserve.new.self.list ++ held_in k.contents))
    (ap (λ es. entry_at es tag) put ∙ entry_at-put s.entries tag next) c.leave.ensures.settled in
    let came = c.in_ok-came.ensures in
    adds_last s c.args.link.now c.add_kept-2.new.link tag kept next c.args.begins t c.args.payload _ _ known
    c.in_ok-came.came came.added came.link came.arrival leaves
    (c.leave.ensures.entries ∙ ap (λ es. without_entry es tag) put ∙ put_removed s.entries tag kept next known)
    (held ∙ ap (λ l. l ++ held_in next.contents) (c.reserve.ensures.same ∙ ap (λ s. s.settled) c.self.view_is))
