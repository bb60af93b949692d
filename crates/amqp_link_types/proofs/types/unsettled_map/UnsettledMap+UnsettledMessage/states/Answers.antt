use Rattle.std.proofs.Common.{rules, ◌≡◌, ◌<◌, length, ◌++◌, ◌∷◌, [], ap, sym, subst, ◌∙◌, append_assoc, None}
use Rattle.amqp_link_types.specs.Entries.{entry_at, IsMap}
use Rattle.amqp_link_types.specs.Unsettled.{states_of}
use Rattle.std.proofs.lemmas.Cmp.{nat_list_eq_equiv}
use Rattle.indexmap.proofs.MapLemmas.{absent_before}
use Rattle.amqp_link_types.proofs.MapLemmas.{put-absent}
use Rattle.amqp_link_types.proofs.StatesLemmas.{IsMap-states, some_states}
use Rattle.amqp_link_types.proofs.types.unsettled_map.UnsettledMap+UnsettledMessage.states.Goals as goal

pub loop-tag-preserved : goal.loop-tag-preserved
loop-tag-preserved c =
    let tag = c.in-Some.tag.now in
    let state = c.in-Some.message.now.state in
    let copied = c.loop-tag.states.entries in
    let step : c.loop-tag.tag-iterator ≡ (tag, c.in-Some.message.now) ∷ c.next.new.self = search rules in
    let whole : copied ++ (tag, state) ∷ states_of c.next.new.self ≡ states_of c.args.self.now
    = ap (λ l. copied ++ states_of l) (sym step) ∙ c.loop-tag.invariant in
    let distinct : IsMap c.args.self.now = subst IsMap c.self.view_is c.len.ensures.unique in
    let absent : entry_at copied tag ≡ None
    = absent_before nat_list_eq_equiv copied (states_of c.next.new.self) (tag, state) (subst IsMap (sym whole) (IsMap-states c.args.self.now distinct)) in
    let put : c.put_state.new.states.entries ≡ copied ++ (tag, state) ∷ [] = c.in_ok-put_state.ensures ∙ put-absent copied tag state absent in
    ap (λ l. l ++ states_of c.next.new.self) put ∙ append_assoc copied ((tag, state) ∷ []) (states_of c.next.new.self) ∙ whole

pub returns-in_err-put_state-clause-memory : goal.returns-in_err-put_state-clause-memory
returns-in_err-put_state-clause-memory c =
    let copied = c.loop-tag.states.entries in
    let step : c.loop-tag.tag-iterator ≡ (c.in-Some.tag.now, c.in-Some.message.now) ∷ c.next.new.self = search rules in
    let whole = ap (λ l. copied ++ states_of l) (sym step) ∙ c.loop-tag.invariant in
    let some : 0 < length c.args.self.now = some_states copied (c.in-Some.tag.now, c.in-Some.message.now) c.next.new.self c.args.self.now whole in
    search rules
