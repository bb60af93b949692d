use Rattle.std.proofs.Common.{◌≡◌, ◌∙◌, ap, sym, length, arith}
use Rattle.std.proofs.lemmas.List.{nil_from_length}
use Rattle.std.specs.Iterator.Adapters.{enumerate_source, enumerate_count}
use Rattle.std.specs.Vec.{vec_len}
use Rattle.std.specs.Vec.Iter.{into_iter_items, into_iter_len}
use Rattle.amqp_link_uses.proofs.PeerLemmas.{has_transition_by_test, not_allowed_without_transition, driven_nowhere, driven_on, driven_to_refusal, driven_to_end}
use Rattle.amqp_link_uses.specs.Peers.{state_and_handle}
use Rattle.amqp_link_uses.proofs.peer.first_refused.Goals as goal

pub loop-place-init : goal.loop-place-init
loop-place-init g c =
    let it = c.into_iter-place-iterator.result in
    let same = c.into_iter-place-iterator.ensures.into_iter_gives in
    let source = ap (λ e. enumerate_source e) same ∙ c.enumerate-place-items.ensures.source in
    let start : enumerate_count it ≡ 0 = ap (λ e. enumerate_count e) same ∙ c.enumerate-place-items.ensures.count in
    let all : into_iter_len (enumerate_source it) ≡ vec_len c.args.frames = ap (λ i. into_iter_len i) source ∙ c.into_iter.ensures.len in
    record {
      driven = driven_nowhere (ap (λ i. into_iter_items i) source ∙ c.into_iter.ensures.rest) start;
      fits = omega arith;
    }

pub loop-place-preserved : goal.loop-place-preserved
loop-place-preserved g c =
    let (next, place_is, one, fits) = c.in-Some.ensures.steps in
    let goes = has_transition_by_test c.in-Some.frame c.local_state.ensures c.has_transition.ensures c.if-not-has_transition.false in
    let taken = c.if-not-send_or_take.false in
    let allowed = sym (c.send_or_take.ensures.taken goes) ∙ taken in
    record {
      driven = driven_on c.loop-place.invariant.driven next.0 one allowed (c.send_or_take.ensures.leads taken);
      fits = omega (arith, next.1, one);
    }

pub returns : goal.returns
returns g c =
    let left = enumerate_source c.loop-place.place-iterator in
    let none : length (into_iter_items left) ≡ 0 = omega (arith, c.in-None.ensures.steps.0.0) in
    driven_to_end c.loop-place.invariant.driven (nil_from_length (into_iter_items left) none)

pub returns-then-not-has_transition : goal.returns-then-not-has_transition
returns-then-not-has_transition g c =
    let (next, place_is, one, fits) = c.in-Some.ensures.steps in
    let none = has_transition_by_test c.in-Some.frame c.local_state.ensures c.has_transition.ensures c.if-not-has_transition.true in
    let refused = not_allowed_without_transition c.in-Some.frame (state_and_handle (g.L.LinkDetach.shown c.loop-place.link)) none in
    rw place_is (driven_to_refusal c.loop-place.invariant.driven next.0 refused)

pub returns-then-not-send_or_take : goal.returns-then-not-send_or_take
returns-then-not-send_or_take g c =
    let (next, place_is, one, fits) = c.in-Some.ensures.steps in
    let goes = has_transition_by_test c.in-Some.frame c.local_state.ensures c.has_transition.ensures c.if-not-has_transition.false in
    let none = c.if-not-send_or_take.true in
    let refused = sym (c.send_or_take.ensures.taken goes) ∙ none in
    rw (c.send_or_take.ensures.left none, place_is) (driven_to_refusal c.loop-place.invariant.driven next.0 refused)
