use Rattle.std.proofs.Common.{◌≡◌, ◌+◌, ◌-◌, ◌∙◌, ◌∷◌, ◌++◌, [], refl, ap, cond, Some, nat_eq, arith}
use Rattle.std.proofs.lemmas.List.{length_push}
use Rattle.amqp_link_payloads.proofs.SeekLemmas.{sought_new, sought_passed}
use Rattle.amqp_link_payloads.proofs.position.places.SeekStarts.start.Goals as goal

pub returns : goal.returns
returns c = λ aim F b n seeks pos ends size xs same.
    let s = c.args.self in
    sought_passed aim _ (F ++ b ∷ []) xs (c.args.at + 1)
    (λ fits.
    let has = seeks (omega (arith, fits, length_push F b)) in
    let seen : c.saturating_add-seen.result ≡ s.seen + 1
    = c.saturating_add-seen.ensures ∙ omega (arith, has.seen_within, fits, length_push F b) in
    let end : c.saturating_add-end.result ≡ s.before + (c.args.at + 1)
    = c.saturating_add-end.ensures ∙ omega (arith, has.length_is, fits, length_push F b) in
    sought_new aim s _ F b n c.args.header c.args.at has pos ends size refl refl seen
    (c.keep_or_set.ensures ∙ ap (λ k. cond (nat_eq k s.number) (Some c.saturating_sub-start.result) s.start) seen
    ∙ ap (λ k. cond (nat_eq (s.seen + 1) s.number) (Some k) s.start) (c.saturating_sub-start.ensures ∙ ap (λ k. k - c.args.header) end))
    (c.keep_or_set-2.ensures ∙ ap (λ k. cond (nat_eq k (s.number + 1)) (Some c.saturating_add-end.result) s.end) seen
    ∙ ap (λ k. cond (nat_eq (s.seen + 1) (s.number + 1)) (Some k) s.end) end)) same
