use Rattle.std.proofs.Common.{rules, ◌≡◌, ◌∙◌, ◌++◌, ◌∷◌, [], ap, map, sym, subst, append_assoc}
use Rattle.std.proofs.lemmas.List.{map-append}
use Rattle.std.specs.Map.Iter.{deref_pair}
use Rattle.amqp_link_types.specs.Entries.{IsMap}
use Rattle.amqp_link_ledger.specs.Fates.{registered}
use Rattle.amqp_link_ledger.proofs.RecordLemmas.{IsRecorded-none}
use Rattle.amqp_link_ledger.proofs.LedgerLemmas.{free_from, absent_at, pending_next, recorded_next}
use Rattle.amqp_link_ledger.proofs.ledger.registrations_of.Goals as goal

pub loop-tag-init : goal.loop-tag-init
loop-tag-init g c = record {
  whole = (c.into_iter-tag-iterator.ensures.into_iter_gives).0;
  records = c.new-all.ensures;
  recorded = rw c.new-all.ensures (IsRecorded-none _);
}

pub register-requires-clause-free : goal.register-requires-clause-free
register-requires-clause-free g c =
    let done = map deref_pair c.loop-tag.yielded in
    let left = c.next.new.self in
    let step : c.loop-tag.tag-iterator ≡ (c.in-Some.tag.now, c.in-Some.field-0-1.now) ∷ left = search rules in
    let distinct : IsMap (done ++ (c.in-Some.tag.now, c.in-Some.field-0-1.now) ∷ left)
    = subst IsMap (sym (ap (λ l. done ++ l) (sym step) ∙ c.loop-tag.invariant.whole)) c.requires in
    let tag : c.in-Ok.reserved ≡ c.in-Some.tag.now = search rules in
    rw (tag, c.reserve.ensures.records)
    (free_from _ _ c.in-Some.tag.now c.loop-tag.invariant.recorded (absent_at done left (c.in-Some.tag.now, c.in-Some.field-0-1.now) distinct))

pub loop-tag-preserved : goal.loop-tag-preserved
loop-tag-preserved g c =
    let done = map deref_pair c.loop-tag.yielded in
    let left = c.next.new.self in
    let step : c.loop-tag.tag-iterator ≡ (c.in-Some.tag.now, c.in-Some.field-0-1.now) ∷ left = search rules in
    let whole : done ++ (c.in-Some.tag.now, c.in-Some.field-0-1.now) ∷ left ≡ c.args.pairs
    = ap (λ l. done ++ l) (sym step) ∙ c.loop-tag.invariant.whole in
    let distinct : IsMap (done ++ (c.in-Some.tag.now, c.in-Some.field-0-1.now) ∷ left) = subst IsMap (sym whole) c.requires in
    let more : map deref_pair (c.loop-tag.yielded ++ (c.in-Some.tag, c.in-Some.field-0-1) ∷ []) ≡ done ++ (c.in-Some.tag.now, c.in-Some.field-0-1.now) ∷ []
    = map-append deref_pair c.loop-tag.yielded ((c.in-Some.tag, c.in-Some.field-0-1) ∷ []) in
    let next : c.register.new.self.records ≡ registered c.in-Some.tag.now c.loop-tag.all.records = search rules in
    record {
      whole = ap (λ l. l ++ left) more ∙ append_assoc done ((c.in-Some.tag.now, c.in-Some.field-0-1.now) ∷ []) left ∙ whole;
      records = rw more (pending_next done left (c.in-Some.tag.now, c.in-Some.field-0-1.now) distinct _ _ c.loop-tag.invariant.records next);
      recorded = rw more (recorded_next done left (c.in-Some.tag.now, c.in-Some.field-0-1.now) distinct _ _ c.loop-tag.invariant.recorded next);
    }
