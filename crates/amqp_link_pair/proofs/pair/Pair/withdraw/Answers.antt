use Rattle.std.proofs.Common.{◌≡◌, ap, subst, rules, refl, true, None, Some}
use Rattle.amqp_link_types.specs.Entries.{entry_at}
use Rattle.amqp_link_types.specs.Refusals.{refusal}
use Rattle.amqp_link_worlds.specs.Invariants.{IsWorld}
use Rattle.amqp_link_worlds.specs.Steps.{WithdrawsDelivery, is_apart, withdraw_tests}
use Rattle.amqp_link_worlds.specs.Worlds.{World}
use Rattle.amqp_link_worlds.proofs.WorldLemmas.{IsWorld-withdraws, Good-from_world}
use Rattle.amqp_link_pair.specs.Keeping.{progress_of}
use Rattle.amqp_link_pair.specs.PairViews.{world_of}
use Rattle.amqp_link_pair.specs.declared.deliveries.Kept.{Kept}
use Rattle.amqp_link_pair.specs.declared.ends.Ends.{Ends}
use Rattle.amqp_link_pair.proofs.MarkLemmas.{marks_apart}
use Rattle.amqp_link_pair.proofs.WithdrawLemmas.{IsEnds-apart, apart, apart_off, kept_there, left_is, some_of, withdraws}
use Rattle.amqp_link_pair.proofs.pair.Pair.withdraw.Goals as goal

pub withdraw_kept-requires : goal.withdraw_kept-requires
withdraw_kept-requires c =
    let may : refusal (withdraw_tests (world_of c.self.inside) c.args.tag.now) ≡ None = search rules in
    kept_there (world_of c.self.inside) c.self.inside.deliveries c.args.tag.now c.self.invariant.world refl may

-- the endpoints after it, and the world
abbrev ends : goal.After-withdraw_kept → Ends
ends c = record c.self.inside.ends { ledger = c.withdraw.new.self }

abbrev new : goal.After-withdraw_kept → World
new c = record (world_of c.self.inside) { ledger = c.withdraw.new.self; deliveries = progress_of c.withdraw_kept.new.self }

may : (c : goal.After-withdraw_kept) → refusal (withdraw_tests (world_of c.self.inside) c.args.tag.now) ≡ None
may c = search rules

off : (c : goal.After-withdraw_kept) → is_apart (world_of c.self.inside).phase ≡ true
off c = apart (world_of c.self.inside) c.self.inside.deliveries c.args.tag.now c.self.invariant.world refl (may c)

found : (c : goal.After-withdraw_kept) → (k : Kept) × (entry_at c.self.inside.deliveries c.args.tag.now ≡ Some k)
found c = some_of (entry_at c.self.inside.deliveries c.args.tag.now) (kept_there (world_of c.self.inside) c.self.inside.deliveries c.args.tag.now c.self.invariant.world refl (may c))

did : (c : goal.After-withdraw_kept) → WithdrawsDelivery (world_of c.self.inside) c.args.tag.now (new c)
did c =
    let k = found c in
    withdraws (world_of c.self.inside) c.self.inside.deliveries c.withdraw_kept.new.self c.withdraw.new.self c.args.tag.now k.0 refl k.1
    c.withdraw.ensures.link c.withdraw.ensures.records
    (left_is c.self.inside.deliveries c.withdraw_kept.new.self c.args.tag.now k.0 k.1 c.withdraw_kept.ensures.none_held (λ held. c.withdraw_kept.ensures.some_held k.0 held k.1))

kept : (c : goal.After-withdraw_kept) → IsWorld (new c)
kept c = IsWorld-withdraws (world_of c.self.inside) (new c) c.args.tag.now c.self.invariant.world (may c) (did c)

pub invariant_of-self : goal.invariant_of-self
invariant_of-self c = record {
  ends = IsEnds-apart c.self.inside.ends (ends c) c.self.invariant.ends (off c) refl refl (ap (λ l. l.max_frame_size) c.withdraw.ensures.link);
  world = kept c;
  marks = marks_apart (new c) c.withdraw_kept.new.self (apart_off (new c).phase (off c));
}

pub returns-clause-done : goal.returns-clause-done
returns-clause-done c = subst (λ w. WithdrawsDelivery w c.args.tag.now (new c)) c.self.view_is (did c)

pub returns-clause-good : goal.returns-clause-good
returns-clause-good c = Good-from_world (new c) (kept c)

pub returns-clause-kept : goal.returns-clause-kept
returns-clause-kept c = kept c
