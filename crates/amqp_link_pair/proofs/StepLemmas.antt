-- What the parts of a pair do is a step of its world.
use Rattle.std.proofs.Common.{◌≡◌, ◌∙◌, sym, ap, ℕ, Bool, true, [], ◌∷◌, Some, Ok}
use Rattle.std.specs.Prelude.{is_some, IsSome}
use Rattle.amqp_link_types.specs.Entries.{Tag, Entries, entry_at, with_entry, without_entry}
use Rattle.amqp_link_types.specs.declared.delivery.UnsettledMessage.{UnsettledMessage}
use Rattle.amqp_link_types.specs.declared.types.delivery_state.DeliveryState.TheVariants.{Accepted}
use Rattle.amqp_link_types.specs.declared.types.terminus.Target.{Target}
use Rattle.amqp_link_types.proofs.MapLemmas.{false_is_not_true}
use Rattle.amqp_link_core.specs.declared.resumption.ResumingDelivery.{ResumingDelivery}
use Rattle.amqp_link_ledger.specs.Fates.{Resolves, after}
use Rattle.amqp_link_ledger.specs.Ledgers.{Ledger}
use Rattle.amqp_link_worlds.specs.Resumptions.{entry_of}
use Rattle.amqp_link_worlds.specs.Steps.{Settles, PutsBack, after_registration}
use Rattle.amqp_link_worlds.specs.Invariants.{IsWorld}
use Rattle.amqp_link_worlds.specs.Worlds.{World, Good, is_together}
use Rattle.amqp_link_worlds.proofs.WorldLemmas.{Good-from_world}
use Rattle.amqp_link_worlds.specs.declared.progress.Progress.{Progress}
use Rattle.amqp_link_pair.specs.Endpoints.{IsEnds, IsOnWayAt, phase_of, with_ends}
use Rattle.amqp_link_pair.specs.Keeping.{progress_of, marked}
use Rattle.amqp_link_pair.specs.declared.deliveries.Kept.{Kept}
use Rattle.amqp_link_pair.specs.declared.ends.Ends.{Ends}
use Rattle.amqp_link_pair.specs.declared.ends.Stage.{Stage}
use Rattle.amqp_link_pair.specs.declared.ends.Stage.TheVariants as stage
use Rattle.amqp_link_pair.proofs.ProgressLemmas.{progress_of-put, progress_of-removed, something_kept}

-- a world with these endpoints, and of which this is kept
abbrev pub with_parts : World → Ends → Entries Kept → World
with_parts w ends kept = record (with_ends w ends) { deliveries = progress_of kept }

-- ---- the endpoints

-- of endpoints that are attached no attach is on its way
on_way_together : (s : Stage) (limit : ℕ) (e : Ends) → is_together (phase_of s limit) ≡ true → IsOnWayAt s e
on_way_together stage.Apart limit e on = absurd (false_is_not_true on)
on_way_together stage.Asked limit e on = absurd (false_is_not_true on)
on_way_together stage.Taken limit e on = absurd (false_is_not_true on)
on_way_together stage.Answered limit e on = absurd (false_is_not_true on)
on_way_together stage.Together limit e on = tt

-- they may change, but for the sender's frame limit
pub IsEnds-together : (old new : Ends) → IsEnds old → is_together (phase_of old.stage old.limit) ≡ true → new.stage ≡ old.stage → new.limit ≡ old.limit
    → new.ledger.link.max_frame_size ≡ old.ledger.link.max_frame_size → IsEnds new
IsEnds-together old new k on s l f = record {
  limit = f ∙ k.limit ∙ sym l;
  on_way = on_way_together new.stage new.limit new ((λ i. is_together (phase_of (s i) (l i))) ∙ on);
}

-- ---- a settlement

abbrev pub settled_ends : Tag → Ends → Ends
settled_ends tag e = record e {
  ledger = record {
    link = record e.ledger.link { unsettled = without_entry e.ledger.link.unsettled tag };
    records = after (Resolves ((tag, Ok (Some Accepted)) ∷ [])) e.ledger.records;
  };
  receiver = record e.receiver { unsettled = without_entry e.receiver.unsettled tag };
}

pub settles : (w : World) (ends new : Ends) (kept left : Entries Kept) (tag : Tag) → new ≡ settled_ends tag ends → left ≡ without_entry kept tag
    → Settles (with_parts w ends kept) tag (with_parts w new left)
settles w ends new kept left tag e m = record {
  world = (λ i. record (with_ends w (e i)) { deliveries = (ap progress_of m ∙ progress_of-removed kept tag) i });
}

-- ---- an entry that is put back

abbrev pub registered_ends : Ledger Target → Ends → Ends
registered_ends ledger e = record e { ledger = ledger }

-- what is noted of a delivery is what its progress shows
pub noted : (kept left : Entries Kept) (tag : Tag) (p : Progress) (b : Bool) → entry_at (progress_of kept) tag ≡ Some p
    → ((k : Kept) → entry_at kept tag ≡ Some k → left ≡ with_entry kept tag (marked b k))
    → progress_of left ≡ with_entry (progress_of kept) tag (record p { put_back = b })
noted kept left tag p b known marks =
    let found = something_kept kept tag p known in
    let k : Kept = found.0 in
    ap progress_of (marks k found.1) ∙ progress_of-put kept tag (marked b k) ∙ ap (λ (q : Progress). with_entry (progress_of kept) tag (record q { put_back = b })) found.2

pub is_kept : (kept : Entries Kept) (tag : Tag) (p : Progress) → entry_at (progress_of kept) tag ≡ Some p → IsSome (entry_at kept tag)
is_kept kept tag p known = let found = something_kept kept tag p known in ap is_some found.1

pub puts_back : (w : World) (ends : Ends) (ledger : Ledger Target) (kept left : Entries Kept) (tag : Tag) (next : ResumingDelivery) (others : Entries ResumingDelivery) (entry : UnsettledMessage) (p : Progress)
    → w.resuming ≡ (tag, next) ∷ others → entry_of next ≡ Some entry → entry_at (progress_of kept) tag ≡ Some p
    → ledger ≡ after_registration ends.ledger tag entry
    → ((k : Kept) → entry_at kept tag ≡ Some k → left ≡ with_entry kept tag (marked true k))
    → PutsBack (with_parts w ends kept) tag (record (with_parts w (registered_ends ledger ends) left) { resuming = others })
puts_back w ends ledger kept left tag next others entry p listed is known l marks = record {
  next = next;
  others = others;
  entry = entry;
  before = p;
  listed = listed;
  kept = is;
  known = known;
  world = (λ i. record (with_ends w (registered_ends (l i) ends)) { deliveries = noted kept left tag p true known marks i; resuming = others });
}

-- a pair's world is good
pub good_world : (w : World) → IsWorld w → Good w
good_world w k = Good-from_world w k
