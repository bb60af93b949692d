-- The fates of one tag.
use Rattle.std.proofs.Common.{◌≡◌, ◌∙◌, sym, ap, subst, false, List, [], ◌∷◌, ◌++◌, refl, map, Option, Some, None, length}
use Rattle.std.specs.List.{last_or, count_by}
use Rattle.std.proofs.lemmas.List.{map-append}
use Rattle.std.proofs.lemmas.List.Elements.{filter-append}
use Rattle.std.proofs.lemmas.List.Sums.{length-filter}
use Rattle.amqp_link_ledger.specs.Fates.{latest, is_pending_fate, fate_given}
use Rattle.amqp_link_ledger.specs.declared.fate.Fate.{Fate}
use Rattle.amqp_link_ledger.specs.declared.fate.Fate.TheVariants.{Pending}
use Rattle.amqp_link_ledger.proofs.FateLemmas.{moved-kept}
use Rattle.amqp_link_worlds.specs.Invariants.{HaveMoved, IsLatest, AreOver}
use Rattle.amqp_link_worlds.specs.Worlds.{IsOpen}
use Rattle.amqp_link_worlds.proofs.EntriesOf.{none_left}

-- ---- fates that have moved stay

pub all-kept : (o : Option Fate) (fates : List Fate) → HaveMoved fates → map (fate_given o) fates ≡ fates
all-kept o [] h = refl
all-kept o (fate ∷ fates) h = ap (λ f. f ∷ map (fate_given o) fates) (moved-kept o fate h.0) ∙ ap (λ l. fate ∷ l) (all-kept o fates h.1)

HaveMoved-push : (fates : List Fate) (fate : Fate) → HaveMoved fates → is_pending_fate fate ≡ false → HaveMoved (fates ++ fate ∷ [])
HaveMoved-push [] fate h is = (is, tt)
HaveMoved-push (f ∷ fates) fate h is = (h.0, HaveMoved-push fates fate h.1 is)

last_pushed : (s : Option Fate) (fates : List Fate) (fate : Fate) → last_or s (fates ++ fate ∷ []) ≡ Some fate
last_pushed s [] fate = refl
last_pushed s (f ∷ fates) fate = last_pushed (Some f) fates fate

-- ---- the latest

pub latest_is : (fate : Fate) (fates : List Fate) → IsLatest fate fates → latest fates ≡ Some fate
latest_is fate fates l = ap latest l.fates_are ∙ last_pushed None l.earlier fate

pub have_moved : (fate : Fate) (fates : List Fate) → IsLatest fate fates → is_pending_fate fate ≡ false → HaveMoved fates
have_moved fate fates l is = subst HaveMoved (sym l.fates_are) (HaveMoved-push l.earlier fate l.before is)

-- an entry enters
pub latest_entered : (fates : List Fate) → HaveMoved fates → IsLatest Pending (fates ++ Pending ∷ [])
latest_entered fates h = record { earlier = fates; before = h; fates_are = refl }

-- the latest moves
pub latest_moved : (new : Fate) (fates : List Fate) → IsLatest Pending fates → IsLatest new (map (fate_given (Some new)) fates)
latest_moved new fates l = record {
  earlier = l.earlier;
  before = l.before;
  fates_are = ap (map (fate_given (Some new))) l.fates_are ∙ map-append (fate_given (Some new)) l.earlier (Pending ∷ []) ∙ ap (λ l. l ++ new ∷ []) (all-kept (Some new) l.earlier l.before);
}

pub latest_over : (fate : Fate) (fates : List Fate) → IsLatest fate fates → is_pending_fate fate ≡ false → (IsOpen (Some fate) → ⊥) → AreOver fates
latest_over fate fates l is closed = record {
  before = have_moved fate fates l is;
  last = λ open_fate. closed (subst IsOpen (latest_is fate fates l) open_fate);
}

-- ---- how many are pending

pub none_pending : (fates : List Fate) → HaveMoved fates → count_by is_pending_fate fates ≡ 0
none_pending fates h = sym (length-filter is_pending_fate fates) ∙ ap length (none_left is_pending_fate fates h)

pub one_pending : (fates : List Fate) → HaveMoved fates → count_by is_pending_fate (fates ++ Pending ∷ []) ≡ 1
one_pending fates h =
    sym (length-filter is_pending_fate (fates ++ Pending ∷ []))
    ∙ ap length (filter-append is_pending_fate fates (Pending ∷ []) ∙ ap (λ l. l ++ Pending ∷ []) (none_left is_pending_fate fates h))
