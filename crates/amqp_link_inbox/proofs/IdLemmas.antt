-- The ids of all deliveries are dropped, one after the other.
use Rattle.std.proofs.Common.{◌≡◌, ◌++◌, ◌<◌, ap, arith, drop, length, refl, sym, take, [], ◌∷◌, ℕ, suc, None, Some}
use Prim.Native.Nat.{zero}
use Rattle.std.specs.Map.{values_of}
use Rattle.std.specs.Prelude.{slice_get}
use Rattle.indexmap.specs.IndexMap.{set_value_at}
use Rattle.amqp_link_types.specs.Entries.{Entries}
use Rattle.amqp_link_inbox.specs.InboxAttaches.{without_ids}
use Rattle.amqp_link_inbox.specs.declared.kept.Kept.{Kept}

same_some : {X : Type 0} (x y : X) → Some x ≡ Some y → x ≡ y
same_some x y h = cc

-- so many of them have none
abbrev pub halfway : Entries Kept → ℕ → Entries Kept
halfway entries n = without_ids (take n entries) ++ drop n entries

pub next_dropped : (entries : Entries Kept) (n : ℕ) (kept : Kept) → n < length entries → slice_get (values_of (halfway entries n)) n ≡ Some kept
    → set_value_at (halfway entries n) n (record kept { id = None }) ≡ halfway entries (suc n)
next_dropped [] n kept within found = absurd (omega arith)
next_dropped (e ∷ entries) zero kept within found = ap (λ k. (e.0, record k { id = None }) ∷ entries) (sym (same_some _ _ found))
next_dropped (e ∷ entries) (suc n) kept within found = ap (λ l. (e.0, record e.1 { id = None }) ∷ l) (next_dropped entries n kept (omega arith) found)

pub all_dropped : (entries : Entries Kept) → halfway entries (length entries) ≡ without_ids entries
all_dropped [] = refl
all_dropped (e ∷ entries) = ap (λ l. (e.0, record e.1 { id = None }) ∷ l) (all_dropped entries)
