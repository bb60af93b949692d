-- What became of each registration of a sender's deliveries (OASIS AMQP 1.0 core, 2.6.12 and 2.6.13).
use Rattle.std.specs.Prelude.{◌≡◌, ◌≢◌, ℕ, Bool, true, false, List, [], ◌∷◌, ◌++◌, map, filter, fold, Option, Some, None, slice_get, if◌then◌else◌, is_some, nat_lt, ◌&&◌, ◌+◌, ◌-◌, ◌^◌, ◌<◌, zero, suc, take, drop, All, IsSomeAnd}
use Rattle.std.specs.List.{last_or, count_by, IsDistinct}
use Rattle.std.specs.Map.{keys_of}
use Rattle.std.specs.Str.{bytes_eq}
use Rattle.amqp_link_types.specs.Entries.{Tag, Entries, entry_at, IsMap}
use Rattle.amqp_link_types.specs.Deliveries.{Ended}
use Rattle.amqp_link_core.specs.declared.resumption.ResumingDelivery.{ResumingDelivery}
use Rattle.amqp_link_ledger.specs.declared.fate.Fate.{Fate}
use Rattle.amqp_link_ledger.specs.declared.fate.Fate.TheVariants.{Pending, Withdrawn, HandedOut, Resolved, Released}

abbrev pub is_pending_fate : Fate → Bool
is_pending_fate Pending = true
is_pending_fate Withdrawn = false
is_pending_fate HandedOut = false
is_pending_fate (Resolved outcome) = false
is_pending_fate Released = false

-- the registrations by number: the tag of each, and its fate
abbrev pub Records : Type 0
Records = List (Tag × Fate)

-- the fates of the registrations of one tag, in order
abbrev pub fates_of : Tag → Records → List Fate
fates_of tag records = map (λ r. r.1) (filter (λ r. bytes_eq tag r.0) records)

-- that of the last
abbrev pub latest : List Fate → Option Fate
latest fates = last_or None fates

-- how many registrations of the tag are pending
abbrev pub pending_count : Tag → Records → ℕ
pending_count tag records = count_by is_pending_fate (fates_of tag records)

-- The tags of the map are distinct, and a tag has one pending registration if it is in the map, otherwise
-- none.
pub record IsRecorded {V : Type 0} (unsettled : Entries V) (records : Records) : Type 0 where
  pub distinct : IsMap unsettled
  pub pending : (tag : Tag) → pending_count tag records ≡ (if is_some (entry_at unsettled tag) then 1 else 0)

-- No tag has two of these outcomes, and the tag of each has one pending registration.
pub record AreOfPending (outcomes : List Ended) (records : Records) : Type 0 where
  pub each_once : IsDistinct bytes_eq (keys_of outcomes)
  pub pending : All (λ o. pending_count o.0 records ≡ 1) outcomes

-- ---- what a call does to the records

-- the fate of a registration that is given one: only a pending registration takes it
abbrev pub fate_given : Option Fate → Fate → Fate
fate_given (Some fate) Pending = fate
fate_given _ fate = fate

-- the pending registrations of these tags take these fates
abbrev pub with_fates : Entries Fate → Records → Records
with_fates given records = map (λ r. (r.0, fate_given (entry_at given r.0) r.1)) records

-- an entry of this tag is registered, with the next number
abbrev pub registered : Tag → Records → Records
registered tag records = records ++ (tag, Pending) ∷ []

abbrev pub handed_out : Entries ResumingDelivery → Records → Records
handed_out list records = with_fates (map (λ d. (d.0, HandedOut)) list) records

abbrev pub resolved : List Ended → Records → Records
resolved outcomes records = with_fates (map (λ o. (o.0, Resolved o.1)) outcomes) records

-- the changes that a call may make: an entry is registered, one is withdrawn, an exchange hands out its list,
-- outcomes are returned
pub data Change : Type 0 where
  Enters : Tag → Change
  Withdraws : Tag → Change
  HandsOut : Entries ResumingDelivery → Change
  Resolves : List Ended → Change

abbrev pub after : Change → Records → Records
after (Enters tag) records = registered tag records
after (Withdraws tag) records = with_fates ((tag, Withdrawn) ∷ []) records
after (HandsOut list) records = handed_out list records
after (Resolves outcomes) records = resolved outcomes records

-- the records after these changes, one after the other
abbrev pub after_all : List Change → Records → Records
after_all changes records = fold (λ now change. after change now) records changes

-- ---- registrations are released

-- what stands at the number of one: no tag, and no outcome
abbrev pub gone : Tag × Fate
gone = ([], Released)

-- those below this number are released
abbrev pub with_released : ℕ → Records → Records
with_released before records = map (λ _. gone) (take before records) ++ drop before records

-- none of those below this number is pending
abbrev pub NonePending : ℕ → Records → Type 0
NonePending before records = (n : ℕ) (r : Tag × Fate) → n < before → slice_get records n ≡ Some r → is_pending_fate r.1 ≡ false

-- this is the number of a pending one, and none below it is pending
abbrev pub IsFirstPending : ℕ → Records → Type 0
IsFirstPending number records = IsSomeAnd (slice_get records number) (λ r. is_pending_fate r.1 ≡ true) × NonePending number records

-- Each registration keeps its number and its tag, and a fate that has moved stays.
abbrev pub MovesOnce : Records → Records → Type 0
MovesOnce old new = (n : ℕ) (r : Tag × Fate) → slice_get old n ≡ Some r
    → (fate : Fate) × (slice_get new n ≡ Some (r.0, fate)) × (r.1 ≢ Pending → fate ≡ r.1)

-- ---- the registrations as a caller sees them

-- the records, and whether there is room for the next registration, so that it does not allocate
pub record RecordsAndRoom : Type 0 where
  pub records : Records
  pub has_room : Bool

-- The index that the code keeps beside the records: a tag has a number there exactly if the record of this
-- number has the tag, and is pending.
pub record IsNumbered (records : Records) (numbers : Entries ℕ) : Type 0 where
  pub stands : (tag : Tag) (n : ℕ) → entry_at numbers tag ≡ Some n → slice_get records n ≡ Some (tag, Pending)
  pub found : (tag : Tag) (n : ℕ) → slice_get records n ≡ Some (tag, Pending) → entry_at numbers tag ≡ Some n

-- the records, if this many are released and these are kept
abbrev pub after_gone : ℕ → Records → Records
after_gone zero kept = kept
after_gone (suc n) kept = gone ∷ after_gone n kept

-- whether there is room for one more beside so many, and a number for it
abbrev pub is_room_for_one : ℕ → ℕ → ℕ → Bool
is_room_for_one released len capacity = nat_lt len capacity && nat_lt (released + len) (2 ^ 64 - 1)
