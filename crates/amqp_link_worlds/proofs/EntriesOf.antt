-- Look-ups in the maps and lists of a pair.
use Rattle.std.proofs.Common.{◌≡◌, ◌≢◌, ◌∙◌, sym, ap, subst, Bool, true, false, cond, List, [], ◌∷◌, ◌++◌, refl, map, Option, Some, None, drop, length, take, append_assoc}
use Rattle.std.specs.Option.{option_or}
use Rattle.std.proofs.lemmas.List.{append-nil}
use Rattle.std.specs.Prelude.{bytes_eq, Decides, filter, option_map}
use Rattle.std.specs.List.{AllByRecursion, IsDistinct}
use Rattle.std.specs.Map.{keys_of}
use Rattle.std.proofs.lemmas.Map.{keys-set_value}
use Rattle.std.proofs.lemmas.Slice.Eq.{bytes_eq-Decides}
use Rattle.amqp_link_ledger.proofs.ListSteps.{some_is_none, entry_at-first, by_test, tag_is}
use Rattle.amqp_link_types.specs.Entries.{Tag, Entries, entry_at, with_entry, without_entry, IsMap}
use Rattle.amqp_link_types.proofs.MapLemmas.{same_tag, other_tag, false_is_not_true, put-absent, entry_at-removed}
use Rattle.amqp_link_types.proofs.EntriesLemmas.{IsMap-push, with_entry-present}

-- by whether it is that tag
pub by_tag : (P : Tag → Type 0) (tag : Tag) → P tag → ((other : Tag) → other ≢ tag → P other) → (other : Tag) → P other
by_tag P tag here there other =
    elim (bytes_eq other tag) as (λ b. Decides b (other ≡ tag) → P other) [
      | true ↦ λ d. subst P (sym (d.0 refl)) here
      | false ↦ λ d. there other (λ p. false_is_not_true (d.1 p))
    ] (bytes_eq-Decides other tag)

module _ {V : Type 0} where
  -- a put keeps a map
  pub IsMap-put : (m : Entries V) (tag : Tag) (v : V) → IsMap m → IsMap (with_entry m tag v)
  IsMap-put m tag v is = by (entry_at m tag) refl
    where
      by : (o : Option V) → entry_at m tag ≡ o → IsMap (with_entry m tag v)
      by None h = subst IsMap (sym (put-absent m tag v h)) (IsMap-push m tag v is h)
      by (Some old) h = subst (IsDistinct bytes_eq) (sym (ap keys_of (sym (with_entry-present m tag old v h)) ∙ keys-set_value (bytes_eq tag) m v)) is

  absent-from_keys : (m : Entries V) (tag : Tag) → AllByRecursion (λ k. bytes_eq tag k ≡ false) (keys_of m) → entry_at m tag ≡ None
  absent-from_keys [] tag h = refl
  absent-from_keys (e ∷ m) tag h = ap (λ b. cond b (Some e.1) (entry_at m tag)) h.0 ∙ absent-from_keys m tag h.1

  -- the pairs behind the first
  pub entry_at-behind : (tag other : Tag) (v : V) (m : Entries V) → other ≢ tag → entry_at ((tag, v) ∷ m) other ≡ entry_at m other
  entry_at-behind tag other v m n = ap (λ b. cond b (Some v) (entry_at m other)) (other_tag other tag n)

  pub first_alone : (tag : Tag) (v : V) (m : Entries V) → IsMap ((tag, v) ∷ m) → entry_at m tag ≡ None
  unfolding IsDistinct
  first_alone tag v m is = absent-from_keys m tag is.0

  pub others_are_map : (tag : Tag) (v : V) (m : Entries V) → IsMap ((tag, v) ∷ m) → IsMap m
  unfolding IsDistinct
  others_are_map tag v m is = is.1

  -- what holds of each look-up holds of each pair
  pub each_pair : (P : Tag × V → Type 0) (m : Entries V) → IsMap m → ((tag : Tag) (v : V) → entry_at m tag ≡ Some v → P (tag, v)) → AllByRecursion P m
  each_pair P [] is h = tt
  each_pair P (e ∷ m) is h =
      let tag : Tag = e.0 in (
        h tag e.1 (entry_at-first tag e.1 m),
        each_pair P m (others_are_map tag e.1 m is) (λ other v found.
            let apart : other ≢ tag = λ same. some_is_none (sym found ∙ ap (entry_at m) same ∙ first_alone tag e.1 m is) in
            h other v (entry_at-behind tag other e.1 m apart ∙ found)),
      )

  -- a removal
  pub removed_here : (m : Entries V) (tag : Tag) → IsMap m → entry_at (without_entry m tag) tag ≡ None
  removed_here m tag is = entry_at-removed m tag tag is ∙ ap (λ b. cond b None (entry_at m tag)) (same_tag tag)

  pub removed_there : (m : Entries V) (tag other : Tag) → IsMap m → other ≢ tag → entry_at (without_entry m tag) other ≡ entry_at m other
  removed_there m tag other is n = entry_at-removed m tag other is ∙ ap (λ b. cond b None (entry_at m other)) (other_tag tag other (λ p. n (sym p)))

-- ---- maps, one after the other

module _ {V : Type 0} where
  pub entry_at-append : (xs ys : Entries V) (tag : Tag) → entry_at (xs ++ ys) tag ≡ option_or (entry_at xs tag) (entry_at ys tag)
  entry_at-append [] ys tag = refl
  entry_at-append (e ∷ xs) ys tag =
      elim (bytes_eq tag e.0) as (λ b. cond b (Some e.1) (entry_at (xs ++ ys) tag) ≡ option_or (cond b (Some e.1) (entry_at xs tag)) (entry_at ys tag)) [
        | true ↦ refl
        | false ↦ entry_at-append xs ys tag
      ]

  -- two maps without a common tag make one
  pub IsMap-append : (xs ys : Entries V) → IsMap xs → IsMap ys → ((tag : Tag) (v : V) → entry_at ys tag ≡ Some v → entry_at xs tag ≡ None) → IsMap (xs ++ ys)
  IsMap-append xs [] left right apart = subst IsMap (sym (append-nil xs)) left
  IsMap-append xs (y ∷ ys) left right apart =
      let tag : Tag = y.0 in
      let free : entry_at xs tag ≡ None = apart tag y.1 (entry_at-first tag y.1 ys) in
      let more : IsMap (xs ++ (tag, y.1) ∷ []) = IsMap-push xs tag y.1 left free in
      subst IsMap (append_assoc xs (y ∷ []) ys)
      (IsMap-append (xs ++ (tag, y.1) ∷ []) ys more (others_are_map tag y.1 ys right) (λ other v found.
      let differ : other ≢ tag = λ same. some_is_none (sym found ∙ ap (entry_at ys) same ∙ first_alone tag y.1 ys right) in
      entry_at-append xs ((tag, y.1) ∷ []) other
      ∙ ap (λ o. option_or o (entry_at ((tag, y.1) ∷ []) other)) (apart other v (entry_at-behind tag other y.1 ys differ ∙ found))
      ∙ entry_at-behind tag other y.1 [] differ))

  -- those of its pairs that pass a test
  module _ (test : Tag → Bool) where
    abbrev pub passing : Entries V → Entries V
    passing m = filter (λ e. test e.0) m

    keys_passing : (m : Entries V) (tag : Tag) → AllByRecursion (λ k. bytes_eq tag k ≡ false) (keys_of m) → AllByRecursion (λ k. bytes_eq tag k ≡ false) (keys_of (passing m))
    keys_passing [] tag h = tt
    keys_passing (e ∷ m) tag h =
        elim (test e.0) as (λ b. AllByRecursion (λ k. bytes_eq tag k ≡ false) (keys_of (cond b (e ∷ passing m) (passing m)))) [
          | true ↦ (h.0, keys_passing m tag h.1)
          | false ↦ keys_passing m tag h.1
        ]

    pub IsMap-passing : (m : Entries V) → IsMap m → IsMap (passing m)
    unfolding IsDistinct
    IsMap-passing [] is = is
    IsMap-passing (e ∷ m) is =
        elim (test e.0) as (λ b. IsMap (cond b (e ∷ passing m) (passing m))) [
          | true ↦ (keys_passing m e.0 is.0, IsMap-passing m is.1)
          | false ↦ IsMap-passing m is.1
        ]

    pub entry_at-passing : (m : Entries V) (tag : Tag) → test tag ≡ true → entry_at (passing m) tag ≡ entry_at m tag
    entry_at-passing [] tag passes = refl
    entry_at-passing (e ∷ m) tag passes =
        by_test (bytes_eq tag e.0)
        (λ same.
        let here : test e.0 ≡ true = ap test (sym (tag_is tag e.0 same)) ∙ passes in
        ap (λ b. entry_at (cond b (e ∷ passing m) (passing m)) tag) here
        ∙ ap (λ b. cond b (Some e.1) (entry_at (passing m) tag)) same
        ∙ sym (ap (λ b. cond b (Some e.1) (entry_at m tag)) same))
        (λ other. by_test (test e.0)
        (λ kept.
        ap (λ b. entry_at (cond b (e ∷ passing m) (passing m)) tag) kept
        ∙ ap (λ b. cond b (Some e.1) (entry_at (passing m) tag)) other
        ∙ entry_at-passing m tag passes
        ∙ sym (ap (λ b. cond b (Some e.1) (entry_at m tag)) other))
        (λ gone.
        ap (λ b. entry_at (cond b (e ∷ passing m) (passing m)) tag) gone
        ∙ entry_at-passing m tag passes
        ∙ sym (ap (λ b. cond b (Some e.1) (entry_at m tag)) other)))

    -- the others are not there
    pub entry_at-failing : (m : Entries V) (tag : Tag) → test tag ≡ false → entry_at (passing m) tag ≡ None
    entry_at-failing [] tag fails = refl
    entry_at-failing (e ∷ m) tag fails =
        by_test (test e.0)
        (λ kept.
        let other : bytes_eq tag e.0 ≡ false = other_tag tag e.0 (λ same. false_is_not_true (sym fails ∙ ap test same ∙ kept)) in
        ap (λ b. entry_at (cond b (e ∷ passing m) (passing m)) tag) kept
        ∙ ap (λ b. cond b (Some e.1) (entry_at (passing m) tag)) other
        ∙ entry_at-failing m tag fails)
        (λ gone. ap (λ b. entry_at (cond b (e ∷ passing m) (passing m)) tag) gone ∙ entry_at-failing m tag fails)

-- ---- values changed in place

module _ {X Y : Type 0} where
  pub entry_at-map : (f : Tag → X → Y) (m : Entries X) (tag : Tag) → entry_at (map (λ e. (e.0, f e.0 e.1)) m) tag ≡ option_map (f tag) (entry_at m tag)
  entry_at-map f [] tag = refl
  entry_at-map f (e ∷ m) tag =
      elim (bytes_eq tag e.0) as (λ b. (bytes_eq tag e.0 ≡ b) → cond b (Some (f e.0 e.1)) (entry_at (map (λ e. (e.0, f e.0 e.1)) m) tag) ≡ option_map (f tag) (cond b (Some e.1) (entry_at m tag))) [
        | true ↦ λ h. ap (λ t. Some (f t e.1)) (sym ((bytes_eq-Decides tag e.0).0 h))
        | false ↦ λ h. entry_at-map f m tag
      ] refl

  pub keys-map : (f : Tag → X → Y) (m : Entries X) → keys_of (map (λ e. (e.0, f e.0 e.1)) m) ≡ keys_of m
  keys-map f [] = refl
  keys-map f (e ∷ m) = ap (λ l. e.0 ∷ l) (keys-map f m)

  pub IsMap-map : (f : Tag → X → Y) (m : Entries X) → IsMap m → IsMap (map (λ e. (e.0, f e.0 e.1)) m)
  IsMap-map f m is = subst (IsDistinct bytes_eq) (sym (keys-map f m)) is

-- ---- lists

pub map_same : {X Y : Type 0} (f g : X → Y) (xs : List X) → AllByRecursion (λ x. f x ≡ g x) xs → map f xs ≡ map g xs
map_same f g [] h = refl
map_same f g (x ∷ xs) h = ap (λ y. y ∷ map f xs) h.0 ∙ ap (λ ys. g x ∷ ys) (map_same f g xs h.1)

pub none_left : {X : Type 0} (test : X → Bool) (xs : List X) → AllByRecursion (λ x. test x ≡ false) xs → filter test xs ≡ []
none_left test [] h = refl
none_left test (x ∷ xs) h = ap (λ b. cond b (x ∷ filter test xs) (filter test xs)) h.0 ∙ none_left test xs h.1

pub drop-front : {X : Type 0} (xs ys : List X) → drop (length xs) (xs ++ ys) ≡ ys
drop-front [] ys = refl
drop-front (x ∷ xs) ys = drop-front xs ys

pub take-front : {X : Type 0} (xs ys : List X) → take (length xs) (xs ++ ys) ≡ xs
take-front [] ys = refl
take-front (x ∷ xs) ys = ap (λ l. x ∷ l) (take-front xs ys)
