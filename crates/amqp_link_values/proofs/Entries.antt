-- The entries of a map of values, beside the entries that a contract sees.
use Rattle.std.proofs.Common.{◌≡◌, ◌∙◌, [], ◌∷◌, refl, sym, ap, ℕ, Bool, true, false, cond, List, map}
use Rattle.std.proofs.Common.{Option, Some, None, Result, Ok, Err, IfOk, OnErr, option_map, option_copied}
use Rattle.std.proofs.Common.{Bor}
use Rattle.std.specs.List.{AllZip}
use Rattle.std.specs.Map.{lookup}
use Rattle.std.specs.Str.{bytes_eq}
use Rattle.indexmap.specs.IndexMap.{insert_entry}
use Rattle.amqp_link_values.specs.View.{view, view_entry}
use Rattle.amqp_link_values.specs.declared.value.Value.{Value}

abbrev Entry : Type 0
Entry = List ℕ × Value

found : (b : Bool) (v : Value) (o : Option Value) →
    option_map view (cond b (Some v) o) ≡ cond b (Some (view v)) (option_map view o)
found true v o = refl
found false v o = refl

-- looking up and then seeing the value, or seeing the values and then looking up
pub view-lookup : (test : List ℕ → Bool) (es : List Entry) →
    option_map view (lookup test es) ≡ lookup test (map view_entry es)
view-lookup test [] = refl
view-lookup test (e ∷ es) =
    found (test e.0) e.1 (lookup test es) ∙ ap (cond (test e.0) (Some (view e.1))) (view-lookup test es)

-- the same where it was looked up by a call that may fail
pub view-replaced : {E : Type 0} (r : Result (Option Value) E) →
    (test : List ℕ → Bool) (es : List Entry) →
    IfOk r (λ was. was ≡ lookup test es) →
    IfOk r (λ was. option_map view was ≡ lookup test (map view_entry es))
view-replaced (Ok was) test es h = ap (option_map view) h ∙ view-lookup test es
view-replaced (Err e) test es h = h

-- and what is not found where it fails is not found among the seen ones
pub view-absent : {A E : Type 0} (r : Result A E) (test : List ℕ → Bool) (es : List Entry) →
    OnErr r (lookup test es ≡ None) → OnErr r (lookup test (map view_entry es) ≡ None)
view-absent (Ok a) test es h = h
view-absent (Err e) test es h = sym (view-lookup test es) ∙ ap (option_map view) h

-- the value behind a reference, seen
pub view_of_copied : (r : Option (Bor Value)) →
    option_map (λ v. view v.now) r ≡ option_map view (option_copied r)
view_of_copied None = refl
view_of_copied (Some v) = refl

put_here : (b : Bool) (e new : Entry) (es more : List Entry) →
    map view_entry (cond b (new ∷ es) (e ∷ more))
    ≡ cond b (view_entry new ∷ map view_entry es) (view_entry e ∷ map view_entry more)
put_here true e new es more = refl
put_here false e new es more = refl

-- putting and then seeing, or seeing and then putting
pub view-insert_entry : (es : List Entry) (k : List ℕ) (v : Value) →
    map view_entry (insert_entry bytes_eq es k v) ≡ insert_entry bytes_eq (map view_entry es) k (view v)
view-insert_entry [] k v = refl
view-insert_entry (e ∷ es) k v =
    put_here (bytes_eq k e.0) e (e.0, v) es (insert_entry bytes_eq es k v)
    ∙ ap (λ more. cond (bytes_eq k e.0) ((e.0, view v) ∷ map view_entry es) (view_entry e ∷ more))
    (view-insert_entry es k v)

-- entries that are clones one by one are seen as the same
pub view_of_clones : (es fs : List Entry) →
    AllZip (λ p q. (q.0 ≡ p.0) × (view q.1 ≡ view p.1)) es fs → map view_entry fs ≡ map view_entry es
view_of_clones [] [] h = refl
view_of_clones (e ∷ es) (f ∷ fs) h = λ i. (h.0.0 i, h.0.1 i) ∷ view_of_clones es fs h.1 i
view_of_clones [] (f ∷ fs) h = absurd h
view_of_clones (e ∷ es) [] h = absurd h
