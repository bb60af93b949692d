-- Each level of a value, compared by its own test, is compared by the test of its data.
use Rattle.std.proofs.Common.{◌≡◌, ◌≢◌, ◌&&◌, ◌==◌, ◌∙◌, [], ◌∷◌, refl, ap, arith, rules}
use Rattle.std.proofs.Common.{ℕ, Bool, true, false, List, length, map, string_bytes, String, Vec, Global}
use Rattle.std.specs.Cmp.Lexicographic.{pointwise}
use Rattle.std.specs.Str.{bytes_eq}
use Rattle.amqp_link_values.specs.Code.{text_to, texts_to}
use Rattle.amqp_link_values.specs.Same.{same_tree, same_data, same_items, same_pairs, same_entries}
use Rattle.amqp_link_values.specs.Data.{binary, string, symbol, symbol_array}
use Rattle.amqp_link_values.specs.View.{view, items_view, pairs_view, view_entry}
use Rattle.amqp_link_values.specs.declared.value.Value.{Value, Binary, String as Text, Symbol}
use Rattle.amqp_link_values.specs.declared.value.Value.{SymbolArray, the_lemmas}

pub same_tree-text : (s t : List ℕ) → bytes_eq s t ≡ same_tree (text_to s) (text_to t)
same_tree-text [] [] = refl
same_tree-text [] (y ∷ t) = refl
same_tree-text (x ∷ s) [] = refl
same_tree-text (x ∷ s) (y ∷ t) = ap (λ b. (x == y) && b) (same_tree-text s t)

pub same_tree-texts : (ss ts : List (List ℕ)) →
    pointwise bytes_eq ss ts ≡ same_tree (texts_to ss) (texts_to ts)
same_tree-texts [] [] = refl
same_tree-texts [] (t ∷ ts) = refl
same_tree-texts (s ∷ ss) [] = refl
same_tree-texts (s ∷ ss) (t ∷ ts) = λ i. same_tree-text s t i && same_tree-texts ss ts i

-- ---- a level, seen

pub view-Binary : (v : Vec ℕ Global) → view (Binary v) ≡ binary v.items
view-Binary v = search (rules, the_lemmas)

pub view-String : (s : String Global) → view (Text s) ≡ string (string_bytes s)
view-String s = search (rules, the_lemmas)

pub view-Symbol : (s : List ℕ) → view (Symbol s) ≡ symbol s
view-Symbol s = search (rules, the_lemmas)

pub view-SymbolArray : (v : Vec (List ℕ) Global) → view (SymbolArray v) ≡ symbol_array v.items
view-SymbolArray v = search (rules, the_lemmas)

-- ---- lists and maps of another length

and-false : (b : Bool) → false ≡ (b && false)
and-false true = refl
and-false false = refl

pub other_items : (vs ws : List Value) → length vs ≢ length ws →
    false ≡ same_items (items_view vs) (items_view ws)
other_items [] [] h = absurd (h refl)
other_items [] (w ∷ ws) h = refl
other_items (v ∷ vs) [] h = refl
other_items (v ∷ vs) (w ∷ ws) h =
    let here = same_data (view v) (view w) in
    and-false here ∙ ap (λ b. here && b) (other_items vs ws (omega arith))

pub other_pairs : (vs ws : List (Value × Value)) → length vs ≢ length ws →
    false ≡ same_pairs (pairs_view vs) (pairs_view ws)
other_pairs [] [] h = absurd (h refl)
other_pairs [] (w ∷ ws) h = refl
other_pairs (v ∷ vs) [] h = refl
other_pairs (v ∷ vs) (w ∷ ws) h =
    let keys = same_data (view v.0) (view w.0) in
    let values = same_data (view v.1) (view w.1) in
    and-false keys
    ∙ ap (λ b. keys && b) (and-false values ∙ ap (λ b. values && b) (other_pairs vs ws (omega arith)))

-- ---- the entries of a map

pub same_entries-view : (es fs : List (List ℕ × Value)) →
    pointwise (λ e f. bytes_eq e.0 f.0 && same_data (view e.1) (view f.1)) es fs
    ≡ same_entries (map view_entry es) (map view_entry fs)
same_entries-view [] [] = refl
same_entries-view [] (f ∷ fs) = refl
same_entries-view (e ∷ es) [] = refl
same_entries-view (e ∷ es) (f ∷ fs) =
    ap (λ b. (bytes_eq e.0 f.0 && same_data (view e.1) (view f.1)) && b) (same_entries-view es fs)

pub ruleset levels = (same_tree-text, same_tree-texts, other_items, other_pairs)
