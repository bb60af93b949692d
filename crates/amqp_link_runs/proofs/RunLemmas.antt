-- Runs that go on, and such as begin.
use Rattle.std.proofs.Common.{◌≡◌, ◌≢◌, ◌∙◌, sym, ap, subst, ℕ, suc, zero, ◌+◌, ◌-◌, ◌≤◌, List, [], ◌∷◌, ◌++◌, refl, arith, append_assoc, append-nil}
use Rattle.std.specs.Prelude.{flat_map}
use Rattle.std.specs.List.{range_with_len, AllByRecursion}
use Rattle.std.proofs.lemmas.Grind.{flat_map-append}
use Rattle.amqp_link_runs.specs.Runs.{Neighbours, written_out, Apart, AreRuns}
use Rattle.amqp_link_runs.specs.declared.Run.{Run}

abbrev pub span : ℕ → ℕ → Run
span first last = record { first = first; last = last }

range_more : (a n : ℕ) → range_with_len a (suc n) ≡ range_with_len a n ++ (a + n) ∷ []
range_more a zero = let here : a ≡ a + 0 = omega arith in ap (λ m. m ∷ []) here
range_more a (suc n) =
    let there : a + 1 + n ≡ a + suc n = omega arith in
    ap (λ xs. a ∷ xs) (range_more (a + 1) n ∙ ap (λ m. range_with_len (a + 1) n ++ m ∷ []) there)

pub written_more : (first last : ℕ) → first ≤ last → written_out (span first (last + 1)) ≡ written_out (span first last) ++ (last + 1) ∷ []
written_more first last h =
    let longer : last + 1 + 1 - first ≡ suc (last + 1 - first) = omega (arith, h) in
    let ends : first + (last + 1 - first) ≡ last + 1 = omega (arith, h) in
    ap (range_with_len first) longer ∙ range_more first (last + 1 - first) ∙ ap (λ m. written_out (span first last) ++ m ∷ []) ends

pub written_one : (id : ℕ) → written_out (span id id) ≡ id ∷ []
written_one id = let one : id + 1 - id ≡ suc zero = omega arith in ap (range_with_len id) one

module _ {A : Type 0} where
  pub all_last : (P : A → Type 0) (xs : List A) (x y : A) → AllByRecursion P (xs ++ x ∷ []) → P y → AllByRecursion P (xs ++ y ∷ [])
  all_last P [] x y h p = (p, tt)
  all_last P (a ∷ xs) x y h p = (h.0, all_last P xs x y h.1 p)

  pub all_push : (P : A → Type 0) (xs : List A) (y : A) → AllByRecursion P xs → P y → AllByRecursion P (xs ++ y ∷ [])
  all_push P [] y h p = (p, tt)
  all_push P (a ∷ xs) y h p = (h.0, all_push P xs y h.1 p)

  pub all_end : (P : A → Type 0) (xs : List A) (x : A) → AllByRecursion P (xs ++ x ∷ []) → P x
  all_end P [] x h = h.0
  all_end P (a ∷ xs) x h = all_end P xs x h.1

  pub next_last : (R : A → A → Type 0) (xs : List A) (x y : A) → ((a : A) → R a x → R a y) → Neighbours R (xs ++ x ∷ []) → Neighbours R (xs ++ y ∷ [])
  next_last R [] x y f h = tt
  next_last R (a ∷ []) x y f h = (f a h.0, tt)
  next_last R (a ∷ b ∷ xs) x y f h = (h.0, next_last R (b ∷ xs) x y f h.1)

  pub next_push : (R : A → A → Type 0) (xs : List A) (x y : A) → R x y → Neighbours R (xs ++ x ∷ []) → Neighbours R ((xs ++ x ∷ []) ++ y ∷ [])
  next_push R [] x y r h = (r, tt)
  next_push R (a ∷ []) x y r h = (h.0, (r, tt))
  next_push R (a ∷ b ∷ xs) x y r h = (h.0, next_push R (b ∷ xs) x y r h.1)

-- what the last run of a list adds to what the list names
module _ {R E : Type 0} (out : R → List E) where
  out_last : (runs : List R) (r : R) → flat_map out (runs ++ r ∷ []) ≡ flat_map out runs ++ out r
  out_last runs r = flat_map-append out runs (r ∷ []) ∙ ap (λ w. flat_map out runs ++ w) (append-nil (out r))

  -- a last run that names one more, and one more run
  pub names_more : (es : List E) (runs : List R) (r s : R) (e : E) → flat_map out (runs ++ r ∷ []) ≡ es → out s ≡ out r ++ e ∷ []
      → flat_map out (runs ++ s ∷ []) ≡ es ++ e ∷ []
  names_more es runs r s e all grown =
      out_last runs s ∙ ap (λ w. flat_map out runs ++ w) grown
      ∙ sym (append_assoc (flat_map out runs) (out r) (e ∷ []))
      ∙ ap (λ w. w ++ e ∷ []) (sym (out_last runs r) ∙ all)

  pub names_next : (es : List E) (runs : List R) (s : R) (e : E) → flat_map out runs ≡ es → out s ≡ e ∷ []
      → flat_map out (runs ++ s ∷ []) ≡ es ++ e ∷ []
  names_next es runs s e all one =
      out_last runs s ∙ ap (λ w. flat_map out runs ++ w) one ∙ ap (λ w. w ++ e ∷ []) all

pub goes_on : (ids : List ℕ) (runs : List Run) (r s : Run) (id : ℕ) → AreRuns ids (runs ++ r ∷ [])
    → id ≡ r.last + 1 → s ≡ span r.first id → AreRuns (ids ++ id ∷ []) (runs ++ s ∷ [])
goes_on ids runs r s id are next is =
    let holds : r.first ≤ r.last = all_end (λ run. run.first ≤ run.last) runs r are.not_empty in
    let same : s ≡ span r.first (r.last + 1) = is ∙ ap (span r.first) next in
    let grown : written_out s ≡ written_out r ++ id ∷ [] =
    ap written_out same ∙ written_more r.first r.last holds ∙ ap (λ m. written_out r ++ m ∷ []) (sym next) in
    record {
      not_empty = all_last (λ run. run.first ≤ run.last) runs r s are.not_empty
          (let more : r.first ≤ r.last + 1 = omega (arith, holds) in subst (λ q. q.first ≤ q.last) (sym same) more);
      all = names_more written_out ids runs r s id are.all grown;
      longest = next_last Apart runs r s (λ a h. subst (λ q. q.first ≢ a.last + 1) (sym same) h) are.longest;
    }

pub begins : (ids : List ℕ) (runs : List Run) (r s : Run) (id : ℕ) → AreRuns ids (runs ++ r ∷ [])
    → id ≢ r.last + 1 → s ≡ span id id → AreRuns (ids ++ id ∷ []) ((runs ++ r ∷ []) ++ s ∷ [])
begins ids runs r s id are breaks is =
    record {
      not_empty = all_push (λ run. run.first ≤ run.last) (runs ++ r ∷ []) s are.not_empty
          (let level : id ≤ id = omega arith in subst (λ q. q.first ≤ q.last) (sym is) level);
      all = names_next written_out ids (runs ++ r ∷ []) s id are.all (ap written_out is ∙ written_one id);
      longest = next_push Apart runs r s (subst (λ q. q.first ≢ r.last + 1) (sym is) breaks) are.longest;
    }

pub first_run : (s : Run) (id : ℕ) → s ≡ span id id → AreRuns (id ∷ []) (s ∷ [])
first_run s id is = record {
  not_empty = ((let level : id ≤ id = omega arith in subst (λ q. q.first ≤ q.last) (sym is) level), tt);
  all = append-nil (written_out s) ∙ ap written_out is ∙ written_one id;
  longest = tt;
}

pub no_runs : AreRuns [] []
no_runs = record { not_empty = tt; all = refl; longest = tt }
