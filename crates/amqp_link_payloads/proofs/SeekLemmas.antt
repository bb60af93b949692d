-- What a search for a place keeps, as one more byte comes.
use Rattle.std.proofs.Common.{◌≡◌, ℕ, zero, suc, ◌+◌, ◌-◌, ◌<◌, ◌≤◌, ◌^◌, Bool, true, false, cond, List, [], ◌∷◌, ◌++◌, length, get_or, drop, refl, sym, ap, ◌∙◌, subst, inl, inr, arith, Some, None, slice_get, nat_eq, add-one}
use Rattle.std.specs.Prelude.{Option, option_map}
use Rattle.std.proofs.lemmas.Bool.{cases_eq, eq-eqb, ne_eqb}
use Rattle.std.proofs.lemmas.List.{length_push, length-append}
use Rattle.std.proofs.lemmas.Option.{slice_get_within, get_or_from_slice_get}
use Rattle.amqp_link_payloads.specs.Header.{header_len}
use Rattle.amqp_link_payloads.specs.Places.{header_end}
use Rattle.amqp_link_payloads.specs.Position.{starts, place}
use Rattle.amqp_link_payloads.specs.Scan.{Keeps}
use Rattle.amqp_link_payloads.specs.Seek.{HasSought, Seeks}
use Rattle.amqp_link_payloads.specs.Tail.{EndsAt, blanked}
use Rattle.amqp_link_payloads.specs.declared.position.places.Seek.{Seek}
use Rattle.amqp_link_payloads.proofs.StartsLemmas.{starts_new, start_header, start_within, kept_at, blanked_length}
use Rattle.amqp_link_payloads.proofs.BlankLemmas.{place_blanked}
use Rattle.amqp_link_payloads.proofs.ScanLemmas.{kept_at_once}

-- ---- a list that grew by one

get_pushed : {A : Type 0} (xs : List A) (x : A) → slice_get (xs ++ x ∷ []) (length xs) ≡ Some x
get_pushed [] x = refl
get_pushed (y ∷ xs) x = get_pushed xs x

get_before : {A : Type 0} (xs : List A) (x : A) (k : ℕ) → (k ≡ length xs → ⊥) → slice_get (xs ++ x ∷ []) k ≡ slice_get xs k
get_before [] x zero ne = absurd (ne refl)
get_before [] x (suc k) ne = refl
get_before (y ∷ xs) x zero ne = refl
get_before (y ∷ xs) x (suc k) ne = get_before xs x k (λ e. ne (ap suc e))

-- the start of number k, as the starts grow by n
pub start_appended : (xs : List ℕ) (n k : ℕ) → slice_get (xs ++ n ∷ []) k ≡ cond (nat_eq (length xs) k) (Some n) (slice_get xs k)
start_appended xs n k = elim (cases_eq (length xs) k) [
  | inl e ↦ rw (eq-eqb (length xs) k e) (ap (slice_get (xs ++ n ∷ [])) (sym e) ∙ get_pushed xs n)
  | inr ne ↦ rw (ne_eqb (length xs) k ne) (get_before xs n k (λ e. ne (sym e)))
]

-- ---- the end of a later start's header

abbrev end_of : List ℕ → Option ℕ → Option ℕ
end_of P start = option_map (λ n. n + header_len (drop n P)) start

-- bytes that follow do not move the end of a header that is there
end_kept : (F G : List ℕ) (k : ℕ) (o : Option ℕ) → slice_get (starts F) (suc k) ≡ o → end_of (F ++ G) o ≡ end_of F o
end_kept F G k None e = refl
end_kept F G k (Some n) e =
    let lt : suc k < length (starts F) = slice_get_within (starts F) (suc k) n e in
    let is : get_or (starts F) (suc k) 0 ≡ n = get_or_from_slice_get (starts F) (suc k) n 0 e in
    let some : 0 < header_len (drop n F) = subst (λ i. 0 < header_len (drop i F)) is (start_header F k lt) in
    let within : n + header_len (drop n F) ≤ length F
    = subst (λ i. i + header_len (drop i F) ≤ length F) is (start_within F (suc k) lt) in
    ap (λ h. Some (n + h)) (kept_at F G n (omega arith) some)

pub end_stays : (F G : List ℕ) (k : ℕ) → starts (F ++ G) ≡ starts F → header_end (F ++ G) (suc k) ≡ header_end F (suc k)
end_stays F G k same = ap (λ xs. end_of (F ++ G) (slice_get xs (suc k))) same ∙ end_kept F G k (slice_get (starts F) (suc k)) refl

pub end_appended : (F : List ℕ) (b n k : ℕ) → starts (F ++ b ∷ []) ≡ starts F ++ n ∷ [] → EndsAt (F ++ b ∷ []) n
    → header_end (F ++ b ∷ []) (suc k) ≡ cond (nat_eq (length (starts F)) (suc k)) (Some (length F + 1)) (header_end F (suc k))
end_appended F b n k grown at =
    let appended : slice_get (starts (F ++ b ∷ [])) (suc k) ≡ cond (nat_eq (length (starts F)) (suc k)) (Some n) (slice_get (starts F) (suc k))
    = ap (λ xs. slice_get xs (suc k)) grown ∙ start_appended (starts F) n (suc k) in
    ap (end_of (F ++ b ∷ [])) appended
    ∙ both (nat_eq (length (starts F)) (suc k)) (slice_get (starts F) (suc k)) (end_kept F (b ∷ []) k (slice_get (starts F) (suc k)) refl)
  where
    both : (is : Bool) (o : Option ℕ) → end_of (F ++ b ∷ []) o ≡ end_of F o
        → end_of (F ++ b ∷ []) (cond is (Some n) o) ≡ cond is (Some (length F + 1)) (end_of F o)
    both true o e = ap Some (at.ends ∙ length_push F b)
    both false o e = e

-- ---- more bytes

-- bytes that bring no start
pub sought_passed : (number : ℕ) (s : Seek) (F xs : List ℕ) (at : ℕ) → (length F < 2 ^ 64 → HasSought number s F at)
    → starts (F ++ xs) ≡ starts F → length (F ++ xs) < 2 ^ 64 → HasSought number s (F ++ xs) (at + length xs)
sought_passed number s F xs at sought same fits =
    let has : HasSought number s F at = sought (omega (arith, fits, length-append F xs)) in
    record {
      number_is = has.number_is;
      length_is = omega (arith, has.length_is, length-append F xs);
      seen_within = omega (arith, has.seen_within, length-append F xs);
      seen_is = has.seen_is ∙ ap length (sym same);
      start_is = has.start_is ∙ ap (λ ys. slice_get ys number) (sym same);
      end_is = has.end_is ∙ ap (header_end F) (add-one number) ∙ sym (end_stays F xs number same)
          ∙ ap (header_end (F ++ xs)) (sym (add-one number));
    }

-- a byte in which a start's header ends
pub sought_new : (number : ℕ) (s t : Seek) (F : List ℕ) (b n h at : ℕ) → HasSought number s F at → 1 ≤ n
    → EndsAt (F ++ b ∷ []) n → n + h ≡ length F + 1 → t.number ≡ s.number → t.before ≡ s.before → t.seen ≡ s.seen + 1
    → t.start ≡ cond (nat_eq (s.seen + 1) s.number) (Some (s.before + (at + 1) - h)) s.start
    → t.end ≡ cond (nat_eq (s.seen + 1) (s.number + 1)) (Some (s.before + (at + 1))) s.end
    → HasSought number t (F ++ b ∷ []) (at + 1)
sought_new number s t F b n h at has pos ends size same len seen start end =
    let grown : starts (F ++ b ∷ []) ≡ starts F ++ n ∷ [] = starts_new F b n pos ends in
    let place : s.before + (at + 1) - h ≡ n = omega (arith, has.length_is, size) in
    let past : s.before + (at + 1) ≡ length F + 1 = omega (arith, has.length_is) in
    record {
      number_is = same ∙ has.number_is;
      length_is = omega (arith, has.length_is, len, length_push F b);
      seen_within = omega (arith, has.seen_within, seen, length_push F b);
      seen_is = omega (arith, has.seen_is, seen, ap length grown, length_push (starts F) n);
      start_is = start ∙ ap (λ k. cond (nat_eq (s.seen + 1) k) (Some (s.before + (at + 1) - h)) s.start) has.number_is
          ∙ ap (λ k. cond (nat_eq k number) (Some (s.before + (at + 1) - h)) s.start) has.seen_is
          ∙ ap (λ i. cond (nat_eq (length (starts F)) number) (Some i) s.start) place
          ∙ ap (λ o. cond (nat_eq (length (starts F)) number) (Some n) o) has.start_is
          ∙ sym (start_appended (starts F) n number)
          ∙ ap (λ xs. slice_get xs number) (sym grown);
      end_is = end ∙ ap (λ k. cond (nat_eq (s.seen + 1) (k + 1)) (Some (s.before + (at + 1))) s.end) has.number_is
          ∙ ap (λ k. cond (nat_eq k (number + 1)) (Some (s.before + (at + 1))) s.end) has.seen_is
          ∙ ap (λ i. cond (nat_eq (length (starts F)) (number + 1)) (Some i) s.end) past
          ∙ ap (λ o. cond (nat_eq (length (starts F)) (number + 1)) (Some (length F + 1)) o) has.end_is
          ∙ ap (λ k. cond (nat_eq (length (starts F)) k) (Some (length F + 1)) (header_end F k)) (add-one number)
          ∙ sym (end_appended F b n number grown ends)
          ∙ ap (header_end (F ++ b ∷ [])) (sym (add-one number));
    }

-- the end of a piece
pub sought_after : (number : ℕ) (s t : Seek) (F : List ℕ) (n : ℕ) → HasSought number s F n → t.number ≡ s.number
    → t.before ≡ s.before + n → t.seen ≡ s.seen → t.start ≡ s.start → t.end ≡ s.end → HasSought number t F 0
sought_after number s t F n has same before seen start end = record {
  number_is = same ∙ has.number_is;
  length_is = omega (arith, has.length_is, before);
  seen_within = omega (arith, has.seen_within, seen);
  seen_is = ap (λ k. k + 1) seen ∙ has.seen_is;
  start_is = start ∙ has.start_is;
  end_is = end ∙ has.end_is;
}

pub nothing_sought : (s : Seek) → s.before ≡ 0 → s.seen ≡ 0 → s.start ≡ cond (nat_eq s.number 0) (Some 0) None → s.end ≡ None
    → HasSought s.number s [] 0
unfolding starts
nothing_sought s len seen start end = record {
  number_is = refl;
  length_is = omega arith;
  seen_within = omega arith;
  seen_is = omega arith;
  start_is = start ∙ first s.number;
  end_is = end ∙ ap (header_end []) (sym (add-one s.number));
}
  where
    first : (k : ℕ) → cond {A = Option ℕ} (nat_eq k 0) (Some 0) None ≡ slice_get (0 ∷ []) k
    first zero = refl
    first (suc k) = ap (λ b. cond {A = Option ℕ} b (Some 0) None) (ne_eqb (suc k) 0 (λ e. omega arith))

-- the place of an offset in the joined bytes, of which the first is blank
pub place_sought : (number o : ℕ) (s : Seek) (F : List ℕ) (found : Option ℕ) → length F < 2 ^ 64 → Keeps (Seeks number) s (blanked F) 0
    → ((k : ℕ) (G : List ℕ) → HasSought k s G 0 → found ≡ place G k o) → found ≡ place F number o
place_sought number o s F found fits keeps is =
    is number (blanked F) (kept_at_once (Seeks number) s (blanked F) 0 keeps (omega (arith, fits, blanked_length F))) ∙ place_blanked F number o
