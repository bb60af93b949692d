-- A data section is read as what was written.
use Rattle.std.proofs.Common.{subst, inl, inr, ◌⊎◌, ◌≡◌, ℕ, ◌<◌, ◌-◌, List, [], ◌∷◌, ◌++◌, length, drop, Bool, true, false, ◌&&◌, nat_lt, Option, Some, None, refl, sym, ◌∙◌, ap, if◌then◌else◌, arith, length-append, get_or, append_assoc}
use Rattle.std.specs.Int.{w8, w32, to_be_bytes}
use Rattle.std.proofs.Math.Seq.{drop-append_seam}
use Rattle.std.specs.Option.{option_or}
use Rattle.std.specs.Str.{bytes_eq}
use Rattle.std.specs.Bool.{Decides}
use Rattle.std.proofs.lemmas.Bool.Decides.{Decides-and, Decides-ltb}
use Rattle.std.proofs.lemmas.Slice.Eq.{bytes_eq-Decides}
use Rattle.amqp_link_payloads.specs.Section.{Form, descriptor, binary, limit, section, IsDataSection, contents_in, contents_of}
use Rattle.amqp_link_payloads.specs.Section.Form.{Short, Long}

-- the descriptors differ in their second bytes
pub descriptor-cancel : (d e : Form) (xs ys : List ℕ) → descriptor d ++ xs ≡ descriptor e ++ ys → xs ≡ ys
descriptor-cancel Short Short xs ys h = ap (drop 3) h
descriptor-cancel Short Long xs ys h = absurd (omega (arith, ap (λ zs. get_or zs 1 0) h))
descriptor-cancel Long Short xs ys h = absurd (omega (arith, ap (λ zs. get_or zs 1 0) h))
descriptor-cancel Long Long xs ys h = ap (drop 10) h

option_or-some : {A : Type 0} {o : Option A} (p : Option A) {x : A} → o ≡ Some x → option_or o p ≡ Some x
option_or-some p h = ap (λ o. option_or o p) h

option_or-none : {A : Type 0} {o : Option A} (p : Option A) → o ≡ None → option_or o p ≡ p
option_or-none p h = ap (λ o. option_or o p) h

if-true : {A : Type 0} (b : Bool) (x : A) → b ≡ true → (if b then Some x else None) ≡ Some x
if-true true x h = refl
if-true false x h = cc

if-not-true : {A : Type 0} (b : Bool) (x : A) → (b ≡ true → ⊥) → (if b then Some x else None) ≡ None
if-not-true true x h = absurd (h refl)
if-not-true false x h = refl

section_test : (d l : Form) (bytes rest : List ℕ) → Decides (bytes_eq bytes (section d l rest) && nat_lt (length rest) (limit l)) ((bytes ≡ section d l rest) × (length rest < limit l))
section_test d l bytes rest =
    Decides-and (bytes_eq bytes (section d l rest)) (nat_lt (length rest) (limit l))
    (bytes_eq-Decides bytes (section d l rest)) (Decides-ltb (length rest) (limit l))

-- what was written in the form is read in it
contents_in-section : (d l : Form) (xs : List ℕ) → drop (length (section d l [])) (section d l xs) ≡ xs → length xs < limit l → contents_in d l (section d l xs) ≡ Some xs
contents_in-section d l xs stands small =
    ap (λ r. if bytes_eq (section d l xs) (section d l r) && nat_lt (length r) (limit l) then Some r else None) stands
    ∙ if-true _ xs ((section_test d l (section d l xs) xs).1 (refl, small))

-- bytes that are no data section are not read
contents_in-none : (d l : Form) (bytes : List ℕ) → ((xs : List ℕ) → IsDataSection bytes xs → ⊥) → contents_in d l bytes ≡ None
contents_in-none d l bytes none =
    if-not-true _ _ (λ h. let (written, fits) = (section_test d l bytes (drop (length (section d l [])) bytes)).0 h in
    none _ (record { d = d; value = binary l _; written = written; is_value = record { l = l; written = refl; fits = fits } }))

contents_of-section : (d l : Form) (xs : List ℕ) → length xs < limit l → contents_of (section d l xs) ≡ Some xs
unfolding contents_of
contents_of-section Short Short xs small = option_or-some _ (contents_in-section Short Short xs refl small)
contents_of-section Short Long xs small = option_or-some _ (contents_in-section Short Long xs refl small)
contents_of-section Long Short xs small = option_or-some _ (contents_in-section Long Short xs refl small)
contents_of-section Long Long xs small = contents_in-section Long Long xs refl small

pub contents_of-some : (bytes xs : List ℕ) → IsDataSection bytes xs → contents_of bytes ≡ Some xs
contents_of-some bytes xs is =
    ap contents_of (is.written ∙ ap (λ v. descriptor is.d ++ v) is.is_value.written)
    ∙ contents_of-section is.d is.is_value.l xs is.is_value.fits

pub contents_of-none : (bytes : List ℕ) → ((xs : List ℕ) → IsDataSection bytes xs → ⊥) → contents_of bytes ≡ None
unfolding contents_of
contents_of-none bytes none =
    option_or-none _ (contents_in-none Short Short bytes none)
    ∙ (option_or-none _ (contents_in-none Short Long bytes none)
    ∙ (option_or-none _ (contents_in-none Long Short bytes none) ∙ contents_in-none Long Long bytes none))

binary_front : (l : Form) (xs : List ℕ) → (front : List ℕ) × (binary l xs ≡ front ++ xs)
binary_front Short xs = (0xA0 ∷ to_be_bytes w8 (length xs), refl)
binary_front Long xs = (0xB0 ∷ to_be_bytes w32 (length xs), refl)

drop_front : (front xs : List ℕ) → drop (length (front ++ xs) - length xs) (front ++ xs) ≡ xs
drop_front front xs =
    let front_len : length (front ++ xs) - length xs ≡ length front = omega (arith, length-append front xs) in
    ap (λ n. drop n (front ++ xs)) front_len ∙ drop-append_seam front xs

-- the contents are the last bytes of the section
pub contents_last : (bytes xs : List ℕ) → IsDataSection bytes xs → drop (length bytes - length xs) bytes ≡ xs
contents_last bytes xs is =
    let (front, at) = binary_front is.is_value.l xs in
    let whole : bytes ≡ (descriptor is.d ++ front) ++ xs =
    is.written ∙ ap (λ v. descriptor is.d ++ v) (is.is_value.written ∙ at) ∙ sym (append_assoc (descriptor is.d) front xs) in
    ap (λ all. drop (length all - length xs) all) whole ∙ drop_front (descriptor is.d ++ front) xs

if-some : {A : Type 0} (b : Bool) (x y : A) → (if b then Some x else None) ≡ Some y → (b ≡ true) × (x ≡ y)
if-some true x y h = (refl, cc)
if-some false x y h = cc

option_or-read : {A : Type 0} (o p : Option A) (x : A) → option_or o p ≡ Some x → (o ≡ Some x) ⊎ (p ≡ Some x)
option_or-read None p x h = inr h
option_or-read (Some y) p x h = inl h

contents_in-read : (d l : Form) (bytes xs : List ℕ) → contents_in d l bytes ≡ Some xs → IsDataSection bytes xs
contents_in-read d l bytes xs h =
    let rest = drop (length (section d l [])) bytes in
    let (test, same) = if-some (bytes_eq bytes (section d l rest) && nat_lt (length rest) (limit l)) rest xs h in
    let (written, fits) = (section_test d l bytes rest).0 test in
    subst (IsDataSection bytes) same
    (record { d = d; value = binary l rest; written = written; is_value = record { l = l; written = refl; fits = fits } })

-- what is read was written
pub contents_of-read : (bytes xs : List ℕ) → contents_of bytes ≡ Some xs → IsDataSection bytes xs
unfolding contents_of
contents_of-read bytes xs h =
    elim (option_or-read (contents_in Short Short bytes) _ xs h) [
      | inl a ↦ contents_in-read Short Short bytes xs a
      | inr h ↦ elim (option_or-read (contents_in Short Long bytes) _ xs h) [
        | inl a ↦ contents_in-read Short Long bytes xs a
        | inr h ↦ elim (option_or-read (contents_in Long Short bytes) _ xs h) [
          | inl a ↦ contents_in-read Long Short bytes xs a
          | inr a ↦ contents_in-read Long Long bytes xs a
        ]
      ]
    ]
