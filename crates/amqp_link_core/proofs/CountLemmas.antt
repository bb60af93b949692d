-- Pieces that can be counted, and such as cannot.
use Rattle.std.proofs.Common.{◌≡◌, ℕ, Bool, true, false, List, take, drop, sym, ap, ◌∙◌, refl, subst}
use Rattle.std.specs.List.{concat}
use Rattle.std.specs.Prelude.{Some, None}
use Rattle.std.proofs.lemmas.List.{take-append-drop}
use Rattle.std.proofs.lemmas.List.Folds.{concat-append}
use Rattle.amqp_link_payloads.specs.Sections.{is_too_long}
use Rattle.amqp_link_payloads.proofs.CarryLemmas.{front_not_long}
use Rattle.amqp_link_core.specs.IncompleteRefusals.{long_test}
use Rattle.amqp_link_types.specs.Refusals.{refusal}
use Rattle.amqp_link_types.specs.declared.types.errors.ReceiverTransferError.TheVariants.{PayloadTooLong}

pub some_is_none : {X : Type 0} {x : X} → Some x ≡ None → ⊥
some_is_none h = cc

pub is_long : (F : List ℕ) → is_too_long F ≡ true → refusal (long_test F) ≡ Some PayloadTooLong
is_long F h = rw h refl

pub is_not_long : (F : List ℕ) → is_too_long F ≡ false → refusal (long_test F) ≡ None
is_not_long F h = rw h refl

-- what no test refuses is not too long
pub not_refused : (F : List ℕ) → refusal (long_test F) ≡ None → is_too_long F ≡ false
not_refused F none = by (is_too_long F) refl
  where
    by : (b : Bool) → is_too_long F ≡ b → is_too_long F ≡ false
    by false e = e
    by true e = absurd (some_is_none (sym (is_long F e) ∙ none))

-- the first pieces of such as are not too long are not either
pub first_not_long : (pieces : List (List ℕ)) (i : ℕ) → is_too_long (concat pieces) ≡ false → is_too_long (concat (take i pieces)) ≡ false
first_not_long pieces i h =
    front_not_long (concat (take i pieces)) (concat (drop i pieces))
    (subst (λ F. is_too_long F ≡ false)
    (ap concat (sym (take-append-drop i pieces)) ∙ concat-append (take i pieces) (drop i pieces)) h)

-- nor is a front of their bytes
pub cut_not_long : (F G : List ℕ) (n : ℕ) → G ≡ take n F → is_too_long F ≡ false → is_too_long G ≡ false
cut_not_long F G n front h =
    subst (λ H. is_too_long H ≡ false) (sym front)
    (front_not_long (take n F) (drop n F) (subst (λ H. is_too_long H ≡ false) (sym (take-append-drop n F)) h))
