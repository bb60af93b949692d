-- What is held before the place where a resumption starts, and a transfer that follows it.
use Rattle.std.proofs.Common.{◌≡◌, ◌∙◌, ◌++◌, ap, ap₂, inl, inr, arith, refl, subst, sym, Bool, true, false, List, [], ◌∷◌, Some, None, Result, Ok, Err, ℕ}
use Rattle.std.specs.Prelude.{OnOk, is_none, length, take}
use Rattle.std.specs.List.{concat}
use Rattle.std.proofs.lemmas.List.{append-nil, take_all}
use Rattle.std.proofs.lemmas.List.Folds.{concat-append}
use Rattle.amqp_link_payloads.specs.Position.{place, position}
use Rattle.amqp_link_payloads.proofs.FrontLemmas.{place_of_front}
use Rattle.amqp_link_types.specs.Refusals.{AnswersOrOutOfMemory, AnswersThenOutOfMemory, refusal}
use Rattle.amqp_link_types.specs.declared.types.errors.ReceiverTransferError.TheVariants.{DeliveryIdIsNone, DeliveryTagIsNone, InconsistentFieldInMultiFrameDelivery}
use Rattle.amqp_link_types.specs.declared.types.transfer.Transfer.{Transfer}
use Rattle.amqp_link_core.specs.Held.{Held, held_bytes}
use Rattle.amqp_link_core.specs.IncompleteRefusals.{Test, add_tests, is_inconsistent, is_of_another, long_test}
use Rattle.amqp_link_core.specs.Merging.{Came, Merged}
use Rattle.amqp_link_inbox.specs.KeptDeliveries.{Joins, bytes_to, bytes_until, held_until, start_of}

-- ---- the place

-- before the position of all bytes stand all of them
pub until_end : (bytes : List ℕ) → bytes_until (Some (position bytes)) bytes ≡ bytes
until_end bytes =
    let all : take (length bytes) bytes ≡ bytes = take_all (length bytes) bytes (omega arith) in
    let there : place bytes (position bytes).0 (position bytes).1 ≡ Some (length bytes)
    = subst (λ Q. place bytes (position Q).0 (position Q).1 ≡ Some (length bytes)) all (place_of_front bytes (length bytes) (omega arith)) in
    ap (λ o. bytes_to o bytes) there ∙ all

-- ---- the tests of a transfer look at the fields and the bytes that are held, and not at the pieces

abbrev tests_by : Bool → Transfer → List ℕ → Transfer → List ℕ → List Test
tests_by true old held t bytes =
    (is_none t.delivery_id, DeliveryIdIsNone)
    ∷ (is_none t.delivery_tag, DeliveryTagIsNone)
    ∷ (is_of_another old t, InconsistentFieldInMultiFrameDelivery)
    ∷ long_test (held ++ bytes)
tests_by false old held t bytes = (is_inconsistent old t, InconsistentFieldInMultiFrameDelivery) ∷ long_test (held ++ bytes)

are_by : (begins : Bool) (held : Held) (t : Transfer) (bytes : List ℕ) → add_tests begins held t bytes ≡ tests_by begins held.performative (held_bytes held) t bytes
are_by true held t bytes = refl
are_by false held t bytes = refl

-- those of a front of what is held
pub same_tests : (begins : Bool) (front held : Held) (t : Transfer) (bytes : List ℕ) → front.performative ≡ held.performative
    → held_bytes front ≡ bytes_until (start_of begins t) (held_bytes held)
    → add_tests begins front t bytes ≡ add_tests begins (held_until (start_of begins t) held) t bytes
same_tests begins front held t bytes fields is =
    are_by begins front t bytes
    ∙ ap₂ (λ old all. tests_by begins old all t bytes) fields (is ∙ sym (append-nil (bytes_until (start_of begins t) (held_bytes held))))
    ∙ sym (are_by begins (held_until (start_of begins t) held) t bytes)

-- the answer by equal tests, where out of memory may come before
pub or_before : {A E : Type 0} (memory : E) (r : Result A E) (tests same : List (Bool × E)) → tests ≡ same → AnswersThenOutOfMemory memory r tests
    → AnswersOrOutOfMemory memory r same
or_before memory (Ok a) tests same is h = subst (λ l. refusal l ≡ None) is h
or_before memory (Err e) tests same is h = elim h [ inl last ↦ inl last.0 | inr first ↦ inr (subst (λ l. refusal l ≡ Some e) is first) ]

-- ---- the transfer joins

pub joins : (begins : Bool) (t : Transfer) (bytes : List ℕ) (old front new : Held) → held_bytes front ≡ bytes_until (start_of begins t) (held_bytes old)
    → front.performative ≡ old.performative → new.pieces ≡ front.pieces ++ bytes ∷ []
    → ((came : List Came) → Merged came front.performative → Merged (came ++ record { opens = begins; transfer = t } ∷ []) new.performative)
    → Joins begins t bytes old new
joins begins t bytes old front new is fields pieces merged = record {
  joined = ap concat pieces ∙ concat-append front.pieces (bytes ∷ []) ∙ ap (λ b. held_bytes front ++ b) (append-nil bytes) ∙ ap (λ b. b ++ bytes) is;
  fields = λ came was. merged came (subst (Merged came) (sym fields) was);
}

-- where it starts at the end of what is held
pub joins_there : {A E : Type 0} (r : Result A E) (begins : Bool) (t : Transfer) (bytes : List ℕ) (old new : Held)
    → bytes_until (start_of begins t) (held_bytes old) ≡ held_bytes old
    → OnOk r ((came : List Came) → Merged came old.performative → Merged (came ++ record { opens = begins; transfer = t } ∷ []) new.performative)
    → OnOk r (new.pieces ≡ old.pieces ++ bytes ∷ []) → OnOk r (Joins begins t bytes old new)
joins_there (Ok a) begins t bytes old new same merged pieces = joins begins t bytes old old new (sym same) refl pieces merged
joins_there (Err e) begins t bytes old new same merged pieces = tt
