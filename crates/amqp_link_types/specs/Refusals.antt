-- Why a call is refused: of the tests that hold, the first in order.
use Rattle.std.specs.Prelude.{◌≡◌, ◌⊎◌, Bool, List, find, Option, None, Some, option_map, Result, Ok, Err}

-- the error of the first test that holds
abbrev pub refusal : {E : Type 0} → List (Bool × E) → Option E
refusal tests = option_map (λ test. test.1) (find (λ test. test.0) tests)

module _ {A E : Type 0} where
  -- the result of a call that does not allocate, by the first test that holds
  abbrev pub AnswersExactly : Result A E → List (Bool × E) → Type 0
  AnswersExactly (Ok a) tests = refusal tests ≡ None
  AnswersExactly (Err e) tests = refusal tests ≡ Some e

  -- The result of a call by the first test that holds; this error, which states that the call is out of
  -- memory, is returned only if no test holds.
  abbrev pub AnswersThenOutOfMemory : E → Result A E → List (Bool × E) → Type 0
  AnswersThenOutOfMemory out_of_memory (Ok a) tests = refusal tests ≡ None
  AnswersThenOutOfMemory out_of_memory (Err e) tests =
      ((e ≡ out_of_memory) × (refusal tests ≡ None)) ⊎ (refusal tests ≡ Some e)

  -- The result of a call by the first test that holds; out of memory may come before any test. A clause
  -- `memory` of the call states before which tests it does not come.
  abbrev pub AnswersOrOutOfMemory : E → Result A E → List (Bool × E) → Type 0
  AnswersOrOutOfMemory out_of_memory (Ok a) tests = refusal tests ≡ None
  AnswersOrOutOfMemory out_of_memory (Err e) tests = (e ≡ out_of_memory) ⊎ (refusal tests ≡ Some e)
