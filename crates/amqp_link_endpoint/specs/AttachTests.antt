-- The tests of an attach that arrives, in order (OASIS AMQP 1.0 core, 2.6.3).
use Rattle.std.specs.Prelude.{Bool, true, List, [], ◌∷◌, Option, Some, None, if◌then◌else◌}

-- a test that refuses with this error if it holds
abbrev pub refused_if : {E : Type 0} → Bool → E → Option E
refused_if holds error = if holds then Some error else None

-- why the peer's terminus is refused beside the own one, if the link verifies it and both are there
abbrev pub verified : {A E : Type 0} → Bool → (A → A → Option E) → Option A → Option A → Option E
verified true refused (Some own) (Some theirs) = refused own theirs
verified _ refused _ _ = None

-- the error of the first test that refuses
abbrev pub first_of : {E : Type 0} → List (Option E) → Option E
first_of [] = None
first_of (None ∷ tests) = first_of tests
first_of (Some error ∷ tests) = Some error

-- tests in order, each with the endpoint that its refusal leaves
abbrev pub Tests : Type 0 → Type 0 → Type 0
Tests E S = List (Option E × S)

module _ {E S : Type 0} where
  abbrev pub first_refusal : Tests E S → Option E
  first_refusal [] = None
  first_refusal ((None, left) ∷ tests) = first_refusal tests
  first_refusal ((Some error, left) ∷ tests) = Some error

  -- what the first test that refuses leaves, or this endpoint if none does
  abbrev pub left_by_first : S → Tests E S → S
  left_by_first s [] = s
  left_by_first s ((None, left) ∷ tests) = left_by_first s tests
  left_by_first s ((Some error, left) ∷ tests) = left

  -- what a refusal leaves: the endpoint as it was if it is out of memory
  abbrev pub left_after : Bool → S → Tests E S → S
  left_after out_of_memory s tests = if out_of_memory then s else left_by_first s tests
