-- What the tests of an attach that arrives leave of an endpoint.
use Rattle.std.proofs.Common.{◌≡◌, Bool, true, false, [], ◌∷◌, Some, None}
use Rattle.amqp_link_endpoint.specs.AttachTests.{Tests, first_refusal, left_by_first, left_after}

module _ {E S : Type 0} where
  -- P holds of each endpoint that a refusal leaves
  abbrev pub Each : (S → Type 0) → Tests E S → Type 0
  Each P [] = Unit {0}
  Each P (test ∷ tests) = P test.1 × Each P tests

  pub left_by_first_is : (P : S → Type 0) (s : S) (tests : Tests E S) → P s → Each P tests → P (left_by_first s tests)
  left_by_first_is P s [] own each = own
  left_by_first_is P s ((None, left) ∷ tests) own each = left_by_first_is P s tests own each.1
  left_by_first_is P s ((Some error, left) ∷ tests) own each = each.0

  pub left_after_is : (P : S → Type 0) (out_of_memory : Bool) (s : S) (tests : Tests E S) → P s → Each P tests → P (left_after out_of_memory s tests)
  left_after_is P true s tests own each = own
  left_after_is P false s tests own each = left_by_first_is P s tests own each

  -- after a refusal P holds of the endpoint that is left
  pub refused_leaves : (P : S → Type 0) (s : S) (tests : Tests E S) (error : E) → first_refusal tests ≡ Some error → Each P tests → P (left_by_first s tests)
  refused_leaves P s [] error stop each = absurd (cc)
  refused_leaves P s ((None, left) ∷ tests) error stop each = refused_leaves P s tests error stop each.1
  refused_leaves P s ((Some first, left) ∷ tests) error stop each = each.0
