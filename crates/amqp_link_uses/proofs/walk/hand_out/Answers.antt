use Rattle.std.proofs.Common.{◌≡◌, refl, Bool, true, false, not, ℕ, List, ◌∷◌, drop, Some, None}
use Rattle.amqp_link.specs.Bodies.{whole_message}
use Rattle.amqp_link.specs.Refusals.{refusal}
use Rattle.amqp_link.specs.Steps.{has_flag, hand_out_tests, is_unknown}
use Rattle.amqp_link.specs.Worlds.{World, is_together}
use Rattle.amqp_link.specs.declared.pair.PairError.TheVariants as error
use Rattle.amqp_link_uses.proofs.walk.hand_out.Goals as goal

some_is_not_none : {A : Type 0} {a : A} → Some a ≡ None → ⊥
some_is_not_none h = cc

-- of three tests of which none holds, the third is that something does not hold
third_holds : {E : Type 0} (a b c : Bool) (x y z : E) (rest : List (Bool × E)) → refusal ((a, x) ∷ (b, y) ∷ (not c, z) ∷ rest) ≡ None → c ≡ true
third_holds true b c x y z rest h = absurd (some_is_not_none h)
third_holds false true c x y z rest h = absurd (some_is_not_none h)
third_holds false false true x y z rest h = refl
third_holds false false false x y z rest h = absurd (some_is_not_none h)

whole_handed_out : (w : World) (tag : List ℕ) → refusal (hand_out_tests whole_message w tag) ≡ None → has_flag (λ p. p.whole) w tag ≡ true
whole_handed_out w tag h =
    third_holds (not (is_together w.phase)) (is_unknown w tag) (has_flag (λ p. p.whole) w tag)
    error.NotAttached error.UnknownTag error.NotWhole (drop 3 (hand_out_tests whole_message w tag)) h

pub returns-clause-whole : goal.returns-clause-whole
returns-clause-whole c = whole_handed_out c.args.pair.now c.args.tag.now c.in_ok-hand_out.ensures.refused
