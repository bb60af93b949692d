-- What a refused attach leaves of an endpoint, by the clauses of its trait.
use Rattle.std.proofs.Common.{◌≡◌, ap, sym, Option, Some, None, ◌⊎◌, inl, inr}
use Rattle.std.specs.Prelude.{MatchOption, IfNone}
use Rattle.amqp_link_state.specs.declared.state.LinkState.{LinkState}

-- it is as it was, or its state has moved as the table says
pub stays_or_moves : {L E : Type 0} (illegal out_of_memory error : E) (old now : L) (state : LinkState) (next : Option LinkState)
    → MatchOption next (error ≡ illegal) (λ moved. (error ≡ out_of_memory) ⊎ (state ≡ moved))
    → IfNone next (now ≡ old) → (error ≡ out_of_memory → now ≡ old)
    → (now ≡ old) ⊎ (next ≡ Some state)
stays_or_moves illegal out_of_memory error old now state None step kept memory = inl kept
stays_or_moves illegal out_of_memory error old now state (Some moved) (inl is) kept memory = inl (memory is)
stays_or_moves illegal out_of_memory error old now state (Some moved) (inr goes) kept memory = inr (ap Some (sym goes))
