-- When an attach that a relay takes is out of memory.
use Rattle.std.proofs.Common.{◌≡◌, refl, true, false, Option, Some, None, Result, Err}
use Rattle.std.specs.Prelude.{IfSome, IsErrOf}

false_is_not_true : false ≡ true → ⊥
false_is_not_true h = cc

-- no error lists anything, so that none was there
pub none_where_none_lists : {E : Type 0} (refusal : Option E) → IfSome refusal (λ _. false ≡ true) → refusal ≡ None
none_where_none_lists None lists = refl
none_where_none_lists (Some error) lists = absurd (false_is_not_true lists)

-- an error that is handed on is that of the call
pub is_error_of_call : {T U E : Type 0} {e memory : E} {result : Result T E} {of_call : Result U E}
    → result ≡ Err e → of_call ≡ Err e → IsErrOf result memory → IsErrOf of_call memory
is_error_of_call out was is = cc
