use Rattle.std.proofs.Common.{◌∙◌, string_bytes}
use Rattle.amqp_link_values.proofs.SameLevels.{same_tree-text, same_tree-texts, view-Binary, view-String, view-Symbol, view-SymbolArray}
use Rattle.amqp_link_values.proofs.value.equality.+same.Goals as goal

pub same-returns-in-Binary-Binary : goal.same-returns-in-Binary-Binary
same-returns-in-Binary-Binary t c =
    let arm = c.in-Binary-Binary in
    rw (arm.is-0, arm.is-1, view-Binary arm.a, view-Binary arm.b) (c.eq.ensures ∙ same_tree-text arm.a.items arm.b.items)

pub same-returns-in-String-String : goal.same-returns-in-String-String
same-returns-in-String-String t c =
    let arm = c.in-String-String in
    rw (arm.is-0, arm.is-1, view-String arm.a, view-String arm.b) (c.eq-in-String-String.ensures ∙ same_tree-text (string_bytes arm.a) (string_bytes arm.b))

pub same-returns-in-Symbol-Symbol : goal.same-returns-in-Symbol-Symbol
same-returns-in-Symbol-Symbol t c =
    let arm = c.in-Symbol-Symbol in
    rw (arm.is-0, arm.is-1, view-Symbol arm.a, view-Symbol arm.b) (c.eq-in-Symbol-Symbol.ensures ∙ same_tree-text arm.a arm.b)

pub same-returns-in-SymbolArray-SymbolArray : goal.same-returns-in-SymbolArray-SymbolArray
same-returns-in-SymbolArray-SymbolArray t c =
    let arm = c.in-SymbolArray-SymbolArray in
    rw (arm.is-0, arm.is-1, view-SymbolArray arm.a, view-SymbolArray arm.b) (c.eq-in-SymbolArray-SymbolArray.ensures ∙ same_tree-texts arm.a.items arm.b.items)
