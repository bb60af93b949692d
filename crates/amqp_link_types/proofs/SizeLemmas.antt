-- What takes more room: a mark is never shorter than none.
use Rattle.std.proofs.Common.{ℕ, ◌≤◌, Option, Some, None, true, false, [], ◌∷◌, arith}
use Rattle.std.proofs.lemmas.Bool.Decides.{nat_tests}
use Rattle.std.specs.Prelude.{option_map}
use Rattle.amqp_link_values.specs.Length.{uint_len, ulong_len, array_len, fields_len}
use Rattle.amqp_link_types.specs.Size.{before, content, list_of, attach_len}
use Rattle.amqp_link_types.specs.declared.types.attach.Attach.{Attach}

-- more bytes after a field, or in a list, make no fewer in all
before-le : (f : Option ℕ) (m n : ℕ) → m ≤ n → before f m ≤ before f n
unfolding before
before-le None m n h = grind (arith, nat_tests)
before-le (Some k) m n h = omega arith

list_of-le : (m n : ℕ) → m ≤ n → list_of m ≤ list_of n
unfolding list_of
list_of-le m n h = grind (arith, nat_tests)

-- a null and a flag before the same bytes
before-flag : (n : ℕ) → before None n ≤ before (Some 1) n
unfolding before
before-flag n = grind (arith, nat_tests)

-- an attach that is marked incomplete is never shorter than the same unmarked
pub attach_len-marked : (a : Attach)
    → attach_len (record a { incomplete_unsettled = false }) ≤ attach_len (record a { incomplete_unsettled = true })
unfolding attach_len
attach_len-marked a = list_of-le _ _ (
    before-le _ _ _ (before-le _ _ _ (before-le _ _ _ (before-le _ _ _ (
    before-le _ _ _ (before-le _ _ _ (before-le _ _ _ (before-le _ _ _ (
    before-flag (content (
    option_map uint_len a.initial_delivery_count
    ∷ option_map ulong_len a.max_message_size
    ∷ option_map array_len a.offered_capabilities
    ∷ option_map array_len a.desired_capabilities
    ∷ option_map fields_len a.properties
    ∷ [])))))))))))
