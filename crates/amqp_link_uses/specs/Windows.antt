-- When a receiver that keeps a window of credits open does not take the next frame (OASIS AMQP 1.0 core, 2.6.7).
use Rattle.std.specs.Prelude.{ℕ, ◌/◌, ◌^◌, ◌-◌, ◌&&◌, Bool, not, nat_lt, [], ◌∷◌, ◌++◌}
use Rattle.amqp_link.specs.CreditCalls.{RunTests, forward_tests, is_lowered}
use Rattle.amqp_link.specs.CreditWorlds.{CreditWorld}
use Rattle.amqp_link.specs.declared.credit_run.CreditRunError.TheVariants as error

-- at most half of the window's credits are left: the window is stated again
abbrev pub is_due : CreditWorld → ℕ → Bool
is_due w window = not (nat_lt (window / 2) w.receiver.flow_state.link_credit)

-- the tests of stating it again
abbrev pub window_tests : CreditWorld → ℕ → RunTests
window_tests w window =
    (is_due w window && nat_lt (2 ^ 31 - 1) window, error.CreditTooLarge)
    ∷ (is_due w window && is_lowered w window, error.LimitLowered)
    ∷ []

-- and of taking the next frame
abbrev pub taking_tests : CreditWorld → ℕ → RunTests
taking_tests w window = window_tests w window ++ forward_tests w
