-- A link whose attach has failed keeps its deliveries, and a ledger its records.
use Rattle.std.proofs.Common.{◌≡◌, ap, Option, Some, None, Result, Ok, Err, OnOk, OnErr}
use Rattle.std.specs.Prelude.{MatchOption}
use Rattle.amqp_link_state.specs.declared.state.LinkState.{LinkState}
use Rattle.amqp_link_sender.specs.Senders.{Sender}
use Rattle.amqp_link_ledger.specs.Fates.{Records}
use Rattle.amqp_link_ledger.specs.Ledgers.{Ledger}

module _ {T : Type 0} (old new : Sender T) where
  -- it is as it was, or in another state and without output handle
  abbrev Leaves : Option LinkState → Type 0
  Leaves state = MatchOption state (new ≡ old) (λ next. new ≡ record old { local_state = next; output_handle = None })

  left_of : (state : Option LinkState) → Leaves state → new.unsettled ≡ old.unsettled
  left_of None same = ap (λ (s : Sender T). s.unsettled) same
  left_of (Some next) moved = ap (λ (s : Sender T). s.unsettled) moved

  pub unsettled-handled : {A E : Type 0} (result : Result A E) (state : Option LinkState) → OnOk result (Leaves state) → OnErr result (new ≡ old) → new.unsettled ≡ old.unsettled
  unsettled-handled (Ok done) state after left = left_of state after
  unsettled-handled (Err error) state after left = ap (λ (s : Sender T). s.unsettled) left

  pub ledger-handled : {A E : Type 0} (result : Result A E) (state : Option LinkState) (records : Records) → OnOk result (Leaves state)
      → OnOk result (MatchOption state
      (let now : Ledger T = record { link = new; records = records } in now ≡ record { link = old; records = records })
      (λ next. let now : Ledger T = record { link = new; records = records } in
      now ≡ record { link = record old { local_state = next; output_handle = None }; records = records }))
  ledger-handled (Ok done) None records same = ap (λ (s : Sender T). let now : Ledger T = record { link = s; records = records } in now) same
  ledger-handled (Ok done) (Some next) records moved = ap (λ (s : Sender T). let now : Ledger T = record { link = s; records = records } in now) moved
  ledger-handled (Err error) state records after = after
