-- The delivery-counts and limits of a credit run (OASIS AMQP 1.0 core, 2.6.7). Delivery-counts wrap, so each number
-- is how far it is ahead of the receiver's own delivery-count.
use Rattle.std.specs.Prelude.{ℕ, ◌-◌, ◌≤◌, ◌<◌, ◌^◌, ◌≡◌, ℤ, pos, ◌+ℤ◌, ◌≤ℤ◌, List, [], ◌∷◌, IsSomeAnd, unwrap_or, if◌then◌else◌}
use Rattle.amqp_link_state.specs.Counts.{sdiff}
use Rattle.amqp_link_types.specs.declared.frame.LinkFrame.{LinkFrame}
use Rattle.amqp_link_types.specs.declared.frame.LinkFrame.TheVariants.{Flow}
use Rattle.amqp_link_types.specs.declared.types.performatives.LinkFlow.{LinkFlow}
use Rattle.amqp_link_types.specs.Frames.{performative_of}

-- all of them from the receiver's delivery-count `own`
module _ (own : ℕ) where
  -- the delivery-count that a flow states
  abbrev pub count_of_flow : LinkFlow → ℤ
  count_of_flow flow = sdiff (unwrap_or flow.delivery_count 0) own

  -- the limit that a flow states: its delivery-count + its link-credit
  abbrev pub limit_of_flow : LinkFlow → ℤ
  limit_of_flow flow = count_of_flow flow +ℤ pos (unwrap_or flow.link_credit 0)

  -- the receiver's delivery-count after a frame has arrived: a flow states it, and a last transfer adds one
  abbrev pub count_after : ℤ → LinkFrame → ℤ
  count_after count (Flow flow) = count_of_flow flow
  count_after count f = if (performative_of f).more then count else count +ℤ pos 1

  -- frame by frame the delivery-count does not fall, and it ends at another
  abbrev pub LeadsTo : ℤ → List LinkFrame → ℤ → Type 0
  LeadsTo count [] end = count ≡ end
  LeadsTo count (f ∷ frames) end = (count ≤ℤ count_after count f) × LeadsTo (count_after count f) frames end

  -- from a least limit to a greatest one the limits of these flows do not fall
  abbrev pub Rises : ℤ → List LinkFlow → ℤ → Type 0
  Rises least [] most = least ≤ℤ most
  Rises least (flow ∷ flows) most = (least ≤ℤ limit_of_flow flow) × Rises (limit_of_flow flow) flows most

  -- a flow of the receiver states a delivery-count that the sender has reached, and at most 2^31 - 1 credits
  pub record IsStating (reached : ℤ) (flow : LinkFlow) : Type 0 where
    pub counted : IsSomeAnd flow.delivery_count (λ count. count < 2 ^ 32)
    pub behind : count_of_flow flow ≤ℤ reached
    pub credited : IsSomeAnd flow.link_credit (λ credit. credit ≤ 2 ^ 31 - 1)
