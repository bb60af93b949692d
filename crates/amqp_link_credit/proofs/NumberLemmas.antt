-- The counts and limits of a credit run, as counts move.
use Rattle.std.proofs.Common.{◌≡◌, sym, ap, ◌∙◌, subst, refl, ℕ, ◌-◌, ◌^◌, ◌≤◌, arith, Bool, true, false, cond, List, [], ◌∷◌, ◌++◌}
use Rattle.std.specs.Prelude.{ℤ, pos, ◌+ℤ◌, ◌-ℤ◌, ◌≤ℤ◌, Option, Some, None, unwrap_or, IsSomeAnd}
use Rattle.std.specs.List.{AllByRecursion}
use borrow.Author.Differences.{ints}
use Rattle.amqp_link_state.specs.Counts.{sdiff}
use Rattle.amqp_link_types.specs.declared.types.performatives.LinkFlow.{LinkFlow}
use Rattle.amqp_link_types.specs.declared.frame.LinkFrame.{LinkFrame}
use Rattle.amqp_link_types.specs.declared.frame.LinkFrame.TheVariants.{Attach, Flow, RemoteTransfer, FirstTransfer, TransferContinuation, Disposition, Detach}
use Rattle.amqp_link_types.specs.Frames.{performative_of}
use Rattle.amqp_link_credit.specs.CreditNumbers.{count_of_flow, limit_of_flow, count_after, LeadsTo, Rises, IsStating}
use Rattle.amqp_link_credit.proofs.Serial.{InRange, sdiff_from}

trans_ℤ : (a b c : ℤ) → a ≤ℤ b → b ≤ℤ c → a ≤ℤ c
trans_ℤ a b c h k = omega (arith, ints)

refl_ℤ : (a : ℤ) → a ≤ℤ a
refl_ℤ a = omega (arith, ints)

shifted : (a d : ℤ) (n : ℕ) → (a -ℤ d) +ℤ pos n ≡ (a +ℤ pos n) -ℤ d
shifted a d n = omega (arith, ints)

minus_ℤ : (a b d : ℤ) → a ≤ℤ b → (a -ℤ d) ≤ℤ (b -ℤ d)
minus_ℤ a b d h = omega (arith, ints)

-- ---- the walk

pub LeadsTo-least : (own : ℕ) (count end : ℤ) (frames : List LinkFrame) → LeadsTo own count frames end → count ≤ℤ end
LeadsTo-least own count end [] h = omega (arith, ints)
LeadsTo-least own count end (f ∷ frames) h = trans_ℤ count (count_after own count f) end h.0 (LeadsTo-least own (count_after own count f) end frames h.1)

pub LeadsTo-append : (own : ℕ) (count mid end : ℤ) (xs ys : List LinkFrame) → LeadsTo own count xs mid → LeadsTo own mid ys end → LeadsTo own count (xs ++ ys) end
LeadsTo-append own count mid end [] ys h k = subst (λ c. LeadsTo own c ys end) (sym h) k
LeadsTo-append own count mid end (f ∷ xs) ys h k = (h.0, LeadsTo-append own (count_after own count f) mid end xs ys h.1 k)

-- the receiver's count has moved on
module _ (old new : ℕ) (small : old ≤ 2 ^ 32) (narrow : new ≤ 2 ^ 32) where
  plain_moved : (more : Bool) (count : ℤ) → cond more (count -ℤ sdiff new old) ((count -ℤ sdiff new old) +ℤ pos 1) ≡ cond more count (count +ℤ pos 1) -ℤ sdiff new old
  plain_moved true count = refl
  plain_moved false count = omega (arith, ints)

  count_moved : (flow : LinkFlow) → InRange (count_of_flow old flow -ℤ sdiff new old) → count_of_flow new flow ≡ count_of_flow old flow -ℤ sdiff new old
  count_moved flow r = sdiff_from (unwrap_or flow.delivery_count 0) old new (count_of_flow old flow -ℤ sdiff new old) small narrow (omega (arith, ints)) r

  after_moved : (count end : ℤ) (f : LinkFrame) → pos 0 ≤ℤ sdiff new old → sdiff new old ≤ℤ count → count ≤ℤ count_after old count f → count_after old count f ≤ℤ end → end ≤ℤ pos (2 ^ 31 - 1)
      → count_after new (count -ℤ sdiff new old) f ≡ count_after old count f -ℤ sdiff new old
  after_moved count end (Flow flow) p h k m s = count_moved flow (record { least = omega (arith, ints); most = omega (arith, ints) })
  after_moved count end (Attach x) p h k m s = plain_moved (performative_of (Attach x)).more count
  after_moved count end (RemoteTransfer x) p h k m s = plain_moved x.performative.more count
  after_moved count end (FirstTransfer x) p h k m s = plain_moved x.performative.more count
  after_moved count end (TransferContinuation x) p h k m s = plain_moved x.performative.more count
  after_moved count end (Disposition x) p h k m s = plain_moved (performative_of (Disposition x)).more count
  after_moved count end (Detach x) p h k m s = plain_moved (performative_of (Detach x)).more count

  pub LeadsTo-moved : (count end : ℤ) (frames : List LinkFrame) → pos 0 ≤ℤ sdiff new old → sdiff new old ≤ℤ count → end ≤ℤ pos (2 ^ 31 - 1) → LeadsTo old count frames end → LeadsTo new (count -ℤ sdiff new old) frames (end -ℤ sdiff new old)
  LeadsTo-moved count end [] p h s l = ap (λ c. c -ℤ sdiff new old) l
  LeadsTo-moved count end (f ∷ frames) p h s l =
      let after = count_after old count f in
      let e : count_after new (count -ℤ sdiff new old) f ≡ after -ℤ sdiff new old = after_moved count end f p h l.0 (LeadsTo-least old after end frames l.1) s in (
        subst (λ c. (count -ℤ sdiff new old) ≤ℤ c) (sym e) (minus_ℤ count after (sdiff new old) l.0),
        subst (λ c. LeadsTo new c frames (end -ℤ sdiff new old)) (sym e) (LeadsTo-moved after end frames p (trans_ℤ (sdiff new old) count after h l.0) s l.1),
      )

-- ---- the limits

pub Rises-ends : (own : ℕ) (least most : ℤ) (flows : List LinkFlow) → Rises own least flows most → least ≤ℤ most
Rises-ends own least most [] h = h
Rises-ends own least most (flow ∷ flows) h = trans_ℤ least (limit_of_flow own flow) most h.0 (Rises-ends own (limit_of_flow own flow) most flows h.1)

pub Rises-from : (own : ℕ) (less least most : ℤ) (flows : List LinkFlow) → less ≤ℤ least → Rises own least flows most → Rises own less flows most
Rises-from own less least most [] k h = trans_ℤ less least most k h
Rises-from own less least most (flow ∷ flows) k h = (trans_ℤ less least (limit_of_flow own flow) k h.0, h.1)

-- one more flow, with the greatest limit
pub Rises-push : (own : ℕ) (least most : ℤ) (flows : List LinkFlow) (flow : LinkFlow) → Rises own least flows most → most ≤ℤ limit_of_flow own flow → Rises own least (flows ++ flow ∷ []) (limit_of_flow own flow)
Rises-push own least most [] flow h k = (trans_ℤ least most (limit_of_flow own flow) h k, refl_ℤ (limit_of_flow own flow))
Rises-push own least most (first ∷ flows) flow h k = (h.0, Rises-push own (limit_of_flow own first) most flows flow h.1 k)

-- ---- flows under way

stated_small : (o : Option ℕ) → IsSomeAnd o (λ credit. credit ≤ 2147483647) → unwrap_or o 0 ≤ 2147483647
stated_small (Some n) h = h
stated_small None h = absurd h

pub credit_small : (own : ℕ) (sent : ℤ) (flow : LinkFlow) → IsStating own sent flow → unwrap_or flow.link_credit 0 ≤ 2147483647
credit_small own sent flow s = stated_small flow.link_credit s.credited

pub stating_on : (own : ℕ) (sent more : ℤ) (flows : List LinkFlow) → sent ≤ℤ more → AllByRecursion (IsStating own sent) flows → AllByRecursion (IsStating own more) flows
stating_on own sent more [] k a = a
stating_on own sent more (flow ∷ flows) k a =
    (record { counted = a.0.counted; behind = trans_ℤ (count_of_flow own flow) sent more a.0.behind k; credited = a.0.credited }, stating_on own sent more flows k a.1)

pub stating_push : (own : ℕ) (sent : ℤ) (flows : List LinkFlow) (flow : LinkFlow) → AllByRecursion (IsStating own sent) flows → IsStating own sent flow → AllByRecursion (IsStating own sent) (flows ++ flow ∷ [])
stating_push own sent [] flow a s = (s, tt)
stating_push own sent (first ∷ flows) flow a s = (a.0, stating_push own sent flows flow a.1 s)

module _ (old new : ℕ) (small : old ≤ 2 ^ 32) (narrow : new ≤ 2 ^ 32) (forth : pos 0 ≤ℤ sdiff new old) where
  flow_moved : (sent least : ℤ) (flow : LinkFlow) → sdiff new old ≤ℤ least → sent ≤ℤ pos (2 ^ 31 - 1) → IsStating old sent flow → least ≤ℤ limit_of_flow old flow → count_of_flow new flow ≡ count_of_flow old flow -ℤ sdiff new old
  flow_moved sent least flow h s a l =
      let c : unwrap_or flow.link_credit 0 ≤ 2147483647 = credit_small old sent flow a in
      let b : count_of_flow old flow ≤ℤ sent = a.behind in
      count_moved old new small narrow flow (record { least = omega (arith, ints); most = omega (arith, ints) })

  allowed_moved : (flow : LinkFlow) → count_of_flow new flow ≡ count_of_flow old flow -ℤ sdiff new old → limit_of_flow new flow ≡ limit_of_flow old flow -ℤ sdiff new old
  allowed_moved flow e = ap (λ c. c +ℤ pos (unwrap_or flow.link_credit 0)) e ∙ shifted (count_of_flow old flow) (sdiff new old) (unwrap_or flow.link_credit 0)

  pub Rises-moved : (sent least most : ℤ) (flows : List LinkFlow) → sdiff new old ≤ℤ least → sent ≤ℤ pos (2 ^ 31 - 1) → AllByRecursion (IsStating old sent) flows → Rises old least flows most → Rises new (least -ℤ sdiff new old) flows (most -ℤ sdiff new old)
  Rises-moved sent least most [] h s a l = minus_ℤ least most (sdiff new old) l
  Rises-moved sent least most (flow ∷ flows) h s a l =
      let e : limit_of_flow new flow ≡ limit_of_flow old flow -ℤ sdiff new old = allowed_moved flow (flow_moved sent least flow h s a.0 l.0) in (
        subst (λ c. (least -ℤ sdiff new old) ≤ℤ c) (sym e) (minus_ℤ least (limit_of_flow old flow) (sdiff new old) l.0),
        subst (λ c. Rises new c flows (most -ℤ sdiff new old)) (sym e) (Rises-moved sent (limit_of_flow old flow) most flows (trans_ℤ (sdiff new old) least (limit_of_flow old flow) h l.0) s a.1 l.1),
      )

  pub stating_moved : (sent least most : ℤ) (flows : List LinkFlow) → sdiff new old ≤ℤ least → sent ≤ℤ pos (2 ^ 31 - 1) → AllByRecursion (IsStating old sent) flows → Rises old least flows most → AllByRecursion (IsStating new (sent -ℤ sdiff new old)) flows
  stating_moved sent least most [] h s a l = tt
  stating_moved sent least most (flow ∷ flows) h s a l =
      let e : count_of_flow new flow ≡ count_of_flow old flow -ℤ sdiff new old = flow_moved sent least flow h s a.0 l.0 in (
        record {
          counted = a.0.counted;
          behind = subst (λ c. c ≤ℤ (sent -ℤ sdiff new old)) (sym e) (minus_ℤ (count_of_flow old flow) sent (sdiff new old) a.0.behind);
          credited = a.0.credited;
        },
        stating_moved sent (limit_of_flow old flow) most flows (trans_ℤ (sdiff new old) least (limit_of_flow old flow) h l.0) s a.1 l.1,
      )
