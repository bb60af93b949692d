-- Each call keeps the numbers of credit.
use Rattle.std.proofs.Common.{◌≡◌, sym, ap, ◌∙◌, subst, refl, ℕ, ◌+◌, ◌-◌, ◌%◌, ◌^◌, ◌<◌, ◌≤◌, arith, Bool, true, false, cond, ◌||◌, List, [], ◌∷◌, ◌++◌}
use Rattle.std.specs.Prelude.{ℤ, pos, ◌+ℤ◌, ◌-ℤ◌, ◌≤ℤ◌, Option, Some, None, unwrap_or, IsSomeAnd}
use Rattle.std.specs.Option.{option_map_or}
use Rattle.std.specs.List.{AllByRecursion}
use Rattle.std.proofs.lemmas.List.{append-nil}
use borrow.Author.Differences.{ints}
use Rattle.amqp_link_state.specs.Counts.{sdiff, granted, count_limit, after_consuming, with_stated, stated_flow, flow_of, count_in, credit_after, sender_after, sender_reply, receiver_after}
use Rattle.amqp_link_types.specs.declared.types.performatives.LinkFlow.{LinkFlow}
use Rattle.amqp_link_state.specs.declared.state.LinkFlowStateInner.{LinkFlowStateInner}
use Rattle.amqp_link_types.specs.declared.frame.LinkFrame.{LinkFrame}
use Rattle.amqp_link_types.specs.declared.frame.LinkFrame.TheVariants.{Flow, FirstTransfer, TransferContinuation}
use Rattle.amqp_link_types.specs.Frames.{performative_of}
use Rattle.amqp_link_types.specs.declared.types.definitions.OutputHandle.{OutputHandle}
use Rattle.amqp_link_worlds.specs.Steps.{new_flow}
use Rattle.amqp_link_credit.specs.CreditNumbers.{count_of_flow, limit_of_flow, count_after, LeadsTo, Rises, IsStating}
use Rattle.amqp_link_credit.specs.Credits.{IsCredit}
use Rattle.amqp_link_credit.specs.CreditCalls.{reply_frames}
use Rattle.amqp_link_credit.specs.CreditDeliveries.{FollowsOn, IsReply}
use Rattle.amqp_link_credit.proofs.Serial.{sdiff_self, sdiff_from, sdiff_later}
use Rattle.amqp_link_credit.proofs.NumberLemmas.{LeadsTo-least, LeadsTo-append, LeadsTo-moved, Rises-ends, Rises-push, Rises-moved, stating_on, stating_push, stating_moved, credit_small}

-- ---- a new world

pub credit_new : (count : ℕ) → count < 2 ^ 32 → IsCredit (new_flow count) (new_flow count) [] [] count
credit_new count h =
    let e : sdiff count count ≡ pos 0 = sdiff_self count (omega arith) in
    record {
      counted = sym e;
      rising = omega (arith, ints);
      within = omega (arith, ints);
      stating = tt;
      credited = omega arith;
      sender_count = h;
      receiver_count = h;
    }

-- ---- what follows from it

-- the sender has sent, and may send, what the receiver's credit covers
pub IsCredit-bounds : (s r : LinkFlowStateInner) (forward : List LinkFrame) (back : List LinkFlow) (stated : ℕ) → IsCredit s r forward back stated
    → (pos 0 ≤ℤ sdiff s.delivery_count r.delivery_count)
    × ((sdiff s.delivery_count r.delivery_count +ℤ pos s.link_credit) ≤ℤ sdiff stated r.delivery_count)
    × (sdiff stated r.delivery_count ≤ℤ pos r.link_credit)
IsCredit-bounds s r forward back stated c = (
  LeadsTo-least r.delivery_count (pos 0) (sdiff s.delivery_count r.delivery_count) forward c.counted,
  Rises-ends r.delivery_count (sdiff s.delivery_count r.delivery_count +ℤ pos s.link_credit) (sdiff stated r.delivery_count) back c.rising,
  c.within,
)

-- ---- a grant

module _ (s r : LinkFlowStateInner) (forward : List LinkFrame) (back : List LinkFlow) (stated : ℕ) (c : IsCredit s r forward back stated) where
  abbrev sent : ℤ
  sent = sdiff s.delivery_count r.delivery_count

  pub credit_granted : (credit : ℕ) (drain echo : Bool) (handle : OutputHandle) → credit ≤ 2 ^ 31 - 1 → sdiff stated r.delivery_count ≤ℤ pos credit
      → let r' = with_stated (Some credit) (Some drain) r in IsCredit s r' forward (back ++ stated_flow r' handle echo false ∷ []) (count_limit r')
  credit_granted credit drain echo handle small kept =
      let r' = with_stated (Some credit) (Some drain) r in
      let flow = stated_flow r' handle echo false in
      let self : sdiff r.delivery_count r.delivery_count ≡ pos 0 = sdiff_self r.delivery_count (omega (arith, c.receiver_count)) in
      let limit : sdiff (count_limit r') r.delivery_count ≡ pos credit =
      sdiff_later r.delivery_count r.delivery_count credit (pos credit) (omega (arith, c.receiver_count)) (omega (arith, ints)) (record { least = omega arith; most = omega arith }) in
      let most : limit_of_flow r.delivery_count flow ≡ sdiff (count_limit r') r.delivery_count = omega (arith, ints) in
      let b : pos 0 ≤ℤ sdiff s.delivery_count r.delivery_count = LeadsTo-least r.delivery_count (pos 0) (sdiff s.delivery_count r.delivery_count) forward c.counted in
      record {
        counted = c.counted;
        rising = subst (λ m. Rises r.delivery_count (sdiff s.delivery_count r.delivery_count +ℤ pos s.link_credit) (back ++ flow ∷ []) m) most
            (Rises-push r.delivery_count (sdiff s.delivery_count r.delivery_count +ℤ pos s.link_credit) (sdiff stated r.delivery_count) back flow c.rising (omega (arith, ints)));
        within = omega (arith, ints);
        stating = stating_push r.delivery_count (sdiff s.delivery_count r.delivery_count) back flow c.stating
            (record { counted = c.receiver_count; behind = omega (arith, ints); credited = small });
        credited = small;
        sender_count = c.sender_count;
        receiver_count = c.receiver_count;
      }

  sent_range : (sent +ℤ pos s.link_credit) ≤ℤ pos (2 ^ 31 - 1)
  sent_range =
      let b = IsCredit-bounds s r forward back stated c in
      let small = c.credited in
      omega (arith, ints)

  -- ---- a send

  pub credit_sent : (frames : List LinkFrame) → 0 < s.link_credit → LeadsTo r.delivery_count sent frames (sent +ℤ pos 1) → IsCredit (after_consuming 1 s) r (forward ++ frames) back stated
  credit_sent frames some moves =
      let range = sent_range in
      let b = IsCredit-bounds s r forward back stated c in
      let e : sdiff ((s.delivery_count + 1) % 2 ^ 32) r.delivery_count ≡ sdiff s.delivery_count r.delivery_count +ℤ pos 1 =
      sdiff_later s.delivery_count r.delivery_count 1 (sdiff s.delivery_count r.delivery_count +ℤ pos 1) (omega (arith, c.receiver_count)) refl (record { least = omega (arith, ints); most = omega (arith, ints) }) in
      let same : (sdiff ((s.delivery_count + 1) % 2 ^ 32) r.delivery_count +ℤ pos (s.link_credit - 1)) ≡ (sdiff s.delivery_count r.delivery_count +ℤ pos s.link_credit) = omega (arith, ints) in
      record {
        counted = subst (λ n. LeadsTo r.delivery_count (pos 0) (forward ++ frames) n) (sym e)
            (LeadsTo-append r.delivery_count (pos 0) (sdiff s.delivery_count r.delivery_count) (sdiff s.delivery_count r.delivery_count +ℤ pos 1) forward frames c.counted moves);
        rising = subst (λ n. Rises r.delivery_count n back (sdiff stated r.delivery_count)) (sym same) c.rising;
        within = c.within;
        stating = stating_on r.delivery_count (sdiff s.delivery_count r.delivery_count) (sdiff ((s.delivery_count + 1) % 2 ^ 32) r.delivery_count) back (omega (arith, ints)) c.stating;
        credited = c.credited;
        sender_count = omega arith;
        receiver_count = c.receiver_count;
      }

-- ---- a flow comes to the sender

count_there : (o : Option ℕ) (a b : ℕ) → IsSomeAnd o (λ count. count < 2 ^ 32) → unwrap_or o a ≡ unwrap_or o b
count_there (Some n) a b h = refl
count_there None a b h = absurd h

credit_there : (o : Option ℕ) (count own other : ℕ) → IsSomeAnd o (λ credit. credit ≤ 2 ^ 31 - 1) → option_map_or (λ credit. granted count credit own) o other ≡ granted count (unwrap_or o 0) own
credit_there (Some n) count own other h = refl
credit_there None count own other h = absurd h

granted_from : (count grant own : ℕ) (count_of_flow sent : ℤ) → sdiff count own ≡ count_of_flow -ℤ sent → sent ≤ℤ (count_of_flow +ℤ pos grant) → count_of_flow ≤ℤ sent → grant ≤ 2 ^ 31 - 1 → (sent +ℤ pos (granted count grant own)) ≡ (count_of_flow +ℤ pos grant)
granted_from count grant own count_of_flow sent e h k g = omega (arith, ints)

module _ (s r : LinkFlowStateInner) (forward : List LinkFrame) (flow : LinkFlow) (back : List LinkFlow) (stated : ℕ) (handle : OutputHandle) (c : IsCredit s r forward (flow ∷ back) stated) where
  abbrev base : ℤ
  base = sdiff s.delivery_count r.delivery_count

  abbrev given : ℕ
  given = credit_after flow s

  -- the sender's limit becomes the flow's
  limit_given : (base +ℤ pos given) ≡ limit_of_flow r.delivery_count flow
  limit_given =
      let small : unwrap_or flow.link_credit 0 ≤ 2147483647 = credit_small r.delivery_count base flow c.stating.0 in
      let behind : count_of_flow r.delivery_count flow ≤ℤ base = c.stating.0.behind in
      let rise : (base +ℤ pos s.link_credit) ≤ℤ limit_of_flow r.delivery_count flow = c.rising.0 in
      let near : sdiff (unwrap_or flow.delivery_count 0) s.delivery_count ≡ count_of_flow r.delivery_count flow -ℤ base =
      sdiff_from (unwrap_or flow.delivery_count 0) r.delivery_count s.delivery_count (count_of_flow r.delivery_count flow -ℤ base) (omega (arith, c.receiver_count)) (omega (arith, c.sender_count)) (omega (arith, ints)) (record { least = omega (arith, ints); most = omega (arith, ints) }) in
      let is : given ≡ granted (unwrap_or flow.delivery_count 0) (unwrap_or flow.link_credit 0) s.delivery_count =
      credit_there flow.link_credit (count_in flow s) s.delivery_count s.link_credit c.stating.0.credited
      ∙ ap (λ count. granted count (unwrap_or flow.link_credit 0) s.delivery_count) (count_there flow.delivery_count s.initial_delivery_count 0 c.stating.0.counted) in
      ap (λ n. base +ℤ pos n) is
      ∙ granted_from (unwrap_or flow.delivery_count 0) (unwrap_or flow.link_credit 0) s.delivery_count (count_of_flow r.delivery_count flow) base near (omega (arith, ints)) behind small

  limit_range : (base +ℤ pos given) ≤ℤ pos (2 ^ 31 - 1)
  limit_range =
      let rest : limit_of_flow r.delivery_count flow ≤ℤ sdiff stated r.delivery_count = Rises-ends r.delivery_count (limit_of_flow r.delivery_count flow) (sdiff stated r.delivery_count) back c.rising.1 in
      let e = limit_given in
      let w = c.within in
      let k = c.credited in
      omega (arith, ints)

  abbrev after : Bool → LinkFlowStateInner
  after drain = cond drain
      (record s { delivery_count = (s.delivery_count + given) % 2 ^ 32; link_credit = 0; drain = true })
      (record s { link_credit = given; drain = false })

  abbrev reply : Bool → Bool → Option LinkFlow
  reply drain echo = cond (drain || echo) (Some (flow_of (after drain) handle false)) None

  drained : sdiff ((s.delivery_count + given) % 2 ^ 32) r.delivery_count ≡ base +ℤ pos given
  drained =
      let low : pos 0 ≤ℤ base = LeadsTo-least r.delivery_count (pos 0) base forward c.counted in
      let high = limit_range in
      sdiff_later s.delivery_count r.delivery_count given (base +ℤ pos given) (omega (arith, c.receiver_count)) refl (record { least = omega (arith, ints); most = omega (arith, ints) })

  answered : (drain echo : Bool) → IsCredit (after drain) r (forward ++ reply_frames (reply drain echo)) back stated
  answered true echo =
      let d = drained in
      let e = limit_given in
      let none : (sdiff ((s.delivery_count + given) % 2 ^ 32) r.delivery_count +ℤ pos 0) ≡ limit_of_flow r.delivery_count flow = omega (arith, ints) in
      let forth : base ≤ℤ sdiff ((s.delivery_count + given) % 2 ^ 32) r.delivery_count = omega (arith, ints) in
      record {
        counted = LeadsTo-append r.delivery_count (pos 0) base (sdiff ((s.delivery_count + given) % 2 ^ 32) r.delivery_count) forward (reply_frames (reply true echo)) c.counted (forth, refl);
        rising = subst (λ n. Rises r.delivery_count n back (sdiff stated r.delivery_count)) (sym none) c.rising.1;
        within = c.within;
        stating = stating_on r.delivery_count base (sdiff ((s.delivery_count + given) % 2 ^ 32) r.delivery_count) back forth c.stating.1;
        credited = c.credited;
        sender_count = omega arith;
        receiver_count = c.receiver_count;
      }
  answered false true =
      record {
        counted = LeadsTo-append r.delivery_count (pos 0) base base forward (reply_frames (reply false true)) c.counted (omega (arith, ints), refl);
        rising = subst (λ n. Rises r.delivery_count n back (sdiff stated r.delivery_count)) (sym limit_given) c.rising.1;
        within = c.within;
        stating = c.stating.1;
        credited = c.credited;
        sender_count = c.sender_count;
        receiver_count = c.receiver_count;
      }
  answered false false =
      record {
        counted = subst (λ frames. LeadsTo r.delivery_count (pos 0) frames base) (sym (append-nil forward)) c.counted;
        rising = subst (λ n. Rises r.delivery_count n back (sdiff stated r.delivery_count)) (sym limit_given) c.rising.1;
        within = c.within;
        stating = c.stating.1;
        credited = c.credited;
        sender_count = c.sender_count;
        receiver_count = c.receiver_count;
      }

  pub credit_answered : IsCredit (sender_after flow s) r (forward ++ reply_frames (sender_reply flow s handle)) back stated
  credit_answered = answered flow.drain flow.echo

-- ---- the receiver's count moves on

module _ (s r r' : LinkFlowStateInner) (f : LinkFrame) (forward : List LinkFrame) (back : List LinkFlow) (stated : ℕ) (c : IsCredit s r (f ∷ forward) back stated) where
  abbrev gone : ℤ
  gone = sdiff r'.delivery_count r.delivery_count

  -- where the frame leads the receiver to its new count, and its limit is not less than what it stated
  credit_moved : count_after r.delivery_count (pos 0) f ≡ gone → r'.delivery_count < 2 ^ 32 → (sdiff stated r.delivery_count -ℤ gone) ≤ℤ pos r'.link_credit → r'.link_credit ≤ 2 ^ 31 - 1 → IsCredit s r' forward back stated
  credit_moved leads narrow within credited =
      let sent = sdiff s.delivery_count r.delivery_count in
      let new = sdiff s.delivery_count r'.delivery_count in
      let forth : pos 0 ≤ℤ gone = subst (λ n. pos 0 ≤ℤ n) leads c.counted.0 in
      let rest : LeadsTo r.delivery_count gone forward sent = subst (λ n. LeadsTo r.delivery_count n forward sent) leads c.counted.1 in
      let come : gone ≤ℤ sent = LeadsTo-least r.delivery_count gone sent forward rest in
      let b = IsCredit-bounds s r (f ∷ forward) back stated c in
      let small = c.credited in
      let sent_small : sent ≤ℤ pos (2 ^ 31 - 1) = omega (arith, ints) in
      let least : gone ≤ℤ (sent +ℤ pos s.link_credit) = omega (arith, ints) in
      let below : r.delivery_count ≤ 2 ^ 32 = omega (arith, c.receiver_count) in
      let below' : r'.delivery_count ≤ 2 ^ 32 = omega arith in
      let zero_left : gone -ℤ gone ≡ pos 0 = omega (arith, ints) in
      let new_is : new ≡ sent -ℤ gone = sdiff_from s.delivery_count r.delivery_count r'.delivery_count (sent -ℤ gone) below below' (omega (arith, ints)) (record { least = omega (arith, ints); most = omega (arith, ints) }) in
      let stated_is : sdiff stated r'.delivery_count ≡ sdiff stated r.delivery_count -ℤ gone =
      sdiff_from stated r.delivery_count r'.delivery_count (sdiff stated r.delivery_count -ℤ gone) below below' (omega (arith, ints)) (record { least = omega (arith, ints); most = omega (arith, ints) }) in
      let limit_is : (sent +ℤ pos s.link_credit) -ℤ gone ≡ new +ℤ pos s.link_credit = omega (arith, ints) in
      record {
        counted = subst (λ n. LeadsTo r'.delivery_count (pos 0) forward n) (sym new_is)
            (subst (λ n. LeadsTo r'.delivery_count n forward (sent -ℤ gone)) zero_left
            (LeadsTo-moved r.delivery_count r'.delivery_count below below' gone sent forward forth (omega (arith, ints)) sent_small rest));
        rising = subst (λ n. Rises r'.delivery_count (new +ℤ pos s.link_credit) back n) (sym stated_is)
            (subst (λ n. Rises r'.delivery_count n back (sdiff stated r.delivery_count -ℤ gone)) limit_is
            (Rises-moved r.delivery_count r'.delivery_count below below' forth sent (sent +ℤ pos s.link_credit) (sdiff stated r.delivery_count) back least sent_small c.stating c.rising));
        within = subst (λ n. n ≤ℤ pos r'.link_credit) (sym stated_is) within;
        stating = subst (λ n. AllByRecursion (IsStating r'.delivery_count n) back) (sym new_is)
            (stating_moved r.delivery_count r'.delivery_count below below' forth sent (sent +ℤ pos s.link_credit) (sdiff stated r.delivery_count) back least sent_small c.stating c.rising);
        credited = credited;
        sender_count = c.sender_count;
        receiver_count = narrow;
      }

pub count_next : (own : ℕ) (count : ℤ) (begun : Bool) (f : LinkFrame) → FollowsOn begun f → count_after own count f ≡ cond (performative_of f).more count (count +ℤ pos 1)
count_next own count false (FirstTransfer x) h = refl
count_next own count true (TransferContinuation x) h = refl
count_next own count _ _ h = absurd h

module _ (s r : LinkFlowStateInner) (f : LinkFrame) (forward : List LinkFrame) (back : List LinkFlow) (stated : ℕ) (begun : Bool) (c : IsCredit s r (f ∷ forward) back stated) (next : FollowsOn begun f) where
  one_more : (performative_of f).more ≡ false → count_after r.delivery_count (pos 0) f ≡ pos 1
  one_more last = count_next r.delivery_count (pos 0) begun f next ∙ ap (λ more. cond more (pos 0) (pos 0 +ℤ pos 1)) last

  -- a complete delivery is covered by the receiver's credit
  pub credit_covers : (performative_of f).more ≡ false → 0 < r.link_credit
  credit_covers last =
      let rest : LeadsTo r.delivery_count (pos 1) forward (sdiff s.delivery_count r.delivery_count) = subst (λ n. LeadsTo r.delivery_count n forward (sdiff s.delivery_count r.delivery_count)) (one_more last) c.counted.1 in
      let come : pos 1 ≤ℤ sdiff s.delivery_count r.delivery_count = LeadsTo-least r.delivery_count (pos 1) (sdiff s.delivery_count r.delivery_count) forward rest in
      let b = IsCredit-bounds s r (f ∷ forward) back stated c in
      omega (arith, ints)

  pub credit_completed : (performative_of f).more ≡ false → IsCredit s (after_consuming 1 r) forward back stated
  credit_completed last =
      let covered : 0 < r.link_credit = credit_covers last in
      let self : sdiff r.delivery_count r.delivery_count ≡ pos 0 = sdiff_self r.delivery_count (omega (arith, c.receiver_count)) in
      let gone : sdiff ((r.delivery_count + 1) % 2 ^ 32) r.delivery_count ≡ pos 1 =
      sdiff_later r.delivery_count r.delivery_count 1 (pos 1) (omega (arith, c.receiver_count)) (omega (arith, ints)) (record { least = omega arith; most = omega arith }) in
      let small = c.credited in
      let within = c.within in
      credit_moved s r (after_consuming 1 r) f forward back stated c (one_more last ∙ sym gone) (omega arith) (omega (arith, ints)) (omega arith)

  pub credit_continued : (performative_of f).more ≡ true → IsCredit s r forward back stated
  credit_continued more =
      let none : count_after r.delivery_count (pos 0) f ≡ pos 0 = count_next r.delivery_count (pos 0) begun f next ∙ ap (λ more. cond more (pos 0) (pos 0 +ℤ pos 1)) more in
      record {
        counted = subst (λ n. LeadsTo r.delivery_count n forward (sdiff s.delivery_count r.delivery_count)) none c.counted.1;
        rising = c.rising;
        within = c.within;
        stating = c.stating;
        credited = c.credited;
        sender_count = c.sender_count;
        receiver_count = c.receiver_count;
      }

count_small : (o : Option ℕ) (own : ℕ) → IsSomeAnd o (λ count. count < 2 ^ 32) → unwrap_or o own < 2 ^ 32
count_small (Some n) own h = h
count_small None own h = absurd h

module _ (s r : LinkFlowStateInner) (flow : LinkFlow) (forward : List LinkFrame) (back : List LinkFlow) (stated : ℕ) (c : IsCredit s r (Flow flow ∷ forward) back stated) (reply : IsReply flow) where
  pub credit_reported : IsCredit s (receiver_after flow r) forward back stated
  credit_reported =
      let same : unwrap_or flow.delivery_count 0 ≡ unwrap_or flow.delivery_count r.delivery_count = count_there flow.delivery_count 0 r.delivery_count reply.counted in
      let gone : count_of_flow r.delivery_count flow ≡ sdiff (unwrap_or flow.delivery_count r.delivery_count) r.delivery_count = ap (λ n. sdiff n r.delivery_count) same in
      let forth : pos 0 ≤ℤ count_of_flow r.delivery_count flow = c.counted.0 in
      let within = c.within in
      credit_moved s r (receiver_after flow r) (Flow flow) forward back stated c gone (count_small flow.delivery_count r.delivery_count reply.counted) (omega (arith, ints)) c.credited
