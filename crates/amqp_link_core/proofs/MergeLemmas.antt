-- Merging goes on transfer by transfer.
use Rattle.std.proofs.Common.{◌≡◌, ◌∙◌, sym, ap, ℕ, Bool, true, false, cond, ◌⊎◌, inl, inr, List, [], ◌∷◌, ◌++◌, map, refl, ◌||◌, ◌↔◌, append_assoc}
use Rattle.std.proofs.lemmas.List.{map-append, append-nil}
use Rattle.std.specs.Prelude.{Option, Some, None, filter, find, option_and_then, unwrap_or, IsSomeAnd}
use Rattle.std.specs.List.{list_any, last_or, cons_option}
use Rattle.std.specs.Option.{option_or, option_map_or}
use Rattle.amqp_link_core.specs.Merging.{Came, Merged, IsSilent, opening, following, present, first, last, settled_by, state_by, resumed}
use Rattle.amqp_link_types.specs.DeliveryStates.{is_terminal}
use Rattle.amqp_link_types.specs.declared.types.delivery_state.DeliveryState.{DeliveryState}
use Rattle.amqp_link_types.specs.declared.types.transfer.Transfer.{Transfer}

present-append-none : {A : Type 0} (os : List (Option A)) → present (os ++ None ∷ []) ≡ present os
present-append-none [] = refl
present-append-none (None ∷ os) = present-append-none os
present-append-none (Some a ∷ os) = ap (λ xs. a ∷ xs) (present-append-none os)

present-append-some : {A : Type 0} (os : List (Option A)) (a : A) → present (os ++ Some a ∷ []) ≡ present os ++ a ∷ []
present-append-some [] a = refl
present-append-some (None ∷ os) a = present-append-some os a
present-append-some (Some b ∷ os) a = ap (λ xs. b ∷ xs) (present-append-some os a)

last-append : {A : Type 0} (s : Option A) (xs : List A) (x : A) → last_or s (xs ++ x ∷ []) ≡ Some x
last-append s [] x = refl
last-append s (y ∷ xs) x = last-append (Some y) xs x

-- ---- the format

pub first-append : {A : Type 0} (os : List (Option A)) (o : Option A) → first (present (os ++ o ∷ [])) ≡ option_or (first (present os)) o
first-append [] None = refl
first-append [] (Some a) = refl
first-append (None ∷ os) o = first-append os o
first-append (Some a ∷ os) o = refl

-- ---- whether it is settled

any_push : (bs : List Bool) → list_any (λ is. is) (bs ++ true ∷ []) ≡ true
any_push [] = refl
any_push (true ∷ bs) = refl
any_push (false ∷ bs) = any_push bs

any_stay : (bs : List Bool) → list_any (λ is. is) (bs ++ false ∷ []) ≡ list_any (λ is. is) bs
any_stay [] = refl
any_stay (true ∷ bs) = refl
any_stay (false ∷ bs) = any_stay bs

settled_push : (bs : List Bool) → settled_by (bs ++ true ∷ []) ≡ Some true
settled_push [] = refl
settled_push (b ∷ bs) = ap Some (any_push (b ∷ bs))

settled_stay : (bs : List Bool) → settled_by (bs ++ false ∷ []) ≡ option_or (settled_by bs) (Some false)
settled_stay [] = refl
settled_stay (b ∷ bs) = ap Some (any_stay (b ∷ bs))

or_none : {A : Type 0} (o : Option A) → option_or o None ≡ o
or_none None = refl
or_none (Some a) = refl

pub settled_carried : (carried : Option Bool) (flags : List (Option Bool)) → unwrap_or carried false ≡ true
    → carried ≡ settled_by (present (flags ++ carried ∷ []))
settled_carried None flags e = cc
settled_carried (Some false) flags e = cc
settled_carried (Some true) flags e = sym (ap settled_by (present-append-some flags true) ∙ settled_push (present flags))

pub settled_known : (known carried : Option Bool) (flags : List (Option Bool)) → unwrap_or carried false ≡ false
    → known ≡ settled_by (present flags) → option_or known carried ≡ settled_by (present (flags ++ carried ∷ []))
settled_known known None flags e is = or_none known ∙ is ∙ sym (ap settled_by (present-append-none flags))
settled_known known (Some true) flags e is = cc
settled_known known (Some false) flags e is =
    ap (λ o. option_or o (Some false)) is ∙ sym (ap settled_by (present-append-some flags false) ∙ settled_stay (present flags))

pub ruleset settled_steps = (settled_carried, settled_known)

-- ---- the state

abbrev ended : Option DeliveryState → Bool
ended s = option_map_or is_terminal s false

-- the first terminal state, or the last, or the one before all
abbrev state_from : Option DeliveryState → List DeliveryState → Option DeliveryState
state_from s ss = option_or (find is_terminal ss) (last_or s ss)

bool_case : (b : Bool) → (b ≡ true) ⊎ (b ≡ false)
bool_case true = inl refl
bool_case false = inr refl

state_from-append : (s : Option DeliveryState) (ss : List DeliveryState) (t : DeliveryState) → ended s ≡ false
    → state_from s (ss ++ t ∷ []) ≡ cond (ended (state_from s ss)) (state_from s ss) (Some t)
state_from-append s [] t not_ended = elim (bool_case (is_terminal t)) [
  | inl y ↦ rw (y, not_ended) refl
  | inr n ↦ rw (n, not_ended) refl
]
state_from-append s (u ∷ ss) t not_ended = elim (bool_case (is_terminal u)) [
  | inl y ↦ rw (y, y) refl
  | inr n ↦ rw n (state_from-append (Some u) ss t n)
]

pub state_known : (known carried : Option DeliveryState) (states : List (Option DeliveryState)) → ended known ≡ true
    → known ≡ state_by (present states) → option_or known carried ≡ state_by (present (states ++ carried ∷ []))
state_known known None states e is = or_none known ∙ is ∙ sym (ap state_by (present-append-none states))
state_known None (Some t) states e is = cc
state_known (Some s) (Some t) states e is =
    is ∙ sym (ap state_by (present-append-some states t) ∙ state_from-append None (present states) t refl
    ∙ ap (λ b. cond b (state_by (present states)) (Some t)) (ap ended (sym is) ∙ e))

pub state_carried : (known carried : Option DeliveryState) (states : List (Option DeliveryState)) → ended known ≡ false
    → known ≡ state_by (present states) → option_or carried known ≡ state_by (present (states ++ carried ∷ []))
state_carried known None states e is = is ∙ sym (ap state_by (present-append-none states))
state_carried known (Some t) states e is =
    sym (ap state_by (present-append-some states t) ∙ state_from-append None (present states) t refl
    ∙ ap (λ b. cond b (state_by (present states)) (Some t)) (ap ended (sym is) ∙ e))

pub ruleset state_steps = (state_known, state_carried)

-- ---- all fields

abbrev opened : List Came → Option Came
opened came = last (filter (λ c. c.opens) came)

filter_opening : (came : List Came) (c : Came) → c.opens ≡ true → filter (λ c. c.opens) (came ++ c ∷ []) ≡ filter (λ c. c.opens) came ++ c ∷ []
filter_opening [] c e = rw e refl
filter_opening (d ∷ came) c e = elim d.opens as (λ b. cond b (d ∷ filter (λ c. c.opens) (came ++ c ∷ [])) (filter (λ c. c.opens) (came ++ c ∷ [])) ≡ cond b (d ∷ filter (λ c. c.opens) came) (filter (λ c. c.opens) came) ++ c ∷ []) [
  | true ↦ ap (λ xs. d ∷ xs) (filter_opening came c e)
  | false ↦ filter_opening came c e
]

filter_following : (came : List Came) (c : Came) → c.opens ≡ false → filter (λ c. c.opens) (came ++ c ∷ []) ≡ filter (λ c. c.opens) came
filter_following [] c e = rw e refl
filter_following (d ∷ came) c e = elim d.opens as (λ b. cond b (d ∷ filter (λ c. c.opens) (came ++ c ∷ [])) (filter (λ c. c.opens) (came ++ c ∷ [])) ≡ cond b (d ∷ filter (λ c. c.opens) came) (filter (λ c. c.opens) came)) [
  | true ↦ ap (λ xs. d ∷ xs) (filter_following came c e)
  | false ↦ filter_following came c e
]

-- the fields of one more transfer, merged into old
pub record Merges (opens : Bool) (t old new : Transfer) : Type 0 where
  pub opened : opens ≡ true → new.delivery_id ≡ t.delivery_id
  pub followed : opens ≡ false → new.delivery_id ≡ old.delivery_id
  pub format : new.message_format ≡ option_or old.message_format t.message_format
  pub settled : (flags : List (Option Bool)) → old.settled ≡ settled_by (present flags) → new.settled ≡ settled_by (present (flags ++ t.settled ∷ []))
  pub state : (states : List (Option DeliveryState)) → old.state ≡ state_by (present states) → new.state ≡ state_by (present (states ++ t.state ∷ []))
  pub others : new ≡ record old {
    delivery_id = new.delivery_id;
    message_format = new.message_format;
    settled = new.settled;
    state = new.state;
  }

abbrev id_of : Came → Option ℕ
id_of c = c.transfer.delivery_id

merged_id : (came : List Came) (opens : Bool) (t old new : Transfer) → Merged came old → Merges opens t old new
    → new.delivery_id ≡ option_and_then id_of (opened (came ++ record { opens = opens; transfer = t } ∷ []))
merged_id came true t old new has more =
    more.opened refl ∙ sym (ap (option_and_then id_of)
    (ap last (filter_opening came (opening t) refl) ∙ last-append None (filter (λ c. c.opens) came) (opening t)))
merged_id came false t old new has more =
    more.followed refl ∙ has.id ∙ sym (ap (λ cs. option_and_then id_of (last cs)) (filter_following came (following t) refl))

merged_others : (came : List Came) (c : Came) (old new : Transfer) → Merged came old
    → new ≡ record old { delivery_id = new.delivery_id; message_format = new.message_format; settled = new.settled; state = new.state }
    → IsSomeAnd (first (came ++ c ∷ [])) (λ one. new ≡ record one.transfer { delivery_id = new.delivery_id; message_format = new.message_format; settled = new.settled; state = new.state })
merged_others [] c old new has more = absurd has.others
merged_others (one ∷ came) c old new has more =
    more ∙ ap (λ (t : Transfer). record t { delivery_id = new.delivery_id; message_format = new.message_format; settled = new.settled; state = new.state }) has.others

pub Merged-append : (came : List Came) (opens : Bool) (t old new : Transfer) → Merged came old → Merges opens t old new
    → Merged (came ++ record { opens = opens; transfer = t } ∷ []) new
Merged-append came opens t old new has more =
    let one : List Came = record { opens = opens; transfer = t } ∷ [] in
    record {
      id = merged_id came opens t old new has more;
      format = more.format ∙ ap (λ o. option_or o t.message_format) has.format
          ∙ sym (ap (λ os. first (present os)) (map-append (λ (c : Came). c.transfer.message_format) came one)
          ∙ first-append (map (λ (c : Came). c.transfer.message_format) came) t.message_format);
      settled = more.settled (map (λ (c : Came). c.transfer.settled) came) has.settled
          ∙ sym (ap (λ os. settled_by (present os)) (map-append (λ (c : Came). c.transfer.settled) came one));
      state = more.state (map (λ (c : Came). c.transfer.state) came) has.state
          ∙ sym (ap (λ os. state_by (present os)) (map-append (λ (c : Came). c.transfer.state) came one));
      others = merged_others came (record { opens = opens; transfer = t }) old new has more.others;
    }

settled_one : (o : Option Bool) → o ≡ settled_by (present (o ∷ []))
settled_one None = refl
settled_one (Some true) = refl
settled_one (Some false) = refl

state_one : (o : Option DeliveryState) → o ≡ state_by (present (o ∷ []))
state_one None = refl
state_one (Some s) = elim (is_terminal s) as (λ b. Some s ≡ option_or (cond b (Some s) None) (Some s)) [ true ↦ refl | false ↦ refl ]

-- a transfer alone
pub Merged-one : (t : Transfer) → Merged (opening t ∷ []) t
Merged-one t = record {
  id = refl;
  format = sym (first-append [] t.message_format);
  settled = settled_one t.settled;
  state = state_one t.state;
  others = refl;
}

-- ---- what one more transfer leaves

-- new are the fields of all that gave old, and of c
abbrev pub Adds : Came → Transfer → Transfer → Type 0
Adds c old new = (came : List Came) → Merged came old → Merged (came ++ c ∷ []) new

-- the delivery so far is as good as one transfer with its fields
added : (c : Came) (old new : Transfer) → Adds c old new → Merged (opening old ∷ c ∷ []) new
added c old new adds = adds (opening old ∷ []) (Merged-one old)

-- no transfer changes the tag
pub tag_kept : (c : Came) (old new : Transfer) → Adds c old new → new.delivery_tag ≡ old.delivery_tag
tag_kept c old new adds = ap (λ (t : Transfer). t.delivery_tag) (added c old new adds).others

-- no continuation changes the id
pub id_kept : (t old new : Transfer) → Adds (following t) old new → new.delivery_id ≡ old.delivery_id
id_kept t old new adds = (added (following t) old new adds).id

-- one that takes the delivery up again gives it its id
pub id_given : (t old new : Transfer) → Adds (opening t) old new → new.delivery_id ≡ t.delivery_id
id_given t old new adds = (added (opening t) old new adds).id

-- a format stays once it is there
pub format_added : (c : Came) (old new : Transfer) → Adds c old new
    → new.message_format ≡ option_or old.message_format c.transfer.message_format
format_added c old new adds =
    (added c old new adds).format
    ∙ first-append (old.message_format ∷ []) c.transfer.message_format
    ∙ ap (λ o. option_or o c.transfer.message_format) (first-append [] old.message_format)

settled_absent : (known carried : Option Bool) → carried ≡ None → settled_by (present (known ∷ carried ∷ [])) ≡ known
settled_absent known carried e =
    ap (λ o. settled_by (present (known ∷ o ∷ []))) e
    ∙ ap settled_by (present-append-none (known ∷ [])) ∙ sym (settled_one known)

state_absent : (known carried : Option DeliveryState) → carried ≡ None → state_by (present (known ∷ carried ∷ [])) ≡ known
state_absent known carried e =
    ap (λ o. state_by (present (known ∷ o ∷ []))) e
    ∙ ap state_by (present-append-none (known ∷ [])) ∙ sym (state_one known)

-- one that carries nothing leaves all fields but the id as they are
silent_but_for_id : (c : Came) (old new : Transfer) → Adds c old new → IsSilent c.transfer
    → new ≡ record old { delivery_id = new.delivery_id }
silent_but_for_id c old new adds silent =
    let both : Merged (opening old ∷ c ∷ []) new = added c old new adds in
    let format : new.message_format ≡ old.message_format
    = format_added c old new adds ∙ ap (option_or old.message_format) silent.format ∙ or_none old.message_format in
    let settled : new.settled ≡ old.settled = both.settled ∙ settled_absent old.settled c.transfer.settled silent.settled in
    let state : new.state ≡ old.state = both.state ∙ state_absent old.state c.transfer.state silent.state in
    both.others ∙ (λ i. record old {
      delivery_id = new.delivery_id;
      message_format = format i;
      settled = settled i;
      state = state i;
    })

-- a continuation that carries nothing leaves the fields as they are
pub silent_kept : (t old new : Transfer) → Adds (following t) old new → IsSilent t → new ≡ old
silent_kept t old new adds silent =
    silent_but_for_id (following t) old new adds silent
    ∙ ap (λ id. record old { delivery_id = id }) (id_kept t old new adds)

-- and one that takes the delivery up again leaves all but the id
pub silent_resumed : (t old new : Transfer) → Adds (opening t) old new → IsSilent t → new ≡ resumed old t
silent_resumed t old new adds silent =
    silent_but_for_id (opening t) old new adds silent
    ∙ ap (λ id. record old { delivery_id = id }) (id_given t old new adds)

-- ---- what all transfers say of the merged one

any_settled : (came : List Came) → list_any (λ is. is) (present (map (λ c. c.transfer.settled) came)) ≡ list_any (λ c. unwrap_or c.transfer.settled false) came
any_settled [] = refl
any_settled (c ∷ came) = elim c.transfer.settled as (λ o. list_any (λ is. is) (cons_option o (present (map (λ c. c.transfer.settled) came))) ≡ (unwrap_or o false || list_any (λ c. unwrap_or c.transfer.settled false) came)) [
  | None ↦ any_settled came
  | Some b ↦ ap (λ r. b || r) (any_settled came)
]

settled_true : (bs : List Bool) → (settled_by bs ≡ Some true) ↔ (list_any (λ is. is) bs ≡ true)
settled_true [] = (λ e. cc, λ e. cc)
settled_true (b ∷ bs) = (λ e. cc, λ e. ap Some e)

pub settled_by_some : (came : List Came) (merged : Transfer) → Merged came merged
    → (merged.settled ≡ Some true) ↔ (list_any (λ c. unwrap_or c.transfer.settled false) came ≡ true)
settled_by_some came merged is =
    let both = settled_true (present (map (λ (c : Came). c.transfer.settled) came)) in
    (λ e. sym (any_settled came) ∙ both.0 (sym is.settled ∙ e), λ e. is.settled ∙ both.1 (any_settled came ∙ e))

terminal_stays : (ts os : List (Option DeliveryState)) (s : DeliveryState) → is_terminal s ≡ true
    → Some s ≡ state_by (present os) → Some s ≡ state_by (present (os ++ ts))
terminal_stays [] os s e is = is ∙ sym (ap (λ xs. state_by (present xs)) (append-nil os))
terminal_stays (t ∷ ts) os s e is =
    terminal_stays ts (os ++ t ∷ []) s e (state_known (Some s) t os e is) ∙ ap (λ xs. state_by (present xs)) (append_assoc os (t ∷ []) ts)

pub terminal_kept : (came more : List Came) (old new : Transfer) (s : DeliveryState) → Merged came old → Merged (came ++ more) new
    → old.state ≡ Some s → is_terminal s ≡ true → new.state ≡ Some s
terminal_kept came more old new s before after is e =
    after.state ∙ ap (λ os. state_by (present os)) (map-append (λ (c : Came). c.transfer.state) came more)
    ∙ sym (terminal_stays (map (λ (c : Came). c.transfer.state) more) (map (λ (c : Came). c.transfer.state) came) s e (sym is ∙ before.state))
