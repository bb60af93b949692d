-- Groups that go on, and such as begin.
use Rattle.std.proofs.Common.{◌≡◌, ◌∙◌, sym, ap, subst, ℕ, ◌+◌, ◌≤◌, List, [], ◌∷◌, ◌++◌, map, length, take, get_or, ◌<◌, arith, Option}
use Rattle.std.proofs.lemmas.List.{map-append, take_more}
use Rattle.amqp_link_runs.specs.Runs.{written_out}
use Rattle.amqp_link_runs.proofs.RunLemmas.{span, all_last, all_push, all_end, next_last, next_push, written_more, written_one, names_more, names_next}
use Rattle.amqp_link_types.specs.declared.types.definitions.ReceiverSettleMode.{ReceiverSettleMode}
use Rattle.amqp_link_types.specs.Deliveries.{Info}
use Rattle.amqp_link_dispositions.specs.declared.groups.Group.{Group}
use Rattle.amqp_link_dispositions.specs.Groups.{Numbered, numbered, group_out, AreParted, AreGroups}

abbrev pub group : ℕ → ℕ → Option ReceiverSettleMode → Group
group first last mode = record { run = span first last; mode = mode }

abbrev IsOrdered : Group → Type 0
IsOrdered g = g.run.first ≤ g.run.last

pub goes_on : (ds : List Numbered) (groups : List Group) (first last : ℕ) (mode : Option ReceiverSettleMode)
    → AreGroups ds (groups ++ group first last mode ∷ [])
    → AreGroups (ds ++ (last + 1, mode) ∷ []) (groups ++ group first (last + 1) mode ∷ [])
goes_on ds groups first last mode are =
    let r = group first last mode in
    let s = group first (last + 1) mode in
    let holds : first ≤ last = all_end IsOrdered groups r are.not_empty in
    let grown : group_out s ≡ group_out r ++ (last + 1, mode) ∷ [] =
    ap (map (λ id. (id, mode))) (written_more first last holds) ∙ map-append (λ id. (id, mode)) (written_out (span first last)) ((last + 1) ∷ []) in
    record {
      not_empty = all_last IsOrdered groups r s are.not_empty (omega (arith, holds));
      all = names_more group_out ds groups r s (last + 1, mode) are.all grown;
      longest = next_last AreParted groups r s (λ a h. h) are.longest;
    }

-- the same of a group, where the next delivery goes on
pub goes_on_to : (ds : List Numbered) (groups : List Group) (r : Group) (id : ℕ) (mode : Option ReceiverSettleMode)
    → AreGroups ds (groups ++ r ∷ []) → id ≡ r.run.last + 1 → r.mode ≡ mode
    → AreGroups (ds ++ (id, mode) ∷ []) (groups ++ group r.run.first id mode ∷ [])
goes_on_to ds groups r id mode are next same =
    subst (λ i. AreGroups (ds ++ (i, mode) ∷ []) (groups ++ group r.run.first i mode ∷ [])) (sym next)
    (subst (λ m. AreGroups (ds ++ (r.run.last + 1, m) ∷ []) (groups ++ group r.run.first (r.run.last + 1) m ∷ [])) same
    (goes_on ds groups r.run.first r.run.last r.mode are))

pub begins : (ds : List Numbered) (groups : List Group) (r : Group) (id : ℕ) (mode : Option ReceiverSettleMode)
    → AreGroups ds (groups ++ r ∷ []) → (id ≡ r.run.last + 1 → mode ≡ r.mode → ⊥)
    → AreGroups (ds ++ (id, mode) ∷ []) ((groups ++ r ∷ []) ++ group id id mode ∷ [])
begins ds groups r id mode are breaks =
    let s = group id id mode in
    record {
      not_empty = all_push IsOrdered (groups ++ r ∷ []) s are.not_empty (omega arith);
      all = names_next group_out ds (groups ++ r ∷ []) s (id, mode) are.all (ap (map (λ i. (i, mode))) (written_one id));
      longest = next_push AreParted groups r s breaks are.longest;
    }

-- one more of a list of infos, by what is seen of them
pub one_more : {T : Type 0} (see : T → Info) (rest : List T) (i : ℕ) (x : T) (d : Numbered) → i < length rest → x ≡ get_or rest i x → d ≡ numbered (see x)
    → map numbered (map see (take i rest)) ++ d ∷ [] ≡ map numbered (map see (take (i + 1) rest))
one_more see rest i x d h at is =
    ap (λ e. map numbered (map see (take i rest)) ++ e ∷ []) (is ∙ ap (λ y. numbered (see y)) at)
    ∙ sym (map-append numbered (map see (take i rest)) (see (get_or rest i x) ∷ []))
    ∙ ap (map numbered) (sym (map-append see (take i rest) (get_or rest i x ∷ [])))
    ∙ ap (λ l. map numbered (map see l)) (sym (take_more rest i x h))
