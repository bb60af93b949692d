-- What dispositions name.
use Rattle.std.proofs.Common.{◌≡◌, ◌∙◌, sym, ap, inl, inr, ℕ, ◌+◌, ◌-◌, ◌==◌, Bool, List, [], ◌∷◌, ◌++◌, map, refl, Option, Some, None, if◌then◌else◌, unwrap_or, rules, arith}
use Rattle.std.specs.List.{flat_map, range_with_len}
use Rattle.std.proofs.lemmas.List.{append-nil, map-append, map-id}
use Rattle.std.proofs.lemmas.List.Folds.{flat_map-map}
use Rattle.std.proofs.lemmas.Simd.{map-map}
use Rattle.std.proofs.lemmas.Bool.Decides.{eqb_tells}
use Rattle.amqp_link_runs.specs.declared.Run.{Run}
use Rattle.amqp_link_runs.specs.Order.{sorted_by}
use Rattle.amqp_link_runs.specs.Runs.{written_out, Runs}
use Rattle.amqp_link_runs.proofs.OrderLemmas.{sorted-map}
use Rattle.amqp_link_types.specs.declared.frame.LinkFrame.{LinkFrame}
use Rattle.amqp_link_types.specs.declared.types.definitions.ReceiverSettleMode.{ReceiverSettleMode}
use Rattle.amqp_link_types.specs.declared.types.delivery_state.DeliveryState.{DeliveryState}
use Rattle.amqp_link_types.specs.Deliveries.{Info}
use Rattle.amqp_link_dispositions.specs.declared.groups.Group.{Group}
use Rattle.amqp_link_dispositions.specs.Groups.{Numbered, numbered, group_out}
use Rattle.amqp_link_dispositions.specs.DispositionFrames.{CoverRuns, CoverGroups, numbers_named_by, disposition_of_run, disposition_of_group}

-- a run's last number that is left out is its first
last_or_first : (first last : ℕ) → unwrap_or (if first == last then None else Some last) first ≡ last
last_or_first first last = elim (eqb_tells first last) [
  | inl same ↦ ap (λ b. unwrap_or (if b then None else Some last) first) same.0 ∙ same.1
  | inr other ↦ ap (λ b. unwrap_or (if b then None else Some last) first) other.0
]

named-run : (settled : Bool) (state : DeliveryState) (batchable : Bool) (run : Run) → numbers_named_by (disposition_of_run settled state batchable run) ≡ written_out run
named-run settled state batchable run = ap (λ last. range_with_len run.first (last + 1 - run.first)) (last_or_first run.first run.last)

-- one number is one run
one_run : (id : ℕ) → Runs (id ∷ []) (record { first = id; last = id } ∷ [])
one_run id =
    let one : id + 1 - id ≡ 1 = omega arith in
    record {
      not_empty = search rules;
      all = append-nil (range_with_len id (id + 1 - id)) ∙ ap (range_with_len id) one;
      longest = tt;
    }

pub one_disposition : (settled : Bool) (state : DeliveryState) (batchable : Bool) (id : ℕ)
    → CoverRuns settled state batchable (id ∷ []) (disposition_of_run settled state batchable (record { first = id; last = id }) ∷ [])
one_disposition settled state batchable id = record { runs = record { first = id; last = id } ∷ []; are_runs = one_run id; each = refl }

pub names_listed : (settled : Bool) (state : DeliveryState) (batchable : Bool) (ids : List ℕ) (frames : List LinkFrame)
    → CoverRuns settled state batchable ids frames → flat_map numbers_named_by frames ≡ sorted_by (λ id. id) ids
names_listed settled state batchable ids frames covered =
    ap (flat_map numbers_named_by) covered.each
    ∙ flat_map-map numbers_named_by (disposition_of_run settled state batchable) covered.runs
    ∙ (λ i. flat_map (λ run. named-run settled state batchable run i) covered.runs)
    ∙ covered.are_runs.all

-- the numbers of what groups name
numbers_out : (groups : List Group) → map (λ d. d.0) (flat_map group_out groups) ≡ flat_map (λ group. written_out group.run) groups
numbers_out [] = refl
numbers_out (g ∷ groups) =
    map-append (λ d. d.0) (group_out g) (flat_map group_out groups)
    ∙ ap (λ l. l ++ map (λ d. d.0) (flat_map group_out groups)) (map-map (λ (d : Numbered). d.0) (λ id. (id, g.mode)) (written_out g.run) ∙ map-id (written_out g.run))
    ∙ ap (λ l. written_out g.run ++ l) (numbers_out groups)

pub names_sorted : (given : Option Bool) (own : ReceiverSettleMode) (state : DeliveryState) (batchable : Bool) (infos : List Info) (frames : List LinkFrame)
    → CoverGroups given own state batchable (sorted_by (λ info. info.delivery_id) infos) frames
    → flat_map numbers_named_by frames ≡ sorted_by (λ id. id) (map (λ info. info.delivery_id) infos)
names_sorted given own state batchable infos frames covered =
    ap (flat_map numbers_named_by) covered.each
    ∙ flat_map-map numbers_named_by (disposition_of_group given own state batchable) covered.groups
    ∙ sym (numbers_out covered.groups)
    ∙ ap (map (λ d. d.0)) covered.are_groups.all
    ∙ map-map (λ (d : Numbered). d.0) numbered (sorted_by (λ info. info.delivery_id) infos)
    ∙ sorted-map (λ info. info.delivery_id) (λ id. id) infos
