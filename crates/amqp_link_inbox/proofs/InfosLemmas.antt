-- What dispositions name several deliveries by, found one after the other.
use Rattle.std.proofs.Common.{◌≡◌, ◌∙◌, ◌++◌, ◌∷◌, [], ◌<◌, ◌+◌, List, Result, Ok, Err, add-one, ap, append_assoc, drop, drop-cons, get_or, length, refl, sym, ℕ}
use Rattle.std.proofs.lemmas.List.{append-nil}
use Rattle.amqp_link_types.specs.Deliveries.{Info}
use Rattle.amqp_link_types.specs.Entries.{Tag, Entries, entry_at}
use Rattle.amqp_link_state.specs.declared.state.LinkState.{LinkState}
use Rattle.amqp_link_inbox.specs.Disposing.{info_to_dispose, infos_and, infos_to_dispose}
use Rattle.amqp_link_inbox.specs.declared.error.DisposeError.{DisposeError}
use Rattle.amqp_link_inbox.specs.declared.kept.Kept.{Kept}

-- these, and then the others
abbrev pub infos_after : List Info → Result (List Info) DisposeError → Result (List Info) DisposeError
infos_after done (Ok rest) = Ok (done ++ rest)
infos_after done (Err refusal) = Err refusal

one_more : (done : List Info) (info : Info) (rest : Result (List Info) DisposeError)
    → infos_after (done ++ info ∷ []) rest ≡ infos_after done (infos_and (Ok info) rest)
one_more done info (Ok rest) = ap Ok (append_assoc done (info ∷ []) rest)
one_more done info (Err refusal) = refl

module _ (state : LinkState) (entries : Entries Kept) (tags : List Tag) (i : ℕ) (tag : Tag) (done : List Info) (whole : Result (List Info) DisposeError)
    (so_far : infos_after done (infos_to_dispose state entries (drop i tags)) ≡ whole) where
  front : i < length tags → tag ≡ get_or tags i tag → infos_after done (infos_and (info_to_dispose state (entry_at entries tag) tag)
      (infos_to_dispose state entries (drop (i + 1) tags))) ≡ whole
  front within at =
      ap (λ l. infos_after done (infos_to_dispose state entries l))
      (sym (drop-cons tags i tag within ∙ ap (λ n. get_or tags i tag ∷ drop n tags) (sym (add-one i)) ∙ ap (λ x. x ∷ drop (i + 1) tags) (sym at)))
      ∙ so_far

  -- one more is found
  pub next_found : (info : Info) → i < length tags → tag ≡ get_or tags i tag → info_to_dispose state (entry_at entries tag) tag ≡ Ok info
      → infos_after (done ++ info ∷ []) (infos_to_dispose state entries (drop (i + 1) tags)) ≡ whole
  next_found info within at found =
      one_more done info (infos_to_dispose state entries (drop (i + 1) tags))
      ∙ ap (λ r. infos_after done (infos_and r (infos_to_dispose state entries (drop (i + 1) tags)))) (sym found) ∙ front within at

  -- one has none
  pub next_refused : (refusal : DisposeError) → i < length tags → tag ≡ get_or tags i tag → info_to_dispose state (entry_at entries tag) tag ≡ Err refusal
      → whole ≡ Err refusal
  next_refused refusal within at found =
      sym (front within at) ∙ ap (λ r. infos_after done (infos_and r (infos_to_dispose state entries (drop (i + 1) tags)))) found

-- all are found
pub all_found : (state : LinkState) (entries : Entries Kept) (tags : List Tag) (i : ℕ) (done : List Info) (whole : Result (List Info) DisposeError)
    → infos_after done (infos_to_dispose state entries (drop i tags)) ≡ whole → drop i tags ≡ [] → whole ≡ Ok done
all_found state entries tags i done whole so_far none =
    sym so_far ∙ ap (λ l. infos_after done (infos_to_dispose state entries l)) none ∙ ap Ok (append-nil done)
