use Rattle.std.proofs.Common.{◌≡◌, ◌++◌, map, drop, not}
use Rattle.std.specs.List.{filter}
use Rattle.amqp_link_dispositions.specs.Keeping.{is_settled_one, tags_of}
use Rattle.amqp_link_dispositions.proofs.receiver.parted.Given as goal

-- what is parted and what is left make the whole
abbrev pub invariant-loop-info : goal.invariant-loop-info
invariant-loop-info l = record {
  settled : map (λ tag. tag.now) l.settled.items ++ tags_of (filter (is_settled_one l.how.given l.how.own) (map (λ info. info.now) (drop l.info-index l.infos)))
      ≡ tags_of (filter (is_settled_one l.how.given l.how.own) (map (λ info. info.now) l.infos));
  open_ones : map (λ tag. tag.now) l.open.items ++ tags_of (filter (λ info. not (is_settled_one l.how.given l.how.own info)) (map (λ info. info.now) (drop l.info-index l.infos)))
      ≡ tags_of (filter (λ info. not (is_settled_one l.how.given l.how.own info)) (map (λ info. info.now) l.infos));
}
