use Rattle.std.proofs.Common.{◌≡◌, false, sym, subst}
use Rattle.std.specs.List.{concat}
use Rattle.amqp_link_payloads.specs.Sections.{is_too_long}
use Rattle.amqp_link_core.proofs.CountLemmas.{cut_not_long}
use Rattle.amqp_link_core.proofs.incomplete_transfer.IncompleteTransfer.keep_buffer_till_section_number_and_offset.Goals as goal

pub carry_of-self-inside-requires : goal.carry_of-self-inside-requires
carry_of-self-inside-requires c =
    subst (λ pieces. is_too_long (concat pieces) ≡ false) (sym c.as_slice-2.ensures.value)
    (cut_not_long (concat c.self.inside.pieces.items) (concat c.cut_pieces.new.pieces.items) c.in-Some.place
    c.in_ok-cut_pieces.ensures.prefix c.self.invariant.1.counted)
