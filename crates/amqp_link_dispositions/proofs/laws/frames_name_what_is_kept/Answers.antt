use Rattle.std.specs.Prelude.{is_some}
use Rattle.std.specs.List.{filter}
use Rattle.amqp_link_types.specs.Entries.{entry_at}
use Rattle.amqp_link_dispositions.proofs.DispositionFrameLemmas.{names_sorted}
use Rattle.amqp_link_dispositions.proofs.laws.frames_name_what_is_kept.Goals as goal

pub returns : goal.returns
returns g c = λ given own state batchable es infos frames covered. names_sorted given own state batchable (filter (λ info. is_some (entry_at es info.delivery_tag)) infos) frames covered
