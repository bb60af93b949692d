use Rattle.std.proofs.Common.{◌∙◌, ap, option_map}
use Rattle.std.specs.Str.{bytes_eq}
use Rattle.amqp_link_values.specs.View.{view}
use Rattle.amqp_link_values.proofs.Entries.{view_of_copied, view-lookup}
use Rattle.amqp_link_values.proofs.fields.Fields.get.Goals as goal

pub returns : goal.returns
returns c =
    let seen = view-lookup (bytes_eq c.args.name.now) c.self.inside.entries.entries in
    rw (← c.self.view_is) (view_of_copied c.get.result ∙ ap (option_map view) c.get.ensures.value ∙ seen)
