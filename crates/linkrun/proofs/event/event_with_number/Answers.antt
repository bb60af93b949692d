use Rattle.std.proofs.Common.{rules, ◌≡◌}
use Rattle.std.specs.Option.{option_map}
use Rattle.linkrun.specs.declared.event.Event.TheVariants.{Fate}
use Rattle.linkrun.proofs.LineLemmas.{fate_read}
use Rattle.linkrun.proofs.event.event_with_number.Goals as goal

pub returns : goal.returns
returns c =
    let made : c.map.result ≡ option_map (λ number. Fate number) c.number_after-4.result = search rules in
    rw made (fate_read c.args.line.now c.number_after-4.result c.in_default.ensures c.in_default-number_after.ensures c.in_default-number_after-2.ensures c.number_after-4.ensures)
