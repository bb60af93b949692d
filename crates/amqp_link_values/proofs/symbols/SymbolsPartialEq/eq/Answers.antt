use Rattle.std.proofs.Common.{rules}
use Rattle.std.proofs.lemmas.Slice.Eq.{slice_eq-Decides, bytes_eq-Decides}
use Rattle.amqp_link_values.proofs.symbols.SymbolsPartialEq.eq.Goals as goal

pub returns-clause-equal : goal.returns-clause-equal
returns-clause-equal c = slice_eq-Decides bytes_eq-Decides c.args.self.now c.args.other.now c.eq.result (search rules)
