-- The words of a row.
use Rattle.std.specs.Prelude.{ℕ, List, codes}
use Rattle.length_rows.specs.declared.row.Kind.{Kind}
use Rattle.length_rows.specs.declared.row.Kind.TheVariants as kind

-- the word that names a type
abbrev pub word_of : Kind → List ℕ
word_of kind.Value = codes "value"
word_of kind.Received = codes "received"
word_of kind.Modified = codes "modified"
word_of kind.Rejected = codes "rejected"
word_of kind.Error = codes "error"
word_of kind.Source = codes "source"
word_of kind.Target = codes "target"
word_of kind.Transfer = codes "transfer"
word_of kind.Attach = codes "attach"
