-- What is in a box.
use Rattle.std.specs.Prelude.{Option, Some, None}
use Rattle.std.specs.Global.{Global}
use Rattle.std.specs.declared.boxed.Box.{Box}

-- what is in a box, if there is one
abbrev pub unboxed : {X : Type 0} → Option (Box X Global) → Option X
unboxed None = None
unboxed (Some b) = Some b.value
