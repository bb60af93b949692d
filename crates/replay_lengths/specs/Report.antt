-- The output of a replay.
use Rattle.std.specs.Prelude.{◌≡◌, ℕ, ◌++◌, List, All, codes}
use Rattle.std.specs.Fmt.{decimal}
use Rattle.performative_rows.specs.declared.verdict.Verdict.{Verdict}
use Rattle.performative_rows.specs.declared.verdict.Verdict.TheVariants.{Agreed, Disagreed}
use Rattle.length_rows.specs.Words.{word_of}
use Rattle.replay_lengths.specs.declared.tally.Tally.{Tally}

-- the line about the rows of a type, without the line end
abbrev pub tally_text : Tally → List ℕ
tally_text tally = word_of tally.kind ++ codes " " ++ decimal tally.agreed ++ codes " of " ++ decimal tally.rows ++ codes " agree"

-- how a replay ends whose lines are all rows: whether the rows of each type all agree
abbrev pub Concludes : Verdict → List Tally → Type 0
Concludes Agreed tallies = All (λ tally. tally.agreed ≡ tally.rows) tallies
Concludes Disagreed tallies = ¬ All (λ tally. tally.agreed ≡ tally.rows) tallies
Concludes _ tallies = ⊥
