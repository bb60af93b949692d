-- The lines of a script. An event is a word alone, or a word, one space, and the event's number or bytes.
use Rattle.std.specs.Prelude.{◌≡◌, ℕ, ◌<◌, ◌^◌, ◌++◌, List, codes}
use Rattle.std.specs.Str.Parse.{IsNumeral, digits_value}
use Rattle.line_text.specs.Hex.{IsHexText, hex_bytes}
use Rattle.linkrun.specs.declared.event.Event.{Event}
use Rattle.linkrun.specs.declared.event.Event.TheVariants.{Call, Show, Fate}
use Rattle.amqp_link.specs.declared.pair.Event.TheVariants as call

-- the text is the number n, in decimal digits and nothing else
pub record IsNumber (text : List ℕ) (n : ℕ) : Type 0 where
  pub digits : IsNumeral 10 text
  pub value : digits_value 10 text ≡ n
  pub fits : n < 2 ^ 32

-- the text states these bytes
pub record IsBytes (text bytes : List ℕ) : Type 0 where
  pub digits : IsHexText text
  pub value : bytes ≡ hex_bytes text

-- the line begins with the word and its space, and P holds of the rest
abbrev pub Begins : List ℕ → (List ℕ → Type 0) → List ℕ → Type 0
Begins word P line = (rest : List ℕ) × (line ≡ word ++ rest) × P rest

-- the line states the event
abbrev pub Denotes : List ℕ → Event → Type 0
Denotes line (Call (call.Attach limit)) = Begins (codes "attach ") (λ text. IsNumber text limit) line
Denotes line (Call (call.Grant credit)) = Begins (codes "grant ") (λ text. IsNumber text credit) line
Denotes line (Call (call.Send payload)) = Begins (codes "send ") (λ text. IsBytes text payload) line
Denotes line (Call (call.Arrive id)) = Begins (codes "arrive ") (λ text. IsNumber text id) line
Denotes line (Call call.Cut) = line ≡ codes "cut"
Denotes line (Call call.ResumeNext) = line ≡ codes "resume"
Denotes line (Call call.PutBackNext) = line ≡ codes "putback"
Denotes line (Call (call.HandOut tag)) = Begins (codes "handout ") (λ text. IsBytes text tag) line
Denotes line (Call (call.Settle tag)) = Begins (codes "settle ") (λ text. IsBytes text tag) line
Denotes line (Call (call.Withdraw tag)) = Begins (codes "withdraw ") (λ text. IsBytes text tag) line
Denotes line (Show tag) = Begins (codes "show ") (λ text. IsBytes text tag) line
Denotes line (Fate number) = Begins (codes "fate ") (λ text. IsNumber text number) line

-- the line states no event that is a word alone
abbrev pub DenotesNoWord : List ℕ → Type 0
DenotesNoWord line = (¬ (Denotes line (Call call.Cut))) × (¬ (Denotes line (Call call.ResumeNext))) × (¬ (Denotes line (Call call.PutBackNext)))

-- the line states no event with a number
abbrev pub DenotesNoNumber : List ℕ → Type 0
DenotesNoNumber line = (n : ℕ) → (¬ (Denotes line (Call (call.Attach n)))) × (¬ (Denotes line (Call (call.Grant n)))) × (¬ (Denotes line (Call (call.Arrive n)))) × (¬ (Denotes line (Fate n)))

-- the line states no event with bytes
abbrev pub DenotesNoBytes : List ℕ → Type 0
DenotesNoBytes line = (bytes : List ℕ) → (¬ (Denotes line (Call (call.Send bytes)))) × (¬ (Denotes line (Call (call.HandOut bytes)))) × (¬ (Denotes line (Call (call.Settle bytes)))) × (¬ (Denotes line (Call (call.Withdraw bytes)))) × (¬ (Denotes line (Show bytes)))
