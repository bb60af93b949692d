-- What is read behind a word is what stands there in the line, and an event is a word alone, or has a number or bytes.
use Rattle.std.proofs.Common.{◌≡◌, ℕ, ◌<◌, ◌^◌, List, ◌++◌, Option, Some, None, Result, Ok, Err, Vec, Global, refl, sym, ◌∙◌}
use Rattle.std.specs.Prelude.{MatchOption, IfOk, OnErr}
use Rattle.std.specs.Option.{SomeIff, option_map}
use Rattle.std.specs.Str.Parse.{IsNumeral, digits_value}
use Rattle.std.proofs.lemmas.List.{append_cancel_left}
use Rattle.line_text.specs.Hex.{IsHexText, hex_bytes}
use Rattle.linkrun.specs.Line.{IsNumber, IsBytes, Begins, Denotes, DenotesNoWord, DenotesNoNumber, DenotesNoBytes}
use Rattle.linkrun.specs.declared.event.Event.{Event}
use Rattle.linkrun.specs.declared.event.Event.TheVariants.{Call, Show, Fate}
use Rattle.amqp_link.specs.declared.pair.Event.TheVariants as call

-- behind the word stands nothing but the text
pub begins_not : (word line text : List ℕ) (P : List ℕ → Type 0) → line ≡ word ++ text → ¬ (P text) → ¬ (Begins word P line)
begins_not word line text P is none = λ (rest, same, fact).
    let rests : text ≡ rest = append_cancel_left word _ _ (sym is ∙ same) in none (rw rests fact)

-- the number that is read of the text
pub number_read : (word line text : List ℕ) (found : Option ℕ) → line ≡ word ++ text
    → SomeIff found (IsNumeral 10 text × (digits_value 10 text < 2 ^ 32)) (digits_value 10 text)
    → MatchOption found ((n : ℕ) → ¬ (Begins word (λ text. IsNumber text n) line)) (λ n. Begins word (λ text. IsNumber text n) line)
number_read word line text (Some n) is read =
    (text, is, record { digits = read.0.0; value = sym read.1; fits = rw (read.1) read.0.1 })
number_read word line text None is read = λ n.
    begins_not word line text (λ rest. IsNumber rest n) is (λ number. read (number.digits, rw (number.value) number.fits))

-- the bytes that are read of the text
pub bytes_read : {E : Type 0} (word line text : List ℕ) (read : Result (Option (Vec ℕ Global)) E) → line ≡ word ++ text
    → IfOk read (λ found. MatchOption found (¬ (IsHexText text)) (λ bytes. IsHexText text × (bytes.items ≡ hex_bytes text)))
    → IfOk read (λ found. MatchOption found
    ((bytes : List ℕ) → ¬ (Begins word (λ rest. IsBytes rest bytes) line)) (λ bytes. Begins word (λ rest. IsBytes rest bytes.items) line))
bytes_read word line text (Ok (Some bytes)) is read = (text, is, record { digits = read.0; value = read.1 })
bytes_read word line text (Ok None) is read = λ bytes.
    begins_not word line text (λ rest. IsBytes rest bytes) is (λ denoted. read (denoted.digits))
bytes_read word line text (Err error) is read = tt

-- memory is asked for only where the text writes bytes
pub bytes_written : {T E : Type 0} (word line text : List ℕ) (read : Result T E) → line ≡ word ++ text
    → OnErr read (IsHexText text) → OnErr read ((bytes : List ℕ) × Begins word (λ rest. IsBytes rest bytes) line)
bytes_written word line text (Ok value) is digits = tt
bytes_written word line text (Err error) is digits = (hex_bytes text, (text, is, record { digits = digits; value = refl }))

-- of the events with a number, the last is read
pub fate_read : (line : List ℕ) (found : Option ℕ)
    → ((n : ℕ) → ¬ (Denotes line (Call (call.Attach n)))) → ((n : ℕ) → ¬ (Denotes line (Call (call.Grant n)))) → ((n : ℕ) → ¬ (Denotes line (Call (call.Arrive n))))
    → MatchOption found ((n : ℕ) → ¬ (Denotes line (Fate n))) (λ n. Denotes line (Fate n))
    → MatchOption (option_map Fate found) (DenotesNoNumber line) (Denotes line)
fate_read line (Some n) attach grant arrive denoted = denoted
fate_read line None attach grant arrive fate = λ n. (attach n, grant n, arrive n, fate n)

-- an event is a word alone, or has a number or bytes
no_event : (line : List ℕ) → DenotesNoWord line → DenotesNoNumber line → DenotesNoBytes line → (event : Event) → ¬ (Denotes line event)
no_event line words numbers bytes (Call (call.Attach limit)) = (numbers limit).0
no_event line words numbers bytes (Call (call.Grant credit)) = (numbers credit).1
no_event line words numbers bytes (Call (call.Send payload)) = (bytes payload).0
no_event line words numbers bytes (Call (call.Arrive id)) = (numbers id).2
no_event line words numbers bytes (Call call.Cut) = words.0
no_event line words numbers bytes (Call call.ResumeNext) = words.1
no_event line words numbers bytes (Call call.PutBackNext) = words.2
no_event line words numbers bytes (Call (call.HandOut tag)) = (bytes tag).1
no_event line words numbers bytes (Call (call.Settle tag)) = (bytes tag).2
no_event line words numbers bytes (Call (call.Withdraw tag)) = (bytes tag).3
no_event line words numbers bytes (Show tag) = (bytes tag).4
no_event line words numbers bytes (Fate number) = (numbers number).3

-- the event that is read last, with its bytes
pub event_read : {E : Type 0} (line : List ℕ) (read : Result (Option Event) E) → DenotesNoWord line → DenotesNoNumber line
    → IfOk read (λ found. MatchOption found (DenotesNoBytes line) (Denotes line))
    → IfOk read (λ found. MatchOption found ((event : Event) → ¬ (Denotes line event)) (Denotes line))
event_read line (Ok (Some event)) words numbers denoted = denoted
event_read line (Ok None) words numbers bytes = no_event line words numbers bytes
event_read line (Err error) words numbers read = tt

-- bytes behind a word of the line make an event, of which an error may speak
pub event_denoted : {T E : Type 0} (result : Result T E) (line : List ℕ) (made : List ℕ → Event)
    → ((bytes : List ℕ) × Denotes line (made bytes)) → OnErr result ((event : Event) × Denotes line event)
event_denoted (Ok value) line made denoted = tt
event_denoted (Err error) line made (bytes, denoted) = (made bytes, denoted)
