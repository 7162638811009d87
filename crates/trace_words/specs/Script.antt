-- The lines of a script, as functions on lists of octets.
use Rattle.std.specs.Prelude.{◌≡◌, ℕ, ◌+◌, ◌*◌, ◌==◌, ◌||◌, Bool, true, false, nat_lt, List, [], ◌∷◌, length, codes, ok_or, Option, Some, None, Result, Ok, Err, if◌then◌else◌}
use Rattle.std.specs.List.{slice_split}
use Rattle.std.specs.Str.{bytes_eq}
use Rattle.hex.specs.Hex.{hex_digit_value}
use Rattle.trace_words.specs.declared.line.Line.{Line}
use Rattle.trace_words.specs.declared.line.Line.TheVariants.{Skip}
use Rattle.trace_words.specs.declared.fault.TraceFault.{TraceFault}
use Rattle.trace_words.specs.declared.fault.TraceFault.TheVariants.{UnknownWord, FieldCount, BadNumber, TooLong}
use Rattle.trace_words.specs.Trace.{◌>>=◌, number_field, station_field, subscriber_field, octets_field, sized_of, is_skipped, read_words, line_of, line_text}
use Rattle.trace_words.specs.declared.act.ScriptAct.{ScriptAct}
use Rattle.trace_words.specs.declared.act.ScriptAct.TheVariants.{Station, Up, Raw, Radio, Phone}
use Rattle.trace_words.specs.declared.act.RadioWord.{RadioWord}
use Rattle.trace_words.specs.declared.act.RadioWord.TheVariants.{Attach, Info, Foreign, Service, Tau, Switch}
use Rattle.trace_words.specs.declared.act.PhoneWord.{PhoneWord}
use Rattle.trace_words.specs.declared.act.PhoneWord.TheVariants.{Detach, Off, Idle, Deaf, Replay, Forge}
use Rattle.trace_words.specs.declared.script_line.ScriptLine.{ScriptLine}
use Rattle.trace_words.specs.declared.script_line.ScriptLine.TheVariants.{Trace, Act}
use Rattle.trace_words.specs.Kept.{is_kept_word, is_kept_text, is_kept_line, kept_in}

-- ---- fields

-- a field that is no number in its form has this fault, whatever it holds
abbrev pub as_number : {A : Type 0} → Result A TraceFault → Result A TraceFault
as_number (Ok x) = Ok x
as_number (Err e) = Err BadNumber

-- one hex digit, of either case
abbrev pub hex_digit : ℕ → Result ℕ TraceFault
hex_digit c = ok_or (hex_digit_value c) BadNumber

-- the number of five hex digits, the first the highest
abbrev pub five_digits : ℕ → ℕ → ℕ → ℕ → ℕ → Result ℕ TraceFault
five_digits a b c d e =
    hex_digit a >>= (λ v. hex_digit b >>= (λ w. hex_digit c >>= (λ x. hex_digit d >>= (λ y. hex_digit e >>= (λ z.
    Ok (65536 * v + 4096 * w + 256 * x + 16 * y + z))))))

-- five hex digits: twenty bits
abbrev pub macro_field : List ℕ → Result ℕ TraceFault
macro_field (a ∷ b ∷ c ∷ d ∷ e ∷ []) = five_digits a b c d e
macro_field _ = Err BadNumber

-- four hex digits: two octets
abbrev pub area_field : List ℕ → Result (List ℕ) TraceFault
area_field text = as_number (sized_of 2 text)

-- a phone's number at its station: twenty-four bits
abbrev pub enb_ue_id_field : List ℕ → Result ℕ TraceFault
enb_ue_id_field text = number_field 0 16777215 text

-- ---- acts

-- what a phone does at a station
abbrev pub radio_word : List ℕ → Option RadioWord
radio_word word =
    if bytes_eq word (codes "attach") then Some Attach
    else if bytes_eq word (codes "info") then Some Info
    else if bytes_eq word (codes "foreign") then Some Foreign
    else if bytes_eq word (codes "service") then Some Service
    else if bytes_eq word (codes "tau") then Some Tau
    else if bytes_eq word (codes "switch") then Some Switch
    else None

-- what a phone does where it is
abbrev pub phone_word : List ℕ → Option PhoneWord
phone_word word =
    if bytes_eq word (codes "detach") then Some Detach
    else if bytes_eq word (codes "off") then Some Off
    else if bytes_eq word (codes "idle") then Some Idle
    else if bytes_eq word (codes "deaf") then Some Deaf
    else if bytes_eq word (codes "replay") then Some Replay
    else if bytes_eq word (codes "forge") then Some Forge
    else None

abbrev pub station_of : List ℕ → List ℕ → List ℕ → Result ScriptAct TraceFault
station_of number id area =
    station_field number >>= (λ e. macro_field id >>= (λ m. area_field area >>= (λ t.
    Ok (Station (record { station = e; macro_id = m; tac = t })))))

abbrev pub read_station : List (List ℕ) → Result ScriptAct TraceFault
read_station (number ∷ id ∷ area ∷ []) = station_of number id area
read_station _ = Err FieldCount

abbrev pub read_up_act : List (List ℕ) → Result ScriptAct TraceFault
read_up_act (number ∷ []) = station_field number >>= (λ e. Ok (Up e))
read_up_act _ = Err FieldCount

abbrev pub read_raw : List (List ℕ) → Result ScriptAct TraceFault
read_raw (number ∷ octets ∷ []) = station_field number >>= (λ e. octets_field octets >>= (λ o. Ok (Raw e o)))
read_raw _ = Err FieldCount

abbrev pub read_radio : RadioWord → List (List ℕ) → Result ScriptAct TraceFault
read_radio word (imsi ∷ number ∷ id ∷ []) =
    subscriber_field imsi >>= (λ i. station_field number >>= (λ e. enb_ue_id_field id >>= (λ b.
    Ok (Radio word i (record { station = e; enb_ue_id = b })))))
read_radio word _ = Err FieldCount

abbrev pub read_phone : PhoneWord → List (List ℕ) → Result ScriptAct TraceFault
read_phone word (imsi ∷ []) = subscriber_field imsi >>= (λ i. Ok (Phone word i))
read_phone word _ = Err FieldCount

abbrev pub by_phone_word : Option PhoneWord → List (List ℕ) → Result ScriptAct TraceFault
by_phone_word (Some word) fields = read_phone word fields
by_phone_word None fields = Err UnknownWord

abbrev pub by_radio_word : Option RadioWord → List ℕ → List (List ℕ) → Result ScriptAct TraceFault
by_radio_word (Some radio) word fields = read_radio radio fields
by_radio_word None word fields = by_phone_word (phone_word word) fields

abbrev pub read_act : List ℕ → List (List ℕ) → Result ScriptAct TraceFault
read_act word fields =
    if bytes_eq word (codes "station") then read_station fields
    else if bytes_eq word (codes "up") then read_up_act fields
    else if bytes_eq word (codes "raw") then read_raw fields
    else by_radio_word (radio_word word) word fields

-- ---- lines

-- the words that a script shares with a trace; `up` and `in` are not among them
abbrev pub is_trace_word : List ℕ → Bool
is_trace_word word = is_kept_word word || bytes_eq word (codes "lost") || bytes_eq word (codes "tick")

abbrev pub script_words : List (List ℕ) → Result ScriptLine TraceFault
script_words [] = Err UnknownWord
script_words (word ∷ fields) =
    if is_trace_word word then read_words (word ∷ fields) >>= (λ line. Ok (Trace line))
    else read_act word fields >>= (λ act. Ok (Act act))

-- what a line of a script says, without its LF; its words are parted by single spaces
unfoldable pub script_line_of : List ℕ → Result ScriptLine TraceFault
script_line_of text =
    if nat_lt 40000 (length text) then Err TooLong
    else if is_skipped text then Ok (Trace Skip)
    else script_words (slice_split (λ c. c == 32) text)

-- ---- laws

-- a script's line is read as in a trace, or its first word is not kept
abbrev pub Says : List ℕ → ScriptLine → Type 0
Says text (Trace line) = line_of text ≡ Ok line
Says text (Act act) = is_kept_text text ≡ false

abbrev pub ScriptSays : Type 0
ScriptSays = (text : List ℕ) (line : ScriptLine) → script_line_of text ≡ Ok line → Says text line

-- whether a script shares a line with a trace: it says nothing, or begins with such a word
abbrev pub begins_traced : List (List ℕ) → Bool
begins_traced [] = false
begins_traced (word ∷ fields) = is_trace_word word

abbrev pub is_trace_text : List ℕ → Bool
is_trace_text text = is_skipped text || begins_traced (slice_split (λ c. c == 32) text)

-- such a line says what it says in a trace, or has the fault that it has there
abbrev pub ReadAlike : Type 0
ReadAlike = (text : List ℕ) → is_trace_text text ≡ true → script_line_of text ≡ (line_of text >>= (λ line. Ok (Trace line)))

-- a line is kept by its first word where it is by what it says
abbrev pub FirstWordTells : Type 0
FirstWordTells = (text : List ℕ) (line : Line) → line_of text ≡ Ok line → is_kept_text text ≡ is_kept_line line

-- a line that is written anew is kept where it was, and read as the same
abbrev pub WrittenIsKept : Type 0
WrittenIsKept = (text : List ℕ) (line : Line) → line_of text ≡ Ok line → kept_in (line_text line ∷ []) ≡ kept_in (text ∷ [])

-- no line that begins with `#` is kept
abbrev pub CommentsAreNotKept : Type 0
CommentsAreNotKept = (rest : List ℕ) → is_kept_text (35 ∷ rest) ≡ false
