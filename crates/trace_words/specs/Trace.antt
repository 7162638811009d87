-- The lines of a trace, as functions on lists of octets.
use Rattle.std.specs.Prelude.{ℕ, ◌+◌, ◌*◌, ◌-◌, ◌/◌, ◌%◌, ◌==◌, ◌&&◌, Bool, true, nat_lt, nat_le, List, [], ◌∷◌, ◌++◌, length, slice_index, codes, Option, Some, None, Result, Ok, Err, ok_or, if◌then◌else◌}
use Rattle.std.specs.List.{slice_split}
use Rattle.std.specs.Str.{bytes_eq}
use Rattle.std.specs.Char.{is_ascii_digit}
use Rattle.std.specs.Fmt.{decimal}
use Rattle.hex.specs.Hex.{decode_of, encode_lower}
use Rattle.hex.specs.declared.error.FromHexError.{FromHexError}
use Rattle.nas_elements.specs.Digits.{imsi_of_text, imsi_text}
use Rattle.trace_words.specs.Fields.{is_apn_label}
use Rattle.trace_words.specs.declared.line.Line.{Line}
use Rattle.trace_words.specs.declared.line.Line.TheVariants.{Skip, Mme, Sub, Vec, Up, Lost, In, Tick, Data, Cancel, Show}
use Rattle.trace_words.specs.declared.fault.TraceFault.{TraceFault}
use Rattle.trace_words.specs.declared.fault.TraceFault.TheVariants.{UnknownWord, FieldCount, BadNumber, BadHex, TooLong, Order, Provision, NoMemory}

-- the number that a program reports for a fault
abbrev pub number_of_fault : TraceFault → ℕ
number_of_fault UnknownWord = 1
number_of_fault FieldCount = 2
number_of_fault BadNumber = 3
number_of_fault BadHex = 4
number_of_fault TooLong = 5
number_of_fault Order = 6
number_of_fault Provision = 7
number_of_fault NoMemory = 8

infixl 10 ◌>>=◌
abbrev pub ◌>>=◌ : {A B : Type 0} → Result A TraceFault → (A → Result B TraceFault) → Result B TraceFault
Ok x >>= f = f x
Err e >>= f = Err e

-- ---- numbers

-- decimal digits after those that make v
abbrev pub decimal_from : ℕ → List ℕ → Option ℕ
decimal_from v [] = Some v
decimal_from v (c ∷ cs) = if is_ascii_digit c then decimal_from (v * 10 + (c - 48)) cs else None

-- a number in decimal digits, leading zeros allowed
abbrev pub decimal_of : List ℕ → Option ℕ
decimal_of [] = None
decimal_of (c ∷ cs) = decimal_from 0 (c ∷ cs)

abbrev pub capped : ℕ → Option ℕ → Option ℕ
capped most None = None
capped most (Some v) = if nat_le v most then Some v else None

abbrev pub at_least : ℕ → Option ℕ → Result ℕ TraceFault
at_least least None = Err BadNumber
at_least least (Some v) = if nat_le least v then Ok v else Err BadNumber

-- a number from `least` to `most`
abbrev pub number_field : ℕ → ℕ → List ℕ → Result ℕ TraceFault
number_field least most text = at_least least (capped most (decimal_of text))

-- ---- networks

-- one decimal digit
abbrev pub digit_of : ℕ → Result ℕ TraceFault
digit_of c = if is_ascii_digit c then Ok (c - 48) else Err BadNumber

-- the three digits of a country
abbrev pub country_of : List ℕ → Result (ℕ × ℕ × ℕ) TraceFault
country_of (a ∷ b ∷ c ∷ []) = digit_of a >>= (λ x. digit_of b >>= (λ y. digit_of c >>= (λ z. Ok (x, y, z))))
country_of _ = Err BadNumber

-- the two or three digits of a network in its country, where two follow the filler 15
abbrev pub network_of : List ℕ → Result (ℕ × ℕ × ℕ) TraceFault
network_of (a ∷ b ∷ []) = digit_of a >>= (λ x. digit_of b >>= (λ y. Ok (15, x, y)))
network_of (a ∷ b ∷ c ∷ []) = digit_of a >>= (λ x. digit_of b >>= (λ y. digit_of c >>= (λ z. Ok (x, y, z))))
network_of _ = Err BadNumber

-- two digits in an octet, the first in its low half
abbrev pub packed : ℕ → ℕ → ℕ
packed first second = 16 * second + first

-- the digits of country and network, two in an octet (TS 36.413 clause 9.2.3.8)
abbrev pub plmn_octets : ℕ × ℕ × ℕ → ℕ × ℕ × ℕ → List ℕ
plmn_octets c n = packed c.0 c.1 ∷ packed c.2 n.0 ∷ packed n.1 n.2 ∷ []

abbrev pub plmn_field : List ℕ → List ℕ → Result (List ℕ) TraceFault
plmn_field country network = country_of country >>= (λ c. network_of network >>= (λ n. Ok (plmn_octets c n)))

-- ---- octets and names

abbrev pub hex_of : Result (List ℕ) FromHexError → Result (List ℕ) TraceFault
hex_of (Ok octets) = Ok octets
hex_of (Err e) = Err BadHex

-- octets: `-` alone for none, or hex digits of either case
abbrev pub octets_field : List ℕ → Result (List ℕ) TraceFault
octets_field text = if length text == 0 then Err BadHex else (if bytes_eq text (codes "-") then Ok [] else hex_of (decode_of text))

-- n octets in hex
abbrev pub sized_of : ℕ → List ℕ → Result (List ℕ) TraceFault
sized_of n text = if length text == 2 * n then hex_of (decode_of text) else Err BadHex

abbrev pub label_field : List ℕ → Result (List ℕ) TraceFault
label_field text = if is_apn_label text then Ok text else Err BadNumber

-- 4 to 16 octets in hex
abbrev pub xres_sized : List ℕ → Result (List ℕ) TraceFault
xres_sized octets = if nat_le 4 (length octets) && nat_le (length octets) 16 then Ok octets else Err BadHex

abbrev pub xres_field : List ℕ → Result (List ℕ) TraceFault
xres_field text = hex_of (decode_of text) >>= xres_sized

-- a subscriber's IMSI, in its fourteen or fifteen digits
abbrev pub subscriber_field : List ℕ → Result (List ℕ) TraceFault
subscriber_field text = ok_or (imsi_of_text text) BadNumber

-- ---- lines

abbrev pub station_field : List ℕ → Result ℕ TraceFault
station_field text = number_field 0 127 text

abbrev pub rate_field : List ℕ → Result ℕ TraceFault
rate_field text = number_field 1 10000000000 text

abbrev pub ticks_field : List ℕ → Result ℕ TraceFault
ticks_field text = number_field 1 1000000 text

abbrev pub mme_of : List ℕ → List ℕ → List ℕ → List ℕ → List ℕ → List ℕ → List ℕ → Result Line TraceFault
mme_of country network group code apn down up =
    plmn_field country network >>= (λ p. sized_of 2 group >>= (λ g. sized_of 1 code >>= (λ c.
    label_field apn >>= (λ a. rate_field down >>= (λ d. rate_field up >>= (λ u.
    Ok (Mme (record { plmn = p; group = g; code = c; apn = a; down = d; up = u }))))))))

abbrev pub read_mme : List (List ℕ) → Result Line TraceFault
read_mme (country ∷ network ∷ group ∷ code ∷ apn ∷ down ∷ up ∷ []) = mme_of country network group code apn down up
read_mme _ = Err FieldCount

abbrev pub sub_of : List ℕ → List ℕ → List ℕ → List ℕ → Result Line TraceFault
sub_of imsi address gateway teid =
    subscriber_field imsi >>= (λ i. sized_of 4 address >>= (λ a. sized_of 4 gateway >>= (λ g. sized_of 4 teid >>= (λ t.
    Ok (Sub (record { imsi = i; address = a; gateway = g; teid = t }))))))

abbrev pub read_sub : List (List ℕ) → Result Line TraceFault
read_sub (imsi ∷ address ∷ gateway ∷ teid ∷ []) = sub_of imsi address gateway teid
read_sub _ = Err FieldCount

abbrev pub vec_of : List ℕ → List ℕ → List ℕ → List ℕ → List ℕ → Result Line TraceFault
vec_of imsi rand autn xres kasme =
    subscriber_field imsi >>=
    (λ i. sized_of 16 rand >>= (λ r. sized_of 16 autn >>= (λ a. xres_field xres >>= (λ x. sized_of 32 kasme >>= (λ k.
    Ok (Vec i (record { rand = r; autn = a; xres = x; kasme = k })))))))

abbrev pub read_vec : List (List ℕ) → Result Line TraceFault
read_vec (imsi ∷ rand ∷ autn ∷ xres ∷ kasme ∷ []) = vec_of imsi rand autn xres kasme
read_vec _ = Err FieldCount

abbrev pub read_up : List (List ℕ) → Result Line TraceFault
read_up (station ∷ []) = station_field station >>= (λ e. Ok (Up e))
read_up _ = Err FieldCount

abbrev pub read_lost : List (List ℕ) → Result Line TraceFault
read_lost (station ∷ []) = station_field station >>= (λ e. Ok (Lost e))
read_lost _ = Err FieldCount

abbrev pub read_in : List (List ℕ) → Result Line TraceFault
read_in (station ∷ octets ∷ []) = station_field station >>= (λ e. octets_field octets >>= (λ o. Ok (In e o)))
read_in _ = Err FieldCount

abbrev pub read_tick : List (List ℕ) → Result Line TraceFault
read_tick (ticks ∷ []) = ticks_field ticks >>= (λ n. Ok (Tick n))
read_tick _ = Err FieldCount

abbrev pub read_data : List (List ℕ) → Result Line TraceFault
read_data (imsi ∷ []) = subscriber_field imsi >>= (λ i. Ok (Data i))
read_data _ = Err FieldCount

abbrev pub read_cancel : List (List ℕ) → Result Line TraceFault
read_cancel (imsi ∷ []) = subscriber_field imsi >>= (λ i. Ok (Cancel i))
read_cancel _ = Err FieldCount

abbrev pub read_show : List (List ℕ) → Result Line TraceFault
read_show (imsi ∷ []) = subscriber_field imsi >>= (λ i. Ok (Show i))
read_show _ = Err FieldCount

-- a line of what happens, or a question
abbrev pub read_event : List ℕ → List (List ℕ) → Result Line TraceFault
read_event word fields =
    if bytes_eq word (codes "up") then read_up fields
    else if bytes_eq word (codes "lost") then read_lost fields
    else if bytes_eq word (codes "in") then read_in fields
    else if bytes_eq word (codes "tick") then read_tick fields
    else if bytes_eq word (codes "data") then read_data fields
    else if bytes_eq word (codes "cancel") then read_cancel fields
    else if bytes_eq word (codes "show") then read_show fields
    else Err UnknownWord

-- a line of what is provisioned, or another
abbrev pub read_words : List (List ℕ) → Result Line TraceFault
read_words [] = Err UnknownWord
read_words (word ∷ fields) =
    if bytes_eq word (codes "mme") then read_mme fields
    else if bytes_eq word (codes "sub") then read_sub fields
    else if bytes_eq word (codes "vec") then read_vec fields
    else read_event word fields

-- nothing, or a comment
abbrev pub is_skipped : List ℕ → Bool
is_skipped [] = true
is_skipped (c ∷ cs) = c == 35

-- what a line of a trace says, without its LF; its words are parted by single spaces
unfoldable pub line_of : List ℕ → Result Line TraceFault
line_of text =
    if nat_lt 40000 (length text) then Err TooLong
    else if is_skipped text then Ok Skip
    else read_words (slice_split (λ c. c == 32) text)

-- ---- how a line is written

-- octets: lower case, `-` for none
abbrev pub octets_text : List ℕ → List ℕ
octets_text [] = codes "-"
octets_text (b ∷ bs) = encode_lower (b ∷ bs)

-- a text, a space and a field
infixl 10 ◌␣◌
abbrev pub ◌␣◌ : List ℕ → List ℕ → List ℕ
text ␣ field = text ++ 32 ∷ field

-- the digits of a country, of the octets that name a network in it
abbrev pub country_text : List ℕ → List ℕ
country_text p = decimal (slice_index p 0 % 16) ++ decimal (slice_index p 0 / 16) ++ decimal (slice_index p 1 % 16)

-- the digits of the network: two where the filler stands before them
abbrev pub network_text : List ℕ → List ℕ
network_text p =
    if slice_index p 1 / 16 == 15 then decimal (slice_index p 2 % 16) ++ decimal (slice_index p 2 / 16)
    else decimal (slice_index p 1 / 16) ++ decimal (slice_index p 2 % 16) ++ decimal (slice_index p 2 / 16)

-- a line without its LF: numbers without leading zeros, octets in lower case
unfoldable pub line_text : Line → List ℕ
line_text Skip = []
line_text (Mme m) =
    codes "mme" ␣ country_text m.plmn ␣ network_text m.plmn ␣ encode_lower m.group ␣ encode_lower m.code ␣ m.apn ␣ decimal m.down
    ␣ decimal m.up
line_text (Sub p) = codes "sub" ␣ imsi_text p.imsi ␣ encode_lower p.address ␣ encode_lower p.gateway ␣ encode_lower p.teid
line_text (Vec i v) =
    codes "vec" ␣ imsi_text i ␣ encode_lower v.rand ␣ encode_lower v.autn ␣ encode_lower v.xres ␣ encode_lower v.kasme
line_text (Up e) = codes "up" ␣ decimal e
line_text (Lost e) = codes "lost" ␣ decimal e
line_text (In e octets) = codes "in" ␣ decimal e ␣ octets_text octets
line_text (Tick n) = codes "tick" ␣ decimal n
line_text (Data i) = codes "data" ␣ imsi_text i
line_text (Cancel i) = codes "cancel" ␣ imsi_text i
line_text (Show i) = codes "show" ␣ imsi_text i
