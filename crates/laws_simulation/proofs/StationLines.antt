-- The stations of the events that lines say, and the lines of a station.
use Rattle.std.proofs.Common.{◌≡◌, ℕ, zero, suc, ◌<◌, ◌≤◌, ◌==◌, nat_le, nat_lt, Bool, true, false, cond, List, [], ◌∷◌, ◌++◌, codes, length, Option, Some, None, Result, Ok, Err, refl, sym, ap, ◌∙◌, arith}
use Rattle.std.specs.Prelude.{option_map}
use Rattle.std.specs.List.{slice_split}
use Rattle.std.specs.Str.{bytes_eq}
use Rattle.std.proofs.lemmas.Bool.{leb-true, le-leb}
use Rattle.std.proofs.lemmas.Option.{same_Some}
use Rattle.emm_machine.specs.declared.subscriber.States.{States}
use Rattle.mme_answering.specs.declared.out.Owner.TheVariants.{Station}
use Rattle.mme_core.specs.Apart.{IdsBeginApart}
use Rattle.mme_core.specs.declared.event.Event.{Event}
use Rattle.mme_core.specs.Projection.{station_told}
use Rattle.mme_core.specs.World.{World, happens, replies, station_of, world_after, world_run}
use Rattle.laws_mme.specs.OwnersAlone.{StationIsTold}
use Rattle.trace_words.specs.Trace.{◌>>=◌, at_least, capped, decimal_of, is_skipped, label_field, line_of, octets_field, plmn_field, rate_field, read_cancel, read_data, read_event, read_in, read_lost, read_mme, read_show, read_sub, read_tick, read_up, read_vec, read_words, sized_of, station_field, subscriber_field, ticks_field, xres_field}
use Rattle.trace_words.specs.declared.line.Line.{Line}
use Rattle.trace_words.specs.declared.line.Line.TheVariants.{Skip, Mme, Sub, Vec, Up, Lost, In, Tick, Data, Cancel, Show}
use Rattle.trace_words.specs.declared.fault.TraceFault.{TraceFault}
use Rattle.trace_words.specs.declared.fault.TraceFault.TheVariants.{BadNumber}
use Rattle.trace_progress.specs.Effects.{states_of_imsi}
use Rattle.laws_simulation.specs.OwnLines.{StationIsPrinted, StationIsPrintedFrom}
use Rattle.laws_simulation.specs.Printed.{lines_for, told_lines}
use Rattle.laws_simulation.specs.TraceRuns.{events_in, line_events, seconds, text_events, then_events}
use Rattle.laws_simulation.proofs.BegunRuns.{run_printed}
use Rattle.laws_simulation.proofs.Names.{agree_station_slot, agree_station_stranger, agree_stations}
use Rattle.laws_simulation.proofs.Owners.{reply_agrees, strangers_agree}
use Rattle.laws_simulation.proofs.Played.{EachAgrees, lines_printed}
use Rattle.laws_simulation.proofs.SlotLines.{begins_apart}

-- ---- what a line says

-- the station of a line is one of 128
abbrev LineFits : Line → Type 0
LineFits (Up e) = e < 128
LineFits (Lost e) = e < 128
LineFits (In e octets) = e < 128
LineFits _ = Unit {0}

abbrev Fits : Result Line TraceFault → Type 0
Fits (Ok line) = LineFits line
Fits (Err fault) = Unit {0}

either : (b : Bool) (x y : Result Line TraceFault) → Fits x → Fits y → Fits (cond b x y)
either true x y h k = h
either false x y h k = k

reads : {A : Type 0} (r : Result A TraceFault) (f : A → Result Line TraceFault) → ((x : A) → r ≡ Ok x → Fits (f x)) → Fits (r >>= f)
reads (Ok x) f h = h x refl
reads (Err fault) f h = tt

low_if : (most v n : ℕ) (b : Bool) → (b ≡ true → v ≤ most) → at_least 0 (cond b (Some v) None) ≡ Ok n → n ≤ most
low_if most v n true low h =
    let same : v ≡ n =
    (let k : (let r : Result ℕ TraceFault = Ok v in r) ≡ Ok n = ap (λ b. cond b (Ok v) (Err BadNumber)) (sym (le-leb 0 v (omega arith))) ∙ h in cc k) in
    let below = low refl in
    omega (arith, same, below)
low_if most v n false low h = absurd (cc h)

number_low : (most n : ℕ) (o : Option ℕ) → at_least 0 (capped most o) ≡ Ok n → n ≤ most
number_low most n None h = absurd (cc h)
number_low most n (Some v) h = low_if most v n (nat_le v most) (leb-true v most) h

station_low : (text : List ℕ) (e : ℕ) → station_field text ≡ Ok e → e < 128
station_low text e h = let low = number_low 127 e (decimal_of text) h in omega (arith, low)

up_fits : (fields : List (List ℕ)) → Fits (read_up fields)
up_fits [] = tt
up_fits (s ∷ []) = reads (station_field s) (λ e. Ok (Up e)) (λ e is. station_low s e is)
up_fits (s ∷ t ∷ more) = tt

lost_fits : (fields : List (List ℕ)) → Fits (read_lost fields)
lost_fits [] = tt
lost_fits (s ∷ []) = reads (station_field s) (λ e. Ok (Lost e)) (λ e is. station_low s e is)
lost_fits (s ∷ t ∷ more) = tt

in_fits : (fields : List (List ℕ)) → Fits (read_in fields)
in_fits [] = tt
in_fits (s ∷ []) = tt
in_fits (s ∷ o ∷ []) =
    reads (station_field s) (λ e. octets_field o >>= (λ octets. Ok (In e octets)))
    (λ e is. reads (octets_field o) (λ octets. Ok (In e octets)) (λ octets so. station_low s e is))
in_fits (s ∷ o ∷ t ∷ more) = tt

tick_fits : (fields : List (List ℕ)) → Fits (read_tick fields)
tick_fits [] = tt
tick_fits (t ∷ []) = reads (ticks_field t) (λ n. Ok (Tick n)) (λ n is. tt)
tick_fits (t ∷ u ∷ more) = tt

data_fits : (fields : List (List ℕ)) → Fits (read_data fields)
data_fits [] = tt
data_fits (i ∷ []) = reads (subscriber_field i) (λ imsi. Ok (Data imsi)) (λ imsi is. tt)
data_fits (i ∷ t ∷ more) = tt

cancel_fits : (fields : List (List ℕ)) → Fits (read_cancel fields)
cancel_fits [] = tt
cancel_fits (i ∷ []) = reads (subscriber_field i) (λ imsi. Ok (Cancel imsi)) (λ imsi is. tt)
cancel_fits (i ∷ t ∷ more) = tt

show_fits : (fields : List (List ℕ)) → Fits (read_show fields)
show_fits [] = tt
show_fits (i ∷ []) = reads (subscriber_field i) (λ imsi. Ok (Show imsi)) (λ imsi is. tt)
show_fits (i ∷ t ∷ more) = tt

mme_fits : (fields : List (List ℕ)) → Fits (read_mme fields)
mme_fits (country ∷ network ∷ group ∷ code ∷ apn ∷ down ∷ up ∷ []) =
    reads (plmn_field country network) _ (λ p a. reads (sized_of 2 group) _ (λ g b. reads (sized_of 1 code) _
    (λ c d. reads (label_field apn) _ (λ l e. reads (rate_field down) _ (λ r f. reads (rate_field up) _ (λ u h. tt))))))
mme_fits _ = tt

sub_fits : (fields : List (List ℕ)) → Fits (read_sub fields)
sub_fits (imsi ∷ address ∷ gateway ∷ teid ∷ []) =
    reads (subscriber_field imsi) _ (λ i a. reads (sized_of 4 address) _ (λ p b. reads (sized_of 4 gateway) _
    (λ g c. reads (sized_of 4 teid) _ (λ t d. tt))))
sub_fits _ = tt

vec_fits : (fields : List (List ℕ)) → Fits (read_vec fields)
vec_fits (imsi ∷ rand ∷ autn ∷ xres ∷ kasme ∷ []) =
    reads (subscriber_field imsi) _ (λ i a. reads (sized_of 16 rand) _ (λ r b. reads (sized_of 16 autn) _
    (λ u c. reads (xres_field xres) _ (λ x d. reads (sized_of 32 kasme) _ (λ k e. tt)))))
vec_fits _ = tt

event_fits : (word : List ℕ) (fields : List (List ℕ)) → Fits (read_event word fields)
event_fits word fields =
    either (bytes_eq word (codes "up")) _ _ (up_fits fields)
    (either (bytes_eq word (codes "lost")) _ _ (lost_fits fields)
    (either (bytes_eq word (codes "in")) _ _ (in_fits fields)
    (either (bytes_eq word (codes "tick")) _ _ (tick_fits fields)
    (either (bytes_eq word (codes "data")) _ _ (data_fits fields)
    (either (bytes_eq word (codes "cancel")) _ _ (cancel_fits fields)
    (either (bytes_eq word (codes "show")) _ _ (show_fits fields) tt))))))

words_fit : (words : List (List ℕ)) → Fits (read_words words)
words_fit [] = tt
words_fit (word ∷ fields) =
    either (bytes_eq word (codes "mme")) _ _ (mme_fits fields)
    (either (bytes_eq word (codes "sub")) _ _ (sub_fits fields)
    (either (bytes_eq word (codes "vec")) _ _ (vec_fits fields) (event_fits word fields)))

line_fits : (text : List ℕ) → Fits (line_of text)
unfolding line_of
line_fits text =
    either (nat_lt 40000 (length text)) _ _ tt (either (is_skipped text) _ _ tt (words_fit (slice_split (λ c. c == 32) text)))

-- ---- events

abbrev pub StationLow : Event → Type 0
StationLow e = (n : ℕ) → station_of e ≡ Some n → n < 128

abbrev pub EachLow : List Event → Type 0
EachLow [] = Unit {0}
EachLow (e ∷ es) = StationLow e × EachLow es

low_both : (es ds : List Event) → EachLow es → EachLow ds → EachLow (es ++ ds)
low_both [] ds h k = k
low_both (e ∷ es) ds h k = (h.0, low_both es ds h.1 k)

is_low : (e : ℕ) → e < 128 → (n : ℕ) → Some e ≡ Some n → n < 128
is_low e low n is = let same = same_Some e n is in omega (arith, same, low)

no_station : (n : ℕ) → (let o : Option ℕ = None in o) ≡ Some n → n < 128
no_station n is = absurd (cc is)

seconds_low : (n : ℕ) → EachLow (seconds n)
seconds_low zero = tt
seconds_low (suc n) = (no_station, seconds_low n)

abbrev LowIf : Option (List Event) → Type 0
LowIf None = Unit {0}
LowIf (Some es) = EachLow es

shown_low : (o : Option States) → LowIf (option_map (λ states. []) o)
shown_low None = tt
shown_low (Some s) = tt

line_low : (w : World) (line : Line) → LineFits line → LowIf (line_events w line)
line_low w Skip fits = tt
line_low w (Mme network) fits = tt
line_low w (Sub profile) fits = tt
line_low w (Vec imsi vector) fits = tt
line_low w (Up e) fits = (is_low e fits, tt)
line_low w (Lost e) fits = (is_low e fits, tt)
line_low w (In e octets) fits = (is_low e fits, tt)
line_low w (Tick n) fits = seconds_low n
line_low w (Data imsi) fits = (no_station, tt)
line_low w (Cancel imsi) fits = (no_station, tt)
line_low w (Show imsi) fits = shown_low (states_of_imsi imsi w)

text_low : (w : World) (r : Result Line TraceFault) → Fits r → LowIf (text_events w r)
text_low w (Ok line) fits = line_low w line fits
text_low w (Err fault) fits = tt

then_low : (w : World) (o : Option (List Event)) (others : World → List Event) → LowIf o → ((v : World) → EachLow (others v))
    → EachLow (then_events w o others)
then_low w None others h k = tt
then_low w (Some es) others h k = low_both es (others (world_run w es)) h (k (world_run w es))

pub events_low : (w : World) (texts : List (List ℕ)) → EachLow (events_in w texts)
events_low w [] = tt
events_low w (text ∷ texts) =
    then_low w (text_events w (line_of text)) (λ after. events_in after texts) (text_low w (line_of text) (line_fits text))
    (λ v. events_low v texts)

-- ---- the lines of a station

station_agrees : (e : ℕ) → e < 128 → (w : World) (es : List Event) → EachLow es → EachAgrees (Station e) (replies w es)
station_agrees e small w [] low = tt
station_agrees e small w (x ∷ es) low = (
  reply_agrees (Station e) w x
      (λ n is. let below = low.0 n is in agree_stations e n (omega (arith, small)) (omega (arith, below)))
      (strangers_agree (Station e) (agree_station_stranger e) w.sight.profiles (happens w.sight x).destination w.strangers)
      (λ k below. agree_station_slot e k),
  station_agrees e small (world_after w x) es low.1,
)

pub station_is_printed_from : StationIsTold → StationIsPrintedFrom
station_is_printed_from told w line texts e rising small =
    lines_printed (Station e) w line texts (station_agrees e small w (events_in w texts) (events_low w texts))
    ∙ ap (told_lines (Station e)) (told w (events_in w texts) e rising)

pub station_is_printed : IdsBeginApart → StationIsTold → StationIsPrinted
station_is_printed begins told octets run e is small =
    let r = run_printed octets run is in
    ap (lines_for (Station e)) r.printed
    ∙ station_is_printed_from told run.mme r.number r.texts e (begins_apart begins octets run r).rising small
    ∙ ap (λ events. told_lines (Station e) (station_told run.mme.sight e events)) (sym r.events)
