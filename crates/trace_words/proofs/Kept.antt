-- Which lines are kept, told by their first word and by what they say.
use Rattle.std.proofs.Common.{◌≡◌, ℕ, ◌==◌, ◌||◌, nat_lt, Bool, true, false, cond, List, [], ◌∷◌, length, codes, Result, Ok, Err, refl, sym, ap, ◌∙◌}
use Rattle.std.specs.List.{slice_split, onto_first}
use Rattle.std.specs.Str.{bytes_eq}
use Rattle.std.proofs.lemmas.Slice.Eq.{bytes_eq-Decides}
use Rattle.std.proofs.lemmas.Bool.{eqb-true, or_parts}
use Rattle.trace_words.specs.declared.line.Line.{Line}
use Rattle.trace_words.specs.declared.line.Line.TheVariants.{Skip, Mme, Sub, Vec, Up, Lost, In, Tick, Data, Cancel, Show}
use Rattle.trace_words.specs.declared.fault.TraceFault.{TraceFault}
use Rattle.trace_words.specs.declared.fault.TraceFault.TheVariants.{UnknownWord, TooLong}
use Rattle.trace_words.specs.Trace.{◌>>=◌, plmn_field, sized_of, label_field, rate_field, station_field, ticks_field, subscriber_field, octets_field, xres_field, read_mme, read_sub, read_vec, read_up, read_lost, read_in, read_tick, read_data, read_cancel, read_show, read_event, read_words, is_skipped, line_of, line_text}
use Rattle.trace_words.specs.Lines.{WrittenIsRead}
use Rattle.trace_words.specs.declared.act.ScriptAct.{ScriptAct}
use Rattle.trace_words.specs.declared.script_line.ScriptLine.{ScriptLine}
use Rattle.trace_words.specs.declared.script_line.ScriptLine.TheVariants.{Trace, Act}
use Rattle.trace_words.specs.Kept.{is_kept_word, begins_kept, is_kept_text, is_kept_line, kept_in, kept_line}
use Rattle.trace_words.specs.Script.{is_trace_word, begins_traced, read_act, script_words, script_line_of, Says, ScriptSays, ReadAlike, FirstWordTells, WrittenIsKept, CommentsAreNotKept}

-- whatever line is read is kept, or none is
abbrev KeptAs : Bool → Result Line TraceFault → Type 0
KeptAs b r = (line : Line) → r ≡ Ok line → is_kept_line line ≡ b

refused : (b : Bool) (fault : TraceFault) → KeptAs b (Err fault)
refused b fault line e = absurd (cc e)

same : (b : Bool) (found : Line) → is_kept_line found ≡ b → KeptAs b (Ok found)
same b found h line e = let s : found ≡ line = cc e in ap is_kept_line (sym s) ∙ h

bind_kept : {A : Type 0} (b : Bool) (r : Result A TraceFault) (f : A → Result Line TraceFault) → ((x : A) → KeptAs b (f x))
    → KeptAs b (r >>= f)
bind_kept b (Ok x) f k line e = k x line e
bind_kept b (Err fault) f k line e = absurd (cc e)

-- ---- each word

mme_kept : (fields : List (List ℕ)) → KeptAs true (read_mme fields)
mme_kept [] line e = absurd (cc e)
mme_kept (a ∷ []) line e = absurd (cc e)
mme_kept (a ∷ b ∷ []) line e = absurd (cc e)
mme_kept (a ∷ b ∷ c ∷ []) line e = absurd (cc e)
mme_kept (a ∷ b ∷ c ∷ d ∷ []) line e = absurd (cc e)
mme_kept (a ∷ b ∷ c ∷ d ∷ f ∷ []) line e = absurd (cc e)
mme_kept (a ∷ b ∷ c ∷ d ∷ f ∷ g ∷ []) line e = absurd (cc e)
mme_kept (a ∷ b ∷ c ∷ d ∷ f ∷ g ∷ h ∷ []) line e =
    bind_kept true (plmn_field a b) (λ p. sized_of 2 c >>= (λ x. sized_of 1 d >>= (λ y. label_field f >>= (λ z. rate_field g >>= (λ u. rate_field h >>= (λ v. Ok (Mme (record { plmn = p; group = x; code = y; apn = z; down = u; up = v })))))))) (λ p.
    (bind_kept true (sized_of 2 c) (λ x. sized_of 1 d >>= (λ y. label_field f >>= (λ z. rate_field g >>= (λ u. rate_field h >>= (λ v. Ok (Mme (record { plmn = p; group = x; code = y; apn = z; down = u; up = v }))))))) (λ x.
    (bind_kept true (sized_of 1 d) (λ y. label_field f >>= (λ z. rate_field g >>= (λ u. rate_field h >>= (λ v. Ok (Mme (record { plmn = p; group = x; code = y; apn = z; down = u; up = v })))))) (λ y.
    (bind_kept true (label_field f) (λ z. rate_field g >>= (λ u. rate_field h >>= (λ v. Ok (Mme (record { plmn = p; group = x; code = y; apn = z; down = u; up = v }))))) (λ z.
    (bind_kept true (rate_field g) (λ u. rate_field h >>= (λ v. Ok (Mme (record { plmn = p; group = x; code = y; apn = z; down = u; up = v })))) (λ u.
    (bind_kept true (rate_field h) (λ v. Ok (Mme (record { plmn = p; group = x; code = y; apn = z; down = u; up = v }))) (λ v.
    same true (Mme (record { plmn = p; group = x; code = y; apn = z; down = u; up = v })) refl))))))))))) line e
mme_kept (a ∷ b ∷ c ∷ d ∷ f ∷ g ∷ h ∷ one ∷ more) line e = absurd (cc e)

sub_kept : (fields : List (List ℕ)) → KeptAs true (read_sub fields)
sub_kept [] line e = absurd (cc e)
sub_kept (a ∷ []) line e = absurd (cc e)
sub_kept (a ∷ b ∷ []) line e = absurd (cc e)
sub_kept (a ∷ b ∷ c ∷ []) line e = absurd (cc e)
sub_kept (a ∷ b ∷ c ∷ d ∷ []) line e =
    bind_kept true (subscriber_field a) (λ i. sized_of 4 b >>= (λ x. sized_of 4 c >>= (λ y. sized_of 4 d >>= (λ z. Ok (Sub (record { imsi = i; address = x; gateway = y; teid = z })))))) (λ i.
    (bind_kept true (sized_of 4 b) (λ x. sized_of 4 c >>= (λ y. sized_of 4 d >>= (λ z. Ok (Sub (record { imsi = i; address = x; gateway = y; teid = z }))))) (λ x.
    (bind_kept true (sized_of 4 c) (λ y. sized_of 4 d >>= (λ z. Ok (Sub (record { imsi = i; address = x; gateway = y; teid = z })))) (λ y.
    (bind_kept true (sized_of 4 d) (λ z. Ok (Sub (record { imsi = i; address = x; gateway = y; teid = z }))) (λ z.
    same true (Sub (record { imsi = i; address = x; gateway = y; teid = z })) refl))))))) line e
sub_kept (a ∷ b ∷ c ∷ d ∷ one ∷ more) line e = absurd (cc e)

vec_kept : (fields : List (List ℕ)) → KeptAs true (read_vec fields)
vec_kept [] line e = absurd (cc e)
vec_kept (a ∷ []) line e = absurd (cc e)
vec_kept (a ∷ b ∷ []) line e = absurd (cc e)
vec_kept (a ∷ b ∷ c ∷ []) line e = absurd (cc e)
vec_kept (a ∷ b ∷ c ∷ d ∷ []) line e = absurd (cc e)
vec_kept (a ∷ b ∷ c ∷ d ∷ f ∷ []) line e =
    bind_kept true (subscriber_field a) (λ i. sized_of 16 b >>= (λ x. sized_of 16 c >>= (λ y. xres_field d >>= (λ z. sized_of 32 f >>= (λ k. Ok (Vec i (record { rand = x; autn = y; xres = z; kasme = k }))))))) (λ i.
    (bind_kept true (sized_of 16 b) (λ x. sized_of 16 c >>= (λ y. xres_field d >>= (λ z. sized_of 32 f >>= (λ k. Ok (Vec i (record { rand = x; autn = y; xres = z; kasme = k })))))) (λ x.
    (bind_kept true (sized_of 16 c) (λ y. xres_field d >>= (λ z. sized_of 32 f >>= (λ k. Ok (Vec i (record { rand = x; autn = y; xres = z; kasme = k }))))) (λ y.
    (bind_kept true (xres_field d) (λ z. sized_of 32 f >>= (λ k. Ok (Vec i (record { rand = x; autn = y; xres = z; kasme = k })))) (λ z.
    (bind_kept true (sized_of 32 f) (λ k. Ok (Vec i (record { rand = x; autn = y; xres = z; kasme = k }))) (λ k.
    same true (Vec i (record { rand = x; autn = y; xres = z; kasme = k })) refl))))))))) line e
vec_kept (a ∷ b ∷ c ∷ d ∷ f ∷ one ∷ more) line e = absurd (cc e)

up_kept : (fields : List (List ℕ)) → KeptAs false (read_up fields)
up_kept [] line e = absurd (cc e)
up_kept (a ∷ []) line e =
    bind_kept false (station_field a) (λ n. Ok (Up n)) (λ n.
    same false (Up n) refl) line e
up_kept (a ∷ one ∷ more) line e = absurd (cc e)

lost_kept : (fields : List (List ℕ)) → KeptAs false (read_lost fields)
lost_kept [] line e = absurd (cc e)
lost_kept (a ∷ []) line e =
    bind_kept false (station_field a) (λ n. Ok (Lost n)) (λ n.
    same false (Lost n) refl) line e
lost_kept (a ∷ one ∷ more) line e = absurd (cc e)

in_kept : (fields : List (List ℕ)) → KeptAs false (read_in fields)
in_kept [] line e = absurd (cc e)
in_kept (a ∷ []) line e = absurd (cc e)
in_kept (a ∷ b ∷ []) line e =
    bind_kept false (station_field a) (λ n. octets_field b >>= (λ o. Ok (In n o))) (λ n.
    (bind_kept false (octets_field b) (λ o. Ok (In n o)) (λ o.
    same false (In n o) refl))) line e
in_kept (a ∷ b ∷ one ∷ more) line e = absurd (cc e)

tick_kept : (fields : List (List ℕ)) → KeptAs false (read_tick fields)
tick_kept [] line e = absurd (cc e)
tick_kept (a ∷ []) line e =
    bind_kept false (ticks_field a) (λ n. Ok (Tick n)) (λ n.
    same false (Tick n) refl) line e
tick_kept (a ∷ one ∷ more) line e = absurd (cc e)

data_kept : (fields : List (List ℕ)) → KeptAs true (read_data fields)
data_kept [] line e = absurd (cc e)
data_kept (a ∷ []) line e =
    bind_kept true (subscriber_field a) (λ i. Ok (Data i)) (λ i.
    same true (Data i) refl) line e
data_kept (a ∷ one ∷ more) line e = absurd (cc e)

cancel_kept : (fields : List (List ℕ)) → KeptAs true (read_cancel fields)
cancel_kept [] line e = absurd (cc e)
cancel_kept (a ∷ []) line e =
    bind_kept true (subscriber_field a) (λ i. Ok (Cancel i)) (λ i.
    same true (Cancel i) refl) line e
cancel_kept (a ∷ one ∷ more) line e = absurd (cc e)

show_kept : (fields : List (List ℕ)) → KeptAs true (read_show fields)
show_kept [] line e = absurd (cc e)
show_kept (a ∷ []) line e =
    bind_kept true (subscriber_field a) (λ i. Ok (Show i)) (λ i.
    same true (Show i) refl) line e
show_kept (a ∷ one ∷ more) line e = absurd (cc e)

-- ---- any line

same_word : (w v : List ℕ) (fields : List (List ℕ)) (b : Bool) → bytes_eq w v ≡ true → is_kept_word v ≡ b → is_kept_word w ≡ b
same_word w v fields b e h = let s : w ≡ v = (bytes_eq-Decides w v).0 e in ap is_kept_word s ∙ h

-- one test of a chain
tested : (P : Type 0) (b : Bool) (first second : Result Line TraceFault) (line : Line) → cond b first second ≡ Ok line
    → (b ≡ true → first ≡ Ok line → P) → (b ≡ false → second ≡ Ok line → P) → P
tested P true first second line e f g = f refl e
tested P false first second line e f g = g refl e

-- what is left of the chain of words
abbrev from_show : List ℕ → List (List ℕ) → Result Line TraceFault
from_show w f = cond (bytes_eq w (codes "show")) (read_show f) (Err UnknownWord)

abbrev from_cancel : List ℕ → List (List ℕ) → Result Line TraceFault
from_cancel w f = cond (bytes_eq w (codes "cancel")) (read_cancel f) (from_show w f)

abbrev from_data : List ℕ → List (List ℕ) → Result Line TraceFault
from_data w f = cond (bytes_eq w (codes "data")) (read_data f) (from_cancel w f)

abbrev from_tick : List ℕ → List (List ℕ) → Result Line TraceFault
from_tick w f = cond (bytes_eq w (codes "tick")) (read_tick f) (from_data w f)

abbrev from_in : List ℕ → List (List ℕ) → Result Line TraceFault
from_in w f = cond (bytes_eq w (codes "in")) (read_in f) (from_tick w f)

abbrev from_lost : List ℕ → List (List ℕ) → Result Line TraceFault
from_lost w f = cond (bytes_eq w (codes "lost")) (read_lost f) (from_in w f)

abbrev from_vec : List ℕ → List (List ℕ) → Result Line TraceFault
from_vec w f = cond (bytes_eq w (codes "vec")) (read_vec f) (read_event w f)

abbrev from_sub : List ℕ → List (List ℕ) → Result Line TraceFault
from_sub w f = cond (bytes_eq w (codes "sub")) (read_sub f) (from_vec w f)

event_kept : (w : List ℕ) (f : List (List ℕ)) (line : Line) → read_event w f ≡ Ok line → is_kept_word w ≡ is_kept_line line
event_kept w f line e =
    let P : Type 0 = is_kept_word w ≡ is_kept_line line in
    tested P (bytes_eq w (codes "up")) (read_up f) (from_lost w f) line e
    (λ b h. same_word w (codes "up") f false b refl ∙ sym (up_kept f line h))
    (λ _ e1. tested P (bytes_eq w (codes "lost")) (read_lost f) (from_in w f) line e1
    (λ b h. same_word w (codes "lost") f false b refl ∙ sym (lost_kept f line h))
    (λ _ e2. tested P (bytes_eq w (codes "in")) (read_in f) (from_tick w f) line e2
    (λ b h. same_word w (codes "in") f false b refl ∙ sym (in_kept f line h))
    (λ _ e3. tested P (bytes_eq w (codes "tick")) (read_tick f) (from_data w f) line e3
    (λ b h. same_word w (codes "tick") f false b refl ∙ sym (tick_kept f line h))
    (λ _ e4. tested P (bytes_eq w (codes "data")) (read_data f) (from_cancel w f) line e4
    (λ b h. same_word w (codes "data") f true b refl ∙ sym (data_kept f line h))
    (λ _ e5. tested P (bytes_eq w (codes "cancel")) (read_cancel f) (from_show w f) line e5
    (λ b h. same_word w (codes "cancel") f true b refl ∙ sym (cancel_kept f line h))
    (λ _ e6. tested P (bytes_eq w (codes "show")) (read_show f) (Err UnknownWord) line e6
    (λ b h. same_word w (codes "show") f true b refl ∙ sym (show_kept f line h))
    (λ _ e7. absurd (cc e7))))))))

words_kept : (words : List (List ℕ)) (line : Line) → read_words words ≡ Ok line → begins_kept words ≡ is_kept_line line
words_kept [] line e = absurd (cc e)
words_kept (w ∷ f) line e =
    let P : Type 0 = is_kept_word w ≡ is_kept_line line in
    tested P (bytes_eq w (codes "mme")) (read_mme f) (from_sub w f) line e
    (λ b h. same_word w (codes "mme") f true b refl ∙ sym (mme_kept f line h))
    (λ _ e1. tested P (bytes_eq w (codes "sub")) (read_sub f) (from_vec w f) line e1
    (λ b h. same_word w (codes "sub") f true b refl ∙ sym (sub_kept f line h))
    (λ _ e2. tested P (bytes_eq w (codes "vec")) (read_vec f) (read_event w f) line e2
    (λ b h. same_word w (codes "vec") f true b refl ∙ sym (vec_kept f line h))
    (λ _ e3. event_kept w f line e3)))

hash_onto : (parts : List (List ℕ)) → begins_kept (onto_first 35 parts) ≡ false
hash_onto [] = refl
hash_onto (p ∷ ps) = refl

-- the first word of a comment is no kept one
pub comment_kept : CommentsAreNotKept
comment_kept rest = hash_onto (slice_split (λ c. c == 32) rest)

skipped_kept : (text : List ℕ) → is_skipped text ≡ true → is_kept_text text ≡ false
skipped_kept [] h = refl
skipped_kept (c ∷ cs) h = let s : c ≡ 35 = eqb-true c 35 h in ap (λ (x : ℕ). is_kept_text (x ∷ cs)) s ∙ comment_kept cs

pub first_word : FirstWordTells
unfolding line_of
first_word text line e =
    let P : Type 0 = is_kept_text text ≡ is_kept_line line in
    tested P (nat_lt 40000 (length text)) (Err TooLong)
    (cond (is_skipped text) (Ok Skip) (read_words (slice_split (λ c. c == 32) text))) line e
    (λ _ e1. absurd (cc e1))
    (λ _ e1. tested P (is_skipped text) (Ok Skip) (read_words (slice_split (λ c. c == 32) text)) line e1
    (λ b h. skipped_kept text b ∙ sym (same false Skip refl line h))
    (λ _ h. words_kept (slice_split (λ c. c == 32) text) line h))

kept_alone : FirstWordTells → (text : List ℕ) (line : Line) → line_of text ≡ Ok line → kept_in (text ∷ []) ≡ kept_line line
kept_alone law text line e = rw (law text line e, e) refl

pub written_kept : WrittenIsRead → WrittenIsKept
written_kept read text line e =
    kept_alone first_word (line_text line) line (read text line e).again ∙ sym (kept_alone first_word text line e)

-- ---- scripts

-- one test of a script
asked : (P : Type 0) (b : Bool) (first second : Result ScriptLine TraceFault) (line : ScriptLine) → cond b first second ≡ Ok line
    → (b ≡ true → first ≡ Ok line → P) → (b ≡ false → second ≡ Ok line → P) → P
asked P true first second line e f g = f refl e
asked P false first second line e f g = g refl e

-- a line of a trace is told by its fields being read
traced : (text : List ℕ) (r : Result Line TraceFault) (line : ScriptLine) → line_of text ≡ r → (r >>= (λ l. Ok (Trace l))) ≡ Ok line
    → Says text line
traced text (Ok l) (Trace line) h e = let s : l ≡ line = cc e in h ∙ ap Ok s
traced text (Ok l) (Act act) h e = absurd (cc e)
traced text (Err fault) line h e = absurd (cc e)

acted : (text : List ℕ) (r : Result ScriptAct TraceFault) (line : ScriptLine) → is_kept_text text ≡ false
    → (r >>= (λ a. Ok (Act a))) ≡ Ok line → Says text line
acted text (Ok a) (Trace line) h e = absurd (cc e)
acted text (Ok a) (Act act) h e = h
acted text (Err fault) line h e = absurd (cc e)

words_say : (text : List ℕ) (words : List (List ℕ)) (line : ScriptLine) → line_of text ≡ read_words words
    → is_kept_text text ≡ begins_kept words → script_words words ≡ Ok line → Says text line
words_say text [] line h k e = absurd (cc e)
words_say text (w ∷ f) line h k e =
    asked (Says text line) (is_trace_word w) (read_words (w ∷ f) >>= (λ l. Ok (Trace l)))
    (read_act w f >>= (λ a. Ok (Act a))) line e
    (λ _ e1. traced text (read_words (w ∷ f)) line h e1)
    (λ b e1. acted text (read_act w f) line (k ∙ (or_parts (is_kept_word w) (bytes_eq w (codes "lost")) (or_parts (is_kept_word w || bytes_eq w (codes "lost")) (bytes_eq w (codes "tick")) b).0).0) e1)

skip_says : (text : List ℕ) (line : ScriptLine) → line_of text ≡ Ok Skip
    → (let r : Result ScriptLine TraceFault = Ok (Trace Skip) in r) ≡ Ok line → Says text line
skip_says text (Trace line) h e = let s : Skip ≡ line = cc e in h ∙ ap Ok s
skip_says text (Act act) h e = absurd (cc e)

pub script_says : ScriptSays
unfolding line_of script_line_of
script_says text line e =
    let P : Type 0 = Says text line in
    asked P (nat_lt 40000 (length text)) (Err TooLong)
    (cond (is_skipped text) (Ok (Trace Skip)) (script_words (slice_split (λ c. c == 32) text))) line e
    (λ _ e1. absurd (cc e1))
    (λ short e1. asked P (is_skipped text) (Ok (Trace Skip)) (script_words (slice_split (λ c. c == 32) text)) line e1
    (λ skipped e2. skip_says text line (rw (short, skipped) refl) e2)
    (λ said e2. words_say text (slice_split (λ c. c == 32) text) line (rw (short, said) refl) refl e2))

-- a line that a trace has too
abbrev as_traced : Result Line TraceFault → Result ScriptLine TraceFault
as_traced r = r >>= (λ l. Ok (Trace l))

words_alike : (words : List (List ℕ)) → begins_traced words ≡ true → script_words words ≡ as_traced (read_words words)
words_alike [] h = absurd (cc h)
words_alike (w ∷ f) h = ap (λ b. cond b (as_traced (read_words (w ∷ f))) (read_act w f >>= (λ a. Ok (Act a)))) h

pub read_alike : ReadAlike
unfolding line_of script_line_of
read_alike text h = go (nat_lt 40000 (length text)) (is_skipped text) h
  where
    go : (long skipped : Bool) → (skipped || begins_traced (slice_split (λ c. c == 32) text)) ≡ true
        → cond long (Err TooLong) (cond skipped (Ok (Trace Skip)) (script_words (slice_split (λ c. c == 32) text)))
        ≡ as_traced (cond long (Err TooLong) (cond skipped (Ok Skip) (read_words (slice_split (λ c. c == 32) text))))
    go true skipped k = refl
    go false true k = refl
    go false false k = words_alike (slice_split (λ c. c == 32) text) k
