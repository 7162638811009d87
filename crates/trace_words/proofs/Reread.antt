-- A line that is read from some text: what is written of it is read as the same line.
use Rattle.std.proofs.Common.{◌≡◌, ℕ, ◌+◌, ◌≤◌, ◌==◌, nat_lt, Bool, true, false, cond, List, [], ◌∷◌, length, codes, Result, Ok, Err, refl, sym, ap, subst, ◌∙◌, arith}
use Rattle.std.specs.List.{slice_split}
use Rattle.std.specs.Str.{bytes_eq}
use Rattle.std.specs.Fmt.{decimal}
use Rattle.std.proofs.lemmas.Slice.Eq.{bytes_eq-Decides}
use Rattle.std.proofs.lemmas.Bool.Decides.{nat_tests}
use Rattle.hex.specs.Hex.{encode_lower}
use Rattle.nas_elements.specs.Digits.{imsi_text}
use Rattle.trace_words.specs.declared.line.Line.{Line}
use Rattle.trace_words.specs.declared.line.Line.TheVariants.{Skip, Mme, Sub, Vec, Up, Lost, In, Tick, Data, Cancel, Show}
use Rattle.trace_words.specs.declared.fault.TraceFault.{TraceFault}
use Rattle.trace_words.specs.declared.fault.TraceFault.TheVariants.{UnknownWord, TooLong}
use Rattle.trace_words.specs.Trace.{◌>>=◌, ◌␣◌, plmn_field, sized_of, label_field, station_field, rate_field, ticks_field, octets_field, xres_field, subscriber_field, octets_text, country_text, network_text, line_of, line_text, is_skipped, read_words, read_event, read_mme, read_sub, read_vec, read_up, read_lost, read_in, read_tick, read_data, read_cancel, read_show}
use Rattle.trace_words.specs.Lines.{IsRewritten, WrittenIsRead}
use Rattle.trace_words.specs.WordLaws.{is_word}
use Rattle.trace_words.proofs.Words.{spaced, spaced-split, Spelled, Spelled-word, Spelled-field}
use Rattle.trace_words.proofs.Rewritten.{TextIsImsi, ok_with, number_again, sized_again, xres_again, octets_again, label_again, subscriber_again}
use Rattle.trace_words.proofs.Networks.{plmn_same}

pub record Reread (line : Line) (most : ℕ) : Type 0 where
  pub words : List (List ℕ)
  pub spelled : Spelled (line_text line) words most
  pub again : read_words words ≡ Ok line
  pub said : is_skipped (line_text line) ≡ false

same_reread : (same line : Line) (most : ℕ) → (let r : Result Line TraceFault = Ok same in r) ≡ Ok line → Reread same most
    → Reread line most
same_reread same line most e h = let s : same ≡ line = cc e in subst (λ (l : Line). Reread l most) s h

no_longer : (text : List ℕ) (words : List (List ℕ)) (some most : ℕ) → some ≤ most → Spelled text words some
    → Spelled text words most
no_longer text words some most h s = record { split = s.split; short = omega (arith, s.short); unbroken = s.unbroken }

-- ---- each word
sub_reread : TextIsImsi → (fields : List (List ℕ)) (line : Line) → read_sub fields ≡ Ok line → Reread line (4 + spaced fields)
unfolding line_text
sub_reread law [] line e = absurd (cc e)
sub_reread law (a ∷ []) line e = absurd (cc e)
sub_reread law (a ∷ b ∷ []) line e = absurd (cc e)
sub_reread law (a ∷ b ∷ c ∷ []) line e = absurd (cc e)
sub_reread law (a ∷ b ∷ c ∷ d ∷ []) line e =
    let most : ℕ = 4 + spaced (a ∷ b ∷ c ∷ d ∷ []) in
    ok_with (Reread line most) (subscriber_field a) (λ i. sized_of 4 b >>= (λ x. sized_of 4 c >>= (λ y. sized_of 4 d >>= (λ z. Ok (Sub (record { imsi = i; address = x; gateway = y; teid = z })))))) line e
    (λ i r0 e0. ok_with (Reread line most) (sized_of 4 b) (λ x. sized_of 4 c >>= (λ y. sized_of 4 d >>= (λ z. Ok (Sub (record { imsi = i; address = x; gateway = y; teid = z }))))) line e0
    (λ x r1 e1. ok_with (Reread line most) (sized_of 4 c) (λ y. sized_of 4 d >>= (λ z. Ok (Sub (record { imsi = i; address = x; gateway = y; teid = z })))) line e1
    (λ y r2 e2. ok_with (Reread line most) (sized_of 4 d) (λ z. Ok (Sub (record { imsi = i; address = x; gateway = y; teid = z }))) line e2
    (λ z r3 e3.
    let f0 = subscriber_again law a i r0 in
    let f1 = sized_again 4 b x r1 in
    let f2 = sized_again 4 c y r2 in
    let f3 = sized_again 4 d z r3 in
    same_reread (Sub (record { imsi = i; address = x; gateway = y; teid = z })) line most e3 (record {
      words = codes "sub" ∷ imsi_text i ∷ encode_lower x ∷ encode_lower y ∷ encode_lower z ∷ [];
      spelled = no_longer (line_text (Sub (record { imsi = i; address = x; gateway = y; teid = z }))) (codes "sub" ∷ imsi_text i ∷ encode_lower x ∷ encode_lower y ∷ encode_lower z ∷ []) (4 + (length a + 1) + (length b + 1) + (length c + 1) + (length d + 1)) most (omega arith) (Spelled-field (codes "sub" ␣ imsi_text i ␣ encode_lower x ␣ encode_lower y) (codes "sub" ∷ imsi_text i ∷ encode_lower x ∷ encode_lower y ∷ []) (4 + (length a + 1) + (length b + 1) + (length c + 1)) (encode_lower z) d (Spelled-field (codes "sub" ␣ imsi_text i ␣ encode_lower x) (codes "sub" ∷ imsi_text i ∷ encode_lower x ∷ []) (4 + (length a + 1) + (length b + 1)) (encode_lower y) c (Spelled-field (codes "sub" ␣ imsi_text i) (codes "sub" ∷ imsi_text i ∷ []) (4 + (length a + 1)) (encode_lower x) b (Spelled-field (codes "sub") (codes "sub" ∷ []) (4) (imsi_text i) a (Spelled-word (codes "sub") refl) f0.word f0.short) f1.word f1.short) f2.word f2.short) f3.word f3.short);
      again = rw (f0.again, f1.again, f2.again, f3.again) refl;
      said = refl;
    })))))
sub_reread law (a ∷ b ∷ c ∷ d ∷ f ∷ rest) line e = absurd (cc e)

vec_reread : TextIsImsi → (fields : List (List ℕ)) (line : Line) → read_vec fields ≡ Ok line → Reread line (4 + spaced fields)
unfolding line_text
vec_reread law [] line e = absurd (cc e)
vec_reread law (a ∷ []) line e = absurd (cc e)
vec_reread law (a ∷ b ∷ []) line e = absurd (cc e)
vec_reread law (a ∷ b ∷ c ∷ []) line e = absurd (cc e)
vec_reread law (a ∷ b ∷ c ∷ d ∷ []) line e = absurd (cc e)
vec_reread law (a ∷ b ∷ c ∷ d ∷ f ∷ []) line e =
    let most : ℕ = 4 + spaced (a ∷ b ∷ c ∷ d ∷ f ∷ []) in
    ok_with (Reread line most) (subscriber_field a) (λ i. sized_of 16 b >>= (λ x. sized_of 16 c >>= (λ y. xres_field d >>= (λ z. sized_of 32 f >>= (λ k. Ok (Vec i (record { rand = x; autn = y; xres = z; kasme = k }))))))) line e
    (λ i r0 e0. ok_with (Reread line most) (sized_of 16 b) (λ x. sized_of 16 c >>= (λ y. xres_field d >>= (λ z. sized_of 32 f >>= (λ k. Ok (Vec i (record { rand = x; autn = y; xres = z; kasme = k })))))) line e0
    (λ x r1 e1. ok_with (Reread line most) (sized_of 16 c) (λ y. xres_field d >>= (λ z. sized_of 32 f >>= (λ k. Ok (Vec i (record { rand = x; autn = y; xres = z; kasme = k }))))) line e1
    (λ y r2 e2. ok_with (Reread line most) (xres_field d) (λ z. sized_of 32 f >>= (λ k. Ok (Vec i (record { rand = x; autn = y; xres = z; kasme = k })))) line e2
    (λ z r3 e3. ok_with (Reread line most) (sized_of 32 f) (λ k. Ok (Vec i (record { rand = x; autn = y; xres = z; kasme = k }))) line e3
    (λ k r4 e4.
    let f0 = subscriber_again law a i r0 in
    let f1 = sized_again 16 b x r1 in
    let f2 = sized_again 16 c y r2 in
    let f3 = xres_again d z r3 in
    let f4 = sized_again 32 f k r4 in
    same_reread (Vec i (record { rand = x; autn = y; xres = z; kasme = k })) line most e4 (record {
      words = codes "vec" ∷ imsi_text i ∷ encode_lower x ∷ encode_lower y ∷ encode_lower z ∷ encode_lower k ∷ [];
      spelled = no_longer (line_text (Vec i (record { rand = x; autn = y; xres = z; kasme = k }))) (codes "vec" ∷ imsi_text i ∷ encode_lower x ∷ encode_lower y ∷ encode_lower z ∷ encode_lower k ∷ []) (4 + (length a + 1) + (length b + 1) + (length c + 1) + (length d + 1) + (length f + 1)) most (omega arith) (Spelled-field (codes "vec" ␣ imsi_text i ␣ encode_lower x ␣ encode_lower y ␣ encode_lower z) (codes "vec" ∷ imsi_text i ∷ encode_lower x ∷ encode_lower y ∷ encode_lower z ∷ []) (4 + (length a + 1) + (length b + 1) + (length c + 1) + (length d + 1)) (encode_lower k) f (Spelled-field (codes "vec" ␣ imsi_text i ␣ encode_lower x ␣ encode_lower y) (codes "vec" ∷ imsi_text i ∷ encode_lower x ∷ encode_lower y ∷ []) (4 + (length a + 1) + (length b + 1) + (length c + 1)) (encode_lower z) d (Spelled-field (codes "vec" ␣ imsi_text i ␣ encode_lower x) (codes "vec" ∷ imsi_text i ∷ encode_lower x ∷ []) (4 + (length a + 1) + (length b + 1)) (encode_lower y) c (Spelled-field (codes "vec" ␣ imsi_text i) (codes "vec" ∷ imsi_text i ∷ []) (4 + (length a + 1)) (encode_lower x) b (Spelled-field (codes "vec") (codes "vec" ∷ []) (4) (imsi_text i) a (Spelled-word (codes "vec") refl) f0.word f0.short) f1.word f1.short) f2.word f2.short) f3.word f3.short) f4.word f4.short);
      again = rw (f0.again, f1.again, f2.again, f3.again, f4.again) refl;
      said = refl;
    }))))))
vec_reread law (a ∷ b ∷ c ∷ d ∷ f ∷ g ∷ rest) line e = absurd (cc e)

pub up_reread : (fields : List (List ℕ)) (line : Line) → read_up fields ≡ Ok line → Reread line (3 + spaced fields)
unfolding line_text
up_reread [] line e = absurd (cc e)
up_reread (a ∷ []) line e =
    let most : ℕ = 3 + spaced (a ∷ []) in
    ok_with (Reread line most) (station_field a) (λ n. Ok (Up n)) line e
    (λ n r0 e0.
    let f0 = number_again 0 127 n a (omega arith) r0 in
    same_reread (Up n) line most e0 (record {
      words = codes "up" ∷ decimal n ∷ [];
      spelled = no_longer (line_text (Up n)) (codes "up" ∷ decimal n ∷ []) (3 + (length a + 1)) most (omega arith) (Spelled-field (codes "up") (codes "up" ∷ []) (3) (decimal n) a (Spelled-word (codes "up") refl) f0.word f0.short);
      again = rw (f0.again) refl;
      said = refl;
    }))
up_reread (a ∷ b ∷ rest) line e = absurd (cc e)

pub lost_reread : (fields : List (List ℕ)) (line : Line) → read_lost fields ≡ Ok line → Reread line (5 + spaced fields)
unfolding line_text
lost_reread [] line e = absurd (cc e)
lost_reread (a ∷ []) line e =
    let most : ℕ = 5 + spaced (a ∷ []) in
    ok_with (Reread line most) (station_field a) (λ n. Ok (Lost n)) line e
    (λ n r0 e0.
    let f0 = number_again 0 127 n a (omega arith) r0 in
    same_reread (Lost n) line most e0 (record {
      words = codes "lost" ∷ decimal n ∷ [];
      spelled = no_longer (line_text (Lost n)) (codes "lost" ∷ decimal n ∷ []) (5 + (length a + 1)) most (omega arith) (Spelled-field (codes "lost") (codes "lost" ∷ []) (5) (decimal n) a (Spelled-word (codes "lost") refl) f0.word f0.short);
      again = rw (f0.again) refl;
      said = refl;
    }))
lost_reread (a ∷ b ∷ rest) line e = absurd (cc e)

pub in_reread : (fields : List (List ℕ)) (line : Line) → read_in fields ≡ Ok line → Reread line (3 + spaced fields)
unfolding line_text
in_reread [] line e = absurd (cc e)
in_reread (a ∷ []) line e = absurd (cc e)
in_reread (a ∷ b ∷ []) line e =
    let most : ℕ = 3 + spaced (a ∷ b ∷ []) in
    ok_with (Reread line most) (station_field a) (λ n. octets_field b >>= (λ o. Ok (In n o))) line e
    (λ n r0 e0. ok_with (Reread line most) (octets_field b) (λ o. Ok (In n o)) line e0
    (λ o r1 e1.
    let f0 = number_again 0 127 n a (omega arith) r0 in
    let f1 = octets_again b o r1 in
    same_reread (In n o) line most e1 (record {
      words = codes "in" ∷ decimal n ∷ octets_text o ∷ [];
      spelled = no_longer (line_text (In n o)) (codes "in" ∷ decimal n ∷ octets_text o ∷ []) (3 + (length a + 1) + (length b + 1)) most (omega arith) (Spelled-field (codes "in" ␣ decimal n) (codes "in" ∷ decimal n ∷ []) (3 + (length a + 1)) (octets_text o) b (Spelled-field (codes "in") (codes "in" ∷ []) (3) (decimal n) a (Spelled-word (codes "in") refl) f0.word f0.short) f1.word f1.short);
      again = rw (f0.again, f1.again) refl;
      said = refl;
    })))
in_reread (a ∷ b ∷ c ∷ rest) line e = absurd (cc e)

tick_reread : (fields : List (List ℕ)) (line : Line) → read_tick fields ≡ Ok line → Reread line (5 + spaced fields)
unfolding line_text
tick_reread [] line e = absurd (cc e)
tick_reread (a ∷ []) line e =
    let most : ℕ = 5 + spaced (a ∷ []) in
    ok_with (Reread line most) (ticks_field a) (λ n. Ok (Tick n)) line e
    (λ n r0 e0.
    let f0 = number_again 1 1000000 n a (omega arith) r0 in
    same_reread (Tick n) line most e0 (record {
      words = codes "tick" ∷ decimal n ∷ [];
      spelled = no_longer (line_text (Tick n)) (codes "tick" ∷ decimal n ∷ []) (5 + (length a + 1)) most (omega arith) (Spelled-field (codes "tick") (codes "tick" ∷ []) (5) (decimal n) a (Spelled-word (codes "tick") refl) f0.word f0.short);
      again = rw (f0.again) refl;
      said = refl;
    }))
tick_reread (a ∷ b ∷ rest) line e = absurd (cc e)

data_reread : TextIsImsi → (fields : List (List ℕ)) (line : Line) → read_data fields ≡ Ok line → Reread line (5 + spaced fields)
unfolding line_text
data_reread law [] line e = absurd (cc e)
data_reread law (a ∷ []) line e =
    let most : ℕ = 5 + spaced (a ∷ []) in
    ok_with (Reread line most) (subscriber_field a) (λ i. Ok (Data i)) line e
    (λ i r0 e0.
    let f0 = subscriber_again law a i r0 in
    same_reread (Data i) line most e0 (record {
      words = codes "data" ∷ imsi_text i ∷ [];
      spelled = no_longer (line_text (Data i)) (codes "data" ∷ imsi_text i ∷ []) (5 + (length a + 1)) most (omega arith) (Spelled-field (codes "data") (codes "data" ∷ []) (5) (imsi_text i) a (Spelled-word (codes "data") refl) f0.word f0.short);
      again = rw (f0.again) refl;
      said = refl;
    }))
data_reread law (a ∷ b ∷ rest) line e = absurd (cc e)

cancel_reread : TextIsImsi → (fields : List (List ℕ)) (line : Line) → read_cancel fields ≡ Ok line → Reread line (7 + spaced fields)
unfolding line_text
cancel_reread law [] line e = absurd (cc e)
cancel_reread law (a ∷ []) line e =
    let most : ℕ = 7 + spaced (a ∷ []) in
    ok_with (Reread line most) (subscriber_field a) (λ i. Ok (Cancel i)) line e
    (λ i r0 e0.
    let f0 = subscriber_again law a i r0 in
    same_reread (Cancel i) line most e0 (record {
      words = codes "cancel" ∷ imsi_text i ∷ [];
      spelled = no_longer (line_text (Cancel i)) (codes "cancel" ∷ imsi_text i ∷ []) (7 + (length a + 1)) most (omega arith) (Spelled-field (codes "cancel") (codes "cancel" ∷ []) (7) (imsi_text i) a (Spelled-word (codes "cancel") refl) f0.word f0.short);
      again = rw (f0.again) refl;
      said = refl;
    }))
cancel_reread law (a ∷ b ∷ rest) line e = absurd (cc e)

show_reread : TextIsImsi → (fields : List (List ℕ)) (line : Line) → read_show fields ≡ Ok line → Reread line (5 + spaced fields)
unfolding line_text
show_reread law [] line e = absurd (cc e)
show_reread law (a ∷ []) line e =
    let most : ℕ = 5 + spaced (a ∷ []) in
    ok_with (Reread line most) (subscriber_field a) (λ i. Ok (Show i)) line e
    (λ i r0 e0.
    let f0 = subscriber_again law a i r0 in
    same_reread (Show i) line most e0 (record {
      words = codes "show" ∷ imsi_text i ∷ [];
      spelled = no_longer (line_text (Show i)) (codes "show" ∷ imsi_text i ∷ []) (5 + (length a + 1)) most (omega arith) (Spelled-field (codes "show") (codes "show" ∷ []) (5) (imsi_text i) a (Spelled-word (codes "show") refl) f0.word f0.short);
      again = rw (f0.again) refl;
      said = refl;
    }))
show_reread law (a ∷ b ∷ rest) line e = absurd (cc e)

mme_spelled : (p x y z : List ℕ) (u v : ℕ) (a b c d f g h : List ℕ) → country_text p ≡ a → network_text p ≡ b → is_word a ≡ true
    → is_word b ≡ true
    → is_word (encode_lower x) ≡ true → length (encode_lower x) ≤ length c → is_word (encode_lower y) ≡ true
    → length (encode_lower y) ≤ length d → is_word z ≡ true → length z ≤ length f
    → is_word (decimal u) ≡ true → length (decimal u) ≤ length g → is_word (decimal v) ≡ true → length (decimal v) ≤ length h
    → Spelled (codes "mme" ␣ country_text p ␣ network_text p ␣ encode_lower x ␣ encode_lower y ␣ z ␣ decimal u ␣ decimal v)
    (codes "mme" ∷ country_text p ∷ network_text p ∷ encode_lower x ∷ encode_lower y ∷ z ∷ decimal u ∷ decimal v ∷ [])
    (4 + spaced (a ∷ b ∷ c ∷ d ∷ f ∷ g ∷ h ∷ []))
mme_spelled p x y z u v a b c d f g h ce ne cw nw w1 s1 w2 s2 w3 s3 w4 s4 w5 s5 =
    no_longer (codes "mme" ␣ country_text p ␣ network_text p ␣ encode_lower x ␣ encode_lower y ␣ z ␣ decimal u ␣ decimal v)
    (codes "mme" ∷ country_text p ∷ network_text p ∷ encode_lower x ∷ encode_lower y ∷ z ∷ decimal u ∷ decimal v ∷ [])
    (4 + (length a + 1) + (length b + 1) + (length c + 1) + (length d + 1) + (length f + 1) + (length g + 1) + (length h + 1))
    (4 + spaced (a ∷ b ∷ c ∷ d ∷ f ∷ g ∷ h ∷ [])) (omega arith)
    (Spelled-field (codes "mme" ␣ country_text p ␣ network_text p ␣ encode_lower x ␣ encode_lower y ␣ z ␣ decimal u) (codes "mme" ∷ country_text p ∷ network_text p ∷ encode_lower x ∷ encode_lower y ∷ z ∷ decimal u ∷ []) (4 + (length a + 1) + (length b + 1) + (length c + 1) + (length d + 1) + (length f + 1) + (length g + 1)) (decimal v) h (Spelled-field (codes "mme" ␣ country_text p ␣ network_text p ␣ encode_lower x ␣ encode_lower y ␣ z) (codes "mme" ∷ country_text p ∷ network_text p ∷ encode_lower x ∷ encode_lower y ∷ z ∷ []) (4 + (length a + 1) + (length b + 1) + (length c + 1) + (length d + 1) + (length f + 1)) (decimal u) g (Spelled-field (codes "mme" ␣ country_text p ␣ network_text p ␣ encode_lower x ␣ encode_lower y) (codes "mme" ∷ country_text p ∷ network_text p ∷ encode_lower x ∷ encode_lower y ∷ []) (4 + (length a + 1) + (length b + 1) + (length c + 1) + (length d + 1)) (z) f (Spelled-field (codes "mme" ␣ country_text p ␣ network_text p ␣ encode_lower x) (codes "mme" ∷ country_text p ∷ network_text p ∷ encode_lower x ∷ []) (4 + (length a + 1) + (length b + 1) + (length c + 1)) (encode_lower y) d (Spelled-field (codes "mme" ␣ country_text p ␣ network_text p) (codes "mme" ∷ country_text p ∷ network_text p ∷ []) (4 + (length a + 1) + (length b + 1)) (encode_lower x) c (Spelled-field (codes "mme" ␣ country_text p) (codes "mme" ∷ country_text p ∷ []) (4 + (length a + 1)) (network_text p) b (Spelled-field (codes "mme") (codes "mme" ∷ []) (4) (country_text p) a (Spelled-word (codes "mme") refl)
    (ap is_word ce ∙ cw) (let l = ap length ce in omega (arith, l)))
    (ap is_word ne ∙ nw) (let l = ap length ne in omega (arith, l)))
    w1 s1)
    w2 s2)
    w3 s3)
    w4 s4)
    w5 s5)

-- the words of `mme`: of its network both are read at once
mme_reread : (fields : List (List ℕ)) (line : Line) → read_mme fields ≡ Ok line → Reread line (4 + spaced fields)
unfolding line_text
mme_reread [] line e = absurd (cc e)
mme_reread (a ∷ []) line e = absurd (cc e)
mme_reread (a ∷ b ∷ []) line e = absurd (cc e)
mme_reread (a ∷ b ∷ c ∷ []) line e = absurd (cc e)
mme_reread (a ∷ b ∷ c ∷ d ∷ []) line e = absurd (cc e)
mme_reread (a ∷ b ∷ c ∷ d ∷ f ∷ []) line e = absurd (cc e)
mme_reread (a ∷ b ∷ c ∷ d ∷ f ∷ g ∷ []) line e = absurd (cc e)
mme_reread (a ∷ b ∷ c ∷ d ∷ f ∷ g ∷ h ∷ []) line e =
    let most : ℕ = 4 + spaced (a ∷ b ∷ c ∷ d ∷ f ∷ g ∷ h ∷ []) in
    ok_with (Reread line most) (plmn_field a b) (λ p. sized_of 2 c >>= (λ x. sized_of 1 d >>= (λ y. label_field f >>= (λ z. rate_field g >>= (λ u. rate_field h >>= (λ v. Ok (Mme (record { plmn = p; group = x; code = y; apn = z; down = u; up = v })))))))) line e
    (λ p r0 e0. ok_with (Reread line most) (sized_of 2 c) (λ x. sized_of 1 d >>= (λ y. label_field f >>= (λ z. rate_field g >>= (λ u. rate_field h >>= (λ v. Ok (Mme (record { plmn = p; group = x; code = y; apn = z; down = u; up = v }))))))) line e0
    (λ x r1 e1. ok_with (Reread line most) (sized_of 1 d) (λ y. label_field f >>= (λ z. rate_field g >>= (λ u. rate_field h >>= (λ v. Ok (Mme (record { plmn = p; group = x; code = y; apn = z; down = u; up = v })))))) line e1
    (λ y r2 e2. ok_with (Reread line most) (label_field f) (λ z. rate_field g >>= (λ u. rate_field h >>= (λ v. Ok (Mme (record { plmn = p; group = x; code = y; apn = z; down = u; up = v }))))) line e2
    (λ z r3 e3. ok_with (Reread line most) (rate_field g) (λ u. rate_field h >>= (λ v. Ok (Mme (record { plmn = p; group = x; code = y; apn = z; down = u; up = v })))) line e3
    (λ u r4 e4. ok_with (Reread line most) (rate_field h) (λ v. Ok (Mme (record { plmn = p; group = x; code = y; apn = z; down = u; up = v }))) line e4
    (λ v r5 e5.
    let s = plmn_same a b p r0 in
    let f1 = sized_again 2 c x r1 in
    let f2 = sized_again 1 d y r2 in
    let f3 = label_again f z r3 in
    let f4 = number_again 1 10000000000 u g (omega arith) r4 in
    let f5 = number_again 1 10000000000 v h (omega arith) r5 in
    same_reread (Mme (record { plmn = p; group = x; code = y; apn = z; down = u; up = v })) line most e5 (record {
      words = codes "mme" ∷ country_text p ∷ network_text p ∷ encode_lower x ∷ encode_lower y ∷ z ∷ decimal u ∷ decimal v ∷ [];
      spelled = mme_spelled p x y z u v a b c d f g h s.country_same s.network_same s.country_word s.network_word f1.word f1.short f2.word f2.short f3.word f3.short f4.word f4.short f5.word f5.short;
      again = rw (s.country_same, s.network_same, r0, f1.again, f2.again, f3.again, f4.again, f5.again) refl;
      said = refl;
    })))))))
mme_reread (a ∷ b ∷ c ∷ d ∷ f ∷ g ∷ h ∷ i ∷ rest) line e = absurd (cc e)

-- ---- any line

-- one test of a chain
tested : (P : Type 0) (b : Bool) (first second : Result Line TraceFault) (line : Line) → cond b first second ≡ Ok line
    → (b ≡ true → first ≡ Ok line → P) → (b ≡ false → second ≡ Ok line → P) → P
tested P true first second line e f g = f refl e
tested P false first second line e f g = g refl e

-- what is left of the chain of words
abbrev from_show : List ℕ → List (List ℕ) → Result Line TraceFault
from_show w f = cond (bytes_eq w (codes "show")) (read_show f) (Err UnknownWord)

abbrev from_cancel : List ℕ → List (List ℕ) → Result Line TraceFault
from_cancel w f = cond (bytes_eq w (codes "cancel")) (read_cancel f) (from_show w f)

abbrev from_data : List ℕ → List (List ℕ) → Result Line TraceFault
from_data w f = cond (bytes_eq w (codes "data")) (read_data f) (from_cancel w f)

abbrev from_tick : List ℕ → List (List ℕ) → Result Line TraceFault
from_tick w f = cond (bytes_eq w (codes "tick")) (read_tick f) (from_data w f)

abbrev from_in : List ℕ → List (List ℕ) → Result Line TraceFault
from_in w f = cond (bytes_eq w (codes "in")) (read_in f) (from_tick w f)

abbrev from_lost : List ℕ → List (List ℕ) → Result Line TraceFault
from_lost w f = cond (bytes_eq w (codes "lost")) (read_lost f) (from_in w f)

abbrev from_vec : List ℕ → List (List ℕ) → Result Line TraceFault
from_vec w f = cond (bytes_eq w (codes "vec")) (read_vec f) (read_event w f)

abbrev from_sub : List ℕ → List (List ℕ) → Result Line TraceFault
from_sub w f = cond (bytes_eq w (codes "sub")) (read_sub f) (from_vec w f)

-- the word of a line counts with the space after it
worded : (line : Line) (w v : List ℕ) (n : ℕ) → bytes_eq w v ≡ true → Reread line (length v + 1 + n)
    → Reread line (length w + 1 + n)
worded line w v n b r =
    let same : v ≡ w = sym ((bytes_eq-Decides w v).0 b) in subst (λ (x : List ℕ). Reread line (length x + 1 + n)) same r

event_reread : TextIsImsi → (w : List ℕ) (f : List (List ℕ)) (line : Line) → read_event w f ≡ Ok line → Reread line (spaced (w ∷ f))
event_reread law w f line e =
    let P : Type 0 = Reread line (spaced (w ∷ f)) in
    tested P (bytes_eq w (codes "up")) (read_up f) (from_lost w f) line e
    (λ b h. worded line w (codes "up") (spaced f) b (up_reread f line h))
    (λ _ e1. tested P (bytes_eq w (codes "lost")) (read_lost f) (from_in w f) line e1
    (λ b h. worded line w (codes "lost") (spaced f) b (lost_reread f line h))
    (λ _ e2. tested P (bytes_eq w (codes "in")) (read_in f) (from_tick w f) line e2
    (λ b h. worded line w (codes "in") (spaced f) b (in_reread f line h))
    (λ _ e3. tested P (bytes_eq w (codes "tick")) (read_tick f) (from_data w f) line e3
    (λ b h. worded line w (codes "tick") (spaced f) b (tick_reread f line h))
    (λ _ e4. tested P (bytes_eq w (codes "data")) (read_data f) (from_cancel w f) line e4
    (λ b h. worded line w (codes "data") (spaced f) b (data_reread law f line h))
    (λ _ e5. tested P (bytes_eq w (codes "cancel")) (read_cancel f) (from_show w f) line e5
    (λ b h. worded line w (codes "cancel") (spaced f) b (cancel_reread law f line h))
    (λ _ e6. tested P (bytes_eq w (codes "show")) (read_show f) (Err UnknownWord) line e6
    (λ b h. worded line w (codes "show") (spaced f) b (show_reread law f line h))
    (λ _ e7. absurd (cc e7))))))))

words_reread : TextIsImsi → (words : List (List ℕ)) (line : Line) → read_words words ≡ Ok line → Reread line (spaced words)
words_reread law [] line e = absurd (cc e)
words_reread law (w ∷ f) line e =
    let P : Type 0 = Reread line (spaced (w ∷ f)) in
    tested P (bytes_eq w (codes "mme")) (read_mme f) (from_sub w f) line e
    (λ b h. worded line w (codes "mme") (spaced f) b (mme_reread f line h))
    (λ _ e1. tested P (bytes_eq w (codes "sub")) (read_sub f) (from_vec w f) line e1
    (λ b h. worded line w (codes "sub") (spaced f) b (sub_reread law f line h))
    (λ _ e2. tested P (bytes_eq w (codes "vec")) (read_vec f) (read_event w f) line e2
    (λ b h. worded line w (codes "vec") (spaced f) b (vec_reread law f line h))
    (λ _ e3. event_reread law w f line e3)))

pub rewritten : (line : Line) (most : ℕ) → most ≤ 40001 → Reread line most → IsRewritten line
unfolding line_of
rewritten line most h r =
    let fits : nat_lt 40000 (length (line_text line)) ≡ false = let s = r.spelled.short in grind (arith, nat_tests) in
    record { again = rw (fits, r.said, r.spelled.split) r.again; unbroken = r.spelled.unbroken }

nothing_rewritten : (line : Line) → (let r : Result Line TraceFault = Ok Skip in r) ≡ Ok line → IsRewritten line
unfolding line_of line_text
nothing_rewritten line e =
    let same : Skip ≡ line = cc e in subst (λ (l : Line). IsRewritten l) same (record { again = refl; unbroken = refl })

-- what is written of a line that is read from some text is read as that line
pub written_is_read : TextIsImsi → WrittenIsRead
unfolding line_of
written_is_read law text line e =
    let P : Type 0 = IsRewritten line in
    let long : nat_lt 40000 (length text) ≡ false → length text ≤ 40000 = λ h. grind (arith, nat_tests, h) in
    tested P (nat_lt 40000 (length text)) (Err TooLong)
    (cond (is_skipped text) (Ok Skip) (read_words (slice_split (λ c. c == 32) text))) line e
    (λ _ e1. absurd (cc e1))
    (λ short e1. tested P (is_skipped text) (Ok Skip) (read_words (slice_split (λ c. c == 32) text)) line e1
    (λ b h. nothing_rewritten line h)
    (λ _ h. rewritten line (spaced (slice_split (λ c. c == 32) text)) (let k = spaced-split text in let s = long short in omega (arith, k, s)) (words_reread law (slice_split (λ c. c == 32) text) line h)))
