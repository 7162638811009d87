-- Pieces of a text, one after another: the lines that they end, and what is played of them.
use Rattle.std.proofs.Common.{◌≡◌, ℕ, ◌+◌, ◌<◌, ◌≤◌, Bool, List, [], ◌∷◌, ◌++◌, length, take, drop, Result, Ok, Err, inl, inr, refl, sym, ap, subst, ◌∙◌, append_assoc, append-nil, length-append, arith}
use Rattle.std.proofs.lemmas.List.{take-append-drop}
use Rattle.trace_progress.specs.declared.fault.PlayFault.{PlayFault}
use Rattle.trace_progress.specs.declared.fault.PlayFault.TheVariants.{Trace, Read, Write, NoMemory}
use Rattle.trace_progress.specs.Text.{breaks, lines_of}
use Rattle.trace_progress.specs.TextLaws.{breaks-append, lines_of-at, lines_of-front, lines_of-last, lines_of-nil}
use Rattle.trace_run.specs.Watching.{failed_after_play}
use Rattle.trace_run.specs.declared.under_way.LineUnderWay.{LineUnderWay}
use Rattle.trace_run.specs.OneLine.{LineRelation, IsOfLine}
use Rattle.trace_run.specs.Parts.{GoesOnBy, TakesPart}
use Rattle.trace_run.specs.Lines.{PlaysAll, IsTooLong, IsCutShort, StopsAt, StopsIn, PlaysEach, IsReady, EndsLines, IsSeen, Feeds}

lines_assoc : (a b c : List (List ℕ)) → (a ++ b) ++ c ≡ a ++ (b ++ c)
lines_assoc a b c = append_assoc a b c

lines_nil : (a : List (List ℕ)) → a ++ [] ≡ a
lines_nil a = append-nil a

-- ---- the lines that a piece ends

-- none
pub EndsLines-part : (octets part left : List ℕ) → breaks part ≡ 0 → left ≡ octets ++ part → EndsLines octets part [] left
EndsLines-part octets part left none e =
    ((λ more. ap lines_of (sym (append_assoc octets part more) ∙ ap (λ v. v ++ more) (sym e))), sym none)

-- the one whose LF it is
pub EndsLines-line : (text : List ℕ) → breaks text ≡ 0 → EndsLines text (10 ∷ []) (text ∷ []) []
EndsLines-line text none = ((λ more. lines_of-at text more none), refl)

-- one after another
pub EndsLines-then : (a b c first second : List ℕ) (xs ys : List (List ℕ)) → EndsLines a first xs b → EndsLines b second ys c
    → EndsLines a (first ++ second) (xs ++ ys) c
EndsLines-then a b c first second xs ys p q = (
  (λ more. ap (λ v. lines_of (a ++ v)) (append_assoc first second more) ∙ p.0 (second ++ more) ∙ ap (λ ls. xs ++ ls) (q.0 more)
      ∙ sym (lines_assoc xs ys (lines_of (c ++ more)))),
  omega (arith, p.1, q.1, length-append xs ys, breaks-append first second),
)

-- the one that lies in it
pub EndsLines-whole : (text : List ℕ) → breaks text ≡ 0 → EndsLines [] (text ++ 10 ∷ []) (text ∷ []) []
EndsLines-whole text none =
    EndsLines-then [] text [] text (10 ∷ []) [] (text ∷ []) (EndsLines-part [] text text none refl) (EndsLines-line text none)

pub EndsLines-left : (octets same piece left rest : List ℕ) (texts : List (List ℕ)) → octets ≡ same → left ≡ rest
    → EndsLines octets piece texts left → EndsLines same piece texts rest
EndsLines-left octets same piece left rest texts e l h =
    subst (λ (v : List ℕ). EndsLines same piece texts v) l (subst (λ (v : List ℕ). EndsLines v piece texts left) e h)

pub lines_of-one : (text : List ℕ) → breaks text ≡ 0 → 0 < length text → lines_of text ≡ text ∷ []
lines_of-one text none some = lines_of-last text none some ∙ lines_of-at text [] none ∙ ap (λ ls. text ∷ ls) lines_of-nil

-- a first line, of which this front is too long already
too_long : (front more : List ℕ) → breaks front ≡ 0 → 40000 < length front → IsTooLong (lines_of (front ++ more))
too_long front more none long =
    let cut = lines_of-front front more none (omega (arith, long)) in
    (front ++ cut.0, cut.1, cut.2, omega (arith, long, length-append front cut.0))

parted : (octets part last more : List ℕ) → (octets ++ part) ++ (last ++ more) ≡ octets ++ ((part ++ last) ++ more)
parted octets part last more = append_assoc octets part (last ++ more) ∙ ap (λ v. octets ++ v) (sym (append_assoc part last more))

-- the same where the front goes on into a piece
too_long_by : (octets piece more : List ℕ) (count : ℕ) → breaks octets ≡ 0 → breaks (take count piece) ≡ 0
    → 40000 < length (octets ++ take count piece) → IsTooLong (lines_of (octets ++ (piece ++ more)))
too_long_by octets piece more count none unbroken long =
    let P : List ℕ → Type 0 = λ v. IsTooLong (lines_of v) in
    subst (λ (v : List ℕ). IsTooLong (lines_of (octets ++ (v ++ more)))) (take-append-drop count piece)
    (subst P (parted octets (take count piece) (drop count piece) more)
    (too_long (octets ++ take count piece) (drop count piece ++ more)
    (omega (arith, breaks-append octets (take count piece), none, unbroken)) long))

-- ---- where a fault is

pub IsSeen-le : (low high : ℕ) (fault : PlayFault) → low ≤ high → IsSeen low fault → IsSeen high fault
IsSeen-le low high (Trace line fault) le h = elim h [ inl long ↦ inl long | inr near ↦ inr (omega (arith, le, near)) ]
IsSeen-le low high NoMemory le h = tt
IsSeen-le low high Write le h = tt
IsSeen-le low high Read le h = absurd h

pub IsSeen-own : (number next : ℕ) (fault : PlayFault) → number < next → IsOfLine number (Err fault) → IsSeen next fault
IsSeen-own number next (Trace line fault) lt place = inr (omega (arith, lt, place))
IsSeen-own number next NoMemory lt place = tt
IsSeen-own number next Write lt place = tt
IsSeen-own number next Read lt place = absurd place

-- a part of a line that isn't taken is not written either
pub failed-part : (failed : Bool) (number : ℕ) (old piece left : List ℕ) (fault : PlayFault)
    → TakesPart number old piece (Err fault) left → failed ≡ failed_after_play {A = ℕ} failed (Err fault)
failed-part failed number old piece left (Trace line fault) h = refl
failed-part failed number old piece left NoMemory h = refl
failed-part failed number old piece left Write h = absurd h
failed-part failed number old piece left Read h = absurd h

module _ {S : Type 0} (plays : LineRelation S) where
  -- ---- lines that are played

  pub PlaysAll-one : (old new : S) (number : ℕ) (text written : List ℕ) → plays old number text (Ok tt) new written
      → PlaysAll plays old number (text ∷ []) new written
  PlaysAll-one old new number text written h = (new, written, [], h, (refl, refl), sym (append-nil written))

  pub PlaysAll-then : (xs ys : List (List ℕ)) (a b c : S) (number next : ℕ) (s t : List ℕ) → next ≡ number + length xs
      → PlaysAll plays a number xs b s → PlaysAll plays b next ys c t → PlaysAll plays a number (xs ++ ys) c (s ++ t)
  PlaysAll-then [] ys a b c number next s t e p q =
      let same : next ≡ number = omega (arith, e) in
      subst (λ (v : List ℕ). PlaysAll plays a number ys c (v ++ t)) (sym p.1)
      (subst (λ (v : S). PlaysAll plays v number ys c t) p.0 (subst (λ (n : ℕ). PlaysAll plays b n ys c t) same q))
  PlaysAll-then (x ∷ xs) ys a b c number next s t e p q = (
    p.0,
    p.1,
    p.2 ++ t,
    p.3,
    PlaysAll-then xs ys p.0 b c (number + 1) next p.2 t (omega (arith, e)) p.4 q,
    ap (λ v. v ++ t) p.5 ∙ append_assoc p.1 p.2 t,
  )

  -- ---- where playing stops

  StopsAt-own : (old new : S) (number : ℕ) (lines others : List (List ℕ)) (text written : List ℕ) (fault : PlayFault)
      → lines ≡ text ∷ others → IsOfLine number (Err fault) → plays old number text (Err fault) new written
      → StopsAt plays old number lines fault new written
  StopsAt-own old new number lines others text written (Trace line fault) e place h = (place, inl (text, others, e, h))
  StopsAt-own old new number lines others text written NoMemory e place h = inr (text, others, e, h)
  StopsAt-own old new number lines others text written Write e place h = inr (Write, (text, others, e, h))
  StopsAt-own old new number lines others text written Read e place h = absurd place

  IsCutShort-stop : (old new : S) (number : ℕ) (lines : List (List ℕ)) (fault : PlayFault) (written : List ℕ)
      → StopsAt plays old number lines fault new written → IsCutShort plays old number lines new written
  IsCutShort-stop old new number lines (Trace line fault) written h =
      elim h.1 [ inl own ↦ inr (Trace line fault, own) | inr long ↦ inl long.2 ]
  IsCutShort-stop old new number lines NoMemory written h = elim h [ inl none ↦ inl none | inr own ↦ inr (NoMemory, own) ]
  IsCutShort-stop old new number lines Write written h = h
  IsCutShort-stop old new number lines Read written h = inl h

  pub StopsIn-first : (old new : S) (number : ℕ) (lines : List (List ℕ)) (fault : PlayFault) (written : List ℕ)
      → StopsAt plays old number lines fault new written → StopsIn plays old number lines fault new written
  StopsIn-first old new number lines fault written h =
      let same : number ≡ number + 0 = omega arith in
      record {
        texts = [];
        rest = lines;
        mid = old;
        before = [];
        after = written;
        parted = refl;
        played = (refl, refl);
        stops = subst (λ (n : ℕ). StopsAt plays old n lines fault new written) same h;
        joined = refl;
      }

  -- lines that are played, and no further one is
  StopsIn-after : (old new : S) (number : ℕ) (texts rest lines : List (List ℕ)) (written : List ℕ) → lines ≡ texts ++ rest
      → PlaysAll plays old number texts new written → StopsIn plays old number lines Write new written
  StopsIn-after old new number texts rest lines written e h = record {
    texts = texts;
    rest = rest;
    mid = new;
    before = written;
    after = [];
    parted = e;
    played = h;
    stops = inl (refl, refl);
    joined = sym (append-nil written);
  }

  -- the answers couldn't be handed on
  StopsIn-write : (old new : S) (number : ℕ) (lines : List (List ℕ)) (fault : PlayFault) (written : List ℕ)
      → StopsIn plays old number lines fault new written → StopsIn plays old number lines Write new written
  StopsIn-write old new number lines fault written h = record {
    texts = h.texts;
    rest = h.rest;
    mid = h.mid;
    before = h.before;
    after = h.after;
    parted = h.parted;
    played = h.played;
    stops = IsCutShort-stop h.mid new (number + length h.texts) h.rest fault h.after h.stops;
    joined = h.joined;
  }

  -- ---- all lines, or up to where it stops

  -- further lines after some that were played
  pub PlaysEach-after : (a b c : S) (number next : ℕ) (xs rest lines : List (List ℕ)) (s t : List ℕ)
      (result : Result (Unit {0}) PlayFault) → next ≡ number + length xs → PlaysAll plays a number xs b s → lines ≡ xs ++ rest
      → PlaysEach plays b next rest result c t → PlaysEach plays a number lines result c (s ++ t)
  PlaysEach-after a b c number next xs rest lines s t (Ok _) e p l q =
      subst (λ (ls : List (List ℕ)). PlaysAll plays a number ls c (s ++ t)) (sym l) (PlaysAll-then xs rest a b c number next s t e p q)
  PlaysEach-after a b c number next xs rest lines s t (Err fault) e p l q =
      let same : next + length q.texts ≡ number + length (xs ++ q.texts) = omega (arith, e, length-append xs q.texts) in
      record {
        texts = xs ++ q.texts;
        rest = q.rest;
        mid = q.mid;
        before = s ++ q.before;
        after = q.after;
        parted = l ∙ ap (λ ls. xs ++ ls) q.parted ∙ sym (lines_assoc xs q.texts q.rest);
        played = PlaysAll-then xs q.texts a b q.mid number next s q.before e p q.played;
        stops = subst (λ (n : ℕ). StopsAt plays q.mid n q.rest fault c q.after) same q.stops;
        joined = ap (λ v. s ++ v) q.joined ∙ sym (append_assoc s q.before q.after);
      }

  pub PlaysEach-none : (old : S) (number : ℕ) (octets : List ℕ) → octets ≡ []
      → PlaysEach plays old number (lines_of octets) (Ok tt) old []
  PlaysEach-none old number octets e =
      subst (λ (ls : List (List ℕ)). PlaysAll plays old number ls old []) (sym (ap lines_of e ∙ lines_of-nil)) (refl, refl)

  -- a last line, without its LF
  pub PlaysEach-one : (old new : S) (number : ℕ) (text written : List ℕ) (result : Result (Unit {0}) PlayFault) → breaks text ≡ 0
      → 0 < length text → IsOfLine number result → plays old number text result new written
      → PlaysEach plays old number (lines_of text) result new written
  PlaysEach-one old new number text written (Ok _) none some place h =
      subst (λ (ls : List (List ℕ)). PlaysAll plays old number ls new written) (sym (lines_of-one text none some))
      (PlaysAll-one old new number text written h)
  PlaysEach-one old new number text written (Err fault) none some place h =
      StopsIn-first old new number (lines_of text) fault written
      (StopsAt-own old new number (lines_of text) [] text written fault (lines_of-one text none some) place h)

  pub PlaysEach-write : (old new : S) (number : ℕ) (lines : List (List ℕ)) (written : List ℕ) (result : Result (Unit {0}) PlayFault)
      → PlaysEach plays old number lines result new written → PlaysEach plays old number lines (Err Write) new written
  PlaysEach-write old new number lines written (Ok _) h = StopsIn-after old new number lines [] lines written (sym (lines_nil lines)) h
  PlaysEach-write old new number lines written (Err fault) h = StopsIn-write old new number lines fault written h

  -- ---- pieces

  pub Feeds-none : (player : S) (line : LineUnderWay) → IsReady line.octets.items → Feeds plays player line [] (Ok tt) player line []
  Feeds-none player line ready = (
    [],
    (refl, refl),
    EndsLines-part line.octets.items [] line.octets.items refl (sym (append-nil line.octets.items)),
    ready,
    omega arith,
  )

  -- one after another
  pub Feeds-then : (a b c : S) (old mid new : LineUnderWay) (s t first second : List ℕ) (result : Result (Unit {0}) PlayFault)
      → Feeds plays a old first (Ok tt) b mid s → Feeds plays b mid second result c new t
      → Feeds plays a old (first ++ second) result c new (s ++ t)
  Feeds-then a b c old mid new s t first second (Ok _) p q = (
    p.0 ++ q.0,
    PlaysAll-then p.0 q.0 a b c old.number mid.number s t p.4 p.1 q.1,
    EndsLines-then old.octets.items mid.octets.items new.octets.items first second p.0 q.0 p.2 q.2,
    q.3,
    omega (arith, p.4, q.4, length-append p.0 q.0),
  )
  Feeds-then a b c old mid new s t first second (Err fault) p q = (
    (λ more. PlaysEach-after a b c old.number mid.number p.0 (lines_of (mid.octets.items ++ (second ++ more)))
        (lines_of (old.octets.items ++ ((first ++ second) ++ more))) s t (Err fault) p.4 p.1
        (ap (λ v. lines_of (old.octets.items ++ v)) (append_assoc first second more) ∙ p.2.0 (second ++ more)) (q.0 more)),
    IsSeen-le (mid.number + breaks second) (old.number + breaks (first ++ second)) fault
        (omega (arith, p.4, p.2.1, breaks-append first second)) q.1,
  )

  -- what comes after a fault is not looked at
  pub Feeds-stop : (a b : S) (old new : LineUnderWay) (written first second : List ℕ) (fault : PlayFault)
      → Feeds plays a old first (Err fault) b new written → Feeds plays a old (first ++ second) (Err fault) b new written
  Feeds-stop a b old new written first second fault p = (
    (λ more. subst (λ (v : List ℕ). StopsIn plays a old.number (lines_of (old.octets.items ++ v)) fault b written)
        (sym (append_assoc first second more)) (p.0 (second ++ more))),
    IsSeen-le (old.number + breaks first) (old.number + breaks (first ++ second)) fault
        (omega (arith, breaks-append first second)) p.1,
  )

  pub Feeds-piece : (a b : S) (old new : LineUnderWay) (written piece same : List ℕ) (result : Result (Unit {0}) PlayFault)
      → piece ≡ same → Feeds plays a old piece result b new written → Feeds plays a old same result b new written
  Feeds-piece a b old new written piece same result e h =
      let Fed : List ℕ → Type 0 = λ v. Feeds plays a old v result b new written in subst Fed e h

  -- the answers couldn't be handed on
  pub Feeds-write : (a b : S) (old new : LineUnderWay) (written piece : List ℕ) (result : Result (Unit {0}) PlayFault)
      → Feeds plays a old piece result b new written → Feeds plays a old piece (Err Write) b new written
  Feeds-write a b old new written piece (Ok _) p = (
    (λ more. StopsIn-after a b old.number p.0 (lines_of (new.octets.items ++ more))
        (lines_of (old.octets.items ++ (piece ++ more))) written (p.2.0 more) p.1),
    tt,
  )
  Feeds-write a b old new written piece (Err fault) p =
      ((λ more. StopsIn-write a b old.number (lines_of (old.octets.items ++ (piece ++ more))) fault written (p.0 more)), tt)

  -- a line that is done
  pub Feeds-line : (a b : S) (old new : LineUnderWay) (written piece text : List ℕ)
      → EndsLines old.octets.items piece (text ∷ []) [] → plays a old.number text (Ok tt) b written → new.number ≡ old.number + 1
      → new.octets.items ≡ [] → Feeds plays a old piece (Ok tt) b new written
  Feeds-line a b old new written piece text ends h n e = (
    text ∷ [],
    PlaysAll-one a b old.number text written h,
    EndsLines-left old.octets.items old.octets.items piece [] new.octets.items (text ∷ []) refl (sym e) ends,
    (ap breaks e, omega (arith, ap length e)),
    n,
  )

  -- a line that is not
  pub Feeds-fault : (a b : S) (old new : LineUnderWay) (written piece text : List ℕ) (fault : PlayFault)
      → EndsLines old.octets.items piece (text ∷ []) [] → IsOfLine old.number (Err fault)
      → plays a old.number text (Err fault) b written → Feeds plays a old piece (Err fault) b new written
  Feeds-fault a b old new written piece text fault ends place h = (
    (λ more.
        let lines = lines_of (old.octets.items ++ (piece ++ more)) in
        StopsIn-first a b old.number lines fault written
        (StopsAt-own a b old.number lines (lines_of more) text written fault (ends.0 more) place h)),
    IsSeen-own old.number (old.number + breaks piece) fault (omega (arith, ends.1)) place,
  )

  -- a part of a line
  pub Feeds-part : (player : S) (old new : LineUnderWay) (part : List ℕ) → IsReady old.octets.items → new.number ≡ old.number
      → GoesOnBy part old.octets.items new.octets.items → Feeds plays player old part (Ok tt) player new []
  Feeds-part player old new part ready n goes_on = (
    [],
    (refl, refl),
    EndsLines-part old.octets.items part new.octets.items goes_on.0 goes_on.1,
    (ap breaks goes_on.1 ∙ omega (arith, breaks-append old.octets.items part, ready.0, goes_on.0), goes_on.2),
    omega (arith, n),
  )

  -- a piece that isn't taken
  pub Feeds-part_fault : (player : S) (old new : LineUnderWay) (piece left : List ℕ) (fault : PlayFault) → IsReady old.octets.items
      → TakesPart old.number old.octets.items piece (Err fault) left → Feeds plays player old piece (Err fault) player new []
  Feeds-part_fault player old new piece left (Trace line fault) ready h = (
    (λ more.
        let lines = lines_of (old.octets.items ++ (piece ++ more)) in
        StopsIn-first player player old.number lines (Trace line fault) []
        (h.0, inr (h.1, too_long_by old.octets.items piece more h.2.0 ready.0 h.2.1 h.2.2, (refl, refl)))),
    inl h.1,
  )
  Feeds-part_fault player old new piece left NoMemory ready h = (
    (λ more. StopsIn-first player player old.number (lines_of (old.octets.items ++ (piece ++ more))) NoMemory [] (inl (refl, refl))),
    tt,
  )
  Feeds-part_fault player old new piece left Write ready h = absurd h
  Feeds-part_fault player old new piece left Read ready h = absurd h
