-- Ticks that are answered, one after another.
use Rattle.std.proofs.Common.{◌≡◌, subst, ℕ, zero, suc, ◌+◌, ◌<◌, ◌-◌, List, [], ◌++◌, true, false, Result, Ok, Err, refl, sym, ap, ◌∙◌, append_assoc, append-nil, arith}
use Rattle.std.specs.Prelude.{is_ok}
use Rattle.mme_core.specs.World.{World, reply, world_after}
use Rattle.mme_core.specs.declared.event.Event.TheVariants as event
use Rattle.mme_core.specs.declared.event.StepFault.{StepFault}
use Rattle.mme_answering.specs.declared.out.Out.{Out}
use Rattle.trace_answers.specs.Words.{answers_of}
use Rattle.trace_progress.specs.Effects.{left_by, tick_then, ticked, with_text_before}
use Rattle.trace_progress.specs.Replies.{reply_text}
use Rattle.c_session.specs.Kept.{Reply}
use Rattle.c_session.specs.Texts.{HasPassed, IsFor, IsShort, stopped}
use Rattle.c_session.proofs.Saying.{left_short}
use Rattle.c_session.specs.declared.said.Short.{Short}

-- after so many ticks: what they wrote, and the world that they left
abbrev pub Ticking : World → ℕ → World → List ℕ → Type 0
Ticking old done mid written = (n : ℕ) → ticked (done + n) old ≡ with_text_before written (ticked n mid)

ticked-zero : (w : World) → ticked zero w ≡ (w, [])
unfolding ticked
ticked-zero w = refl

ticked-suc : (n : ℕ) (w : World) → ticked (suc n) w ≡ tick_then w (reply w event.Tick) (λ after. ticked n after)
unfolding ticked
ticked-suc n w = refl

said-said : (a b : List ℕ) (done : World × List ℕ) → with_text_before a (with_text_before b done) ≡ with_text_before (a ++ b) done
said-said a b done = ap (λ (v : List ℕ). let r : World × List ℕ = (done.0, v) in r) (sym (append_assoc a b done.1))

said-end : (a : List ℕ) (w : World) → with_text_before a (w, []) ≡ (w, a)
said-end a w = ap (λ (v : List ℕ). let r : World × List ℕ = (w, v) in r) (append-nil a)

pub Ticking-start : (w : World) → Ticking w 0 w []
Ticking-start w n = let same : 0 + n ≡ n = omega arith in ap (λ m. ticked m w) same

-- the ticks so far
ticked_so_far : (old mid : World) (done : ℕ) (written : List ℕ) → Ticking old done mid written → ticked done old ≡ (mid, written)
ticked_so_far old mid done written t =
    let sum : done ≡ done + zero = omega arith in
    ap (λ m. ticked m old) sum ∙ t zero ∙ ap (with_text_before written) (ticked-zero mid) ∙ said-end written mid

pub Ticking-end : (old mid : World) (done count : ℕ) (written : List ℕ) → Ticking old done mid written → done ≡ count
    → ticked count old ≡ (mid, written)
Ticking-end old mid done count written t all = ap (λ m. ticked m old) (sym all) ∙ ticked_so_far old mid done written t

taken-then : (w : World) (r : Result (List Out) StepFault) (others : World → World × List ℕ) → is_ok r ≡ true
    → tick_then w r others ≡ with_text_before (reply_text r) (others (left_by w event.Tick r))
taken-then w (Ok outs) others h = refl
taken-then w (Err fault) others h = cc h

refused-then : (w : World) (r : Result (List Out) StepFault) (others : World → World × List ℕ) → is_ok r ≡ false
    → tick_then w r others ≡ (left_by w event.Tick r, reply_text r)
refused-then w (Ok outs) others h = cc h
refused-then w (Err fault) others h = refl

-- the ticks from the next one on
next : (old mid : World) (done : ℕ) (written : List ℕ) → Ticking old done mid written
    → (n : ℕ)
    → ticked (done + suc n) old ≡ with_text_before written (tick_then mid (reply mid event.Tick) (λ after. ticked n after))
next old mid done written t n = t (suc n) ∙ ap (with_text_before written) (ticked-suc n mid)

pub Ticking-tick : (old mid new : World) (done : ℕ) (written : List ℕ) → Ticking old done mid written
    → is_ok (reply mid event.Tick) ≡ true → new ≡ left_by mid event.Tick (reply mid event.Tick)
    → Ticking old (done + 1) new (written ++ reply_text (reply mid event.Tick))
Ticking-tick old mid new done written t h e n =
    let r = reply mid event.Tick in
    let sum : done + 1 + n ≡ done + suc n = omega arith in
    ap (λ m. ticked m old) sum ∙ next old mid done written t n
    ∙ ap (with_text_before written) (taken-then mid r (λ after. ticked n after) h)
    ∙ said-said written (reply_text r) (ticked n (left_by mid event.Tick r))
    ∙ ap (λ w. with_text_before (written ++ reply_text r) (ticked n w)) (sym e)

pub Ticking-refused : (old mid new : World) (done count : ℕ) (written : List ℕ) → Ticking old done mid written → done < count
    → is_ok (reply mid event.Tick) ≡ false → new ≡ left_by mid event.Tick (reply mid event.Tick)
    → ticked count old ≡ (new, written ++ reply_text (reply mid event.Tick))
Ticking-refused old mid new done count written t few h e =
    let r = reply mid event.Tick in
    let n = count - done - 1 in
    let sum : count ≡ done + suc n = omega (arith, few) in
    let pair : World → World × List ℕ = λ w. (w, written ++ reply_text r) in
    ap (λ m. ticked m old) sum ∙ next old mid done written t n
    ∙ ap (with_text_before written) (refused-then mid r (λ after. ticked n after) h) ∙ ap pair (sym e)

-- one tick more, whatever it is answered
one_more : (mid : World) (r : Result (List Out) StepFault)
    → tick_then mid r (λ after. ticked zero after) ≡ (left_by mid event.Tick r, reply_text r)
one_more mid (Ok outs) =
    ap (with_text_before (answers_of outs)) (ticked-zero (world_after mid event.Tick))
    ∙ said-end (answers_of outs) (world_after mid event.Tick)
one_more mid (Err fault) = refl

ticked_once_more : (old mid : World) (done : ℕ) (written : List ℕ) → Ticking old done mid written
    → ticked (done + 1) old ≡ (left_by mid event.Tick (reply mid event.Tick), written ++ reply_text (reply mid event.Tick))
ticked_once_more old mid done written t =
    let one : done + 1 ≡ done + suc zero = omega arith in
    ap (λ m. ticked m old) one ∙ next old mid done written t zero ∙ ap (with_text_before written) (one_more mid (reply mid event.Tick))

-- a tick that isn't answered
pub ticks_short : (old mid new : World) (done count room : ℕ) (written said said' : List ℕ) (short : Short) (replies : List Reply)
    → Ticking old done mid written → done < count → IsShort mid event.Tick short room said new replies → said' ≡ said
    → HasPassed (λ n. ticked n old) count (stopped short done) room said' new replies written
ticks_short old mid new done count room written said said' short replies t few h same = record {
  before = mid;
  after = left_by mid event.Tick (reply mid event.Tick);
  next = reply_text (reply mid event.Tick);
  within = few;
  passed = ticked_so_far old mid done written t;
  coming = ticked_once_more old mid done written t;
  why = subst (λ (v : List ℕ). IsFor short.refusal room v (reply_text (reply mid event.Tick))) (sym same) h.0;
  leaves = left_short mid new event.Tick short.unsaid replies h.1;
}
