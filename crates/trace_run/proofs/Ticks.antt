-- Ticks, one after another.
use Rattle.std.proofs.Common.{◌≡◌, ℕ, zero, suc, ◌+◌, ◌<◌, ◌-◌, List, [], ◌++◌, true, false, Result, Ok, Err, refl, sym, ap, ◌∙◌, append_assoc, append-nil, arith}
use Rattle.std.specs.Prelude.{is_ok}
use Rattle.mme_core.specs.World.{World, reply}
use Rattle.mme_core.specs.declared.event.Event.TheVariants as event
use Rattle.mme_core.specs.declared.event.StepFault.{StepFault}
use Rattle.mme_core.specs.mme_answering.declared.out.Out.{Out}
use Rattle.trace_progress.specs.Replies.{reply_text}
use Rattle.trace_progress.specs.Effects.{left_by, with_text_before, tick_then, ticked}
use Rattle.trace_progress.specs.Acts.{IsPrefix}
use Rattle.trace_progress.specs.FrontLaws.{IsPrefix-of, IsPrefix-after}

-- after n ticks: what they wrote, and the world that they left
abbrev pub Ticking : World → ℕ → World → List ℕ → Type 0
Ticking old done mid written = (n : ℕ) → ticked (done + n) old ≡ with_text_before written (ticked n mid)

ticked-zero : (w : World) → ticked zero w ≡ (w, [])
unfolding ticked
ticked-zero w = refl

ticked-suc : (n : ℕ) (w : World) → ticked (suc n) w ≡ tick_then w (reply w event.Tick) (λ after. ticked n after)
unfolding ticked
ticked-suc n w = refl

said-nil : (done : World × List ℕ) → with_text_before [] done ≡ done
said-nil done = refl

said-said : (a b : List ℕ) (done : World × List ℕ) → with_text_before a (with_text_before b done) ≡ with_text_before (a ++ b) done
said-said a b done = ap (λ (v : List ℕ). let r : World × List ℕ = (done.0, v) in r) (sym (append_assoc a b done.1))

said-end : (a : List ℕ) (w : World) → with_text_before a (w, []) ≡ (w, a)
said-end a w = ap (λ (v : List ℕ). let r : World × List ℕ = (w, v) in r) (append-nil a)

pub Ticking-start : (w : World) → Ticking w 0 w []
Ticking-start w n = ap (λ m. ticked m w) (omega arith) ∙ sym (said-nil (ticked n w))

pub Ticking-end : (old mid : World) (done count : ℕ) (written : List ℕ) → Ticking old done mid written → done ≡ count
    → ticked count old ≡ (mid, written)
Ticking-end old mid done count written t all =
    let sum : count ≡ done + zero = omega (arith, all) in
    ap (λ m. ticked m old) sum ∙ t zero ∙ ap (with_text_before written) (ticked-zero mid) ∙ said-end written mid

taken-then : (w : World) (r : Result (List Out) StepFault) (others : World → World × List ℕ) → is_ok r ≡ true
    → tick_then w r others ≡ with_text_before (reply_text r) (others (left_by w event.Tick r))
taken-then w (Ok outs) others h = refl
taken-then w (Err fault) others h = cc h

refused-then : (w : World) (r : Result (List Out) StepFault) (others : World → World × List ℕ) → is_ok r ≡ false
    → tick_then w r others ≡ (left_by w event.Tick r, reply_text r)
refused-then w (Ok outs) others h = cc h
refused-then w (Err fault) others h = refl

-- the ticks from the next one on
next : (old mid : World) (done : ℕ) (written : List ℕ) → Ticking old done mid written
    → (n : ℕ)
    → ticked (done + suc n) old ≡ with_text_before written (tick_then mid (reply mid event.Tick) (λ after. ticked n after))
next old mid done written t n = t (suc n) ∙ ap (with_text_before written) (ticked-suc n mid)

pub Ticking-tick : (old mid new : World) (done : ℕ) (written added : List ℕ) → Ticking old done mid written
    → is_ok (reply mid event.Tick) ≡ true
    → new ≡ left_by mid event.Tick (reply mid event.Tick) → added ≡ reply_text (reply mid event.Tick)
    → Ticking old (done + 1) new (written ++ added)
Ticking-tick old mid new done written added t h e a n =
    let r = reply mid event.Tick in
    let sum : done + 1 + n ≡ done + suc n = omega arith in
    ap (λ m. ticked m old) sum ∙ next old mid done written t n
    ∙ ap (with_text_before written) (taken-then mid r (λ after. ticked n after) h)
    ∙ said-said written (reply_text r) (ticked n (left_by mid event.Tick r))
    ∙ ap (λ v. with_text_before (written ++ v) (ticked n (left_by mid event.Tick r))) (sym a)
    ∙ ap (λ w. with_text_before (written ++ added) (ticked n w)) (sym e)

pub Ticking-refused : (old mid new : World) (done count : ℕ) (written added : List ℕ) → Ticking old done mid written → done < count
    → is_ok (reply mid event.Tick) ≡ false → new ≡ left_by mid event.Tick (reply mid event.Tick)
    → added ≡ reply_text (reply mid event.Tick)
    → ticked count old ≡ (new, written ++ added)
Ticking-refused old mid new done count written added t few h e a =
    let r = reply mid event.Tick in
    let n = count - done - 1 in
    let sum : count ≡ done + suc n = omega (arith, few) in
    let pair : World → List ℕ → World × List ℕ = λ w v. (w, v) in
    ap (λ m. ticked m old) sum ∙ next old mid done written t n
    ∙ ap (with_text_before written) (refused-then mid r (λ after. ticked n after) h)
    ∙ ap (λ v. pair (left_by mid event.Tick r) (written ++ v)) (sym a)
    ∙ ap (λ w. pair w (written ++ added)) (sym e)

tick-front : (w : World) (r : Result (List Out) StepFault) (others : World → World × List ℕ)
    → IsPrefix (reply_text r) ((tick_then w r others).1)
tick-front w (Ok outs) others = ((others (left_by w event.Tick (Ok outs))).1, refl)
tick-front w (Err fault) others = ([], sym (append-nil (reply_text (Err fault))))

-- what is written up to the next tick's answer stands at the front of the text
pub Ticking-front : (old mid : World) (done count : ℕ) (written : List ℕ) → Ticking old done mid written → done < count
    → IsPrefix (written ++ reply_text (reply mid event.Tick)) ((ticked count old).1)
Ticking-front old mid done count written t few =
    let r = reply mid event.Tick in
    let n = count - done - 1 in
    let sum : count ≡ done + suc n = omega (arith, few) in
    let all : ticked count old ≡ with_text_before written (tick_then mid r (λ after. ticked n after)) =
    ap (λ m. ticked m old) sum ∙ next old mid done written t n in
    IsPrefix-of _ _ _ (ap (λ (v : World × List ℕ). v.1) (sym all))
    (IsPrefix-after written (reply_text r) _ (tick-front mid r (λ after. ticked n after)))
