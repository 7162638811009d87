-- A run goes on by one event.
use Rattle.std.proofs.Common.{◌≡◌, ◌≢◌, List, [], ◌∷◌, ◌++◌, length, Bool, true, false, Option, Some, None, Result, Ok, Err, refl, sym, ◌∙◌, ap, arith}
use Rattle.std.specs.Prelude.{if◌then◌else◌, IfOk, OnOk, IfErr, OnErr}
use Rattle.mme_core.specs.declared.event.Event.{Event}
use Rattle.mme_core.specs.declared.event.StepFault.{StepFault}
use Rattle.mme_core.specs.declared.event.StepFault.TheVariants.{NotUp, AlreadyUp, ClockSpent, NoMemory, UnknownImsi}
use Rattle.mme_answering.specs.declared.out.Out.{Out}
use Rattle.mme_core.specs.World.{World, event_fault, world_moved, outputs, reply, reply_of, replies, unless, world_after, world_run, is_no_memory, events_taken, replies_given}

-- a refused event changes nothing
refused_by : (o : Option StepFault) (w v : World) (outs : List Out) (fault : StepFault) → reply_of o outs ≡ Err fault
    → unless o w v ≡ w
refused_by None w v outs fault h = cc
refused_by (Some x) w v outs fault h = refl

pub refused_stays : (w : World) (e : Event) (fault : StepFault) → reply w e ≡ Err fault → world_after w e ≡ w
refused_stays w e fault h = refused_by (event_fault w.sight e) w (world_moved w e) (outputs w e) fault h

push_cases : {X : Type 0} (b c : Bool) (x y : X) (xs ys : List X) → ys ≡ (if c then xs else xs ++ y ∷ [])
    → (if b then ys else x ∷ ys) ≡ (if c then (if b then xs else x ∷ xs) else (if b then xs else x ∷ xs) ++ y ∷ [])
push_cases true true x y xs ys h = h
push_cases true false x y xs ys h = h
push_cases false true x y xs ys h = ap (λ zs. x ∷ zs) h
push_cases false false x y xs ys h = ap (λ zs. x ∷ zs) h

pub given_push : (rs : List (Result (List Out) StepFault)) (r : Result (List Out) StepFault)
    → replies_given (rs ++ r ∷ []) ≡ (if is_no_memory r then replies_given rs else replies_given rs ++ r ∷ [])
given_push [] r = refl
given_push (x ∷ rs) r =
    push_cases (is_no_memory x) (is_no_memory r) x r (replies_given rs) (replies_given (rs ++ r ∷ [])) (given_push rs r)

pub taken_push : (es : List Event) (e : Event) (rs : List (Result (List Out) StepFault)) (r : Result (List Out) StepFault)
    → length es ≡ length rs
    → events_taken (es ++ e ∷ []) (rs ++ r ∷ []) ≡ (if is_no_memory r then events_taken es rs else events_taken es rs ++ e ∷ [])
taken_push [] e [] r h = refl
taken_push [] e (x ∷ rs) r h = absurd (omega arith)
taken_push (y ∷ es) e [] r h = absurd (omega arith)
taken_push (y ∷ es) e (x ∷ rs) r h =
    push_cases (is_no_memory x) (is_no_memory r) y e (events_taken es rs) (events_taken (es ++ e ∷ []) (rs ++ r ∷ []))
    (taken_push es e rs r (omega arith))

pub replies_push : (w : World) (es : List Event) (e : Event)
    → replies w (es ++ e ∷ []) ≡ replies w es ++ reply (world_run w es) e ∷ []
replies_push w [] e = refl
replies_push w (x ∷ es) e = ap (λ zs. reply w x ∷ zs) (replies_push (world_after w x) es e)

pub world_run_push : (w : World) (es : List Event) (e : Event) → world_run w (es ++ e ∷ []) ≡ world_after (world_run w es) e
world_run_push w [] e = refl
world_run_push w (x ∷ es) e = world_run_push (world_after w x) es e

-- the step of a run: the reply is the world's and the state with it, or both are left out
pub record Ran (w : World) (es : List Event) (rs : List (Result (List Out) StepFault)) (now : World) : Type 0 where
  pub replies : replies_given rs ≡ replies w (events_taken es rs)
  pub state : now ≡ world_run w (events_taken es rs)

ran_kept : (w : World) (es : List Event) (rs : List (Result (List Out) StepFault)) (now next : World) (e : Event) (r : Result (List Out) StepFault) → length es ≡ length rs → Ran w es rs now → is_no_memory r ≡ true → next ≡ now → Ran w (es ++ e ∷ []) (rs ++ r ∷ []) next
ran_kept w es rs now next e r len h t same =
    let g : replies_given (rs ++ r ∷ []) ≡ replies_given rs =
    given_push rs r ∙ ap (λ b. if b then replies_given rs else replies_given rs ++ r ∷ []) t in
    let k : events_taken (es ++ e ∷ []) (rs ++ r ∷ []) ≡ events_taken es rs =
    taken_push es e rs r len ∙ ap (λ b. if b then events_taken es rs else events_taken es rs ++ e ∷ []) t in
    record { replies = g ∙ h.replies ∙ ap (replies w) (sym k); state = same ∙ h.state ∙ ap (world_run w) (sym k) }

ran_on : (w : World) (es : List Event) (rs : List (Result (List Out) StepFault)) (now next : World) (e : Event) (r : Result (List Out) StepFault) → length es ≡ length rs → Ran w es rs now → is_no_memory r ≡ false → reply now e ≡ r → next ≡ world_after now e → Ran w (es ++ e ∷ []) (rs ++ r ∷ []) next
ran_on w es rs now next e r len h t own after =
    let g : replies_given (rs ++ r ∷ []) ≡ replies_given rs ++ r ∷ [] =
    given_push rs r ∙ ap (λ b. if b then replies_given rs else replies_given rs ++ r ∷ []) t in
    let k : events_taken (es ++ e ∷ []) (rs ++ r ∷ []) ≡ events_taken es rs ++ e ∷ [] =
    taken_push es e rs r len ∙ ap (λ b. if b then events_taken es rs else events_taken es rs ++ e ∷ []) t in
    record {
      replies =
          g ∙ ap (λ zs. zs ++ r ∷ []) h.replies
          ∙ ap (λ x. replies w (events_taken es rs) ++ x ∷ []) (sym own ∙ ap (λ v. reply v e) h.state)
          ∙ sym (replies_push w (events_taken es rs) e) ∙ ap (replies w) (sym k);
      state = after ∙ ap (λ v. world_after v e) h.state ∙ sym (world_run_push w (events_taken es rs) e) ∙ ap (world_run w) (sym k);
    }

ran_refused : (w : World) (es : List Event) (rs : List (Result (List Out) StepFault)) (now next : World) (e : Event) (fault : StepFault) → length es ≡ length rs → Ran w es rs now → is_no_memory (Err fault) ≡ false → reply now e ≡ Err fault → next ≡ now → Ran w (es ++ e ∷ []) (rs ++ Err fault ∷ []) next
ran_refused w es rs now next e fault len h t own same =
    ran_on w es rs now next e (Err fault) len h t own (same ∙ sym (refused_stays now e fault own))

pub ran_more : (w : World) (es : List Event) (rs : List (Result (List Out) StepFault)) (now next : World) (e : Event) (r : Result (List Out) StepFault) → length es ≡ length rs → Ran w es rs now
    → IfOk r (λ outs. reply now e ≡ Ok outs) → OnOk r (next ≡ world_after now e)
    → IfErr r (λ fault. fault ≢ NoMemory → reply now e ≡ Err fault) → OnErr r (next ≡ now)
    → Ran w (es ++ e ∷ []) (rs ++ r ∷ []) next
ran_more w es rs now next e (Ok outs) len h a b c d = ran_on w es rs now next e (Ok outs) len h refl a b
ran_more w es rs now next e (Err NoMemory) len h a b c d = ran_kept w es rs now next e (Err NoMemory) len h refl d
ran_more w es rs now next e (Err NotUp) len h a b c d = ran_refused w es rs now next e NotUp len h refl (c (λ k. cc)) d
ran_more w es rs now next e (Err AlreadyUp) len h a b c d = ran_refused w es rs now next e AlreadyUp len h refl (c (λ k. cc)) d
ran_more w es rs now next e (Err ClockSpent) len h a b c d = ran_refused w es rs now next e ClockSpent len h refl (c (λ k. cc)) d
ran_more w es rs now next e (Err UnknownImsi) len h a b c d = ran_refused w es rs now next e UnknownImsi len h refl (c (λ k. cc)) d
