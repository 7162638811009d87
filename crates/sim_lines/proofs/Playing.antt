-- What calls make of the scene, one after another.
use Rattle.std.proofs.Common.{◌≡◌, ℕ, suc, ◌+◌, ◌-◌, ◌<◌, ◌≤◌, ◌==◌, nat_lt, Bool, true, false, List, [], ◌∷◌, ◌++◌, length, take, get_or, Option, Some, None, Result, Ok, Err, OnOk, inl, inr, refl, sym, ap, subst, ◌∙◌, add-one, append-nil, append_assoc, length-append, arith}
use Rattle.std.specs.Prelude.{◌⊎◌, is_some, IsNone, IsSome, if◌then◌else◌}
use Rattle.std.proofs.lemmas.Bool.{cases_lt}
use Rattle.std.proofs.lemmas.Bool.Decides.{nat_tests}
use Rattle.std.proofs.lemmas.List.{take_all, take_more, take-append-le}
use Rattle.mme_core.specs.World.{fresh_world}
use Rattle.mme_core.specs.declared.event.Event.{Event}
use Rattle.mme_core.specs.declared.event.Event.TheVariants as event
use Rattle.mme_core.specs.mme_answering.declared.out.Out.{Out}
use Rattle.trace_words.specs.declared.line.Line.{Line}
use Rattle.trace_words.specs.declared.line.Line.TheVariants.{Up, In}
use Rattle.trace_words.specs.Trace.{line_text}
use Rattle.trace_progress.specs.declared.progress.Progress.{Progress}
use Rattle.trace_progress.specs.declared.progress.Progress.TheVariants.{Nothing, Provisioning, Running}
use Rattle.trace_progress.specs.Effects.{in_event}
use Rattle.trace_words.specs.declared.fault.TraceFault.{TraceFault}
use Rattle.trace_words.specs.declared.fault.TraceFault.TheVariants.{NoMemory}
use Rattle.trace_words.specs.declared.act.ScriptAct.{ScriptAct}
use Rattle.trace_words.specs.declared.script_line.ScriptLine.{ScriptLine}
use Rattle.trace_words.specs.Script.{script_line_of}
use Rattle.sim_crowd.specs.declared.acted.Acted.{Acted}
use Rattle.sim_crowd.specs.declared.crowd.Crowd.{Crowd}
use Rattle.sim_crowd.specs.Acting.{Outcome, outcome, setting_up}
use Rattle.sim_crowd.specs.Hearing.{Delivered, delivering}
use Rattle.sim_crowd.specs.Stations.{site_of}
use Rattle.sim_crowd.specs.Uplinks.{UplinkView}
use Rattle.sim_printing.specs.Printed.{AfterEvent, IfSent, IsBegun, dropped_line}
use Rattle.sim_printing.specs.Shown.{RunsSame, ShowsEvent, ShowsStates}
use Rattle.sim_lines.specs.Turns.{PlaysAnswers, PlaysQueue, Scene, Sending, Turned, answering, delivered_then, delivering_each, delivering_sent, message_sending, message_turn, most_answers, no_sending, sending, sending_as, turned_then, turns, uplink_of, with_crowd, with_dropped}
use Rattle.sim_lines.specs.Plays.{PlaysAct, PlaysActed, PlaysConnection, PlaysLine, PlaysOutcome, PlaysSaid, PlaysText, PlaysUp, StopsTicks, TakesTicks, acted_sending, connecting, outcome_sending, set_up_sending, showing, tick_sending}

abbrev pub scene : Progress → Crowd → List ℕ → Scene
scene progress crowd page = record { progress = progress; crowd = crowd; page = page }

abbrev pub turned_as : List UplinkView → Scene → Turned
turned_as sent s = record { sent = sent; scene = s }

-- ---- the MME's turn

scene_is : (crowd : Crowd) (sent sent_is : Option (List Out)) (new new_is : Progress) (after after_is : List ℕ) → sent ≡ sent_is
    → new ≡ new_is → after ≡ after_is → sending_as sent_is (scene new_is crowd after_is) ≡ sending_as sent (scene new crowd after)
scene_is crowd sent sent_is new new_is after after_is s n a =
    ap (λ v. sending_as v (scene new_is crowd after_is)) (sym s) ∙ ap (λ v. sending_as sent (scene v crowd after_is)) (sym n)
    ∙ ap (λ v. sending_as sent (scene new crowd v)) (sym a)

-- an event was played
pub sending-is : (event : Event) (line : List ℕ) (old new : Progress) (crowd : Crowd) (before after : List ℕ)
    (sent : Option (List Out)) → IsBegun old → IfSent old event sent → AfterEvent old event new
    → ShowsEvent old event line before after → sending event line (scene old crowd before) ≡ sending_as sent (scene new crowd after)
unfolding sending
sending-is event line Nothing new crowd before after sent begun s a shows = absurd begun
sending-is event line (Provisioning config p) new crowd before after sent begun s a shows =
    let w = fresh_world config p in
    scene_is crowd sent _ new _ after _ (s w refl) (a w refl) (shows w refl)
sending-is event line (Running w) new crowd before after sent begun s a shows =
    scene_is crowd sent _ new _ after _ (s w refl) (a w refl) (shows w refl)

by_length : (b : Bool) (short is : Sending) (s : Scene) → (b ≡ true → no_sending s ≡ is) → (b ≡ false → short ≡ is)
    → (if b then no_sending s else short) ≡ is
by_length true short is s f g = f refl
by_length false short is s f g = g refl

is_long : (n : ℕ) → nat_lt 40000 n ≡ true → 40000 < n
is_long n h = grind (arith, nat_tests)

is_short : (n : ℕ) → nat_lt 40000 n ≡ false → n ≤ 40000
is_short n h = grind (arith, nat_tests)

none_sent : (sent : Option (List Out)) → IsNone sent → sent ≡ None
none_sent None h = refl
none_sent (Some outs) h = absurd (cc h)

-- a message was, if it wasn't too long
pub message_sending-is : (n : ℕ) (octets : List ℕ) (old new : Progress) (crowd : Crowd) (before after : List ℕ)
    (sent : Option (List Out)) → IsBegun old
    → (length (line_text (In n octets)) ≤ 40000 → IfSent old (in_event n octets) sent)
    → (40000 < length (line_text (In n octets)) → IsNone sent)
    → (40000 < length (line_text (In n octets)) → (new ≡ old) × (after ≡ before))
    → (length (line_text (In n octets)) ≤ 40000 → AfterEvent old (in_event n octets) new)
    → (length (line_text (In n octets)) ≤ 40000 → ShowsEvent old (in_event n octets) (line_text (In n octets)) before after)
    → message_sending (uplink_of n octets) (scene old crowd before) ≡ sending_as sent (scene new crowd after)
unfolding message_sending
message_sending-is n octets old new crowd before after sent begun s none unsent a shows =
    let line = line_text (In n octets) in
    by_length (nat_lt 40000 (length line)) (sending (in_event n octets) line (scene old crowd before)) _ (scene old crowd before)
    (λ b.
    let long = is_long (length line) b in
    scene_is crowd sent _ new _ after _ (none_sent sent (none long)) (unsent long).0 (unsent long).1)
    (λ b.
    let short = is_short (length line) b in
    sending-is (in_event n octets) line old new crowd before after sent begun (s short) (a short) (shows short))

-- ---- deliveries, one after another

abbrev put : List UplinkView → Delivered → Delivered
put front d = record { sent = front ++ d.sent; crowd = d.crowd }

delivering_each-append : (xs ys : List Out) (c : Crowd)
    → delivering_each (xs ++ ys) c ≡ delivered_then (delivering_each xs c) (λ d. delivering_each ys d)
delivering_each-append [] ys c = refl
delivering_each-append (x ∷ xs) ys c =
    let d = delivering x.station x.octets c in
    let mid = delivering_each xs d.crowd in
    let last = delivering_each ys mid.crowd in
    ap (put d.sent) (delivering_each-append xs ys d.crowd)
    ∙ ap (λ (v : List UplinkView). let r : Delivered = record { sent = v; crowd = last.crowd } in r)
    (sym (append_assoc d.sent mid.sent last.sent))

one_delivered : (out : Out) (c : Crowd) → delivering_each (out ∷ []) c ≡ delivering out.station out.octets c
one_delivered out c =
    let d = delivering out.station out.octets c in
    ap (λ (v : List UplinkView). let r : Delivered = record { sent = v; crowd = d.crowd } in r) (append-nil d.sent)

delivering_each-more : (outs : List Out) (i : ℕ) (out : Out) (c : Crowd) → i < length outs → out ≡ get_or outs i out
    → delivering_each (take (i + 1) outs) c
    ≡ delivered_then (delivering_each (take i outs) c) (λ d. delivering out.station out.octets d)
delivering_each-more outs i out c h e =
    let before = delivering_each (take i outs) c in
    ap (λ (xs : List Out). delivering_each xs c) (take_more outs i out h)
    ∙ delivering_each-append (take i outs) (get_or outs i out ∷ []) c
    ∙ ap (λ (o : Out). delivered_then before (λ d. delivering_each (o ∷ []) d)) (sym e)
    ∙ ap (put before.sent) (one_delivered out before.crowd)

-- the crowd and the queue, once these messages were delivered
pub record Delivers (outs : List Out) (before : Crowd) (queue : List UplinkView) (after : Crowd) (all : List UplinkView) : Type 0
  where
    pub crowd : after ≡ (delivering_each outs before).crowd
    pub queued : all ≡ queue ++ (delivering_each outs before).sent

pub Delivers-none : (before : Crowd) (queue : List UplinkView) → Delivers [] before queue before queue
Delivers-none before queue = record { crowd = refl; queued = sym (append-nil queue) }

pub Delivers-more : (outs : List Out) (i : ℕ) (out : Out) (octets : List ℕ) (before mid after : Crowd)
    (queue some all : List UplinkView) → i < length outs → out ≡ get_or outs i out → octets ≡ out.octets
    → Delivers (take i outs) before queue mid some → after ≡ (delivering out.station octets mid).crowd
    → all ≡ some ++ (delivering out.station octets mid).sent → Delivers (take (i + 1) outs) before queue after all
Delivers-more outs i out octets before mid after queue some all h e same done c q =
    let there = λ (v : List ℕ). delivering out.station v mid in
    let first = delivering_each (take i outs) before in
    let here = λ (v : Crowd). delivering out.station out.octets v in
    let more = sym (delivering_each-more outs i out before h e) in
    record {
      crowd = c ∙ ap (λ v. (there v).crowd) same ∙ ap (λ v. (here v).crowd) done.crowd ∙ ap (λ (d : Delivered). d.crowd) more;
      queued =
          q ∙ ap (λ v. some ++ (there v).sent) same ∙ ap (λ v. some ++ (here v).sent) done.crowd
          ∙ ap (λ v. v ++ (here first.crowd).sent) done.queued
          ∙ append_assoc queue first.sent (here first.crowd).sent ∙ ap (λ (d : Delivered). queue ++ d.sent) more;
    }

pub Delivers-all : (outs some : List Out) (before after : Crowd) (queue all : List UplinkView) → some ≡ outs
    → Delivers some before queue after all → Delivers outs before queue after all
Delivers-all outs some before after queue all e done = subst (λ (v : List Out). Delivers v before queue after all) e done

-- what was sent, if something was
pub delivering_sent-is : (sent : Option (List Out)) (outs given : List Out) (c : Crowd) → sent ≡ Some outs → given ≡ outs
    → delivering_each given c ≡ delivering_sent sent c
delivering_sent-is sent outs given c e same =
    ap (λ (v : List Out). delivering_each v c) same ∙ ap (λ (v : Option (List Out)). delivering_sent v c) (sym e)

-- ---- turns, one after another

abbrev put_turn : List UplinkView → Turned → Turned
put_turn front t = turned_as (front ++ t.sent) t.scene

turns-append : (us vs : List UplinkView) (s : Scene) → turns (us ++ vs) s ≡ turned_then (turns us s) (λ t. turns vs t)
turns-append [] vs s = refl
turns-append (u ∷ us) vs s =
    let t = message_turn u s in
    let mid = turns us t.scene in
    let last = turns vs mid.scene in
    ap (put_turn t.sent) (turns-append us vs t.scene)
    ∙ ap (λ (v : List UplinkView). turned_as v last.scene) (sym (append_assoc t.sent mid.sent last.sent))

one_turn : (u : UplinkView) (s : Scene) → turns (u ∷ []) s ≡ message_turn u s
one_turn u s =
    let t = message_turn u s in
    ap (λ (v : List UplinkView). turned_as v t.scene) (append-nil t.sent)

turns-more : (us : List UplinkView) (u : UplinkView) (s : Scene)
    → turns (us ++ u ∷ []) s ≡ turned_then (turns us s) (λ t. message_turn u t)
turns-more us u s =
    let before = turns us s in
    turns-append us (u ∷ []) s ∙ ap (put_turn before.sent) (one_turn u before.scene)

-- the MME's answers to a message were delivered
pub turn-is : (u : UplinkView) (s : Scene) (sent : Option (List Out)) (new : Progress) (mid crowd : Crowd) (after : List ℕ)
    → message_sending u s ≡ sending_as sent (scene new mid after) → crowd ≡ (delivering_sent sent mid).crowd
    → message_turn u s ≡ turned_as (delivering_sent sent mid).sent (scene new crowd after)
turn-is u s sent new mid crowd after e c =
    ap answering e ∙ ap (λ (v : Crowd). turned_as (delivering_sent sent mid).sent (scene new v after)) (sym c)

-- ---- a queue

-- where it stands after so many turns
pub record QueueStands (queue : List UplinkView) (old : Scene) (count : ℕ) (all : List UplinkView) (new : Scene) : Type 0 where
  pub whole : all ≡ queue ++ (turns (take count all) old).sent
  pub scene_is : new ≡ (turns (take count all) old).scene
  pub reached : count ≤ length all
  pub in_turn : (k : ℕ) → k < count → k < length (queue ++ (turns (take k all) old).sent)

pub QueueStands-none : (queue : List UplinkView) (old : Scene) → QueueStands queue old 0 queue old
QueueStands-none queue old = record {
  whole = sym (append-nil queue);
  scene_is = refl;
  reached = omega arith;
  in_turn = λ k h. absurd (omega (arith, h));
}

-- of a longer queue
in_longer : (queue all more : List UplinkView) (old : Scene) (k : ℕ) → k ≤ length all
    → k < length (queue ++ (turns (take k all) old).sent) → k < length (queue ++ (turns (take k (all ++ more)) old).sent)
in_longer queue all more old k h low =
    subst (λ (us : List UplinkView). k < length (queue ++ (turns us old).sent)) (sym (take-append-le k all more h)) low

turned_more : (queue all sent : List UplinkView) (old new next : Scene) (count : ℕ) (u : UplinkView)
    → QueueStands queue old count all new → count < length all → u ≡ get_or all count u
    → message_turn u new ≡ turned_as sent next
    → turns (take (count + 1) (all ++ sent)) old ≡ turned_as ((turns (take count all) old).sent ++ sent) next
turned_more queue all sent old new next count u stands h e t =
    let before = turns (take count all) old in
    ap (λ (us : List UplinkView). turns us old) (take-append-le (count + 1) all sent (omega (arith, h)) ∙ take_more all count u h)
    ∙ ap (λ (v : UplinkView). turns (take count all ++ v ∷ []) old) (sym e)
    ∙ turns-more (take count all) u old
    ∙ ap (λ (s : Scene). put_turn before.sent (message_turn u s)) (sym stands.scene_is)
    ∙ ap (put_turn before.sent) t

-- after one turn more
pub QueueStands-more : (queue all sent longer : List UplinkView) (old new next : Scene) (count : ℕ) (u : UplinkView)
    → QueueStands queue old count all new → count < length all → u ≡ get_or all count u
    → message_turn u new ≡ turned_as sent next → longer ≡ all ++ sent → QueueStands queue old (count + 1) longer next
QueueStands-more queue all sent longer old new next count u stands h e t l =
    let before = turns (take count all) old in
    let turned = turned_more queue all sent old new next count u stands h e t in
    let done : QueueStands queue old (count + 1) (all ++ sent) next = record {
      whole =
          ap (λ v. v ++ sent) stands.whole ∙ append_assoc queue before.sent sent
          ∙ ap (λ (r : Turned). queue ++ r.sent) (sym turned);
      scene_is = ap (λ (r : Turned). r.scene) (sym turned);
      reached = omega (arith, h, length-append all sent);
      in_turn = λ k low. in_longer queue all sent old k (omega (arith, h, low)) (elim (cases_lt k count) [
        | inl less ↦ stands.in_turn k less
        | inr here ↦
            let is : count ≡ k = omega (arith, low, here) in
            subst (λ (n : ℕ). n < length (queue ++ (turns (take n all) old).sent)) is
            (subst (λ (us : List UplinkView). count < length us) stands.whole h)
      ]);
    } in
    subst (λ (us : List UplinkView). QueueStands queue old (count + 1) us next) (sym l) done

-- all were played
pub PlaysQueue-all : (queue all : List UplinkView) (old new : Scene) (count : ℕ) → QueueStands queue old count all new
    → length all ≤ count → count ≤ 64 → PlaysQueue queue old new
unfolding most_answers
PlaysQueue-all queue all old new count stands h low =
    let same : take count all ≡ take 64 all = take_all count all h ∙ sym (take_all 64 all (omega (arith, h, low))) in
    let none : length all - 64 ≡ 0 = omega (arith, h, low) in
    record {
      all = all;
      whole = stands.whole ∙ ap (λ (us : List UplinkView). queue ++ (turns us old).sent) same;
      in_turn = λ k most there. stands.in_turn k (omega (arith, h, there));
      left =
          stands.scene_is ∙ ap (λ (us : List UplinkView). (turns us old).scene) same
          ∙ ap (λ (n : ℕ). with_dropped n (turns (take 64 all) old).scene) (sym none);
    }

-- the most were, and the number of the others was printed
pub PlaysQueue-most : (queue all : List UplinkView) (old : Scene) (progress : Progress) (crowd : Crowd) (before after : List ℕ)
    (left : ℕ)
    → QueueStands queue old 64 all (scene progress crowd before) → 64 < length all → left ≡ length all - 64
    → after ≡ before ++ dropped_line left → PlaysQueue queue old (scene progress crowd after)
unfolding most_answers
PlaysQueue-most queue all old progress crowd before after left stands h n e =
    let some : (length all - 64 == 0) ≡ false = grind (arith, nat_tests) in
    record {
      all = all;
      whole = stands.whole;
      in_turn = λ k most there. stands.in_turn k most;
      left =
          ap (λ (v : List ℕ). scene progress crowd v) (e ∙ ap (λ m. before ++ dropped_line m) n)
          ∙ (rw some refl)
          ∙ ap (λ (s : Scene). with_dropped (length all - 64) s) stands.scene_is;
    }

-- ---- calls on a scene that came about otherwise

pub PlaysQueue-as : {E : Type 0} (result : Result (Unit {0}) E) (queue same : List UplinkView) (old was new : Scene)
    → queue ≡ same → old ≡ was → OnOk result (PlaysQueue queue old new) → OnOk result (PlaysQueue same was new)
PlaysQueue-as result queue same old was new q s h =
    subst (λ (v : List UplinkView). OnOk result (PlaysQueue v was new)) q
    (subst (λ (v : Scene). OnOk result (PlaysQueue queue v new)) s h)

pub PlaysAnswers-as : {E : Type 0} (result : Result (Unit {0}) E) (x same : Sending) (new : Scene) → same ≡ x
    → OnOk result (PlaysAnswers x new) → OnOk result (PlaysAnswers same new)
PlaysAnswers-as result x same new e h = subst (λ (v : Sending). OnOk result (PlaysAnswers v new)) (sym e) h

-- what the MME sent was delivered to an empty queue
pub PlaysAnswers-queue : {E : Type 0} (result : Result (Unit {0}) E) (sent : Option (List Out)) (progress : Progress)
    (mid crowd : Crowd) (page : List ℕ) (none queue : List UplinkView) (new : Scene) → none ≡ []
    → crowd ≡ (delivering_sent sent mid).crowd → queue ≡ none ++ (delivering_sent sent mid).sent
    → OnOk result (PlaysQueue queue (scene progress crowd page) new)
    → OnOk result (PlaysAnswers (sending_as sent (scene progress mid page)) new)
PlaysAnswers-queue result sent progress mid crowd page none queue new n c q h =
    let d = delivering_sent sent mid in
    PlaysQueue-as result queue d.sent (scene progress crowd page) (scene progress d.crowd page) new
    (q ∙ ap (λ v. v ++ d.sent) n) (ap (λ (v : Crowd). scene progress v page) c) h

-- ---- acts

pub PlaysActed-as : (acted same : Acted) (old new : Scene) → acted ≡ same → PlaysActed same old new → PlaysActed acted old new
PlaysActed-as acted same old new e h = subst (λ (v : Acted). PlaysActed v old new) (sym e) h

pub PlaysOutcome-as : {E : Type 0} (result : Result (Unit {0}) E) (acted : Acted) (progress : Progress) (before crowd : Crowd)
    (page : List ℕ) (o : Outcome) (new : Scene) → outcome acted crowd ≡ o
    → OnOk result (PlaysActed acted (scene progress crowd page) new) → OnOk result (PlaysOutcome o (scene progress before page) new)
PlaysOutcome-as result acted progress before crowd page o new e h =
    subst (λ (v : Outcome). OnOk result (PlaysOutcome v (scene progress before page) new)) e h

pub PlaysAct-as : {E : Type 0} (result : Result (Unit {0}) E) (act same : ScriptAct) (old new : Scene) → act ≡ same
    → OnOk result (PlaysAct same old new) → OnOk result (PlaysAct act old new)
PlaysAct-as result act same old new e h = subst (λ (v : ScriptAct). OnOk result (PlaysAct v old new)) (sym e) h

-- what is sent where a station asked to be set up
pub set_up_sending-is : (n : ℕ) (acted : Acted) (old : Scene) (crowd : Crowd) (x : Sending)
    → outcome acted crowd ≡ setting_up n old.crowd → acted_sending acted (with_crowd crowd old) ≡ x → x ≡ set_up_sending n old
set_up_sending-is n acted old crowd x e sends = sym sends ∙ ap (λ (o : Outcome). outcome_sending o old) e

-- whether there is such a station
pub PlaysUp-as : {E : Type 0} (result : Result (Unit {0}) E) (n : ℕ) (there same : Bool) (old new : Scene)
    → there ≡ is_some (site_of n old.crowd.stations) → there ≡ same → OnOk result (PlaysConnection same n old new)
    → OnOk result (PlaysUp n old new)
PlaysUp-as result n there same old new e b h =
    subst (λ (v : Bool). OnOk result (PlaysConnection v n old new)) (sym b ∙ e) h

-- a station connected and was set up
pub connecting-is : (n : ℕ) (s : Scene) (first : Option (List Out)) (progress : Progress) (crowd mid : Crowd) (page : List ℕ)
    (second : Option (List Out)) (asked : Progress) (left last : Crowd) (told : List ℕ)
    → sending (event.Up n) (line_text (Up n)) s ≡ sending_as first (scene progress crowd page)
    → mid ≡ (delivering_sent first crowd).crowd
    → sending_as second (scene asked left told) ≡ set_up_sending n (scene progress mid page)
    → last ≡ (delivering_sent second left).crowd
    → connecting n s ≡ turned_as ((delivering_sent first crowd).sent ++ (delivering_sent second left).sent) (scene asked last told)
connecting-is n s first progress crowd mid page second asked left last told up c set_up d =
    let one = delivering_sent first crowd in
    let two = delivering_sent second left in
    ap (λ (x : Sending). turned_then (answering x) (λ t. answering (set_up_sending n t))) up
    ∙ ap (λ (v : Crowd). put_turn one.sent (answering (set_up_sending n (scene progress v page)))) (sym c)
    ∙ ap (λ (x : Sending). put_turn one.sent (answering x)) (sym set_up)
    ∙ ap (λ (v : Crowd). turned_as (one.sent ++ two.sent) (scene asked v told)) (sym d)

-- ---- ticks

pub TakesTicks-more : (n : ℕ) (old mid new : Scene) (progress : Progress) (crowd : Crowd) (page : List ℕ) (sent : Option (List Out))
    → TakesTicks n old mid → tick_sending mid ≡ sending_as sent (scene progress crowd page) → IsSome sent
    → PlaysAnswers (sending_as sent (scene progress crowd page)) new → TakesTicks (n + 1) old new
TakesTicks-more n old mid new progress crowd page sent done e some plays =
    let more : TakesTicks (suc n) old new = (
      mid,
      done,
      ap (λ (x : Sending). is_some x.sent) e ∙ some,
      subst (λ (x : Sending). PlaysAnswers x new) (sym e) plays,
    ) in
    rw add-one more

pub StopsTicks-met : (count n : ℕ) (old mid : Scene) (progress : Progress) (crowd : Crowd) (page : List ℕ)
    (sent : Option (List Out))
    → n < count → TakesTicks n old mid → tick_sending mid ≡ sending_as sent (scene progress crowd page) → IsNone sent
    → StopsTicks count old (scene progress crowd page)
StopsTicks-met count n old mid progress crowd page sent low done e none = (
  n,
  mid,
  low,
  done,
  ap (λ (x : Sending). is_some x.sent) e ∙ none,
  ap (λ (x : Sending). x.scene) (sym e),
)

-- ---- questions

pub showing-is : (imsi text : List ℕ) (old new : Progress) (crowd : Crowd) (before after : List ℕ) → IsBegun old
    → ShowsStates old imsi text before after → RunsSame old new → scene new crowd after ≡ showing imsi text (scene old crowd before)
showing-is imsi text Nothing new crowd before after begun shows runs = absurd begun
showing-is imsi text (Provisioning config p) new crowd before after begun shows runs =
    let w = fresh_world config p in
    ap (λ (v : Progress). scene v crowd after) (runs w refl) ∙ ap (λ (v : List ℕ). scene (Running w) crowd v) (shows w refl)
showing-is imsi text (Running w) new crowd before after begun shows runs =
    ap (λ (v : Progress). scene v crowd after) (runs w refl) ∙ ap (λ (v : List ℕ). scene (Running w) crowd v) (shows w refl)

-- ---- lines

pub PlaysLine-as : {E : Type 0} (result : Result (Unit {0}) E) (line same : Line) (text : List ℕ) (old new : Scene) → line ≡ same
    → OnOk result (PlaysLine same text old new) → OnOk result (PlaysLine line text old new)
PlaysLine-as result line same text old new e h = subst (λ (v : Line). OnOk result (PlaysLine v text old new)) (sym e) h

-- a line that was read
pub PlaysText-as : {E : Type 0} (result : Result (Unit {0}) E) (line : ScriptLine) (text : List ℕ) (old new : Scene)
    → (Ok line ≡ Err NoMemory) ⊎ (Ok line ≡ script_line_of text) → OnOk result (PlaysSaid (Ok line) text old new)
    → OnOk result (PlaysText text old new)
PlaysText-as result line text old new read h = elim read [
  | inl refused ↦ absurd (cc refused)
  | inr is ↦ subst (λ (v : Result ScriptLine TraceFault). OnOk result (PlaysSaid v text old new)) is h
]
