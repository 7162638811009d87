-- A run over a text, one turn after another.
use Rattle.std.proofs.Common.{◌≡◌, ℕ, ◌+◌, Bool, true, List, [], ◌++◌, length, Option, Result, Ok, Err, inl, inr, refl, sym, ap, ◌∙◌, append_assoc, append-nil, length-append, arith}
use Rattle.std.specs.Io.KnownBytes.{Appends, Consumes, Keeps}
use Rattle.trace_progress.specs.declared.fault.PlayFault.{PlayFault}
use Rattle.trace_progress.specs.declared.fault.PlayFault.TheVariants.{Trace, Read, Write, NoMemory}
use Rattle.trace_progress.specs.Text.{breaks, lines_of}
use Rattle.trace_progress.specs.TextLaws.{breaks-append}
use Rattle.trace_run.specs.OctetLaws.{Appends-nil, Appends-then, Consumes-nil, Consumes-then, Consumes-keeps, Consumes-same}
use Rattle.trace_run.specs.declared.under_way.LineUnderWay.{LineUnderWay}
use Rattle.trace_run.specs.OneLine.{LineRelation}
use Rattle.trace_run.specs.Lines.{PlaysAll, PlaysEach, IsReady, EndsLines, IsSeen, Feeds, ReadsFarEnough, PlaysRead}
use Rattle.trace_run.proofs.Feeding.{EndsLines-part, EndsLines-then, IsSeen-le, PlaysAll-then, StopsIn-first, PlaysEach-after}

-- after some turns: what was read and written, and the lines that are played
pub record Running {S : Type 0} (plays : LineRelation S) (first : S) (left_old left_new held_old held_new : Option (List ℕ)) (player : S) (line : LineUnderWay) : Type 0 where
  pub read : List ℕ
  pub written : List ℕ
  pub texts : List (List ℕ)
  pub consumed : Consumes left_old left_new read
  pub appended : Appends held_old held_new written
  pub played : PlaysAll plays first 1 texts player written
  pub ends : EndsLines [] read texts line.octets.items
  pub ready : IsReady line.octets.items
  pub counted : line.number ≡ 1 + length texts

ReadsFarEnough-end : (read : List ℕ) (ended : Bool) (result : Result (Unit {0}) PlayFault) → ended ≡ true
    → ReadsFarEnough read ended result
ReadsFarEnough-end read ended (Ok _) end = end
ReadsFarEnough-end read ended (Err (Trace line fault)) end = inl end
ReadsFarEnough-end read ended (Err NoMemory) end = tt
ReadsFarEnough-end read ended (Err Write) end = tt
ReadsFarEnough-end read ended (Err Read) end = tt

ReadsFarEnough-seen : (read : List ℕ) (ended : Bool) (fault : PlayFault) → IsSeen (1 + breaks read) fault
    → ReadsFarEnough read ended (Err fault)
ReadsFarEnough-seen read ended (Trace line fault) h =
    elim h [ inl long ↦ inr (inr long) | inr near ↦ inr (inl (omega (arith, near))) ]
ReadsFarEnough-seen read ended NoMemory h = tt
ReadsFarEnough-seen read ended Write h = tt
ReadsFarEnough-seen read ended Read h = tt

module _ {S : Type 0} (plays : LineRelation S) where
  pub Running-start : (player : S) (left held : Option (List ℕ)) (line : LineUnderWay) → line.number ≡ 1 → line.octets.items ≡ []
      → Running plays player left left held held player line
  Running-start player left held line n e = record {
    read = [];
    written = [];
    texts = [];
    consumed = Consumes-nil left;
    appended = Appends-nil held;
    played = (refl, refl);
    ends = EndsLines-part [] [] line.octets.items refl e;
    ready = (ap breaks e, omega (arith, ap length e));
    counted = n;
  }

  module _ (first player : S) (line : LineUnderWay) (left_old left_mid left_new held_old held_mid held_new : Option (List ℕ))
      (running : Running plays first left_old left_mid held_old held_mid player line) (piece added : List ℕ)
      (consumed : Consumes left_mid left_new piece) (appended : Appends held_mid held_new added) where
    pub Running-turn : (new : S) (next : LineUnderWay) → Feeds plays player line piece (Ok tt) new next added
        → Running plays first left_old left_new held_old held_new new next
    Running-turn new next fed = record {
      read = running.read ++ piece;
      written = running.written ++ added;
      texts = running.texts ++ fed.0;
      consumed = Consumes-then left_old left_mid left_new running.read piece running.consumed consumed;
      appended = Appends-then held_old held_mid held_new running.written added running.appended appended;
      played = PlaysAll-then plays running.texts fed.0 first player new 1 line.number running.written added running.counted
          running.played fed.1;
      ends = EndsLines-then [] line.octets.items next.octets.items running.read piece running.texts fed.0 running.ends fed.2;
      ready = fed.3;
      counted = omega (arith, running.counted, fed.4, length-append running.texts fed.0);
    }

    pub PlaysRead-fault : (new : S) (next : LineUnderWay) (ended : Bool) (fault : PlayFault)
        → Feeds plays player line piece (Err fault) new next added
        → PlaysRead plays first new left_old left_new held_old held_new ended (Err fault)
    PlaysRead-fault new next ended fault fed =
        let read = running.read ++ piece in
        let lines : lines_of read ≡ running.texts ++ lines_of (line.octets.items ++ (piece ++ [])) =
        ap lines_of (sym (append-nil read) ∙ append_assoc running.read piece []) ∙ running.ends.0 (piece ++ []) in (
          read,
          running.written ++ added,
          Consumes-then left_old left_mid left_new running.read piece running.consumed consumed,
          Appends-then held_old held_mid held_new running.written added running.appended appended,
          PlaysEach-after plays first player new 1 line.number running.texts (lines_of (line.octets.items ++ (piece ++ [])))
              (lines_of read) running.written added (Err fault) running.counted running.played lines (fed.0 []),
          ReadsFarEnough-seen read ended fault
              (IsSeen-le (line.number + breaks piece) (1 + breaks read) fault
              (omega (arith, running.counted, running.ends.1, breaks-append running.read piece)) fed.1),
        )

  module _ (first player new : S) (line : LineUnderWay) (left_old left_new held_old held_mid held_new : Option (List ℕ))
      (running : Running plays first left_old left_new held_old held_mid player line) (added : List ℕ)
      (appended : Appends held_mid held_new added) where
    -- the line under way is the last one
    last_each : (result : Result (Unit {0}) PlayFault)
        → PlaysEach plays player line.number (lines_of line.octets.items) result new added
        → PlaysEach plays first 1 (lines_of running.read) result new (running.written ++ added)
    last_each result each =
        let lines : lines_of running.read ≡ running.texts ++ lines_of line.octets.items =
        ap lines_of (sym (append-nil running.read)) ∙ running.ends.0 []
        ∙ ap (λ v. running.texts ++ lines_of v) (append-nil line.octets.items) in
        PlaysEach-after plays first player new 1 line.number running.texts (lines_of line.octets.items) (lines_of running.read)
        running.written added result running.counted running.played lines each

    pub PlaysRead-last : (ended : Bool) (result : Result (Unit {0}) PlayFault) → ReadsFarEnough running.read ended result
        → PlaysEach plays player line.number (lines_of line.octets.items) result new added
        → PlaysRead plays first new left_old left_new held_old held_new ended result
    PlaysRead-last ended result reached each = (
      running.read,
      running.written ++ added,
      running.consumed,
      Appends-then held_old held_mid held_new running.written added running.appended appended,
      last_each result each,
      reached,
    )

  -- a read that gave nothing, or failed
  pub Running-idle : (first player : S) (line : LineUnderWay) (left_old left_mid left_new held_old held_new : Option (List ℕ))
      → Running plays first left_old left_mid held_old held_new player line → Consumes left_mid left_new []
      → Running plays first left_old left_new held_old held_new player line
  Running-idle first player line left_old left_mid left_new held_old held_new running none = record {
    read = running.read;
    written = running.written;
    texts = running.texts;
    consumed = Consumes-same left_old left_new _ _ (append-nil running.read)
        (Consumes-then left_old left_mid left_new running.read [] running.consumed none);
    appended = running.appended;
    played = running.played;
    ends = running.ends;
    ready = running.ready;
    counted = running.counted;
  }

  -- the end of the text
  pub PlaysRead-end : (first player new : S) (line : LineUnderWay) (left_old left_mid left_new held_old held_mid held_new : Option (List ℕ))
      → Running plays first left_old left_mid held_old held_mid player line → Consumes left_mid left_new [] → (added : List ℕ)
      → Appends held_mid held_new added → (ended : Bool) (result : Result (Unit {0}) PlayFault) → ended ≡ true
      → PlaysEach plays player line.number (lines_of line.octets.items) result new added
      → PlaysRead plays first new left_old left_new held_old held_new ended result
  PlaysRead-end first player new line left_old left_mid left_new held_old held_mid held_new running none added appended ended result end each =
      let idle = Running-idle first player line left_old left_mid left_new held_old held_mid running none in
      PlaysRead-last first player new line left_old left_new held_old held_mid held_new idle added appended ended result
      (ReadsFarEnough-end idle.read ended result end) each

  -- a read that failed
  pub PlaysRead-read : (first player : S) (line : LineUnderWay) (left_old left_mid left_new held_old held_new : Option (List ℕ))
      → Running plays first left_old left_mid held_old held_new player line → Keeps left_mid left_new → (ended : Bool)
      → PlaysRead plays first player left_old left_new held_old held_new ended (Err Read)
  PlaysRead-read first player line left_old left_mid left_new held_old held_new running kept ended =
      let none = Consumes-keeps left_mid left_new kept in
      let idle = Running-idle first player line left_old left_mid left_new held_old held_new running none in
      PlaysRead-last first player player line left_old left_new held_old held_new held_new idle [] (Appends-nil held_new) ended (Err Read)
      tt (StopsIn-first plays player player line.number (lines_of line.octets.items) Read [] (refl, refl))
