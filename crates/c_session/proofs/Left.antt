-- What calls leave, by their answers.
use Rattle.std.proofs.Common.{◌≡◌, ◌⊎◌, inl, inr, ℕ, List, [], Result, Ok, Err, refl, sym, ap, ◌∙◌}
use Rattle.std.specs.Prelude.{◌≢◌, IfErr, IsOk, OnErr}
use Rattle.trace_words.specs.declared.fault.TraceFault.{TraceFault}
use Rattle.mme_core.specs.World.{World}
use Rattle.trace_progress.specs.declared.fault.PlayFault.{PlayFault}
use Rattle.trace_progress.specs.declared.fault.PlayFault.TheVariants as play
use Rattle.trace_progress.specs.declared.progress.Progress.{Progress}
use Rattle.trace_progress.specs.declared.progress.Progress.TheVariants.{Nothing, Provisioning, Running}
use Rattle.trace_progress.specs.Acts.{Acts, IsIdle, IsUnmade, Runs, RunsAs}
use Rattle.trace_progress.specs.Effects.{Effect, running}
use Rattle.c_session.specs.declared.refusal.Refusal.{Refusal}
use Rattle.c_session.specs.declared.refusal.Refusal.TheVariants as refusals
use Rattle.c_session.specs.declared.session.Session.{Session}
use Rattle.c_session.specs.Kept.{Reply}
use Rattle.c_session.specs.Refusals.{◌>>=◌, of_field, of_line, told, told_of_start}
use Rattle.c_session.specs.Sessions.{Leaves, Starts, started, with_effect, with_world}

pub leaves_ok : (wanted : Result Session Refusal) (old new : Session) → Leaves wanted old (Ok tt) new → wanted ≡ Ok new
leaves_ok (Ok after) old new h = ap Ok (sym h)
leaves_ok (Err fault) old new h = absurd h

pub leaves_err : (wanted : Result Session Refusal) (old new : Session) (refusal : Refusal) → Leaves wanted old (Err refusal) new
    → (refusal ≡ refusals.NoMemory) ⊎ (wanted ≡ Err refusal)
leaves_err (Ok after) old new refusal h = inl h.0
leaves_err (Err fault) old new refusal h = inr (ap Err (sym h.0))

pub leaves_same : (wanted : Result Session Refusal) (old new : Session) (refusal : Refusal) → Leaves wanted old (Err refusal) new
    → new ≡ old
leaves_same (Ok after) old new refusal h = h.1
leaves_same (Err fault) old new refusal h = h.1

pub starts_ok : (wanted : Result Session Refusal) (old new : Session) → Starts wanted old (Ok tt) new → wanted ≡ Ok new
starts_ok (Ok after) old new h = ap Ok (sym h)
starts_ok (Err fault) old new h = absurd h

pub starts_err : (wanted : Result Session Refusal) (old new : Session) (refusal : Refusal) → Starts wanted old (Err refusal) new
    → ((refusal ≡ refusals.Lost) × IsOk wanted) ⊎ (wanted ≡ Err refusal)
starts_err (Ok after) old new refusal h = inl (h.0, refl)
starts_err (Err fault) old new refusal h = inr (ap Err (sym h.0))

same : (s new : Session) → new.progress ≡ s.progress → new.replies ≡ s.replies → new ≡ s
same s new e r =
    let of : Progress → List Reply → Session = λ p rs. record { progress = p; replies = rs } in
    ap (λ p. of p new.replies) e ∙ ap (of s.progress) r

-- what a step of provisioning leaves
pub leaves_effect : (s new : Session) (effect : Effect) (answer : Result (Unit {0}) PlayFault)
    → Acts 0 effect answer new.progress [] → IfErr effect (λ fault. answer ≡ Err (play.Trace 0 fault))
    → OnErr answer (new.progress ≡ s.progress)
    → new.replies ≡ s.replies → Leaves (with_effect s effect) s (told answer) new
leaves_effect s new (Ok done) (Ok _) a h e r =
    let d : done ≡ (new.progress, []) = cc a in
    let of : Progress → List Reply → Session = λ p rs. record { progress = p; replies = rs } in
    ap (λ p. of p new.replies) (ap (λ (v : Progress × List ℕ). v.0) (sym d)) ∙ ap (of done.0) r
leaves_effect s new (Err fault) (Ok _) a h e r = absurd (cc a)
leaves_effect s new (Ok done) (Err (play.Trace number fault)) a h e r = absurd (let never = a.0 in cc never)
leaves_effect s new (Err other) (Err (play.Trace number fault)) a h e r =
    let f : fault ≡ other = let g = a.0 in cc g in (ap of_line f, same s new e r)
leaves_effect s new (Ok done) (Err play.NoMemory) a h e r = (refl, same s new e r)
leaves_effect s new (Err fault) (Err play.NoMemory) a h e r = absurd (cc h)
leaves_effect s new (Ok done) (Err play.Write) a h e r = (refl, same s new e r)
leaves_effect s new (Err fault) (Err play.Write) a h e r = absurd (cc h)
leaves_effect s new effect (Err play.Read) a h e r = absurd a

-- ---- the start of an MME

-- what was to be made into an MME and wasn't is no MME that runs
unmade_idle : (old new : Progress) → IsUnmade old new → IsIdle old
unmade_idle Nothing new h = tt
unmade_idle (Provisioning config provisioned) new h = tt
unmade_idle (Running world) new h = absurd h

runs_as : (world : World) (p : Progress) → RunsAs (Ok world) p → p ≡ Running world
runs_as world Nothing h = absurd h
runs_as world (Provisioning config provisioned) h = absurd h
runs_as world (Running other) h = let e : other ≡ world = cc h in ap Running e

become : (s new : Session) (p : Progress) → new.progress ≡ p → new.replies ≡ s.replies → new ≡ record { progress = p; replies = s.replies }
become s new p e r =
    let of : Progress → List Reply → Session = λ q rs. record { progress = q; replies = rs } in
    ap (λ q. of q new.replies) e ∙ ap (of p) r

starts_from : (wanted : Result World TraceFault) (s new : Session) (answer : Result (Unit {0}) PlayFault)
    → Runs 0 wanted answer new.progress → IfErr wanted (λ fault. answer ≡ Err (play.Trace 0 fault))
    → IfErr answer (λ fault. fault ≢ play.NoMemory → new.progress ≡ s.progress)
    → IfErr answer (λ fault. fault ≡ play.NoMemory → IsUnmade s.progress new.progress)
    → new.replies ≡ s.replies
    → Starts (of_field wanted >>= (λ world. Ok (with_world s world))) s (told_of_start answer) new
starts_from (Ok world) s new (Ok _) a h k u r = become s new (Running world) (runs_as world new.progress a) r
starts_from (Err fault) s new (Ok _) a h k u r = absurd (cc h)
starts_from (Ok world) s new (Err (play.Trace number fault)) a h k u r = absurd (let never = a.0 in cc never)
starts_from (Err other) s new (Err (play.Trace number fault)) a h k u r =
    let f : fault ≡ other = let g = a.0 in cc g in (ap of_line f, same s new (k (λ e. absurd (cc e))) r)
starts_from (Ok world) s new (Err play.NoMemory) a h k u r =
    (refl, (unmade_idle s.progress new.progress (u refl), become s new Nothing a r))
starts_from (Err fault) s new (Err play.NoMemory) a h k u r = absurd (cc h)
starts_from wanted s new (Err play.Write) a h k u r = absurd a
starts_from wanted s new (Err play.Read) a h k u r = absurd a

-- what the start of an MME leaves
pub starts_by_run : (s new : Session) (answer : Result (Unit {0}) PlayFault)
    → Runs 0 (running s.progress) answer new.progress → IfErr (running s.progress) (λ fault. answer ≡ Err (play.Trace 0 fault))
    → IfErr answer (λ fault. fault ≢ play.NoMemory → new.progress ≡ s.progress)
    → IfErr answer (λ fault. fault ≡ play.NoMemory → IsUnmade s.progress new.progress)
    → new.replies ≡ s.replies → Starts (started s) s (told_of_start answer) new
starts_by_run s new answer = starts_from (running s.progress) s new answer
