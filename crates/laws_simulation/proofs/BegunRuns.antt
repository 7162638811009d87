-- The run of a trace: up to its first event or question nothing is printed, and from there on what its MME prints.
use Rattle.std.proofs.Common.{◌≡◌, ℕ, ◌+◌, ◌<◌, ◌≤◌, nat_le, Bool, true, false, cond, List, [], ◌∷◌, ◌++◌, length, Option, Some, None, Result, Ok, Err, refl, sym, ap, subst, ◌∙◌, arith, length-append}
use Rattle.std.specs.Prelude.{is_some}
use Rattle.std.proofs.lemmas.Bool.Decides.{nat_tests}
use Rattle.identity_slots.specs.declared.profile.Profile.{Profile}
use Rattle.identity_slots.specs.declared.profile.Vector.{Vector}
use Rattle.identity_slots.specs.declared.provision.ProvisionFault.{ProvisionFault}
use Rattle.identity_slots.specs.declared.provision.ProvisionFault.TheVariants.{RepeatedImsi, RepeatedAddress, Full}
use Rattle.identity_slots.specs.Ids.{slots}
use Rattle.identity_slots.specs.Provisioned.{Provisioned, add_fault, slot_of_address, slot_of_imsi, vectors_at, with_profile, with_vector}
use Rattle.mme_core.specs.declared.config.Config.{Config}
use Rattle.mme_core.specs.World.{fresh_world}
use Rattle.trace_words.specs.Trace.{◌>>=◌, line_of}
use Rattle.trace_words.specs.declared.line.Line.{Line}
use Rattle.trace_words.specs.declared.line.Line.TheVariants.{Skip, Mme, Sub, Vec, Up, Lost, In, Tick, Data, Cancel, Show}
use Rattle.trace_words.specs.declared.fault.TraceFault.{TraceFault}
use Rattle.trace_words.specs.declared.fault.TraceFault.TheVariants.{Order, Provision}
use Rattle.trace_progress.specs.declared.progress.Progress.{Progress}
use Rattle.trace_progress.specs.declared.progress.Progress.TheVariants.{Nothing, Provisioning, Running}
use Rattle.trace_progress.specs.Effects.{Effect, config_of, effect_of, nobody, running, with_subscriber, with_vector_at}
use Rattle.trace_progress.specs.Text.{Played, lines_of, play, played_of, then_play}
use Rattle.trace_progress.specs.TextLaws.{play-cons, play-nil}
use Rattle.laws_simulation.specs.OwnLines.{RunBeginsFresh}
use Rattle.laws_simulation.specs.TraceRuns.{Run, begins_at, begun, events_in, once_provisioned, run_from, run_of}

-- a run that a text is printed of: its MME was made of what is provisioned, of which there is not too much
pub record IsRunOf (run : Run) (played : Played) : Type 0 where
  pub config : Config
  pub provisioned : Provisioned
  pub few : length provisioned.profiles ≤ slots
  pub fresh : run.mme ≡ fresh_world config provisioned
  pub number : ℕ
  pub texts : List (List ℕ)
  pub events : run.events ≡ events_in run.mme texts
  pub printed : played.text ≡ (play (Running run.mme) number texts).text

abbrev RunIs : Option Run → Played → Type 0
RunIs None played = played.text ≡ []
RunIs (Some run) played = IsRunOf run played

-- no MME runs yet, and there is a slot for each who is provisioned
abbrev IsFew : Progress → Type 0
IsFew Nothing = Unit {0}
IsFew (Provisioning config p) = length p.profiles ≤ slots
IsFew (Running w) = ⊥

-- ---- provisioning

full_first : (a b c : Bool) (x y z : ProvisionFault) → cond a (Some x) (cond b (Some y) (cond c (Some z) None)) ≡ None → c ≡ false
full_first true b c x y z h = absurd (cc h)
full_first false true c x y z h = absurd (cc h)
full_first false false true x y z h = absurd (cc h)
full_first false false false x y z h = refl

not_full : (n : ℕ) → nat_le slots n ≡ false → n < slots
not_full n h = grind (arith, nat_tests)

one_more : (profile : Profile) (ps : List Profile) → add_fault profile ps ≡ None → length (ps ++ profile ∷ []) ≤ slots
one_more profile ps h =
    let full = full_first (is_some (slot_of_imsi profile.imsi ps)) (is_some (slot_of_address profile.address ps))
    (nat_le slots (length ps)) RepeatedImsi RepeatedAddress Full h in
    let low = not_full (length ps) full in
    omega (arith, low, length-append ps (profile ∷ []))

-- what is provisioned, and the lines that come after it
module _ (n : ℕ) (texts : List (List ℕ)) (ih : (new : Progress) → IsFew new → RunIs (run_from new texts) (play new (n + 1) texts)) where
  abbrev Goes : Effect → Type 0
  Goes effect = RunIs (once_provisioned effect (λ new. run_from new texts)) (then_play n effect (λ new. play new (n + 1) texts))

  subscriber_goes : (config : Config) (p : Provisioned) (profile : Profile) (f : Option ProvisionFault)
      → add_fault profile p.profiles ≡ f → Goes (with_subscriber config p profile f)
  subscriber_goes config p profile None is = ih (Provisioning config (with_profile profile p)) (one_more profile p.profiles is)
  subscriber_goes config p profile (Some fault) is = refl

  vector_fits : (config : Config) (p : Provisioned) (vector : Vector) (slot : ℕ) (b : Bool) → length p.profiles ≤ slots
      → Goes (cond b (Err Provision) (Ok (Provisioning config (with_vector slot vector p), [])))
  vector_fits config p vector slot true few = refl
  vector_fits config p vector slot false few = ih (Provisioning config (with_vector slot vector p)) few

  vector_goes : (config : Config) (p : Provisioned) (vector : Vector) (slot : Option ℕ) → length p.profiles ≤ slots
      → Goes (with_vector_at config p vector slot)
  vector_goes config p vector None few = refl
  vector_goes config p vector (Some slot) few =
      vector_fits config p vector slot (nat_le 64 (length (vectors_at slot p.vectors))) few

  -- a line to an MME, which the first one makes
  first_line : (progress : Progress) (text : List ℕ) (line : Line) → line_of text ≡ Ok line → IsFew progress
      → effect_of Nothing line ≡ Err Order
      → ((config : Config) (p : Provisioned) → effect_of (Provisioning config p) line ≡ effect_of (Running (fresh_world config p)) line)
      → RunIs (begun (running progress) (text ∷ texts)) (then_play n (effect_of progress line) (λ new. play new (n + 1) texts))
  first_line Nothing text line is few early made =
      ap (λ (e : Effect). (then_play n e (λ new. play new (n + 1) texts)).text) early
  first_line (Provisioning config p) text line is few early made =
      let w = fresh_world config p in
      let more : Progress → Played = λ new. play new (n + 1) texts in
      record {
        config = config;
        provisioned = p;
        few = few;
        fresh = refl;
        number = n;
        texts = text ∷ texts;
        events = refl;
        printed = ap (λ (e : Effect). (then_play n e more).text) (made config p)
            ∙ sym (ap (λ (q : Played). q.text) (play-cons (Running w) n text texts)
            ∙ ap (λ (r : Result Line TraceFault). (then_play n (r >>= effect_of (Running w)) more).text) is);
      }
  first_line (Running w) text line is few early made = absurd few

  line_begins : (progress : Progress) (text : List ℕ) (line : Line) → line_of text ≡ Ok line → IsFew progress
      → RunIs (begins_at progress (Ok line) (text ∷ texts) (λ new. run_from new texts))
      (then_play n (effect_of progress line) (λ new. play new (n + 1) texts))
  unfolding effect_of
  line_begins progress text Skip is few = ih progress few
  line_begins Nothing text (Mme network) is few = ih (Provisioning (config_of network) nobody) (omega arith)
  line_begins (Provisioning config p) text (Mme network) is few = refl
  line_begins (Running w) text (Mme network) is few = absurd few
  line_begins Nothing text (Sub profile) is few = refl
  line_begins (Provisioning config p) text (Sub profile) is few =
      subscriber_goes config p profile (add_fault profile p.profiles) refl
  line_begins (Running w) text (Sub profile) is few = absurd few
  line_begins Nothing text (Vec imsi vector) is few = refl
  line_begins (Provisioning config p) text (Vec imsi vector) is few =
      vector_goes config p vector (slot_of_imsi imsi p.profiles) few
  line_begins (Running w) text (Vec imsi vector) is few = absurd few
  line_begins progress text (Up e) is few = first_line progress text (Up e) is few refl (λ config p. refl)
  line_begins progress text (Lost e) is few = first_line progress text (Lost e) is few refl (λ config p. refl)
  line_begins progress text (In e octets) is few = first_line progress text (In e octets) is few refl (λ config p. refl)
  line_begins progress text (Tick ticks) is few = first_line progress text (Tick ticks) is few refl (λ config p. refl)
  line_begins progress text (Data imsi) is few = first_line progress text (Data imsi) is few refl (λ config p. refl)
  line_begins progress text (Cancel imsi) is few = first_line progress text (Cancel imsi) is few refl (λ config p. refl)
  line_begins progress text (Show imsi) is few = first_line progress text (Show imsi) is few refl (λ config p. refl)

  text_begins : (progress : Progress) (text : List ℕ) (r : Result Line TraceFault) → line_of text ≡ r → IsFew progress
      → RunIs (begins_at progress r (text ∷ texts) (λ new. run_from new texts))
      (then_play n (r >>= effect_of progress) (λ new. play new (n + 1) texts))
  text_begins progress text (Ok line) is few = line_begins progress text line is few
  text_begins progress text (Err fault) is few = refl

run_is : (progress : Progress) (n : ℕ) (texts : List (List ℕ)) → IsFew progress
    → RunIs (run_from progress texts) (play progress n texts)
run_is progress n [] few = ap (λ (p : Played). p.text) (play-nil progress n)
run_is progress n (text ∷ texts) few =
    subst (RunIs (run_from progress (text ∷ texts))) (sym (play-cons progress n text texts))
    (text_begins n texts (λ new new_few. run_is new (n + 1) texts new_few) progress text (line_of text) refl few)

-- of a whole trace
pub run_printed : (octets : List ℕ) (run : Run) → run_of octets ≡ Some run → IsRunOf run (played_of octets)
run_printed octets run is = subst (λ (o : Option Run). RunIs o (played_of octets)) is (run_is Nothing 1 (lines_of octets) tt)

pub begins_fresh : RunBeginsFresh
begins_fresh octets run is = let r = run_printed octets run is in (r.config, r.provisioned, r.fresh, r.few)

pub nothing_printed : (octets : List ℕ) → run_of octets ≡ None → (played_of octets).text ≡ []
nothing_printed octets is = subst (λ (o : Option Run). RunIs o (played_of octets)) is (run_is Nothing 1 (lines_of octets) tt)
