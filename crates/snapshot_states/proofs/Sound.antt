-- A state that fits is sound and in use, where husks with its context's KASME stand for the vectors that are spent.
use Rattle.std.proofs.Common.{◌≡◌, ℕ, zero, suc, ◌≤◌, ◌<◌, List, [], ◌∷◌, ◌++◌, length, refl, sym, subst, arith, inl, inr}
use Rattle.std.specs.Prelude.{true, slice_get, Option, Some, None, is_none, is_some, option_map, replicate}
use Rattle.std.proofs.lemmas.Bool.Decides.{nat_tests}
use Rattle.std.proofs.lemmas.List.{length-replicate}
use Rattle.per_bits.specs.Formats.{Value}
use Rattle.identity_slots.specs.declared.profile.Vector.{Vector}
use Rattle.mme_types.specs.declared.connection.Connection.{Connection}
use Rattle.emm_state.specs.declared.setting.Setting.{Setting}
use Rattle.emm_state.specs.declared.solo.Context.{Context}
use Rattle.emm_state.specs.declared.solo.Phase.{Phase}
use Rattle.emm_state.specs.declared.solo.Phase.TheVariants.{Deregistered, Authenticating, SecurityMode, EsmInformation, Accepting, Updating, Registered, Detaching}
use Rattle.emm_state.specs.declared.solo.Protection.TheVariants.{Plain, Under}
use Rattle.emm_state.specs.declared.solo.Repeat.{Repeat}
use Rattle.emm_state.specs.declared.solo.Repeat.TheVariants.{Nas, Paging}
use Rattle.emm_state.specs.declared.solo.Solo.{Solo}
use Rattle.emm_state.specs.Taking.{next_place, vectors_spent}
use Rattle.emm_machine.specs.Freshness.{HasVector, IsBelow, IsInUse}
use Rattle.laws_subscriber.specs.Clocked.{IsClocked, IsClockedIn}
use Rattle.laws_subscriber.specs.Sound.{HasChallenge, HasConnection, HasContext, IsCountedIdle, IsDerived, IsOfVector, IsPlainRepeat, IsSound, has_security_header, keys_after}
use Rattle.mme_core.specs.Remembered.{husk, kasme_in}
use Rattle.snapshot_formats.specs.Formats.{saved_context, saved_radio, saved_state}
use Rattle.snapshot_states.specs.Fit.{fits, fits_challenge, fits_context, is_clocked, is_derived, is_plain, is_spent, is_state}
use Rattle.snapshot_states.specs.States.{named_context, named_radio, named_state, next_of}
use Rattle.snapshot_states.proofs.Fitting.{both, clocked, turned}

-- ---- husks, and what isn't spent

pub spent_there : (place spent : ℕ) (h : Vector) (rest : List Vector) → place < spent
    → slice_get (replicate spent h ++ rest) place ≡ Some h
spent_there place zero h rest lt = absurd (omega arith)
spent_there zero (suc spent) h rest lt = refl
spent_there (suc place) (suc spent) h rest lt = spent_there place spent h rest (omega arith)

pub first_left : (spent : ℕ) (h v : Vector) (rest : List Vector) → slice_get (replicate spent h ++ v ∷ rest) spent ≡ Some v
first_left zero h v rest = refl
first_left (suc spent) h v rest = first_left spent h v rest

-- ---- the context

derived_if : (up_last : Option ℕ) (radio : Value saved_radio) (kasme : List ℕ) → is_derived up_last radio ≡ true
    → (count : ℕ) × (last : ℕ) × (moves : ℕ) × (up_last ≡ Some last) × (count ≤ last)
    × (named_radio kasme radio ≡ keys_after moves kasme count)
derived_if up_last (inl keys) kasme h = absurd (cc)
derived_if None (inr trail) kasme h = absurd (cc)
derived_if (Some last) (inr trail) kasme h = (trail.0, last, trail.1.0, refl, grind (arith, nat_tests), refl)

below : (spent : ℕ) (v : Value saved_context) → is_spent spent (Some v) ≡ true → v.0 < spent
below spent v h = grind (arith, nat_tests)

of_vector : (spent : ℕ) (v : Value saved_context) (rest : List Vector) → is_spent spent (Some v) ≡ true
    → IsOfVector (replicate spent (husk v.1.1.1.0) ++ rest) (named_context v) (husk v.1.1.1.0)
of_vector spent v rest h = record {
  there = spent_there v.0 spent (husk v.1.1.1.0) rest (below spent v h);
  integrity = refl;
  kasme = refl;
  ksi = refl;
}

abbrev made : ℕ → Option (Value saved_context) → List Vector → List Vector
made spent o rest = replicate spent (husk (kasme_in (option_map named_context o))) ++ rest

no_context : (o : Option (Value saved_context)) → is_none o ≡ true → option_map named_context o ≡ None
no_context None h = refl
no_context (Some v) h = absurd (cc)

secured : (spent : ℕ) (o : Option (Value saved_context)) (rest : List Vector) → is_some o ≡ true → is_spent spent o ≡ true
    → HasContext SecurityMode (made spent o rest) (option_map named_context o)
secured spent None rest some spent_is = absurd (cc)
secured spent (Some v) rest some spent_is = (named_context v, husk v.1.1.1.0, refl, of_vector spent v rest spent_is)

abbrev IsProved : ℕ → Option (Value saved_context) → List Vector → Type 0
IsProved spent o rest =
    (x : Context) × (v : Vector) × (option_map named_context o ≡ Some x) × IsOfVector (made spent o rest) x v × IsDerived x

proved : (spent : ℕ) (o : Option (Value saved_context)) (rest : List Vector) → fits_context Registered o ≡ true
    → is_spent spent o ≡ true → IsProved spent o rest
proved spent None rest fit spent_is = absurd (cc)
proved spent (Some v) rest fit spent_is =
    (named_context v, husk v.1.1.1.0, refl, of_vector spent v rest spent_is, derived_if v.1.1.0 v.1.1.1.1.0 v.1.1.1.0 fit)

has_context : (phase : Phase) (spent : ℕ) (o : Option (Value saved_context)) (rest : List Vector) → fits_context phase o ≡ true
    → is_spent spent o ≡ true → HasContext phase (made spent o rest) (option_map named_context o)
has_context Deregistered spent o rest fit spent_is = no_context o fit
has_context Authenticating spent o rest fit spent_is = no_context o fit
has_context SecurityMode spent o rest fit spent_is = secured spent o rest fit spent_is
has_context EsmInformation spent None rest fit spent_is = absurd (cc)
has_context EsmInformation spent (Some v) rest fit spent_is = proved spent (Some v) rest fit spent_is
has_context Accepting spent None rest fit spent_is = absurd (cc)
has_context Accepting spent (Some v) rest fit spent_is = proved spent (Some v) rest fit spent_is
has_context Updating spent None rest fit spent_is = absurd (cc)
has_context Updating spent (Some v) rest fit spent_is = proved spent (Some v) rest fit spent_is
has_context Registered spent None rest fit spent_is = absurd (cc)
has_context Registered spent (Some v) rest fit spent_is = proved spent (Some v) rest fit spent_is
has_context Detaching spent None rest fit spent_is = absurd (cc)
has_context Detaching spent (Some v) rest fit spent_is = proved spent (Some v) rest fit spent_is

-- ---- the rest

has_connection : (phase : Phase) (solo : Solo)
    → IsClockedIn phase solo.connection solo.procedure solo.repeat solo.reachable → HasConnection phase solo.connection
has_connection Deregistered solo h = h.0
has_connection Authenticating solo h = h.0
has_connection SecurityMode solo h = h.0
has_connection EsmInformation solo h = h.0
has_connection Accepting solo h = h.0
has_connection Updating solo h = h.0
has_connection Registered solo h = tt
has_connection Detaching solo h = h.0

counted_if : (o : Option ℕ) (k : Option Connection) → o ≡ None → IsCountedIdle o k
counted_if None k h = tt
counted_if (Some n) k h = absurd (cc)

counted_at_rest : (phase : Phase) (k : Option Connection) (solo : Solo)
    → IsClockedIn phase k solo.procedure solo.repeat solo.reachable → IsCountedIdle solo.reachable k
counted_at_rest Deregistered k solo h = counted_if solo.reachable k h.1.2
counted_at_rest Authenticating k solo h = counted_if solo.reachable k h.2
counted_at_rest SecurityMode k solo h = counted_if solo.reachable k h.2
counted_at_rest EsmInformation k solo h = counted_if solo.reachable k h.2
counted_at_rest Accepting k solo h = counted_if solo.reachable k h.2
counted_at_rest Updating k solo h = counted_if solo.reachable k h.2
counted_at_rest Registered (Some k) solo h = counted_if solo.reachable (Some k) h.2
counted_at_rest Registered None solo h = idle solo.reachable
  where
    idle : (o : Option ℕ) → IsCountedIdle o None
    idle None = tt
    idle (Some n) = refl
counted_at_rest Detaching k solo h = counted_if solo.reachable k h.2

has_challenge : (phase : Phase) (spent : ℕ) (h : Vector) (rest : List Vector) → fits_challenge phase (length rest) ≡ true
    → HasChallenge phase (replicate spent h ++ rest) (next_of phase spent)
has_challenge Authenticating spent h [] fit = absurd (cc)
has_challenge Authenticating spent h (v ∷ rest) fit = (spent, v, refl, first_left spent h v rest)
has_challenge Deregistered spent h rest fit = tt
has_challenge SecurityMode spent h rest fit = tt
has_challenge EsmInformation spent h rest fit = tt
has_challenge Accepting spent h rest fit = tt
has_challenge Updating spent h rest fit = tt
has_challenge Registered spent h rest fit = tt
has_challenge Detaching spent h rest fit = tt

plain_repeat : (o : Option Repeat) → is_plain o ≡ true → IsPlainRepeat o
plain_repeat None h = tt
plain_repeat (Some (Nas Plain nas)) h = turned (has_security_header nas) h
plain_repeat (Some (Nas (Under header) nas)) h = tt
plain_repeat (Some (Paging es)) h = tt

-- ---- in use

spent_before : (phase : Phase) (spent : ℕ) → next_place phase (next_of phase spent) ≡ spent
spent_before Deregistered spent = refl
spent_before Authenticating spent = omega arith
spent_before SecurityMode spent = refl
spent_before EsmInformation spent = refl
spent_before Accepting spent = refl
spent_before Updating spent = refl
spent_before Registered spent = refl
spent_before Detaching spent = refl

below_if : (spent : ℕ) (o : Option (Value saved_context)) → is_spent spent o ≡ true → IsBelow (option_map named_context o) spent
below_if spent None h = tt
below_if spent (Some v) h = below spent v h

has_vector : (phase : Phase) (spent : ℕ) → HasVector phase (next_of phase spent)
has_vector Authenticating spent = omega arith
has_vector Deregistered spent = tt
has_vector SecurityMode spent = tt
has_vector EsmInformation spent = tt
has_vector Accepting spent = tt
has_vector Updating spent = tt
has_vector Registered spent = tt
has_vector Detaching spent = tt

-- ---- all of it

-- what is tested, taken apart
pub record AreFit (spent : ℕ) (rest : List Vector) (v : Value saved_state) : Type 0 where
  pub context : fits_context (named_state spent v).phase v.0.1.1.0 ≡ true
  pub spent_is : is_spent spent v.0.1.1.0 ≡ true
  pub challenge : fits_challenge (named_state spent v).phase (length rest) ≡ true
  pub plain : is_plain (named_state spent v).repeat ≡ true
  pub clock : is_clocked (named_state spent v).phase (named_state spent v) ≡ true

pub are_fit : (spent : ℕ) (rest : List Vector) (v : Value saved_state) → fits spent (length rest) v ≡ true → AreFit spent rest v
unfolding fits is_state
are_fit spent rest v h =
    let a = both _ _ h in
    let link = both _ _ a.0 in
    let b = both _ _ a.1 in
    let c = both _ _ b.1 in
    let d = both _ _ c.1 in
    record { context = link.0; spent_is = link.1; challenge = c.0; plain = d.0; clock = d.1 }

pub sound : (s : Setting) (spent : ℕ) (rest : List Vector) (v : Value saved_state)
    → s.vectors ≡ replicate spent (husk (kasme_in (named_state spent v).context)) ++ rest → AreFit spent rest v
    → IsSound s (named_state spent v)
sound s spent rest v is fit = record {
  context = subst (λ vs. HasContext (named_state spent v).phase vs (named_state spent v).context) (sym is)
      (has_context (named_state spent v).phase spent v.0.1.1.0 rest fit.context fit.spent_is);
  connection = has_connection (named_state spent v).phase (named_state spent v) (clocked (named_state spent v) fit.clock);
  challenge = subst (λ vs. HasChallenge (named_state spent v).phase vs (named_state spent v).next_vector) (sym is)
      (has_challenge (named_state spent v).phase spent (husk (kasme_in (named_state spent v).context)) rest fit.challenge);
  reachable = counted_at_rest (named_state spent v).phase (named_state spent v).connection (named_state spent v)
      (clocked (named_state spent v) fit.clock);
  repeat = plain_repeat (named_state spent v).repeat fit.plain;
}

pub in_use : (spent : ℕ) (v : Value saved_state) → is_spent spent v.0.1.1.0 ≡ true → IsInUse (named_state spent v)
in_use spent v h = (
  subst (λ n. IsBelow (named_state spent v).context n) (sym (spent_before (named_state spent v).phase spent))
      (below_if spent v.0.1.1.0 h),
  has_vector (named_state spent v).phase spent,
)

-- ---- whatever is left of the vectors

-- a test of as many vectors that aren't spent says of which
vectors_for : (unspent : ℕ) → (rest : List Vector) × (length rest ≡ unspent)
vectors_for unspent = (replicate unspent (husk []), length-replicate unspent (husk []))

abbrev AreTaken : ℕ → ℕ → Value saved_state → Type 0
AreTaken spent unspent v = (is_spent spent v.0.1.1.0 ≡ true) × IsClocked (named_state spent v)

taken : (spent unspent : ℕ) (v : Value saved_state) → fits spent unspent v ≡ true → AreTaken spent unspent v
taken spent unspent v h =
    let some = vectors_for unspent in
    let fit = are_fit spent some.0 v (subst (λ n. fits spent n v ≡ true) (sym some.1) h) in
    (fit.spent_is, clocked (named_state spent v) fit.clock)

pub in_use_if : (spent unspent : ℕ) (v : Value saved_state) → fits spent unspent v ≡ true → IsInUse (named_state spent v)
in_use_if spent unspent v h = in_use spent v (taken spent unspent v h).0

pub is_clocked_if : (spent unspent : ℕ) (v : Value saved_state) → fits spent unspent v ≡ true → IsClocked (named_state spent v)
is_clocked_if spent unspent v h = (taken spent unspent v h).1

pub spent_as_said : (spent : ℕ) (v : Value saved_state) → vectors_spent (named_state spent v) ≡ spent
spent_as_said spent v = spent_before (named_state spent v).phase spent
