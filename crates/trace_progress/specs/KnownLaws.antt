-- Who is provisioned has states in the MME that is made of what is provisioned.
use Rattle.std.proofs.Common.{◌≡◌, ℕ, suc, ◌+◌, ◌==◌, Bool, true, false, cond, List, [], ◌∷◌, Option, Some, None, refl, sym, ap, ◌∙◌, arith}
use Rattle.std.specs.Prelude.{is_some, option_map, slice_get, Result, Ok}
use Rattle.identity_slots.specs.declared.profile.Profile.{Profile}
use Rattle.identity_slots.specs.declared.profile.Vector.{Vector}
use Rattle.identity_slots.specs.Provisioned.{Provisioned, imsi_key, imsi_number, place_from, slot_of_imsi}
use Rattle.mme_types.specs.declared.network.Network.{Network}
use Rattle.mme_core.specs.World.{World, fresh_subscribers, fresh_world}
use Rattle.mme_core.specs.declared.config.Config.{Config}
use Rattle.trace_words.specs.declared.fault.TraceFault.{TraceFault}
use Rattle.trace_progress.specs.declared.progress.Progress.{Progress}
use Rattle.trace_progress.specs.declared.progress.Progress.TheVariants.{Provisioning}
use Rattle.trace_progress.specs.Effects.{running, states_in, states_of_imsi}

is_some-map : {A B : Type 0} (f : A → B) (o : Option A) → is_some (option_map f o) ≡ is_some o
is_some-map f None = refl
is_some-map f (Some x) = refl

-- the place of a profile, counted from n, is that of a subscriber
placed : (key : Profile → ℕ) (k n i slot : ℕ) (ps : List Profile) (vs : List (List Vector)) (network : Network)
    → place_from key k n ps ≡ Some slot
    → (j : ℕ) × (slot ≡ n + j) × (is_some (slice_get (fresh_subscribers network i ps vs) j) ≡ true)
placed key k n i slot [] vs network e = absurd (cc e)
placed key k n i slot (p ∷ ps) vs network e = by (key p == k) e (λ h. placed key k (n + 1) (i + 1) slot ps vs network h)
  where
    by : (b : Bool) → cond b (Some n) (place_from key k (n + 1) ps) ≡ Some slot
        → (place_from key k (n + 1) ps ≡ Some slot
        → (j : ℕ) × (slot ≡ n + 1 + j) × (is_some (slice_get (fresh_subscribers network (i + 1) ps vs) j) ≡ true))
        → (j : ℕ) × (slot ≡ n + j) × (is_some (slice_get (fresh_subscribers network i (p ∷ ps) vs) j) ≡ true)
    by true h others = let s : n ≡ slot = cc h in (0, omega (arith, s), refl)
    by false h others =
        let rest = others h in
        let s = rest.1 in (suc rest.0, omega (arith, s), rest.2)

-- somebody has states in a fresh MME exactly if they are provisioned
pub known_fresh : (config : Config) (p : Provisioned) (imsi : List ℕ)
    → is_some (slot_of_imsi imsi p.profiles) ≡ is_some (states_of_imsi imsi (fresh_world config p))
unfolding slot_of_imsi
known_fresh config p imsi = by (place_from imsi_key (imsi_number imsi) 0 p.profiles) refl
  where
    by : (o : Option ℕ) → place_from imsi_key (imsi_number imsi) 0 p.profiles ≡ o
        → is_some o ≡ is_some (states_in (fresh_world config p) o)
    by None h = refl
    by (Some slot) h =
        let at = placed imsi_key (imsi_number imsi) 0 0 slot p.profiles p.vectors config.network h in
        let subscribers = fresh_subscribers config.network 0 p.profiles p.vectors in
        let s : slot ≡ at.0 = let q = at.1 in omega (arith, q) in
        sym (is_some-map _ (slice_get subscribers slot) ∙ ap (λ j. is_some (slice_get subscribers j)) s ∙ at.2)

-- the same of whatever MME a line speaks to
pub known_running : (progress : Progress) (config : Config) (p : Provisioned) (imsi : List ℕ) (world : World)
    → progress ≡ Provisioning config p → running progress ≡ Ok world
    → is_some (slot_of_imsi imsi p.profiles) ≡ is_some (states_of_imsi imsi world)
known_running progress config p imsi world e r =
    let is : Result World TraceFault = Ok (fresh_world config p) in
    let same : is ≡ Ok world = sym (ap running e) ∙ r in
    let w : fresh_world config p ≡ world = cc same in
    known_fresh config p imsi ∙ ap (λ v. is_some (states_of_imsi imsi v)) w
