-- Given early is given late, from the beginning of an MME on.
use Rattle.std.proofs.Common.{◌≡◌, ◌≢◌, ◌<◌, ℕ, zero, suc, ◌+◌, List, [], ◌∷◌, ◌++◌, length, refl, sym, ◌∙◌, ap, arith}
use Rattle.std.specs.Prelude.{slice_set}
use Rattle.std.proofs.lemmas.List.{length-set, get_or-set_same, get_or-set_other}
use Rattle.identity_slots.specs.declared.profile.Profile.{Profile}
use Rattle.identity_slots.specs.declared.profile.Vector.{Vector}
use Rattle.identity_slots.specs.Provisioned.{Provisioned, vectors_at, with_vector}
use Rattle.mme_types.specs.declared.network.Network.{Network}
use Rattle.emm_machine.specs.Given.{with_given}
use Rattle.emm_machine.specs.SubscriberView.{SubscriberView}
use Rattle.mme_owners.specs.Changed.{changed_at}
use Rattle.mme_core.specs.declared.config.Config.{Config}
use Rattle.mme_core.specs.Kept.{BeginsKept}
use Rattle.mme_core.specs.Provisioning.{world_given}
use Rattle.mme_core.specs.World.{World, fresh_subscribers, fresh_world, never_seen, replies, world_run}
use Rattle.laws_mme.specs.Acts.{Act, Adds, Gives, Happens}
use Rattle.laws_mme.specs.Early.{BegunEarlyIsGivenLate, GivenEarlyIsGivenLate, ahead, events_in, provisioned_ahead}

abbrev AllVectors : Type 0
AllVectors = List (List Vector)

-- the vectors of another slot may be others
fresh_past : (n : Network) (slot k : ℕ) (ps : List Profile) (vs : AllVectors) (new : List Vector) → k < slot
    → fresh_subscribers n slot ps (slice_set vs k new) ≡ fresh_subscribers n slot ps vs
fresh_past n slot k [] vs new lt = refl
fresh_past n slot k (p ∷ ps) vs new lt =
    let other : slot ≢ k = λ same. omega (arith, same, lt) in
    ap (λ (own : List Vector). never_seen n slot p own ∷ fresh_subscribers n (slot + 1) ps (slice_set vs k new))
    (get_or-set_other vs k slot new [] other)
    ∙ ap (λ (rest : List SubscriberView). never_seen n slot p (vectors_at slot vs) ∷ rest)
    (fresh_past n (slot + 1) k ps vs new (omega (arith, lt)))

-- the list of a slot with a vector more
abbrev lists_given : ℕ → Vector → AllVectors → AllVectors
lists_given slot v vs = slice_set vs slot (vectors_at slot vs ++ v ∷ [])

fresh_given : (n : Network) (slot k : ℕ) (ps : List Profile) (v : Vector) (vs : AllVectors) → slot + length ps ≡ length vs
    → changed_at k (with_given v) (fresh_subscribers n slot ps vs) ≡ fresh_subscribers n slot ps (lists_given (slot + k) v vs)
fresh_given n slot k [] v vs many = refl
fresh_given n slot zero (p ∷ ps) v vs many =
    let first : slot + 0 ≡ slot = omega arith in
    let inside : slot < length vs = omega (arith, many) in
    let new = vectors_at slot vs ++ v ∷ [] in
    sym (ap (λ (m : ℕ). fresh_subscribers n slot (p ∷ ps) (lists_given m v vs)) first
    ∙ ap (λ (own : List Vector). never_seen n slot p own ∷ fresh_subscribers n (slot + 1) ps (slice_set vs slot new))
    (get_or-set_same vs slot new [] inside)
    ∙ ap (λ (rest : List SubscriberView). never_seen n slot p new ∷ rest)
    (fresh_past n (slot + 1) slot ps vs new (omega arith)))
fresh_given n slot (suc k) (p ∷ ps) v vs many =
    let later : slot + 1 + k ≡ slot + suc k = omega arith in
    let other : slot ≢ slot + suc k = λ same. omega (arith, same) in
    let more : slot + 1 + length ps ≡ length vs = omega (arith, many) in
    ap (λ (rest : List SubscriberView). never_seen n slot p (vectors_at slot vs) ∷ rest) (fresh_given n (slot + 1) k ps v vs more)
    ∙ ap (λ (m : ℕ). never_seen n slot p (vectors_at slot vs) ∷ fresh_subscribers n (slot + 1) ps (lists_given m v vs)) later
    ∙ sym (ap (λ (own : List Vector). never_seen n slot p own ∷ fresh_subscribers n (slot + 1) ps (lists_given (slot + suc k) v vs))
    (get_or-set_other vs (slot + suc k) slot (vectors_at (slot + suc k) vs ++ v ∷ []) [] other))

-- ---- the whole MME

given_begun : (config : Config) (p : Provisioned) (slot : ℕ) (v : Vector) → length p.vectors ≡ length p.profiles
    → world_given slot v (fresh_world config p) ≡ fresh_world config (with_vector slot v p)
given_begun config p slot v many =
    let first : 0 + slot ≡ slot = omega arith in
    let all : 0 + length p.profiles ≡ length p.vectors = omega (arith, many) in
    ap (λ (ws : List SubscriberView). record {
      sight = (fresh_world config p).sight;
      strangers = (fresh_world config p).strangers;
      subscribers = ws;
    }) (fresh_given config.network 0 slot p.profiles v p.vectors all
    ∙ ap (λ (m : ℕ). fresh_subscribers config.network 0 p.profiles (lists_given m v p.vectors)) first)

ahead_begun : (config : Config) (acts : List Act) (p : Provisioned) → length p.vectors ≡ length p.profiles
    → ahead acts (fresh_world config p) ≡ fresh_world config (provisioned_ahead acts p)
ahead_begun config [] p many = refl
ahead_begun config (Happens event ∷ acts) p many = ahead_begun config acts p many
ahead_begun config (Adds q ∷ acts) p many = ahead_begun config acts p many
ahead_begun config (Gives slot v ∷ acts) p many =
    ap (λ (w : World). ahead acts w) (given_begun config p slot v many)
    ∙ ahead_begun config acts (with_vector slot v p)
    (length-set p.vectors slot (vectors_at slot p.vectors ++ v ∷ []) ∙ many)

pub begun_early_is_given_late : BeginsKept → GivenEarlyIsGivenLate → BegunEarlyIsGivenLate
begun_early_is_given_late begins early config p acts many served all =
    let run = early (fresh_world config p) acts (begins config p) served all in
    let same = ahead_begun config acts p many in
    record {
      answers = run.answers ∙ ap (λ (w : World). replies w (events_in acts)) same;
      world = run.world ∙ ap (λ (w : World). world_run w (events_in acts)) same;
    }
