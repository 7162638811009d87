-- Subscribers who were never seen, one by one.
use Rattle.std.proofs.Common.{◌≡◌, ℕ, ◌+◌, List, [], ◌∷◌, ◌++◌, drop, get_or, Some, sym, ◌∙◌, ap}
use Rattle.std.specs.Prelude.{slice_get}
use Rattle.std.proofs.lemmas.List.{append_assoc, drop_more}
use Rattle.std.proofs.lemmas.Option.{slice_get_within, get_or_from_slice_get}
use Rattle.identity_slots.specs.declared.profile.Profile.{Profile}
use Rattle.identity_slots.specs.declared.profile.Vector.{Vector}
use Rattle.identity_slots.specs.Provisioned.{Provisioned, vectors_at}
use Rattle.mme_types.specs.declared.network.Network.{Network}
use Rattle.mme_types.specs.declared.stations.StationState.{StationState}
use Rattle.mme_types.specs.Stations.{no_stations}
use Rattle.emm_machine.specs.SubscriberView.{SubscriberView}
use Rattle.stranger_machine.specs.declared.table.Known.{Known}
use Rattle.mme_owners.specs.Owners.{OwnersView}
use Rattle.mme_core.specs.declared.config.Config.{Config}
use Rattle.mme_core.specs.World.{World, fresh_subscribers, fresh_world, never_seen, world_of}

-- the next one is made
pub fresh_more : (n : Network) (slot : ℕ) (ps : List Profile) (vectors : List (List Vector)) (p : Profile) (vs : List Vector)
    → slice_get ps slot ≡ Some p → vectors_at slot vectors ≡ vs
    → fresh_subscribers n slot (drop slot ps) vectors
    ≡ never_seen n slot p vs ∷ fresh_subscribers n (slot + 1) (drop (slot + 1) ps) vectors
fresh_more n slot ps vectors p vs h k =
    ap (λ xs. fresh_subscribers n slot xs vectors) (drop_more ps slot p (slice_get_within ps slot p h))
    ∙ ap (λ x. never_seen n slot x (get_or vectors slot []) ∷ fresh_subscribers n (slot + 1) (drop (slot + 1) ps) vectors)
    (get_or_from_slice_get ps slot p p h)
    ∙ ap (λ ys. never_seen n slot p ys ∷ fresh_subscribers n (slot + 1) (drop (slot + 1) ps) vectors) k

-- one more stands after those who were made
pub fresh_pushed : (made now rest rest_now all : List SubscriberView) (w x : SubscriberView) → now ≡ made ++ w ∷ [] → w ≡ x
    → rest ≡ x ∷ rest_now → made ++ rest ≡ all → now ++ rest_now ≡ all
fresh_pushed made now rest rest_now all w x push same more whole =
    ap (λ xs. xs ++ rest_now) push ∙ append_assoc made (w ∷ []) rest_now ∙ ap (λ y. made ++ y ∷ rest_now) same
    ∙ ap (λ xs. made ++ xs) (sym more) ∙ whole

-- ---- an MME with them

abbrev begins_at : Config → List StationState → List Profile → List Known → List SubscriberView → World
begins_at config stations ps ks ws = record {
  sight = record { config = config; clock = config.clock; stations = stations; profiles = ps };
  strangers = ks;
  subscribers = ws;
}

pub begun_world : (config : Config) (p : Provisioned) (stations : List StationState) (ps : List Profile) (o : OwnersView)
    → stations ≡ no_stations → ps ≡ p.profiles → o.strangers ≡ []
    → o.subscribers ≡ fresh_subscribers config.network 0 p.profiles p.vectors
    → world_of (record { config = config; clock = config.clock; stations = stations; profiles = ps }) o ≡ fresh_world config p
begun_world config p stations ps o down same none fresh =
    ap (λ (xs : List StationState). begins_at config xs ps o.strangers o.subscribers) down
    ∙ ap (λ (xs : List Profile). begins_at config no_stations xs o.strangers o.subscribers) same
    ∙ ap (λ (xs : List Known). begins_at config no_stations p.profiles xs o.subscribers) none
    ∙ ap (λ (xs : List SubscriberView). begins_at config no_stations p.profiles [] xs) fresh
