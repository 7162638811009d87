-- All that comes after the version, read from the left.
use Rattle.std.proofs.Common.{◌≡◌, ℕ, List, Some, Result, Ok, Err, sym, ◌∙◌, ap}
use Rattle.per_streams.specs.Bits.{Place, end_at}
use Rattle.mme_types.specs.declared.stations.StationState.{StationState}
use Rattle.mme_core.specs.World.{World}
use Rattle.mme_snapshot.specs.declared.fault.RestoreFault.{RestoreFault}
use Rattle.mme_snapshot.specs.declared.parts.Head.{Head}
use Rattle.mme_snapshot.specs.Restored.{◌>=>◌, Built, as_more, begun, body_at, head_at, stations_at, strangers_at, subscribers_at}

made : {A B : Type 0} (r : Result A RestoreFault) (f : A → Result B RestoreFault) (x : A) → r ≡ Ok x → (r >=> f) ≡ f x
made r f x is = ap (λ q. q >=> f) is

refused : {A B : Type 0} (r : Result A RestoreFault) (f : A → Result B RestoreFault) (fault : RestoreFault) → r ≡ Err fault → (r >=> f) ≡ Err fault
refused r f fault is = ap (λ q. q >=> f) is

-- ---- what is left to read

abbrev from_end : Built × Place → Result World RestoreFault
from_end m = as_more (end_at m.1) >=> λ e. Ok m.0.world

abbrev from_subscribers : ℕ → Built × Place → Result World RestoreFault
from_subscribers most k = subscribers_at (Some most) k.0 k.1 >=> λ m. from_end m

abbrev from_strangers : ℕ → Head → List StationState × Place → Result World RestoreFault
from_strangers most h t = strangers_at (begun h t.0) t.1 >=> λ k. from_subscribers most k

abbrev from_stations : ℕ → Head × Place → Result World RestoreFault
from_stations most h = stations_at h.1 >=> λ t. from_strangers most h.0 t

-- ---- the first fault, or the MME

module _ (most : ℕ) (s : Place) where
  pub no_head : (fault : RestoreFault) → head_at s ≡ Err fault → body_at (Some most) s ≡ Err fault
  no_head fault is = refused (head_at s) (λ h. from_stations most h) fault is

  module _ (h : Head) (s1 : Place) (headed : head_at s ≡ Ok (h, s1)) where
    with_head : body_at (Some most) s ≡ from_stations most (h, s1)
    with_head = made (head_at s) (λ x. from_stations most x) (h, s1) headed

    pub no_stations : (fault : RestoreFault) → stations_at s1 ≡ Err fault → body_at (Some most) s ≡ Err fault
    no_stations fault is = with_head ∙ refused (stations_at s1) (λ t. from_strangers most h t) fault is

    module _ (ss : List StationState) (s2 : Place) (stationed : stations_at s1 ≡ Ok (ss, s2)) (b : Built) (is_begun : b ≡ begun h ss) where
      with_stations : body_at (Some most) s ≡ (strangers_at b s2 >=> λ k. from_subscribers most k)
      with_stations =
          with_head ∙ made (stations_at s1) (λ t. from_strangers most h t) (ss, s2) stationed
          ∙ ap (λ (x : Built). strangers_at x s2 >=> λ k. from_subscribers most k) (sym is_begun)

      pub no_strangers : (fault : RestoreFault) → strangers_at b s2 ≡ Err fault → body_at (Some most) s ≡ Err fault
      no_strangers fault is = with_stations ∙ refused (strangers_at b s2) (λ k. from_subscribers most k) fault is

      module _ (k : Built) (s3 : Place) (strangers : strangers_at b s2 ≡ Ok (k, s3)) where
        with_strangers : body_at (Some most) s ≡ from_subscribers most (k, s3)
        with_strangers = with_stations ∙ made (strangers_at b s2) (λ x. from_subscribers most x) (k, s3) strangers

        pub no_subscribers : (fault : RestoreFault) → subscribers_at (Some most) k s3 ≡ Err fault → body_at (Some most) s ≡ Err fault
        no_subscribers fault is = with_strangers ∙ refused (subscribers_at (Some most) k s3) (λ x. from_end x) fault is

        module _ (m : Built) (s4 : Place) (subscribers : subscribers_at (Some most) k s3 ≡ Ok (m, s4)) where
          with_subscribers : body_at (Some most) s ≡ from_end (m, s4)
          with_subscribers = with_strangers ∙ made (subscribers_at (Some most) k s3) (λ x. from_end x) (m, s4) subscribers

          pub more_so : (fault : RestoreFault) → as_more (end_at s4) ≡ Err fault → body_at (Some most) s ≡ Err fault
          more_so fault is = with_subscribers ∙ refused (as_more (end_at s4)) (λ e. Ok m.world) fault is

          pub all_so : (e : Unit {0} × Place) (w : World) → as_more (end_at s4) ≡ Ok e → w ≡ m.world → body_at (Some most) s ≡ Ok w
          all_so e w ended is =
              with_subscribers ∙ made (as_more (end_at s4)) (λ e. Ok m.world) e ended ∙ ap (λ (x : World). Ok x) (sym is)
