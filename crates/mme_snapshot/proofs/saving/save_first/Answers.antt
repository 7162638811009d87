use Rattle.std.proofs.Common.{◌≡◌, ℕ, List, ◌++◌, append_assoc, subst, ap, ◌∙◌}
use Rattle.mme_types.specs.declared.stations.StationState.{StationState}
use Rattle.per_bits.specs.Formats.{number}
use Rattle.per_bits.specs.Spelling.{SpellsWhole}
use Rattle.mme_snapshot.specs.Saved.{AreStations}
use Rattle.mme_snapshot.proofs.saving.save_first.Goals as goal

joined : (v h s k a b d : List ℕ) → a ≡ v ++ h → b ≡ a ++ s → d ≡ b ++ k → d ≡ v ++ (h ++ (s ++ k))
joined v h s k a b d p q r =
    r ∙ ap (λ (l : List ℕ). l ++ k) (q ∙ ap (λ (l : List ℕ). l ++ s) p) ∙ append_assoc (v ++ h) s k ∙ append_assoc v h (s ++ k)

-- octets after others, by what they were lent as
more : (a b l m : List ℕ) → a ≡ b ++ l → l ≡ m → a ≡ b ++ m
more a b l m p q = p ∙ ap (λ (r : List ℕ). b ++ r) q

pub returns : goal.returns
returns c =
    let head = c.in_ok-head.ensures in
    let version = c.in_ok-octets.octets.items in
    let one = c.append.new.octets.items in
    let two = c.append-2.new.octets.items in
    record {
      version_octets = version;
      head_octets = c.in_ok-head.head.items;
      station_octets = c.in_ok-stations.stations.items;
      count_octets = c.in_ok-count.count.items;
      parts = joined version c.in_ok-head.head.items c.in_ok-stations.stations.items c.in_ok-count.count.items one two _
          (more one version _ _ c.in_ok-append.ensures c.as_slice-2.ensures.value)
          (more two one _ _ c.in_ok-append-2.ensures c.as_slice-3.ensures.value)
          (more _ two _ _ c.in_ok-append-3.ensures c.as_slice-4.ensures.value);
      versioned = subst (λ n. SpellsWhole (number 0 255) n version) c.new.ensures c.in_ok-octets.ensures;
      head = head.0;
      is_head = head.1;
      label = head.2;
      headed = head.3;
      stations = subst (λ (ss : List StationState). AreStations ss c.in_ok-stations.stations.items)
          (c.as_slice.ensures.value ∙ c.parts.ensures.stations) c.in_ok-stations.ensures;
      counted = c.in_ok-count.ensures;
    }
