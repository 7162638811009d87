use Rattle.std.proofs.Common.{◌≡◌, ◌+◌, ◌++◌, ◌∷◌, [], length, drop, arith, ap, ◌∙◌, sym, Some}
use Rattle.std.specs.Prelude.{slice_get}
use Rattle.std.proofs.lemmas.List.{get_or-set_other, length_push}
use Rattle.std.proofs.lemmas.Option.{get_or_from_slice_get}
use Rattle.identity_slots.specs.Provisioned.{Provisioned, vectors_at}
use Rattle.mme_core.specs.World.{fresh_subscribers, never_seen}
use Rattle.mme_core.proofs.Fresh.{fresh_more, fresh_pushed}
use Rattle.mme_core.proofs.provisioning.fresh_owners.Goals as goal

pub loop-place-preserved : goal.loop-place-preserved
loop-place-preserved c =
    let l = c.loop-place in
    let n = c.args.network.now in
    let ps = c.args.provision.now.profiles in
    let vs = c.args.provision.now.vectors in
    let slot : c.slot_of-slot.result ≡ l.place = c.slot_of-slot.ensures in
    let p = c.profile-profile.result.now in
    let own = c.take_vectors-vectors.result in
    let kept : c.take_vectors-vectors.new.self.profiles ≡ ps =
    ap (λ (s : Provisioned). s.profiles) c.take_vectors-vectors.ensures.left ∙ l.invariant.profiles in
    let at_p : slice_get ps l.place ≡ Some p =
    ap (slice_get ps) (sym slot) ∙ ap (λ xs. slice_get xs c.slot_of-slot.result) (sym kept) ∙ c.profile-profile.ensures in
    let at_v : vectors_at l.place vs ≡ own = sym (l.invariant.left l.place (omega arith)) ∙ ap (λ k. vectors_at k l.provision.vectors) (sym slot) ∙ get_or_from_slice_get l.provision.vectors c.slot_of-slot.result own [] c.take_vectors-vectors.ensures.taken in
    let one : never_seen n c.slot_of-slot.result p own ≡ never_seen n l.place p own = ap (λ k. never_seen n k p own) slot in
    let push : c.push_fresh.new.owners.subscribers ≡ l.owners.subscribers ++ never_seen n c.slot_of-slot.result p own ∷ [] = c.in-Ok.ensures.ok in
    record {
      clock = c.push_fresh.ensures.clock ∙ l.invariant.clock;
      strangers = c.push_fresh.ensures.strangers ∙ l.invariant.strangers;
      made =
          fresh_pushed l.owners.subscribers c.push_fresh.new.owners.subscribers (fresh_subscribers n l.place (drop l.place ps) vs)
          (fresh_subscribers n (l.place + 1) (drop (l.place + 1) ps) vs)
          (fresh_subscribers n 0 ps vs) (never_seen n c.slot_of-slot.result p own) (never_seen n l.place p own) push one
          (fresh_more n l.place ps vs p own at_p at_v) l.invariant.made;
      count = omega (arith, ap length push, length_push l.owners.subscribers (never_seen n c.slot_of-slot.result p own), l.invariant.count);
      profiles = kept;
      left = λ k h. ap (λ (s : Provisioned). vectors_at k s.vectors) c.take_vectors-vectors.ensures.left ∙ get_or-set_other l.provision.vectors c.slot_of-slot.result k [] [] (λ e. omega (arith, slot, e, h)) ∙ l.invariant.left k (omega (arith, h));
    }
