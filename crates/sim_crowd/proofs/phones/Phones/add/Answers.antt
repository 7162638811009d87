use Rattle.std.proofs.Common.{◌≡◌, ◌==◌, [], ◌∷◌, ◌++◌, Some, false, length, if◌then◌else◌, sym, ap, subst, ◌∙◌, arith}
use Rattle.std.specs.Prelude.{is_some}
use Rattle.identity_slots.specs.Provisioned.{imsi_number}
use Rattle.sim_crowd.specs.Index.{place_under}
use Rattle.sim_crowd.specs.Handsets.{new_handset}
use Rattle.sim_crowd.specs.Phones.{IsPhoneIndex, phone_named}
use Rattle.sim_crowd.proofs.Indexes.{phone_added}
use Rattle.sim_crowd.proofs.phones.Phones.add.Goals as goal

pub invariant_of-self-2 : goal.invariant_of-self-2
invariant_of-self-2 c =
    let imsi = c.args.imsi in
    let index = c.self.inside.imsis in
    let hs = c.self.inside.handsets.items in
    let ok = c.self.inside.handsets.ok in
    let count = c.len-phone.ensures in
    let len : c.len-phone.result ≡ length hs = omega arith in
    let added : c.push_reserved.new.self.items ≡ hs ++ new_handset imsi ∷ [] =
    c.push_reserved.ensures.items ∙ ap (λ xs. xs ++ c.new.result ∷ []) c.reserve.ensures.items
    ∙ ap (λ h. hs ++ h ∷ []) c.new.ensures in
    let none : is_some (phone_named imsi hs) ≡ false =
    ap (λ xs. is_some (phone_named imsi xs)) c.self.view_is ∙ sym (ap is_some c.find.ensures.place) ∙ sym c.is_some.ensures
    ∙ c.if-is_some.false in
    subst (IsPhoneIndex c.put.new.self) (sym added)
    (phone_added c.imsis_apart.ensures imsi c.imsi_key.ensures.imsi index c.put.new.self hs c.self.invariant none
    (λ k. c.in_ok-put.ensures.found k
    ∙ ap (λ n. if n == k then Some c.len-phone.result else place_under k index) c.imsi_key.ensures.value
    ∙ ap (λ n. if imsi_number imsi == k then Some n else place_under k index) len))
