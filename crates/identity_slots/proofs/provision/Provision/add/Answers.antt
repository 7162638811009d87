use Rattle.std.proofs.Common.{◌≡◌, [], ◌∷◌, ◌++◌, length, Some, arith, sym, ◌∙◌, ap}
use Rattle.std.specs.Prelude.{IsOk}
use Rattle.identity_slots.specs.declared.provision.ProvisionFault.TheVariants.{RepeatedImsi, RepeatedAddress, Full}
use Rattle.identity_slots.specs.Provisioned.{Provisioned, add_fault, imsi_key, address_key}
use Rattle.identity_slots.proofs.Places.{held_imsi, held_address, fault_imsi, fault_address, fault_full, fault_none, refused_by, not_none, not_some, index_added, distinct_added, longer, on_ok, not_err}
use Rattle.identity_slots.proofs.provision.Provision.add.Goals as goal

fault_first : (c : goal.Then-contains_key) → add_fault c.args.profile c.args.self.now.profiles ≡ Some RepeatedImsi
fault_first c =
    fault_imsi c.args.profile c.args.self.now.profiles
    (held_imsi c.args.profile.imsi c.imsi_number-imsi.result c.self.inside.by_imsi c.self.inside.profiles.items c.args.self.now.profiles c.contains_key.result c.self.invariant.imsi_index c.imsi_number-imsi.ensures (ap (λ (v : Provisioned). v.profiles) c.self.view_is) c.contains_key.ensures ∙ c.if-contains_key.true)

pub returns-then-contains_key-clause-refused : goal.returns-then-contains_key-clause-refused
returns-then-contains_key-clause-refused c = refused_by _ _ RepeatedImsi (fault_first c)

pub returns-then-contains_key-clause-not_refused :
    goal.returns-then-contains_key-clause-not_refused
returns-then-contains_key-clause-not_refused c = not_none _ _ RepeatedImsi (fault_first c)

fault_second : (c : goal.Then-contains_key-2) → add_fault c.args.profile c.args.self.now.profiles ≡ Some RepeatedAddress
fault_second c =
    fault_address c.args.profile c.args.self.now.profiles
    (held_imsi c.args.profile.imsi c.imsi_number-imsi.result c.self.inside.by_imsi c.self.inside.profiles.items c.args.self.now.profiles c.contains_key.result c.self.invariant.imsi_index c.imsi_number-imsi.ensures (ap (λ (v : Provisioned). v.profiles) c.self.view_is) c.contains_key.ensures ∙ c.if-contains_key.false)
    (held_address c.args.profile.address c.address_number-address.result c.self.inside.by_address c.self.inside.profiles.items c.args.self.now.profiles c.contains_key-2.result c.self.invariant.address_index c.address_number-address.ensures (ap (λ (v : Provisioned). v.profiles) c.self.view_is) c.contains_key-2.ensures ∙ c.if-contains_key-2.true)

pub returns-then-contains_key-2-clause-refused : goal.returns-then-contains_key-2-clause-refused
returns-then-contains_key-2-clause-refused c = refused_by _ _ RepeatedAddress (fault_second c)

pub returns-then-contains_key-2-clause-not_refused :
    goal.returns-then-contains_key-2-clause-not_refused
returns-then-contains_key-2-clause-not_refused c = not_none _ _ RepeatedAddress (fault_second c)

pub returns-in_default-clause-refused : goal.returns-in_default-clause-refused
returns-in_default-clause-refused c =
    let profiles = ap (λ (v : Provisioned). length v.profiles) c.self.view_is in
    let ok = c.self.inside.profiles.ok in
    let len = c.len.ensures in
    let full = c.in_default.ensures in
    refused_by _ _ Full (fault_full c.args.profile c.args.self.now.profiles
    (held_imsi c.args.profile.imsi c.imsi_number-imsi.result c.self.inside.by_imsi c.self.inside.profiles.items c.args.self.now.profiles c.contains_key.result c.self.invariant.imsi_index c.imsi_number-imsi.ensures (ap (λ (v : Provisioned). v.profiles) c.self.view_is) c.contains_key.ensures ∙ c.if-contains_key.false)
    (held_address c.args.profile.address c.address_number-address.result c.self.inside.by_address c.self.inside.profiles.items c.args.self.now.profiles c.contains_key-2.result c.self.invariant.address_index c.address_number-address.ensures (ap (λ (v : Provisioned). v.profiles) c.self.view_is) c.contains_key-2.ensures ∙ c.if-contains_key-2.false)
    (omega (arith, profiles, full)))

pub returns-then-is_err-clause-refused : goal.returns-then-is_err-clause-refused
returns-then-is_err-clause-refused c =
    let profiles = ap (λ (v : Provisioned). length v.profiles) c.self.view_is in
    let ok = c.self.inside.profiles.ok in
    let len = c.len.ensures in
    let fits = c.in-Some.ensures in
    not_some _ _ (fault_none c.args.profile c.args.self.now.profiles
    (held_imsi c.args.profile.imsi c.imsi_number-imsi.result c.self.inside.by_imsi c.self.inside.profiles.items c.args.self.now.profiles c.contains_key.result c.self.invariant.imsi_index c.imsi_number-imsi.ensures (ap (λ (v : Provisioned). v.profiles) c.self.view_is) c.contains_key.ensures ∙ c.if-contains_key.false)
    (held_address c.args.profile.address c.address_number-address.result c.self.inside.by_address c.self.inside.profiles.items c.args.self.now.profiles c.contains_key-2.result c.self.invariant.address_index c.address_number-address.ensures (ap (λ (v : Provisioned). v.profiles) c.self.view_is) c.contains_key-2.ensures ∙ c.if-contains_key-2.false)
    (omega (arith, profiles, fits.0)))

pub returns-clause-refused : goal.returns-clause-refused
returns-clause-refused c =
    let profiles = ap (λ (v : Provisioned). length v.profiles) c.self.view_is in
    let ok = c.self.inside.profiles.ok in
    let len = c.len.ensures in
    let fits = c.in-Some.ensures in
    not_some _ _ (fault_none c.args.profile c.args.self.now.profiles
    (held_imsi c.args.profile.imsi c.imsi_number-imsi.result c.self.inside.by_imsi c.self.inside.profiles.items c.args.self.now.profiles c.contains_key.result c.self.invariant.imsi_index c.imsi_number-imsi.ensures (ap (λ (v : Provisioned). v.profiles) c.self.view_is) c.contains_key.ensures ∙ c.if-contains_key.false)
    (held_address c.args.profile.address c.address_number-address.result c.self.inside.by_address c.self.inside.profiles.items c.args.self.now.profiles c.contains_key-2.result c.self.invariant.address_index c.address_number-address.ensures (ap (λ (v : Provisioned). v.profiles) c.self.view_is) c.contains_key-2.ensures ∙ c.if-contains_key-2.false)
    (omega (arith, profiles, fits.0)))

profiles : (c : goal.After-insert-2) → c.push_reserved.new.self.items ≡ c.self.inside.profiles.items ++ c.args.profile ∷ []
profiles c = c.push_reserved.ensures.items ∙ ap (λ xs. xs ++ c.args.profile ∷ []) c.reserve_one.ensures.profiles

vectors : (c : goal.After-insert-2) → c.push_reserved-2.new.self.items ≡ c.self.inside.vectors.items ++ [] ∷ []
vectors c =
    c.push_reserved-2.ensures.items ∙ ap (λ xs. xs ++ c.none.result ∷ []) c.reserve_one.ensures.vectors
    ∙ ap (λ v. c.self.inside.vectors.items ++ v ∷ []) c.none.ensures

ready : (c : goal.After-insert-2) → IsOk c.reserve_one.result
ready c = not_err c.reserve_one.result (sym c.is_err.ensures.value ∙ c.if-is_err.false)

slot : (c : goal.After-insert-2) → c.in-Some.slot ≡ length c.self.inside.profiles.items
slot c =
    let ok = c.self.inside.profiles.ok in
    let len = c.len.ensures in
    let fits = c.in-Some.ensures in
    omega (arith, fits.1)

pub invariant_of-self-2 : goal.invariant_of-self-2
invariant_of-self-2 c =
    let ps = c.self.inside.profiles.items in
    let qs = c.push_reserved.new.self.items in
    let longer_profiles = longer c.args.profile ps qs (profiles c) in
    let longer_vectors = longer [] c.self.inside.vectors.items c.push_reserved-2.new.self.items (vectors c) in
    let same = c.self.invariant.vectors in
    let ok = c.self.inside.profiles.ok in
    let len = c.len.ensures in
    let fits = c.in-Some.ensures in
    let no_imsi = sym c.contains_key.ensures ∙ c.if-contains_key.false in
    let no_address = sym c.contains_key-2.ensures ∙ c.if-contains_key-2.false in
    let imsi = on_ok c.insert.result (c.insert.ensures.succeeds (on_ok c.reserve_one.result (ready c) c.reserve_one.ensures.room_by_imsi)) c.insert.ensures.updates in
    let address = on_ok c.insert-2.result (c.insert-2.ensures.succeeds (on_ok c.reserve_one.result (ready c) c.reserve_one.ensures.room_by_address)) c.insert-2.ensures.updates in
    record {
      few = omega (arith, longer_profiles, fits.0);
      vectors = omega arith;
      imsis = distinct_added imsi_key c.imsi_number-imsi.result c.args.profile ps qs c.self.inside.by_imsi c.imsi_number-imsi.ensures (profiles c) c.self.invariant.imsi_index no_imsi c.self.invariant.imsis;
      addresses = distinct_added address_key c.address_number-address.result c.args.profile ps qs c.self.inside.by_address c.address_number-address.ensures (profiles c) c.self.invariant.address_index no_address c.self.invariant.addresses;
      imsi_index = index_added imsi_key c.imsi_number-imsi.result c.in-Some.slot c.args.profile ps qs c.self.inside.by_imsi c.reserve_one.new.by_imsi c.insert.new.self c.imsi_number-imsi.ensures (slot c) (profiles c)
          c.self.invariant.imsi_index c.reserve_one.ensures.by_imsi no_imsi imsi.0;
      address_index = index_added address_key c.address_number-address.result c.in-Some.slot c.args.profile ps qs c.self.inside.by_address c.reserve_one.new.by_address c.insert-2.new.self c.address_number-address.ensures (slot c) (profiles c)
          c.self.invariant.address_index c.reserve_one.ensures.by_address no_address address.0;
    }
