-- The first of the bearers to be set up.
use Rattle.std.proofs.Common.{◌≡◌, ℕ, List, [], ◌∷◌, Some, None, slice_get, ap, refl}
use Rattle.std.specs.Borrow.{Bor}
use Rattle.s1ap_elements.specs.Bearers.{ErabToBeSetupItem, erabs_to_be_setup_lists}
use Rattle.s1ap_pdus.specs.Pdus.{listed}
use Rattle.enb_sim.specs.Delivering.{first_bearer}

pub first_is : (es : List (ErabToBeSetupItem (Bor (List ℕ)))) (e : ErabToBeSetupItem (Bor (List ℕ))) → slice_get es 0 ≡ Some e
    → first_bearer (erabs_to_be_setup_lists es) ≡ Some (e.value.id, listed e.value.nas)
first_is [] e h = absurd cc
first_is (x ∷ es) e h = let k : x ≡ e = cc in ap (λ (y : ErabToBeSetupItem (Bor (List ℕ))). Some (y.value.id, listed y.value.nas)) k

pub none_is : (es : List (ErabToBeSetupItem (Bor (List ℕ)))) → slice_get es 0 ≡ None
    → first_bearer (erabs_to_be_setup_lists es) ≡ None
none_is [] h = refl
none_is (x ∷ es) h = absurd cc
