-- What messages say of bearers keeps its names.
use Rattle.std.proofs.Common.{◌≡◌, ℕ, List, [], ◌∷◌, refl, ap}
use Rattle.std.specs.Borrow.{Bor}
use Rattle.per_bits.specs.Formats.{Value}
use Rattle.s1ap_elements.specs.Formats.{erabs_to_be_setup, erabs_setup, erabs_to_be_switched}
use Rattle.s1ap_elements.specs.Bearers.{ErabToBeSetupItem, ErabSetupItem, ErabToBeSwitchedItem, erab_to_be_setup_lists, erabs_to_be_setup_lists, seen_erabs_to_be_setup, typed_erab_to_be_setup, named_erab_to_be_setup, typed_erabs_to_be_setup, named_erabs_to_be_setup, typed_erab_tunnel, named_erab_tunnel, typed_erabs_setup, named_erabs_setup, typed_erabs_to_be_switched, named_erabs_to_be_switched}
use Rattle.s1ap_elements.specs.ListLaws.{map_back}

pub erabs_to_be_setup_again : (es : List (ErabToBeSetupItem (List ℕ)))
    → named_erabs_to_be_setup (typed_erabs_to_be_setup es) ≡ es
erabs_to_be_setup_again es =
    map_back (λ e. (typed_erab_to_be_setup e.value, tt)) (λ x. record { value = named_erab_to_be_setup x.0 }) (λ e. refl) es

pub erabs_to_be_setup_spelled : (v : Value erabs_to_be_setup) → typed_erabs_to_be_setup (named_erabs_to_be_setup v) ≡ v
erabs_to_be_setup_spelled v =
    map_back (λ x. record { value = named_erab_to_be_setup x.0 }) (λ e. (typed_erab_to_be_setup e.value, tt)) (λ x. refl) v

pub erabs_setup_again : (es : List ErabSetupItem) → named_erabs_setup (typed_erabs_setup es) ≡ es
erabs_setup_again es =
    map_back (λ e. (typed_erab_tunnel e.value, tt)) (λ x. record { value = named_erab_tunnel x.0 }) (λ e. refl) es

pub erabs_setup_spelled : (v : Value erabs_setup) → typed_erabs_setup (named_erabs_setup v) ≡ v
erabs_setup_spelled v =
    map_back (λ x. record { value = named_erab_tunnel x.0 }) (λ e. (typed_erab_tunnel e.value, tt)) (λ x. refl) v

pub erabs_to_be_switched_again : (es : List ErabToBeSwitchedItem)
    → named_erabs_to_be_switched (typed_erabs_to_be_switched es) ≡ es
erabs_to_be_switched_again es =
    map_back (λ e. (typed_erab_tunnel e.value, tt)) (λ x. record { value = named_erab_tunnel x.0 }) (λ e. refl) es

pub erabs_to_be_switched_spelled : (v : Value erabs_to_be_switched) → typed_erabs_to_be_switched (named_erabs_to_be_switched v) ≡ v
erabs_to_be_switched_spelled v =
    map_back (λ x. record { value = named_erab_tunnel x.0 }) (λ e. (typed_erab_tunnel e.value, tt)) (λ x. refl) v

-- the octets of a list's elements taken first, or with each element
pub erabs_seen : (es : List (ErabToBeSetupItem (Bor (List ℕ))))
    → typed_erabs_to_be_setup (erabs_to_be_setup_lists es) ≡ seen_erabs_to_be_setup es
erabs_seen [] = refl
erabs_seen (e ∷ es) = ap (λ xs. (typed_erab_to_be_setup (erab_to_be_setup_lists e.value), tt) ∷ xs) (erabs_seen es)
