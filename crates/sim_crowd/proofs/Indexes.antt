-- The index of a list that has one item more.
use Rattle.std.proofs.Common.{◌≡◌, ℕ, List, [], ◌∷◌, ◌++◌, length, set, get_or, refl, sym, ◌∙◌, ap, subst}
use Rattle.std.specs.Prelude.{◌==◌, Bool, true, false, bytes_eq, if◌then◌else◌, Option, Some, None, is_some}
use Rattle.std.proofs.lemmas.Bool.{eqb-true, eq-eqb}
use Rattle.std.proofs.lemmas.Slice.Eq.{bytes_eq-Decides}
use Rattle.nas_elements.specs.Digits.{is_imsi}
use Rattle.identity_slots.specs.Provisioned.{ImsisApart, imsi_number}
use Rattle.sim_crowd.specs.declared.index.Entry.{Entry}
use Rattle.sim_crowd.specs.declared.site.Site.{Site}
use Rattle.sim_crowd.specs.Index.{place_under}
use Rattle.sim_crowd.specs.Handsets.{HandsetView, new_handset}
use Rattle.sim_crowd.specs.Phones.{IsPhoneIndex, phone_named}
use Rattle.sim_crowd.specs.Stations.{IsStationIndex, has_number, place_of_site, site_of}
use Rattle.sim_crowd.proofs.Places.{position-new, position-set, some-position}

same_tests : (a b : Bool) → (a ≡ true → b ≡ true) → (b ≡ true → a ≡ true) → a ≡ b
same_tests true b f g = sym (f refl)
same_tests false true f g = g refl
same_tests false false f g = refl

is_none : {X : Type 0} (o : Option X) → is_some o ≡ false → o ≡ None
is_none None h = refl
is_none (Some x) h = absurd (cc)

-- two IMSIs are one if their numbers are
one_imsi : ImsisApart → (a b : List ℕ) → is_imsi a ≡ true → is_imsi b ≡ true → bytes_eq a b ≡ (imsi_number a == imsi_number b)
one_imsi apart a b p q =
    same_tests (bytes_eq a b) (imsi_number a == imsi_number b)
    (λ h. eq-eqb (imsi_number a) (imsi_number b) (ap imsi_number ((bytes_eq-Decides a b).0 h)))
    (λ h. (bytes_eq-Decides a b).1 (apart a b p q (eqb-true (imsi_number a) (imsi_number b) h)))

pub phone_added : ImsisApart → (imsi : List ℕ) → is_imsi imsi ≡ true → (index fresh : List Entry) (hs : List HandsetView)
    → IsPhoneIndex index hs → is_some (phone_named imsi hs) ≡ false
    → ((k : ℕ) → place_under k fresh ≡ (if imsi_number imsi == k then Some (length hs) else place_under k index))
    → IsPhoneIndex fresh (hs ++ new_handset imsi ∷ [])
phone_added apart imsi p index fresh hs h none found other q =
    let same = imsi_number imsi == imsi_number other in
    found (imsi_number other) ∙ ap (λ o. if same then Some (length hs) else o) (h other q)
    ∙ sym (position-new (λ (x : HandsetView). bytes_eq x.imsi other) (new_handset imsi) hs same (one_imsi apart imsi other p q)
    (λ e. subst (λ (x : List ℕ). phone_named x hs ≡ None) (apart imsi other p q (eqb-true (imsi_number imsi) (imsi_number other) e))
    (is_none (phone_named imsi hs) none)))

pub station_added : (index fresh : List Entry) (s : Site) (sites : List Site) → IsStationIndex index sites
    → is_some (site_of s.station.profile.number sites) ≡ false
    → ((k : ℕ) → place_under k fresh
    ≡ (if s.station.profile.number == k then Some (length sites) else place_under k index))
    → IsStationIndex fresh (sites ++ s ∷ [])
station_added index fresh s sites h none found n =
    let number = s.station.profile.number in
    found n ∙ ap (λ o. if number == n then Some (length sites) else o) (h n)
    ∙ sym (position-new (has_number n) s sites (number == n) refl
    (λ e. subst (λ m. place_of_site m sites ≡ None) (eqb-true number n e)
    (is_none (place_of_site number sites) (sym (some-position (has_number number) sites) ∙ none))))

-- a station that keeps its number
pub station_kept : (index : List Entry) (i : ℕ) (s t : Site) (sites : List Site) → IsStationIndex index sites → s ≡ get_or sites i s
    → t.station.profile.number ≡ s.station.profile.number → IsStationIndex index (set sites i t)
station_kept index i s t sites h e same n =
    h n ∙ sym (position-set (has_number n) i s t sites e (ap (λ m. m == n) same))
