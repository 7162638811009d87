-- When octets are accepted.
use Rattle.std.proofs.Common.{◌≡◌, ℕ, ◌/◌, ◌%◌, ◌^◌, ◌<◌, ◌≤◌, ◌==◌, ◌&&◌, ◌↔◌, Bool, true, false, cond, List, ◌∷◌, take, drop, slice_index, Option, Some, None, Result, Ok, Err, refl, sym, ap, ◌∙◌}
use Rattle.eps_keys.specs.Same.{same_octets}
use Rattle.eps_keys.specs.declared.direction.DirectionBit.TheVariants.{Uplink}
use Rattle.nas_messages.specs.declared.protection.SecurityHeader.{SecurityHeader}
use Rattle.nas_messages.specs.declared.protection.Protected.{Protected}
use Rattle.nas_messages.specs.Protection.{split}
use Rattle.nas_security.specs.declared.fault.SecurityFault.{SecurityFault}
use Rattle.nas_security.specs.declared.fault.SecurityFault.TheVariants.{BadMac, WrongHeader}
use Rattle.nas_security.specs.Counts.{estimate, first_after}
use Rattle.nas_security.specs.Accepting.{Acceptance, accepted, accepted_parts, accepted_under, is_allowed, short_accepted, short_under}
use Rattle.nas_security.specs.Context.{Mac}
use Rattle.nas_security.specs.Laws.{IsAccepted}
use Rattle.nas_security.proofs.Estimates.{estimated}

-- the law of the test of two MACs
abbrev pub SameIsEqual : Type 0
SameIsEqual = (xs ys : List ℕ) → (same_octets xs ys ≡ true) ↔ (xs ≡ ys)

-- an answer that is Ok came from the branch that isn't a fault
where_ok : {A : Type 0} (b : Bool) (r : Result A SecurityFault) (f : SecurityFault) (x : A) → cond b r (Err f) ≡ Ok x
    → (b ≡ true) × (r ≡ Ok x)
where_ok true r f x e = (refl, e)
where_ok false r f x e = absurd (cc)

from_estimate : SameIsEqual → (mac : Mac) (last : Option ℕ) (allowed : List SecurityHeader) (octets : List ℕ) (count : ℕ) (message : List ℕ) (p : Protected (List ℕ))
    → split octets ≡ Some p → is_allowed allowed p.header ≡ true
    → (o : Option ℕ) → estimate last p.sequence (2 ^ 8) ≡ o → accepted_under mac p o ≡ Ok (count, message)
    → IsAccepted mac last allowed octets count message
from_estimate same mac last allowed octets count message p form header None counted e = absurd (cc)
from_estimate same mac last allowed octets count message p form header (Some n) counted e =
    let answer : Acceptance = Ok (n, p.message) in
    let found = where_ok (same_octets p.mac (mac n Uplink (p.sequence ∷ p.message))) answer BadMac (count, message) e in
    let there : ℕ × List ℕ = (n, p.message) in
    let here : ℕ × List ℕ = (count, message) in
    let given = found.1 in
    let pair : there ≡ here = cc in
    let same_count : n ≡ count = ap (λ (x : ℕ × List ℕ). x.0) pair in
    let content : p.message ≡ message = ap (λ (x : ℕ × List ℕ). x.1) pair in record {
      parts = p;
      form = form;
      content = content;
      header = header;
      counted = counted ∙ ap Some same_count;
      right = (same p.mac (mac n Uplink (p.sequence ∷ p.message))).0 found.0 ∙ ap (λ (k : ℕ). mac k Uplink (p.sequence ∷ p.message)) same_count ∙ ap (λ (m : List ℕ). mac count Uplink (p.sequence ∷ m)) content;
    }

from_form : SameIsEqual
    → (mac : Mac) (last : Option ℕ) (allowed : List SecurityHeader) (octets : List ℕ) (count : ℕ) (message : List ℕ)
    → (o : Option (Protected (List ℕ))) → split octets ≡ o → accepted_parts mac last allowed o ≡ Ok (count, message)
    → IsAccepted mac last allowed octets count message
from_form same mac last allowed octets count message None form e = absurd (cc)
from_form same mac last allowed octets count message (Some p) form e =
    let found =
    where_ok (is_allowed allowed p.header) (accepted_under mac p (estimate last p.sequence (2 ^ 8))) WrongHeader
    (count, message) e in
    from_estimate same mac last allowed octets count message p form found.0 (estimate last p.sequence (2 ^ 8)) refl found.1

pub accepted_so : SameIsEqual
    → (mac : Mac) (last : Option ℕ) (allowed : List SecurityHeader) (octets : List ℕ) (count : ℕ) (message : List ℕ)
    → accepted mac last allowed octets ≡ Ok (count, message) → IsAccepted mac last allowed octets count message
unfolding accepted
accepted_so same mac last allowed octets count message e =
    from_form same mac last allowed octets count message (split octets) refl e

pub so_accepted : SameIsEqual
    → (mac : Mac) (last : Option ℕ) (allowed : List SecurityHeader) (octets : List ℕ) (count : ℕ) (message : List ℕ)
    → IsAccepted mac last allowed octets count message → accepted mac last allowed octets ≡ Ok (count, message)
unfolding accepted
so_accepted same mac last allowed octets count message h =
    let p = h.parts in
    let right = h.right ∙ ap (λ (m : List ℕ). mac count Uplink (p.sequence ∷ m)) (sym h.content) in
    let equal = (same p.mac (mac count Uplink (p.sequence ∷ p.message))).1 right in
    rw (h.form, h.header, h.counted, equal, h.content) refl

pub fresh : SameIsEqual
    → (mac : Mac) (last : Option ℕ) (allowed : List SecurityHeader) (octets : List ℕ) (count : ℕ) (message : List ℕ)
    → accepted mac last allowed octets ≡ Ok (count, message) → (first_after last ≤ count) × (count < 2 ^ 24)
fresh same mac last allowed octets count message e =
    let h = accepted_so same mac last allowed octets count message e in
    let estimate_is = estimated last h.parts.sequence (2 ^ 8) count h.counted in (estimate_is.above, estimate_is.fits)

short_counted : (mac : Mac) (octets : List ℕ) (o : Option ℕ) (count : ℕ) → short_under mac octets o ≡ Ok count → o ≡ Some count
short_counted mac octets None count e = absurd (cc)
short_counted mac octets (Some n) count e =
    let answer : Result ℕ SecurityFault = Ok n in
    let found =
    where_ok (same_octets (take 2 (drop 2 octets)) (take 2 (drop 2 (mac n Uplink (take 2 octets))))) answer BadMac count e in
    let same = found.1 in cc

pub short_fresh : (mac : Mac) (last : Option ℕ) (ksi : ℕ) (octets : List ℕ) (count : ℕ)
    → short_accepted mac last ksi octets ≡ Ok count → (first_after last ≤ count) × (count < 2 ^ 24)
unfolding short_accepted
short_fresh mac last ksi octets count e =
    let bits = slice_index octets 1 % 2 ^ 5 in
    let found =
    where_ok (slice_index octets 0 == 0xc7 && slice_index octets 1 / 2 ^ 5 == ksi)
    (short_under mac octets (estimate last bits (2 ^ 5))) WrongHeader count e in
    let estimate_is = estimated last bits (2 ^ 5) count (short_counted mac octets (estimate last bits (2 ^ 5)) count found.1) in (estimate_is.above, estimate_is.fits)
