-- EMM messages: what is read is spelled so, and what is spelled is read.
use Rattle.std.proofs.Common.{◌≡◌, ℕ, ◌≤◌, ◌&&◌, Bool, true, false, cond, eqb, ltb, List, [], ◌∷◌, length, drop, slice_index, Option, Some, None, Result, Ok, Err, refl, sym, ap, subst, ◌∙◌, arith}
use Rattle.std.specs.Prelude.{IfOk}
use Rattle.std.specs.Borrow.{Bor}
use Rattle.std.proofs.lemmas.Bool.{eq-eqb, eqb-true, le-ltb, ltb-true, ltb-false}
use Rattle.nas_elements.specs.declared.fault.NasFault.{NasFault}
use Rattle.nas_elements.specs.declared.fault.NasFault.TheVariants.{TooShort, Mandatory, UnknownType, OptionalPart, NoMemory}
use Rattle.nas_elements.specs.Faults.{◌>>>◌}
use Rattle.nas_elements.specs.Parts.{Small}
use Rattle.nas_elements.specs.Rows.{RowValue, RowFault, read_row, write_row, RowFits, are_distinct}
use Rattle.nas_elements.specs.Exact.{both_true}
use Rattle.nas_elements.specs.FitLaws.{row_fits}
use Rattle.nas_elements.specs.RowLaws.{bound, okay, okay_is, failed, row_takes, row_again, row_fault}
use Rattle.nas_elements.specs.WritingLaws.{written}
use Rattle.nas_messages.specs.declared.emm_types.Emm.{Emm}
use Rattle.nas_messages.specs.declared.emm_types.Emm.TheVariants as emm
use Rattle.nas_messages.specs.declared.emm_types.EmmType.{EmmType}
use Rattle.nas_messages.specs.declared.emm_types.EmmType.TheVariants.{AttachRequest, AttachAccept, AttachComplete, AttachReject, DetachRequest, NetworkDetach, DetachAccept, TrackingAreaUpdateRequest, TrackingAreaUpdateAccept, TrackingAreaUpdateComplete, TrackingAreaUpdateReject, ServiceReject, AuthenticationRequest, AuthenticationResponse, AuthenticationReject, IdentityRequest, IdentityResponse, AuthenticationFailure, SecurityModeCommand, SecurityModeComplete, SecurityModeReject, EmmStatus}
use Rattle.nas_messages.specs.declared.emm_types.Direction.{Direction}
use Rattle.nas_messages.specs.declared.emm_types.Direction.TheVariants.{Uplink, Downlink}
use Rattle.nas_messages.specs.Formats.{row_of, kept_of}
use Rattle.nas_messages.specs.Messages.{lists, seen, named, code_of, detach_of, type_of, SpellsTyped, SpellsEmm, IsService, read_typed, by_type, decoded_emm, HasType, HasFault, write_typed, encoded_emm, IsWritable, Goes}

-- ---- one line for each message

spelled_named : (direction : Direction) (t : EmmType) (v : RowValue (row_of t)) (os : List ℕ)
    → SpellsTyped direction (Some (t, v)) os → SpellsEmm direction (named t v) os
spelled_named direction AttachRequest v os s = s
spelled_named direction AttachAccept v os s = s
spelled_named direction AttachComplete v os s = s
spelled_named direction AttachReject v os s = s
spelled_named direction DetachRequest v os s = s
spelled_named direction NetworkDetach v os s = s
spelled_named direction DetachAccept v os s = s
spelled_named direction TrackingAreaUpdateRequest v os s = s
spelled_named direction TrackingAreaUpdateAccept v os s = s
spelled_named direction TrackingAreaUpdateComplete v os s = s
spelled_named direction TrackingAreaUpdateReject v os s = s
spelled_named direction ServiceReject v os s = s
spelled_named direction AuthenticationRequest v os s = s
spelled_named direction AuthenticationResponse v os s = s
spelled_named direction AuthenticationReject v os s = s
spelled_named direction IdentityRequest v os s = s
spelled_named direction IdentityResponse v os s = s
spelled_named direction AuthenticationFailure v os s = s
spelled_named direction SecurityModeCommand v os s = s
spelled_named direction SecurityModeComplete v os s = s
spelled_named direction SecurityModeReject v os s = s
spelled_named direction EmmStatus v os s = s

next_type : (c k : ℕ) (t0 t : EmmType) (others : Option EmmType) → code_of t0 ≡ k → (others ≡ Some t → code_of t ≡ c)
    → cond (eqb c k) (Some t0) others ≡ Some t → code_of t ≡ c
next_type c k t0 t others own rest e = go (eqb c k) refl e
  where
    go : (b : Bool) → eqb c k ≡ b → cond b (Some t0) others ≡ Some t → code_of t ≡ c
    go true q e = let same : t0 ≡ t = cc in ap code_of (sym same) ∙ own ∙ sym (eqb-true c k q)
    go false q e = rest e

detach_code : (direction : Direction) → code_of (detach_of direction) ≡ 0x45
detach_code Uplink = refl
detach_code Downlink = refl

code_is : (direction : Direction) (c : ℕ) (t : EmmType) → type_of direction c ≡ Some t → code_of t ≡ c
unfolding type_of
code_is direction c t =
    next_type c 0x41 AttachRequest t _ refl (
    next_type c 0x42 AttachAccept t _ refl (
    next_type c 0x43 AttachComplete t _ refl (
    next_type c 0x44 AttachReject t _ refl (
    next_type c 0x45 (detach_of direction) t _ (detach_code direction) (
    next_type c 0x46 DetachAccept t _ refl (
    next_type c 0x48 TrackingAreaUpdateRequest t _ refl (
    next_type c 0x49 TrackingAreaUpdateAccept t _ refl (
    next_type c 0x4a TrackingAreaUpdateComplete t _ refl (
    next_type c 0x4b TrackingAreaUpdateReject t _ refl (
    next_type c 0x4e ServiceReject t _ refl (
    next_type c 0x52 AuthenticationRequest t _ refl (
    next_type c 0x53 AuthenticationResponse t _ refl (
    next_type c 0x54 AuthenticationReject t _ refl (
    next_type c 0x55 IdentityRequest t _ refl (
    next_type c 0x56 IdentityResponse t _ refl (
    next_type c 0x5c AuthenticationFailure t _ refl (
    next_type c 0x5d SecurityModeCommand t _ refl (
    next_type c 0x5e SecurityModeComplete t _ refl (
    next_type c 0x5f SecurityModeReject t _ refl (
    next_type c 0x60 EmmStatus t _ refl (λ e. absurd cc)))))))))))))))))))))

-- ---- once

typed_takes : (direction : Direction) (c : ℕ) (o : Option EmmType) (rest : List ℕ) (m : Emm (List ℕ)) → type_of direction c ≡ o
    → by_type o rest ≡ Ok m → SpellsEmm direction m (7 ∷ c ∷ rest)
unfolding read_typed
typed_takes direction c None rest m q e = absurd cc
typed_takes direction c (Some t) rest m q e =
    let f : RowValue (row_of t) → Result (Emm (List ℕ)) NasFault = λ v. Ok (named t v) in
    let a = bound (read_row (row_of t) rest) f m e in
    let code : code_of t ≡ c = code_is direction c t q in
    let own : type_of direction (code_of t) ≡ Some t = rw code q in
    let spelled : SpellsTyped direction (Some (t, a.0)) (7 ∷ code_of t ∷ rest) =
    (own, rest, refl, row_takes (row_of t) rest a.0 a.1) in
    let found : SpellsEmm direction (named t a.0) (7 ∷ c ∷ rest) =
    subst (λ (k : ℕ). SpellsEmm direction (named t a.0) (7 ∷ k ∷ rest)) code
    (spelled_named direction t a.0 (7 ∷ code_of t ∷ rest) spelled) in
    subst (λ (x : Emm (List ℕ)). SpellsEmm direction x (7 ∷ c ∷ rest)) (okay_is (named t a.0) m a.2) found

two_and_more : (os : List ℕ) → 2 ≤ length os → os ≡ slice_index os 0 ∷ slice_index os 1 ∷ drop 2 os
two_and_more [] l = absurd (omega (arith, l))
two_and_more (a ∷ []) l = absurd (omega (arith, l))
two_and_more (a ∷ b ∷ os) l = refl

whole_of : (os : List ℕ) → ltb (length os) 2 ≡ false → eqb (slice_index os 0) 7 ≡ true → os ≡ 7 ∷ slice_index os 1 ∷ drop 2 os
whole_of os a b = two_and_more os (ltb-false _ _ a) ∙ ap (λ (n : ℕ). n ∷ slice_index os 1 ∷ drop 2 os) (eqb-true _ _ b)

abbrev branches : Direction → List ℕ → Bool → Bool → Bool → Result (Emm (List ℕ)) NasFault
branches direction os short seven service = cond short (Err TooShort) (cond seven (by_type (type_of direction (slice_index os 1)) (drop 2 os)) (cond service (Ok (emm.ServiceRequest os)) (Err UnknownType)))

takes_by : (direction : Direction) (os : List ℕ) (m : Emm (List ℕ)) (short seven service : Bool) → ltb (length os) 2 ≡ short
    → eqb (slice_index os 0) 7 ≡ seven → (eqb (slice_index os 0) 0xc7 && eqb (length os) 4) ≡ service
    → branches direction os short seven service ≡ Ok m → SpellsEmm direction m os
takes_by direction os m true seven service a b c e = absurd cc
takes_by direction os m false true service a b c e =
    subst (λ (x : List ℕ). SpellsEmm direction m x) (sym (whole_of os a b))
    (typed_takes direction (slice_index os 1) (type_of direction (slice_index os 1)) (drop 2 os) m refl e)
takes_by direction os m false false true a b c e =
    let t = both_true (eqb (slice_index os 0) 0xc7) (eqb (length os) 4) c in
    let found : SpellsEmm direction (emm.ServiceRequest os) os = (refl, eqb-true _ _ t.1, eqb-true _ _ t.0) in
    subst (λ (x : Emm (List ℕ)). SpellsEmm direction x os) (okay_is (emm.ServiceRequest os) m e) found
takes_by direction os m false false false a b c e = absurd cc

pub decoded_takes : (direction : Direction) (os : List ℕ) (m : Emm (List ℕ)) → decoded_emm direction os ≡ Ok m
    → SpellsEmm direction m os
unfolding decoded_emm
decoded_takes direction os m e =
    takes_by direction os m (ltb (length os) 2) (eqb (slice_index os 0) 7)
    (eqb (slice_index os 0) 0xc7 && eqb (length os) 4) refl refl refl e

again_typed : (direction : Direction) (t : EmmType) (v : RowValue (row_of t)) (os : List ℕ) → SpellsTyped direction (Some (t, v)) os
    → decoded_emm direction os ≡ Ok (named t v)
unfolding decoded_emm read_typed
again_typed direction t v os s =
    let long : ltb (length (7 ∷ code_of t ∷ s.1)) 2 ≡ false = le-ltb _ _ (omega arith) in
    rw (s.2, long, s.0, row_again (row_of t) s.1 v s.3) refl

again_service : (direction : Direction) (octets os : List ℕ) → os ≡ octets → length os ≡ 4 → slice_index os 0 ≡ 0xc7
    → decoded_emm direction os ≡ Ok (emm.ServiceRequest octets)
unfolding decoded_emm
again_service direction octets os e len first = rw (← e, len, first) refl

pub decoded_again : (direction : Direction) (m : Emm (List ℕ)) (os : List ℕ) → SpellsEmm direction m os
    → decoded_emm direction os ≡ Ok m
decoded_again direction (emm.AttachRequest m) os s = again_typed direction AttachRequest _ os s
decoded_again direction (emm.AttachAccept m) os s = again_typed direction AttachAccept _ os s
decoded_again direction (emm.AttachComplete esm) os s = again_typed direction AttachComplete _ os s
decoded_again direction (emm.AttachReject m) os s = again_typed direction AttachReject _ os s
decoded_again direction (emm.DetachRequest m) os s = again_typed direction DetachRequest _ os s
decoded_again direction emm.NetworkDetach os s = again_typed direction NetworkDetach _ os s
decoded_again direction emm.DetachAccept os s = again_typed direction DetachAccept _ os s
decoded_again direction (emm.TrackingAreaUpdateRequest m) os s = again_typed direction TrackingAreaUpdateRequest _ os s
decoded_again direction (emm.TrackingAreaUpdateAccept m) os s = again_typed direction TrackingAreaUpdateAccept _ os s
decoded_again direction emm.TrackingAreaUpdateComplete os s = again_typed direction TrackingAreaUpdateComplete _ os s
decoded_again direction (emm.TrackingAreaUpdateReject cause) os s = again_typed direction TrackingAreaUpdateReject _ os s
decoded_again direction (emm.ServiceReject cause) os s = again_typed direction ServiceReject _ os s
decoded_again direction (emm.AuthenticationRequest m) os s = again_typed direction AuthenticationRequest _ os s
decoded_again direction (emm.AuthenticationResponse res) os s = again_typed direction AuthenticationResponse _ os s
decoded_again direction emm.AuthenticationReject os s = again_typed direction AuthenticationReject _ os s
decoded_again direction emm.IdentityRequest os s = again_typed direction IdentityRequest _ os s
decoded_again direction (emm.IdentityResponse identity) os s = again_typed direction IdentityResponse _ os s
decoded_again direction (emm.AuthenticationFailure cause) os s = again_typed direction AuthenticationFailure _ os s
decoded_again direction (emm.SecurityModeCommand m) os s = again_typed direction SecurityModeCommand _ os s
decoded_again direction emm.SecurityModeComplete os s = again_typed direction SecurityModeComplete _ os s
decoded_again direction (emm.SecurityModeReject cause) os s = again_typed direction SecurityModeReject _ os s
decoded_again direction (emm.EmmStatus cause) os s = again_typed direction EmmStatus _ os s
decoded_again direction (emm.ServiceRequest octets) os s = again_service direction octets os s.0 s.1 s.2

-- ---- what is written is read

distinct : (t : EmmType) → are_distinct (kept_of t) ≡ true
distinct AttachRequest = refl
distinct AttachAccept = refl
distinct AttachComplete = refl
distinct AttachReject = refl
distinct DetachRequest = refl
distinct NetworkDetach = refl
distinct DetachAccept = refl
distinct TrackingAreaUpdateRequest = refl
distinct TrackingAreaUpdateAccept = refl
distinct TrackingAreaUpdateComplete = refl
distinct TrackingAreaUpdateReject = refl
distinct ServiceReject = refl
distinct AuthenticationRequest = refl
distinct AuthenticationResponse = refl
distinct AuthenticationReject = refl
distinct IdentityRequest = refl
distinct IdentityResponse = refl
distinct AuthenticationFailure = refl
distinct SecurityModeCommand = refl
distinct SecurityModeComplete = refl
distinct SecurityModeReject = refl
distinct EmmStatus = refl

spelled_typed : (direction : Direction) (t : EmmType) (v : RowValue (row_of t)) → RowFits (row_of t) v
    → type_of direction (code_of t) ≡ Some t → SpellsTyped direction (Some (t, v)) (write_typed (Some (t, v)))
spelled_typed direction t v f g = (g, write_row (row_of t) v, refl, written (row_of t) v (distinct t) f)

pub written_emm : (direction : Direction) (m : Emm (List ℕ)) → IsWritable m → Goes direction m
    → SpellsEmm direction m (encoded_emm m)
written_emm direction (emm.AttachRequest m) f g = spelled_typed direction AttachRequest _ f g
written_emm direction (emm.AttachAccept m) f g = spelled_typed direction AttachAccept _ f g
written_emm direction (emm.AttachComplete esm) f g = spelled_typed direction AttachComplete _ f g
written_emm direction (emm.AttachReject m) f g = spelled_typed direction AttachReject _ f g
written_emm direction (emm.DetachRequest m) f g = spelled_typed direction DetachRequest _ f g
written_emm direction emm.NetworkDetach f g = spelled_typed direction NetworkDetach _ f g
written_emm direction emm.DetachAccept f g = spelled_typed direction DetachAccept _ f g
written_emm direction (emm.TrackingAreaUpdateRequest m) f g = spelled_typed direction TrackingAreaUpdateRequest _ f g
written_emm direction (emm.TrackingAreaUpdateAccept m) f g = spelled_typed direction TrackingAreaUpdateAccept _ f g
written_emm direction emm.TrackingAreaUpdateComplete f g = spelled_typed direction TrackingAreaUpdateComplete _ f g
written_emm direction (emm.TrackingAreaUpdateReject cause) f g = spelled_typed direction TrackingAreaUpdateReject _ f g
written_emm direction (emm.ServiceReject cause) f g = spelled_typed direction ServiceReject _ f g
written_emm direction (emm.AuthenticationRequest m) f g = spelled_typed direction AuthenticationRequest _ f g
written_emm direction (emm.AuthenticationResponse res) f g = spelled_typed direction AuthenticationResponse _ f g
written_emm direction emm.AuthenticationReject f g = spelled_typed direction AuthenticationReject _ f g
written_emm direction emm.IdentityRequest f g = spelled_typed direction IdentityRequest _ f g
written_emm direction (emm.IdentityResponse identity) f g = spelled_typed direction IdentityResponse _ f g
written_emm direction (emm.AuthenticationFailure cause) f g = spelled_typed direction AuthenticationFailure _ f g
written_emm direction (emm.SecurityModeCommand m) f g = spelled_typed direction SecurityModeCommand _ f g
written_emm direction emm.SecurityModeComplete f g = spelled_typed direction SecurityModeComplete _ f g
written_emm direction (emm.SecurityModeReject cause) f g = spelled_typed direction SecurityModeReject _ f g
written_emm direction (emm.EmmStatus cause) f g = spelled_typed direction EmmStatus _ f g
written_emm direction (emm.ServiceRequest octets) f g = (refl, f.0, f.1)

-- ---- what is read may be written

fits_typed : (direction : Direction) (t : EmmType) (v : RowValue (row_of t)) (os : List ℕ) → Small os
    → SpellsTyped direction (Some (t, v)) os → RowFits (row_of t) v
fits_typed direction t v os small s =
    let whole : Small (7 ∷ code_of t ∷ s.1) = subst Small s.2 small in
    row_fits (row_of t) v s.1 (distinct t) whole.1.1 s.3

pub spelled_fits : (direction : Direction) (m : Emm (List ℕ)) (os : List ℕ) → Small os → SpellsEmm direction m os → IsWritable m
spelled_fits direction (emm.AttachRequest m) os small s = fits_typed direction AttachRequest _ os small s
spelled_fits direction (emm.AttachAccept m) os small s = fits_typed direction AttachAccept _ os small s
spelled_fits direction (emm.AttachComplete esm) os small s = fits_typed direction AttachComplete _ os small s
spelled_fits direction (emm.AttachReject m) os small s = fits_typed direction AttachReject _ os small s
spelled_fits direction (emm.DetachRequest m) os small s = fits_typed direction DetachRequest _ os small s
spelled_fits direction emm.NetworkDetach os small s = fits_typed direction NetworkDetach _ os small s
spelled_fits direction emm.DetachAccept os small s = fits_typed direction DetachAccept _ os small s
spelled_fits direction (emm.TrackingAreaUpdateRequest m) os small s = fits_typed direction TrackingAreaUpdateRequest _ os small s
spelled_fits direction (emm.TrackingAreaUpdateAccept m) os small s = fits_typed direction TrackingAreaUpdateAccept _ os small s
spelled_fits direction emm.TrackingAreaUpdateComplete os small s = fits_typed direction TrackingAreaUpdateComplete _ os small s
spelled_fits direction (emm.TrackingAreaUpdateReject cause) os small s = fits_typed direction TrackingAreaUpdateReject _ os small s
spelled_fits direction (emm.ServiceReject cause) os small s = fits_typed direction ServiceReject _ os small s
spelled_fits direction (emm.AuthenticationRequest m) os small s = fits_typed direction AuthenticationRequest _ os small s
spelled_fits direction (emm.AuthenticationResponse res) os small s = fits_typed direction AuthenticationResponse _ os small s
spelled_fits direction emm.AuthenticationReject os small s = fits_typed direction AuthenticationReject _ os small s
spelled_fits direction emm.IdentityRequest os small s = fits_typed direction IdentityRequest _ os small s
spelled_fits direction (emm.IdentityResponse identity) os small s = fits_typed direction IdentityResponse _ os small s
spelled_fits direction (emm.AuthenticationFailure cause) os small s = fits_typed direction AuthenticationFailure _ os small s
spelled_fits direction (emm.SecurityModeCommand m) os small s = fits_typed direction SecurityModeCommand _ os small s
spelled_fits direction emm.SecurityModeComplete os small s = fits_typed direction SecurityModeComplete _ os small s
spelled_fits direction (emm.SecurityModeReject cause) os small s = fits_typed direction SecurityModeReject _ os small s
spelled_fits direction (emm.EmmStatus cause) os small s = fits_typed direction EmmStatus _ os small s
spelled_fits direction (emm.ServiceRequest octets) os small s = subst IsService s.0 (s.1, s.2)

pub decoded_fits : (direction : Direction) (os : List ℕ) (m : Emm (List ℕ)) → Small os → decoded_emm direction os ≡ Ok m
    → IsWritable m
decoded_fits direction os m small e = spelled_fits direction m os small (decoded_takes direction os m e)

pub seen_fits : (direction : Direction) (os : List ℕ) (r : Result (Emm (Bor (List ℕ))) NasFault) → Small os
    → seen r ≡ decoded_emm direction os → IfOk r (λ m. IsWritable (lists m))
seen_fits direction os (Ok m) small e = decoded_fits direction os (lists m) small (sym e)
seen_fits direction os (Err f) small e = tt

-- ---- faults

fault_is : {A : Type 0} (f g : NasFault) → failed {A = A} f ≡ failed g → f ≡ g
fault_is f g e = cc

abbrev none_of : Option EmmType
none_of = None

-- a fault of a row is that of its message
row_has : (direction : Direction) (t : EmmType) (rest os : List ℕ) (f : NasFault) → HasType direction os t rest
    → RowFault (row_of t) rest f → HasFault direction os f
row_has direction t rest os TooShort h r = absurd r
row_has direction t rest os Mandatory h r = (t, rest, h, r)
row_has direction t rest os UnknownType h r = absurd r
row_has direction t rest os OptionalPart h r = (t, rest, h, r)
row_has direction t rest os NoMemory h r = absurd r

-- a type that isn't there
no_type : (direction : Direction) (c : ℕ) (after : List ℕ) → type_of direction c ≡ None → (t : EmmType) (rest : List ℕ)
    → HasType direction (7 ∷ c ∷ after) t rest → ⊥
no_type direction c after q t rest h =
    let code : c ≡ code_of t = ap (λ (os : List ℕ). slice_index os 1) h.0 in
    let own : type_of direction c ≡ Some t = ap (type_of direction) code ∙ h.1 in
    absurd (let never : none_of ≡ Some t = sym q ∙ own in cc)

no_service : (c : ℕ) (after : List ℕ) → IsService (7 ∷ c ∷ after) → ⊥
no_service c after s = let e = s.1 in absurd (omega (arith, e))

row_refused : {A B : Type 0} (r : Result A NasFault) (g : A → B) (f : NasFault) → (r >>> λ v. okay (g v)) ≡ Err f → r ≡ Err f
row_refused (Ok a) g f e = absurd cc
row_refused (Err h) g f e = ap failed (fault_is h f e)

type_refused : (direction : Direction) (c : ℕ) (after : List ℕ) (o : Option EmmType) (f : NasFault) → type_of direction c ≡ o
    → by_type o after ≡ Err f → HasFault direction (7 ∷ c ∷ after) f
unfolding read_typed
type_refused direction c after None f q e =
    subst (λ (g : NasFault). HasFault direction (7 ∷ c ∷ after) g) (fault_is UnknownType f e)
    (omega arith, no_type direction c after q, no_service c after)
type_refused direction c after (Some t) f q e =
    let code : code_of t ≡ c = code_is direction c t q in
    let own : type_of direction (code_of t) ≡ Some t = rw code q in
    let has : HasType direction (7 ∷ c ∷ after) t after = (ap (λ (n : ℕ). 7 ∷ n ∷ after) (sym code), own) in
    row_has direction t after (7 ∷ c ∷ after) f has
    (row_fault (row_of t) after f (row_refused (read_row (row_of t) after) (named t) f e))

refused_by : (direction : Direction) (os : List ℕ) (f : NasFault) (short seven service : Bool) → ltb (length os) 2 ≡ short
    → eqb (slice_index os 0) 7 ≡ seven → (eqb (slice_index os 0) 0xc7 && eqb (length os) 4) ≡ service
    → branches direction os short seven service ≡ Err f → HasFault direction os f
refused_by direction os f true seven service a b c e =
    subst (λ (g : NasFault). HasFault direction os g) (fault_is TooShort f e) (ltb-true _ _ a)
refused_by direction os f false true service a b c e =
    subst (λ (x : List ℕ). HasFault direction x f) (sym (whole_of os a b))
    (type_refused direction (slice_index os 1) (drop 2 os) (type_of direction (slice_index os 1)) f refl e)
refused_by direction os f false false true a b c e = absurd cc
refused_by direction os f false false false a b c e =
    subst (λ (g : NasFault). HasFault direction os g) (fault_is UnknownType f e)
    (ltb-false _ _ a, other_first os b, other_service os c)
  where
    other_first : (os : List ℕ) → eqb (slice_index os 0) 7 ≡ false → (t : EmmType) (rest : List ℕ) → HasType direction os t rest → ⊥
    other_first os b t rest h =
        let seven : slice_index os 0 ≡ 7 = ap (λ (x : List ℕ). slice_index x 0) h.0 in
        absurd (let never : true ≡ false = sym (eq-eqb _ _ seven) ∙ b in cc)

    other_service : (os : List ℕ) → (eqb (slice_index os 0) 0xc7 && eqb (length os) 4) ≡ false → IsService os → ⊥
    other_service os c s =
        let test : (eqb (slice_index os 0) 0xc7 && eqb (length os) 4) ≡ true = rw (eq-eqb _ _ s.1, eq-eqb _ _ s.0) refl in
        absurd (let never : true ≡ false = sym test ∙ c in cc)

pub refused : (direction : Direction) (os : List ℕ) (f : NasFault) → decoded_emm direction os ≡ Err f → HasFault direction os f
unfolding decoded_emm
refused direction os f e =
    refused_by direction os f (ltb (length os) 2) (eqb (slice_index os 0) 7)
    (eqb (slice_index os 0) 0xc7 && eqb (length os) 4) refl refl refl e
