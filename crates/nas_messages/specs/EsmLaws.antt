-- ESM messages: what is read is spelled so, and what is spelled is read.
use Rattle.std.proofs.Common.{◌≡◌, ℕ, ◌+◌, ◌*◌, ◌/◌, ◌%◌, ◌<◌, ◌≤◌, Bool, true, false, cond, eqb, ltb, List, [], ◌∷◌, length, drop, slice_index, Option, Some, None, Result, Ok, Err, refl, sym, ap, subst, ◌∙◌, arith}
use Rattle.std.specs.Prelude.{IfOk}
use Rattle.std.specs.Borrow.{Bor}
use Rattle.std.proofs.lemmas.Bool.{eq-eqb, eqb-true, le-ltb, ltb-true, ltb-false}
use Rattle.nas_elements.specs.declared.fault.NasFault.{NasFault}
use Rattle.nas_elements.specs.declared.fault.NasFault.TheVariants.{TooShort, Mandatory, UnknownType, OptionalPart, NoMemory}
use Rattle.nas_elements.specs.Faults.{◌>>>◌}
use Rattle.nas_elements.specs.Parts.{Small}
use Rattle.nas_elements.specs.Rows.{RowValue, RowFault, SpellsRow, read_row, write_row, are_distinct}
use Rattle.nas_elements.specs.FitLaws.{row_fits}
use Rattle.nas_elements.specs.RowLaws.{bound, okay, okay_is, failed, row_takes, row_again, row_fault}
use Rattle.nas_elements.specs.WritingLaws.{written}
use Rattle.nas_messages.specs.declared.esm_types.Esm.{Esm}
use Rattle.nas_messages.specs.declared.esm_types.EsmBody.{EsmBody}
use Rattle.nas_messages.specs.declared.esm_types.EsmBody.TheVariants as bodies
use Rattle.nas_messages.specs.declared.esm_types.EsmType.{EsmType}
use Rattle.nas_messages.specs.declared.esm_types.EsmType.TheVariants.{ActivateRequest, ActivateAccept, ActivateReject, ConnectivityRequest, ConnectivityReject, DisconnectRequest, DisconnectReject, InformationRequest, InformationResponse, EsmStatus}
use Rattle.nas_messages.specs.Formats.{esm_row_of, esm_kept_of}
use Rattle.nas_messages.specs.EsmMessages.{esm_lists, seen_esm, named_body, TypedBody, of_type, typed_body, esm_code_of, esm_type_of, SpellsBody, SpellsEsm, read_body, by_esm_type, decoded_esm, HasEsmType, HasEsmFault, write_body, encoded_esm, BodyFits, IsWritableEsm}

-- ---- one line for each message

abbrev made : ℕ → ℕ → EsmBody (List ℕ) → Esm (List ℕ)
made bearer transaction body = record { bearer = bearer; transaction = transaction; body = body }

spelled_named : (bearer transaction : ℕ) (t : EsmType) (v : RowValue (esm_row_of t)) (os : List ℕ)
    → SpellsBody bearer transaction (of_type t v) os → SpellsBody bearer transaction (typed_body (named_body t v)) os
spelled_named bearer transaction ActivateRequest v os s = s
spelled_named bearer transaction ActivateAccept v os s = s
spelled_named bearer transaction ActivateReject v os s = s
spelled_named bearer transaction ConnectivityRequest v os s = s
spelled_named bearer transaction ConnectivityReject v os s = s
spelled_named bearer transaction DisconnectRequest v os s = s
spelled_named bearer transaction DisconnectReject v os s = s
spelled_named bearer transaction InformationRequest v os s = s
spelled_named bearer transaction InformationResponse v os s = s
spelled_named bearer transaction EsmStatus v os s = s

own_type : (t : EsmType) → esm_type_of (esm_code_of t) ≡ Some t
unfolding esm_type_of
own_type ActivateRequest = refl
own_type ActivateAccept = refl
own_type ActivateReject = refl
own_type ConnectivityRequest = refl
own_type ConnectivityReject = refl
own_type DisconnectRequest = refl
own_type DisconnectReject = refl
own_type InformationRequest = refl
own_type InformationResponse = refl
own_type EsmStatus = refl

next_type : (c k : ℕ) (t0 t : EsmType) (others : Option EsmType) → esm_code_of t0 ≡ k → (others ≡ Some t → esm_code_of t ≡ c)
    → cond (eqb c k) (Some t0) others ≡ Some t → esm_code_of t ≡ c
next_type c k t0 t others own rest e = go (eqb c k) refl e
  where
    go : (b : Bool) → eqb c k ≡ b → cond b (Some t0) others ≡ Some t → esm_code_of t ≡ c
    go true q e = let same : t0 ≡ t = cc in ap esm_code_of (sym same) ∙ own ∙ sym (eqb-true c k q)
    go false q e = rest e

code_is : (c : ℕ) (t : EsmType) → esm_type_of c ≡ Some t → esm_code_of t ≡ c
unfolding esm_type_of
code_is c t =
    next_type c 0xc1 ActivateRequest t _ refl (
    next_type c 0xc2 ActivateAccept t _ refl (
    next_type c 0xc3 ActivateReject t _ refl (
    next_type c 0xd0 ConnectivityRequest t _ refl (
    next_type c 0xd1 ConnectivityReject t _ refl (
    next_type c 0xd2 DisconnectRequest t _ refl (
    next_type c 0xd3 DisconnectReject t _ refl (
    next_type c 0xd9 InformationRequest t _ refl (
    next_type c 0xda InformationResponse t _ refl (
    next_type c 0xe8 EsmStatus t _ refl (λ e. absurd cc))))))))))

distinct : (t : EsmType) → are_distinct (esm_kept_of t) ≡ true
distinct ActivateRequest = refl
distinct ActivateAccept = refl
distinct ActivateReject = refl
distinct ConnectivityRequest = refl
distinct ConnectivityReject = refl
distinct DisconnectRequest = refl
distinct DisconnectReject = refl
distinct InformationRequest = refl
distinct InformationResponse = refl
distinct EsmStatus = refl

abbrev name_of : TypedBody → EsmBody (List ℕ)
name_of (of_type t v) = named_body t v

renamed : (b : EsmBody (List ℕ)) → name_of (typed_body b) ≡ b
renamed (bodies.ActivateRequest m) = refl
renamed bodies.ActivateAccept = refl
renamed (bodies.ActivateReject cause) = refl
renamed (bodies.ConnectivityRequest request_type pdn_type information) = refl
renamed (bodies.ConnectivityReject cause) = refl
renamed (bodies.DisconnectRequest linked) = refl
renamed (bodies.DisconnectReject cause) = refl
renamed bodies.InformationRequest = refl
renamed bodies.InformationResponse = refl
renamed (bodies.EsmStatus cause) = refl

-- ---- once

three_and_more : (os : List ℕ) → 3 ≤ length os → os ≡ slice_index os 0 ∷ slice_index os 1 ∷ slice_index os 2 ∷ drop 3 os
three_and_more [] l = absurd (omega (arith, l))
three_and_more (a ∷ []) l = absurd (omega (arith, l))
three_and_more (a ∷ b ∷ []) l = absurd (omega (arith, l))
three_and_more (a ∷ b ∷ c ∷ os) l = refl

first_is : (n : ℕ) → n % 16 ≡ 2 → n / 16 * 16 + 2 ≡ n
first_is n e = omega (arith, e)

type_is : (os : List ℕ) (c : ℕ) (o : Option EsmType) (rest : List ℕ) (b : EsmBody (List ℕ)) (bearer transaction : ℕ)
    → esm_type_of c ≡ o → by_esm_type o rest ≡ Ok b → os ≡ (bearer * 16 + 2) ∷ transaction ∷ c ∷ rest
    → SpellsBody bearer transaction (typed_body b) os
unfolding read_body
type_is os c None rest b bearer transaction q e whole = absurd cc
type_is os c (Some t) rest b bearer transaction q e whole =
    let f : RowValue (esm_row_of t) → Result (EsmBody (List ℕ)) NasFault = λ v. Ok (named_body t v) in
    let a = bound (read_row (esm_row_of t) rest) f b e in
    let code : esm_code_of t ≡ c = code_is c t q in
    let here : os ≡ (bearer * 16 + 2) ∷ transaction ∷ esm_code_of t ∷ rest =
    whole ∙ ap (λ (n : ℕ). (bearer * 16 + 2) ∷ transaction ∷ n ∷ rest) (sym code) in
    let spelled : SpellsBody bearer transaction (of_type t a.0) os = (rest, here, row_takes (esm_row_of t) rest a.0 a.1) in
    subst (λ (x : EsmBody (List ℕ)). SpellsBody bearer transaction (typed_body x) os) (okay_is (named_body t a.0) b a.2)
    (spelled_named bearer transaction t a.0 os spelled)

abbrev headed : List ℕ → EsmBody (List ℕ) → Result (Esm (List ℕ)) NasFault
headed os b = Ok (record { bearer = slice_index os 0 / 16; transaction = slice_index os 1; body = b })

abbrev branches : List ℕ → Bool → Bool → Result (Esm (List ℕ)) NasFault
branches os short two =
    cond short (Err TooShort) (cond two (by_esm_type (esm_type_of (slice_index os 2)) (drop 3 os) >>> headed os) (Err UnknownType))

whole_of : (os : List ℕ) → ltb (length os) 3 ≡ false → eqb (slice_index os 0 % 16) 2 ≡ true
    → os ≡ (slice_index os 0 / 16 * 16 + 2) ∷ slice_index os 1 ∷ slice_index os 2 ∷ drop 3 os
whole_of os a b =
    three_and_more os (ltb-false _ _ a)
    ∙ ap (λ (n : ℕ). n ∷ slice_index os 1 ∷ slice_index os 2 ∷ drop 3 os) (sym (first_is (slice_index os 0) (eqb-true _ _ b)))

takes_by : (os : List ℕ) (m : Esm (List ℕ)) (short two : Bool) → ltb (length os) 3 ≡ short → eqb (slice_index os 0 % 16) 2 ≡ two
    → branches os short two ≡ Ok m → SpellsEsm m os
takes_by os m true two a b e = absurd cc
takes_by os m false false a b e = absurd cc
takes_by os m false true a b e =
    let t = bound (by_esm_type (esm_type_of (slice_index os 2)) (drop 3 os)) (headed os) m e in
    let found =
    type_is os (slice_index os 2) (esm_type_of (slice_index os 2)) (drop 3 os) t.0 (slice_index os 0 / 16)
    (slice_index os 1) refl t.1 (whole_of os a b) in
    subst (λ (x : Esm (List ℕ)). SpellsEsm x os) (okay_is (made (slice_index os 0 / 16) (slice_index os 1) t.0) m t.2) found

pub esm_takes : (os : List ℕ) (m : Esm (List ℕ)) → decoded_esm os ≡ Ok m → SpellsEsm m os
unfolding decoded_esm
esm_takes os m e = takes_by os m (ltb (length os) 3) (eqb (slice_index os 0 % 16) 2) refl refl e

again_typed : (bearer transaction : ℕ) (t : EsmType) (v : RowValue (esm_row_of t)) (rest : List ℕ) → SpellsRow (esm_row_of t) v rest
    → decoded_esm ((bearer * 16 + 2) ∷ transaction ∷ esm_code_of t ∷ rest) ≡ Ok (made bearer transaction (named_body t v))
unfolding decoded_esm read_body
again_typed bearer transaction t v rest s =
    let long : ltb (length ((bearer * 16 + 2) ∷ transaction ∷ esm_code_of t ∷ rest)) 3 ≡ false = le-ltb _ _ (omega arith) in
    let low : (bearer * 16 + 2) % 16 ≡ 2 = omega arith in
    let high : (bearer * 16 + 2) / 16 ≡ bearer = omega arith in
    rw (long, low, own_type t, row_again (esm_row_of t) rest v s, high) refl

again_body : (bearer transaction : ℕ) (b : TypedBody) (os : List ℕ) → SpellsBody bearer transaction b os
    → decoded_esm os ≡ Ok (made bearer transaction (name_of b))
again_body bearer transaction (of_type t v) os s = ap decoded_esm s.1 ∙ again_typed bearer transaction t v s.0 s.2

pub esm_again : (m : Esm (List ℕ)) (os : List ℕ) → SpellsEsm m os → decoded_esm os ≡ Ok m
esm_again m os s =
    again_body m.bearer m.transaction (typed_body m.body) os s
    ∙ ap (λ (b : EsmBody (List ℕ)). okay (made m.bearer m.transaction b)) (renamed m.body)

-- ---- what is written is read, and what is read may be written

body_written : (bearer transaction : ℕ) (b : TypedBody) → BodyFits b
    → SpellsBody bearer transaction b ((bearer * 16 + 2) ∷ transaction ∷ write_body b)
body_written bearer transaction (of_type t v) f = (write_row (esm_row_of t) v, refl, written (esm_row_of t) v (distinct t) f)

pub written_esm : (m : Esm (List ℕ)) → IsWritableEsm m → SpellsEsm m (encoded_esm m)
written_esm m f = body_written m.bearer m.transaction (typed_body m.body) f.1

body_fits : (bearer transaction : ℕ) (b : TypedBody) (os : List ℕ) → Small os → SpellsBody bearer transaction b os
    → (bearer < 16) × BodyFits b
body_fits bearer transaction (of_type t v) os small s =
    let whole : Small ((bearer * 16 + 2) ∷ transaction ∷ esm_code_of t ∷ s.0) = subst Small s.1 small in
    let first = whole.0 in
    (omega (arith, first), row_fits (esm_row_of t) v s.0 (distinct t) whole.1.1.1 s.2)

pub esm_fits : (os : List ℕ) (m : Esm (List ℕ)) → Small os → decoded_esm os ≡ Ok m → IsWritableEsm m
esm_fits os m small e = body_fits m.bearer m.transaction (typed_body m.body) os small (esm_takes os m e)

pub seen_esm_fits : (os : List ℕ) (r : Result (Esm (Bor (List ℕ))) NasFault) → Small os → seen_esm r ≡ decoded_esm os
    → IfOk r (λ m. IsWritableEsm (esm_lists m))
seen_esm_fits os (Ok m) small e = esm_fits os (esm_lists m) small (sym e)
seen_esm_fits os (Err f) small e = tt

-- ---- faults

fault_is : {A : Type 0} (f g : NasFault) → failed {A = A} f ≡ failed g → f ≡ g
fault_is f g e = cc

abbrev none_of : Option EsmType
none_of = None

-- a fault of a row is that of its message
row_has : (t : EsmType) (rest os : List ℕ) (f : NasFault) → HasEsmType os t rest → RowFault (esm_row_of t) rest f → HasEsmFault os f
row_has t rest os TooShort h r = absurd r
row_has t rest os Mandatory h r = (t, rest, h, r)
row_has t rest os UnknownType h r = absurd r
row_has t rest os OptionalPart h r = (t, rest, h, r)
row_has t rest os NoMemory h r = absurd r

row_refused : {A B : Type 0} (r : Result A NasFault) (g : A → B) (f : NasFault) → (r >>> λ v. okay (g v)) ≡ Err f → r ≡ Err f
row_refused (Ok a) g f e = absurd cc
row_refused (Err h) g f e = ap failed (fault_is h f e)

type_refused : (os : List ℕ) (bearer transaction c : ℕ) (after : List ℕ) (o : Option EsmType) (f : NasFault) → 3 ≤ length os
    → esm_type_of c ≡ o → by_esm_type o after ≡ Err f → os ≡ (bearer * 16 + 2) ∷ transaction ∷ c ∷ after → HasEsmFault os f
unfolding read_body
type_refused os bearer transaction c after None f long q e whole =
    subst (λ (g : NasFault). HasEsmFault os g) (fault_is UnknownType f e) (long, no_type)
  where
    no_type : (t : EsmType) (rest : List ℕ) → HasEsmType os t rest → ⊥
    no_type t rest h =
        let code : c ≡ esm_code_of t = ap (λ (x : List ℕ). slice_index x 2) (sym whole ∙ h.2) in
        let own : esm_type_of c ≡ Some t = ap esm_type_of code ∙ own_type t in
        absurd (let never : none_of ≡ Some t = sym q ∙ own in cc)
type_refused os bearer transaction c after (Some t) f long q e whole =
    let code : esm_code_of t ≡ c = code_is c t q in
    let has : HasEsmType os t after =
    (bearer, transaction, whole ∙ ap (λ (n : ℕ). (bearer * 16 + 2) ∷ transaction ∷ n ∷ after) (sym code)) in
    row_has t after os f has (row_fault (esm_row_of t) after f (row_refused (read_row (esm_row_of t) after) (named_body t) f e))

refused_by : (os : List ℕ) (f : NasFault) (short two : Bool) → ltb (length os) 3 ≡ short → eqb (slice_index os 0 % 16) 2 ≡ two
    → branches os short two ≡ Err f → HasEsmFault os f
refused_by os f true two a b e = subst (λ (g : NasFault). HasEsmFault os g) (fault_is TooShort f e) (ltb-true _ _ a)
refused_by os f false true a b e =
    type_refused os (slice_index os 0 / 16) (slice_index os 1) (slice_index os 2) (drop 3 os) (esm_type_of (slice_index os 2)) f
    (ltb-false _ _ a) refl
    (row_refused (by_esm_type (esm_type_of (slice_index os 2)) (drop 3 os)) (made (slice_index os 0 / 16) (slice_index os 1)) f e)
    (whole_of os a b)
refused_by os f false false a b e =
    subst (λ (g : NasFault). HasEsmFault os g) (fault_is UnknownType f e) (ltb-false _ _ a, other_first os b)
  where
    other_first : (os : List ℕ) → eqb (slice_index os 0 % 16) 2 ≡ false → (t : EsmType) (rest : List ℕ) → HasEsmType os t rest → ⊥
    other_first os b t rest h =
        let first : slice_index os 0 ≡ h.0 * 16 + 2 = ap (λ (x : List ℕ). slice_index x 0) h.2 in
        let two : slice_index os 0 % 16 ≡ 2 = omega (arith, first) in
        absurd (let never : true ≡ false = sym (eq-eqb _ _ two) ∙ b in cc)

pub esm_refused : (os : List ℕ) (f : NasFault) → decoded_esm os ≡ Err f → HasEsmFault os f
unfolding decoded_esm
esm_refused os f e = refused_by os f (ltb (length os) 3) (eqb (slice_index os 0 % 16) 2) refl refl e
