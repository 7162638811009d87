-- The second octet of what is written of a message is the code of its procedure.
use Rattle.std.proofs.Common.{◌≡◌, ℕ, zero, suc, ◌+◌, ◌/◌, ◌≤◌, Bool, true, false, cond, List, [], ◌∷◌, ◌++◌, length, take, drop, Option, Some, Result, Ok, Err, refl, sym, ap, ◌∙◌, arith}
use Rattle.std.specs.Prelude.{replicate, slice_get}
use Rattle.std.specs.Option.{option_map_or}
use Rattle.std.proofs.lemmas.List.{length-append}
use Rattle.per_streams.specs.declared.fault.PerFault.{PerFault}
use Rattle.per_streams.specs.Bits.{◌>>=◌, bits, octets_of_bits, pad, padded, value}
use Rattle.per_streams.specs.BitLaws.{bind_ok, ok_is, okay}
use Rattle.per_bits.specs.Formats.{octet_string}
use Rattle.per_bits.specs.Numbers.{offset_bits, width_of}
use Rattle.per_bits.specs.Writing.{write_string, write_whole}
use Rattle.per_bits.specs.WritingLaws.{written}
use Rattle.per_bits.specs.per_streams.Writing.{write_number}
use Rattle.s1ap_rows.specs.Rows.{Kept, Rows}
use Rattle.s1ap_rows.specs.Writing.{write_frame, write_head, write_message, write_pdu}
use Rattle.s1ap_pdus.specs.declared.pdu.Pdu.TheVariants as pdu
use Rattle.s1ap_pdus.specs.Pdus.{encoded, ok_of, typed_context_setup_request, typed_path_switch_acknowledge}
use Rattle.s1ap_pdus.specs.Profile.{context_setup_request, path_switch_acknowledge}
use Rattle.s1ap_pdus.specs.Typed.{encode_typed}
use Rattle.mme_types.specs.Carrying.{has_key, without_key}
use Rattle.laws_network.specs.Overwritten.{KeysAreOverwritten}

-- ---- octets of bits

second_octet : (n : ℕ) (bs : List Bool) → 2 ≤ n → slice_get (octets_of_bits n bs) 1 ≡ Some (value (take 8 (drop 8 bs)))
unfolding octets_of_bits
second_octet zero bs h = absurd (omega (arith, h))
second_octet (suc zero) bs h = absurd (omega (arith, h))
second_octet (suc (suc n)) bs h = refl

second_padded : (head more : List Bool) → 16 ≤ length head
    → slice_get (padded (head ++ more)) 1 ≡ Some (value (take 8 (drop 8 ((head ++ more) ++ pad (length (head ++ more))))))
unfolding padded
second_padded head more h =
    let size = length-append head more in
    second_octet ((length (head ++ more) + 7) / 8) ((head ++ more) ++ pad (length (head ++ more))) (omega (arith, h, size))

-- ---- the head of a message

-- kind, code and criticality, the code in an octet
abbrev head_of : ℕ → ℕ → ℕ → List Bool
head_of kind code c = ((false ∷ bits 2 kind) ++ (replicate 5 false ++ bits 8 code)) ++ bits 2 c

ok_of_some : {A : Type 0} (r : Result A PerFault) (x : A) → ok_of r ≡ Some x → r ≡ Ok x
ok_of_some (Ok y) x e = cc
ok_of_some (Err fault) x e = absurd (cc e)

string_after : (os octets : List ℕ) (head bs : List Bool) → write_string os head ≡ Ok bs → okay (padded bs) ≡ okay octets
    → (more : List Bool) × (octets ≡ padded (head ++ more))
string_after os octets head bs is ends =
    let added = written octet_string os head bs is in
    (added.bits, sym (ok_is (padded bs) octets ends) ∙ ap padded added.parts)

-- what is written of a message begins with its head
begins_so : (kind code c : ℕ) (rs : Rows) (v : Kept rs) (head : List Bool) (octets : List ℕ)
    → write_head kind code c [] ≡ Ok head
    → ok_of (write_pdu kind code c rs v) ≡ Some octets → (more : List Bool) × (octets ≡ padded (head ++ more))
begins_so kind code c rs v head octets at is =
    let whole = ok_of_some (write_pdu kind code c rs v) octets is in
    let message = bind_ok (write_whole (write_message rs) v) (λ os. write_whole (write_frame kind code c) os) octets whole in
    let frame = bind_ok (write_frame kind code c message.0 []) (λ bs. Ok (padded bs)) octets message.2 in
    string_after message.0 octets head frame.0
    (sym (ap (λ (r : Result (List Bool) PerFault). r >>= write_string message.0) at) ∙ frame.1) frame.2

-- ---- octets that may carry a key

overwritten : (octets : List ℕ) (code : ℕ) → slice_get octets 1 ≡ Some code → has_key code ≡ true
    → without_key octets ≡ replicate (length octets) 0
overwritten octets code at is =
    ap (λ (o : Option ℕ). cond (option_map_or has_key o false) (replicate (length octets) 0) octets) at
    ∙ ap (λ b. cond b (replicate (length octets) 0) octets) is

setup_head : write_head 0 9 0 [] ≡ Ok (head_of 0 9 0)
unfolding write_number offset_bits width_of bits
setup_head = refl

acknowledge_head : write_head 1 3 0 [] ≡ Ok (head_of 1 3 0)
unfolding write_number offset_bits width_of bits
acknowledge_head = refl

setup_second : (more : List Bool) → slice_get (padded (head_of 0 9 0 ++ more)) 1 ≡ Some 9
unfolding bits value
setup_second more = second_padded (head_of 0 9 0) more (omega arith)

acknowledge_second : (more : List Bool) → slice_get (padded (head_of 1 3 0 ++ more)) 1 ≡ Some 3
unfolding bits value
acknowledge_second more = second_padded (head_of 1 3 0) more (omega arith)

pub keys_are_overwritten : KeysAreOverwritten
unfolding encoded encode_typed
keys_are_overwritten (pdu.InitialContextSetupRequest m) octets is carries =
    let w = begins_so 0 9 0 context_setup_request (typed_context_setup_request m) (head_of 0 9 0) octets setup_head is in
    overwritten octets 9 (ap (λ (os : List ℕ). slice_get os 1) w.1 ∙ setup_second w.0) refl
keys_are_overwritten (pdu.PathSwitchRequestAcknowledge m) octets is carries =
    let w = begins_so 1 3 0 path_switch_acknowledge (typed_path_switch_acknowledge m) (head_of 1 3 0) octets acknowledge_head is in
    overwritten octets 3 (ap (λ (os : List ℕ). slice_get os 1) w.1 ∙ acknowledge_second w.0) refl
keys_are_overwritten _ octets is carries = absurd (cc carries)
