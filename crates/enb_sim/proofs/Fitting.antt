-- Which messages of a station have a written form.
use Rattle.std.proofs.Common.{◌≡◌, ℕ, ◌+◌, ◌-◌, ◌*◌, ◌^◌, ◌<◌, ◌≤◌, Bool, true, false, leb, List, [], ◌∷◌, ◌++◌, length, Option, Some, None, refl, ap, ◌∙◌, arith, inl, inr}
use Rattle.std.proofs.lemmas.Bool.{and_from, and_parts, cases_lt, eqb-true, eq-eqb, le-leb, leb-false, leb-true, lt-ltb}
use Rattle.std.proofs.lemmas.List.{length-append}
use Rattle.std.specs.Prelude.{◌↔◌, ◌≢◌}
use Rattle.std.specs.Int.{w32, to_be_bytes}
use Rattle.per_streams.specs.Bits.{bits, octet_bits, pad, padded}
use Rattle.per_streams.specs.BitLaws.{length-bits, length-octet_bits}
use Rattle.per_streams.specs.Octet.{AreBytes, IsLong, all_below}
use Rattle.per_bits.specs.Formats.{Format, Value, octet_string, open_type, raw}
use Rattle.per_bits.specs.LargeLaws.{octets-most}
use Rattle.per_bits.specs.Numbers.{octets_for, offset_bits, width_of}
use Rattle.per_bits.specs.Written.{aligned_form, each_fits, number_fits, string_fits, string_form, writable, written}
use Rattle.s1ap_causes.specs.Causes.{cause}
use Rattle.s1ap_elements.specs.Formats.{enb_ue_id, erab_tunnel, erabs_to_be_switched, eutran_cgi, global_enb_id, mme_ue_id, paging_drx, rrc_cause, s_tmsi, security_capabilities, supported_tas, tai, text}
use Rattle.s1ap_elements.specs.Ids as id
use Rattle.s1ap_elements.specs.declared.phone.STmsi.{STmsi}
use Rattle.s1ap_elements.specs.declared.phone.UeIdPair.{UeIdPair}
use Rattle.s1ap_rows.specs.declared.criticality.Criticality.{Criticality}
use Rattle.s1ap_rows.specs.declared.criticality.Criticality.TheVariants.{Ignore, Notify, Reject}
use Rattle.s1ap_rows.specs.Criticalities.{criticality_number}
use Rattle.s1ap_rows.specs.Rows.{Kept, Rows, end, ie, needed, optional}
use Rattle.s1ap_rows.specs.Spelling.{message}
use Rattle.s1ap_rows.specs.Writable.{elements_of, message_fits, values_fit}
use Rattle.s1ap_pdus.specs.declared.pdu.Pdu.{Pdu}
use Rattle.s1ap_pdus.specs.Pdus.{IsWritableMessage, encoded}
use Rattle.enb_sim.specs.declared.profile.StationProfile.{StationProfile}
use Rattle.enb_sim.specs.Profile.{address_of, cell_number, two_algorithms}
use Rattle.enb_sim.specs.Ranges.{STmsiInRangeIf, SiteInRange}
use Rattle.enb_sim.specs.Sending.{initial_pdu, release_pdu, setup_pdu, switch_pdu, uplink_pdu}
use Rattle.enb_sim.proofs.Sizes.{Long, after, ahead, ahead_large, ahead_most, ahead_small, bit, bits_long, element_ends, elements_room, fits, join, none, octets_exact, octets_long, pad_long, padded_below, padded_long, room, sizes, string_ends, string_long}

number_fitting : (lo hi n : ℕ) → lo ≤ n → n ≤ hi → n - lo < 2 ^ 64 → number_fits lo hi n ≡ true
number_fitting lo hi n low high small =
    and_from _ _ (le-leb lo n low) (and_from _ _ (le-leb n hi high) (lt-ltb (n - lo) (2 ^ 64) small))

-- ---- the rows of a message

-- where P holds a value can be written; what it would be written as has n octets
record Fits (P : Type 0) (f : Format) (v : Value f) (n : ℕ) : Type 0 where
  value : P → writable f v ≡ true
  long : length (padded (written f v 0)) ≡ n
  few : P → n < 16384

-- so have the values of rows, and their elements have n octets
record AllFit (P : Type 0) (rs : Rows) (v : Kept rs) (n : ℕ) : Type 0 where
  values : P → values_fit rs v ≡ true
  elements : P → each_fits (writable raw) (elements_of rs v) ≡ true
  size : sizes (elements_of rs v) ≡ n
  count : length (elements_of rs v) ≤ n

no_rows : {P : Type 0} → AllFit P end tt 0
no_rows = record { values = (λ p. refl); elements = (λ p. refl); size = refl; count = omega arith }

criticality_fits : (c : Criticality) → number_fits 0 2 (criticality_number c) ≡ true
criticality_fits Reject = refl
criticality_fits Ignore = refl
criticality_fits Notify = refl

element_fits : (id : ℕ) (c : Criticality) (os : List ℕ) → number_fits 0 65535 id ≡ true → string_fits os ≡ true
    → writable raw (id, (criticality_number c, (os, tt))) ≡ true
element_fits id c os i h = and_from _ _ i (and_from _ _ (criticality_fits c) (and_from _ _ h refl))

row : {P : Type 0} {f : Format} {x : Value f} {rs : Rows} {v : Kept rs} {n m : ℕ} (id : ℕ) (c : Criticality)
    → number_fits 0 65535 id ≡ true → Fits P f x n → AllFit P rs v m
    → AllFit P (ie id c needed f rs) (x, v) (3 + (ahead n + n) + m)
row {f = f} {x = x} {rs = rs} {v = v} {n = n} id c i h more =
    let os = padded (written f x 0) in
    let long : length os ≡ n = h.long in
    let same : 3 + (ahead (length os) + length os) ≡ 3 + (ahead n + n) = ap (λ k. 3 + (ahead k + k)) long in
    let rest = more.size in
    let few = more.count in
    record {
      values = (λ p. and_from (writable f x) (values_fit rs v) (h.value p) (more.values p));
      elements = (λ p.
          let short = h.few p in
          let fit : string_fits os ≡ true =
          and_from _ _ (lt-ltb (length os) 16384 (omega (arith, long, short))) (padded_below (written f x 0)) in
          and_from _ _ (element_fits id c os i fit) (more.elements p));
      size = omega (arith, same, rest);
      count = omega (arith, few);
    }

present : {P : Type 0} {id : ℕ} {c : Criticality} {f : Format} {x : Value f} {rs : Rows} {v : Kept rs} {n : ℕ}
    → AllFit P (ie id c needed f rs) (x, v) n → AllFit P (ie id c optional f rs) (Some x, v) n
present h = record { values = h.values; elements = h.elements; size = h.size; count = h.count }

absent : {P : Type 0} {rs : Rows} {v : Kept rs} {n : ℕ} (id : ℕ) (c : Criticality) (f : Format)
    → AllFit P rs v n → AllFit P (ie id c optional f rs) (None, v) n
absent id c f h = record { values = h.values; elements = h.elements; size = h.size; count = h.count }

-- such a message has a written form where there is room for its elements
written_where : {P : Type 0} {rs : Rows} {v : Kept rs} {n : ℕ} → AllFit P rs v n → P → n ≤ elements_room → message_fits rs v ≡ true
written_where {rs = rs} {v = v} h p few =
    let es = elements_of rs v in
    let size = h.size in
    let count = h.count in
    let counted : number_fits 0 65535 (length es) ≡ true =
    number_fitting 0 65535 (length es) (omega arith) (omega (arith, count, few)) (omega (arith, count, few)) in
    and_from _ _ (h.values p) (fits es counted (h.elements p) (omega (arith, size, few)))

-- and nowhere else
small_where : {P : Type 0} {rs : Rows} {v : Kept rs} {n : ℕ} → AllFit P rs v n → message_fits rs v ≡ true → n ≤ elements_room
small_where {rs = rs} {v = v} h fit =
    let es = elements_of rs v in
    let size = h.size in
    let most = room es (and_parts (values_fit rs v) (writable (open_type message) (es, tt)) fit).1 in
    omega (arith, size, most)

-- ---- ids

-- a number in M octets, of a range for which two bits say how many they are
large_long : (w m n : ℕ) → w ≡ 2
    → (let count = bits w (m - 1) in Long (8 * (1 + m)) (count ++ (pad (0 + length count) ++ bits (8 * m) n)))
large_long w m n e =
    let count = bits w (m - 1) in
    let two : length count ≡ 2 = length-bits w (m - 1) ∙ e in
    let six = pad_long (0 + length count) 2 6 (omega (arith, two)) refl in
    let all : Long (2 + (6 + 8 * m)) (count ++ (pad (0 + length count) ++ bits (8 * m) n)) =
    join (record { exact = two }) (join six (bits_long (8 * m) n)) in
    record { exact = (let h = all.exact in omega (arith, h)) }

enb_width : width_of (octets_for 16777215 - 1) ≡ 2
unfolding width_of octets_for
enb_width = refl

mme_width : width_of (octets_for 4294967295 - 1) ≡ 2
unfolding width_of octets_for
mme_width = refl

from_zero : (n : ℕ) → n - 0 ≡ n
from_zero n = omega arith

enb_id_long : (n : ℕ) → length (padded (written enb_ue_id n 0)) ≡ 1 + octets_for n
unfolding offset_bits
enb_id_long n =
    octets_exact (1 + octets_for (n - 0)) (large_long (width_of (octets_for 16777215 - 1)) (octets_for (n - 0)) (n - 0) enb_width)
    (omega arith) (omega arith)
    ∙ ap (λ k. 1 + octets_for k) (from_zero n)

mme_id_long : (n : ℕ) → length (padded (written mme_ue_id n 0)) ≡ 1 + octets_for n
unfolding offset_bits
mme_id_long n =
    octets_exact (1 + octets_for (n - 0)) (large_long (width_of (octets_for 4294967295 - 1)) (octets_for (n - 0)) (n - 0) mme_width)
    (omega arith) (omega arith)
    ∙ ap (λ k. 1 + octets_for k) (from_zero n)

enb_id : {P : Type 0} (n : ℕ) → n ≤ 16777215 → Fits P enb_ue_id n (1 + octets_for n)
enb_id n h = let few = octets-most n in record {
  value = (λ p. number_fitting 0 16777215 n (omega arith) h (omega (arith, h)));
  long = enb_id_long n;
  few = (λ p. omega (arith, few));
}

mme_id : {P : Type 0} (n : ℕ) → n ≤ 4294967295 → Fits P mme_ue_id n (1 + octets_for n)
mme_id n h = let few = octets-most n in record {
  value = (λ p. number_fitting 0 4294967295 n (omega arith) h (omega (arith, h)));
  long = mme_id_long n;
  few = (λ p. omega (arith, few));
}

-- an id's element
id_size : (n : ℕ) → ahead (1 + octets_for n) ≡ 1
id_size n = let few = octets-most n in ahead_small (1 + octets_for n) (omega (arith, few))

-- ---- what a station tells of itself

area : {P : Type 0} (s : StationProfile) → SiteInRange s → Fits P tai (s.plmn, (s.tac, tt)) 6
area s p =
    let plmn = join (pad_long 2 2 6 refl refl) (octets_long s.plmn 3 p.plmn) in
    let tac = octets_long s.tac 2 p.tac in
    record {
      value = (λ h. and_from _ _ p.plmn (and_from _ _ p.tac refl));
      long = octets_exact 6 (bit (bit (join plmn (join tac none)))) (omega arith) (omega arith);
      few = (λ h. omega arith);
    }

cell_bits : (id : List Bool) → IsLong 20 id → IsLong 28 (id ++ cell_number)
cell_bits id i =
    let h = eqb-true (length id) 20 i in
    eq-eqb (length (id ++ cell_number)) 28 (omega (arith, h, length-append id cell_number))

cell : {P : Type 0} (s : StationProfile) → SiteInRange s → Fits P eutran_cgi (s.plmn, (s.macro_id ++ cell_number, tt)) 8
cell s p =
    let plmn : Long (6 + 24) (aligned_form s.plmn 2) = join (pad_long 2 2 6 refl refl) (octets_long s.plmn 3 p.plmn) in
    let whole = pad_long (2 + length (aligned_form s.plmn 2)) 32 0 (after 2 32 plmn refl) refl in
    let bits = join whole (string_long 28 (cell_bits s.macro_id p.macro_id)) in
    record {
      value = (λ h. and_from _ _ p.plmn (and_from _ _ (cell_bits s.macro_id p.macro_id) refl));
      long = octets_exact 8 (bit (bit (join plmn (join bits none)))) (omega arith) (omega arith);
      few = (λ h. omega arith);
    }

signalling : {P : Type 0} → Fits P rrc_cause (inl 3) 1
unfolding offset_bits width_of
signalling = record {
  value = (λ h. refl);
  long = octets_exact 1 (bit (bits_long 3 (3 - 0))) (omega arith) (omega arith);
  few = (λ h. omega arith);
}

identity : {P : Type 0} (t : STmsi) → AreBytes 1 t.code → AreBytes 4 t.m_tmsi → Fits P s_tmsi (t.code, (t.m_tmsi, tt)) 6
identity t c m =
    let code : Long 8 (octet_bits t.code) = octets_long t.code 1 c in
    let six = pad_long (2 + length (octet_bits t.code)) 10 6 (after 2 10 code refl) refl in
    let number = join six (octets_long t.m_tmsi 4 m) in
    record {
      value = (λ h. and_from _ _ c (and_from _ _ m refl));
      long = octets_exact 6 (bit (bit (join code (join number none)))) (omega arith) (omega arith);
      few = (λ h. omega arith);
    }

-- ---- messages with a NAS message

nas_exact : (nas : List ℕ) → length (padded (written octet_string nas 0)) ≡ ahead (length nas) + length nas
nas_exact nas =
    let ends : 0 + length (string_form nas 0) ≡ 8 * (0 + (ahead (length nas) + length nas)) = string_ends nas 0 0 refl in
    padded_long (ahead (length nas) + length nas) (string_form nas 0) (omega (arith, ends)) (omega (arith, ends))

-- how many octets a NAS message and what varies of the others may have: their elements have 32 more, its own 7 more
abbrev pub nas_room : ℕ
nas_room = 16341

nas_message : (nas : List ℕ) → all_below 256 nas ≡ true
    → Fits (length nas ≤ nas_room) octet_string nas (ahead (length nas) + length nas)
nas_message nas bytes = let most = ahead_most (length nas) in record {
  value = (λ h. and_from _ _ (lt-ltb (length nas) 16384 (omega (arith, h))) bytes);
  long = nas_exact nas;
  few = (λ h. omega (arith, h, most));
}

-- how many octets its element takes
abbrev nas_size : ℕ → ℕ
nas_size n = 3 + (ahead (ahead n + n) + (ahead n + n))

nas_most : (n more : ℕ) → more ≤ 100 → more + 32 + nas_size n ≤ elements_room → n + more ≤ nas_room
nas_most n more few h = elim (cases_lt n 128) [
  | inl small ↦ omega (arith, small, few)
  | inr large ↦ let a = ahead_large n large in let b = ahead_large (ahead n + n) (omega (arith, large)) in omega (arith, h, a, b)
]

-- the other elements have 32 octets and some more
where_room : {rs : Rows} {v : Kept rs} {n size : ℕ} (more : ℕ) → AllFit (n ≤ nas_room) rs v size → more ≤ 100
    → size ≡ more + 32 + nas_size n → (message_fits rs v ≡ true) ↔ (n + more ≤ nas_room)
where_room {n = n} more all few e = (
  (λ h. let most = small_where all h in nas_most n more few (omega (arith, most, e))),
  (λ h. written_where all (omega (arith, h)) (omega (arith, h, e, ahead_most n, ahead_most (ahead n + n)))),
)

-- how many octets an S-TMSI's element has
abbrev pub identity_size : Option STmsi → ℕ
identity_size None = 0
identity_size (Some t) = 10

pub initial_where : (s : StationProfile) (b : ℕ) (nas : List ℕ) (t : Option STmsi) → SiteInRange s → b ≤ 16777215
    → all_below 256 nas ≡ true → STmsiInRangeIf t
    → IsWritableMessage (initial_pdu s b nas t) ↔ (length nas + (octets_for b + identity_size t) ≤ nas_room)
unfolding initial_pdu
initial_where s b nas None p low bytes i =
    let most = octets-most b in
    where_room (octets_for b + 0)
    (row id.enb_ue_s1ap_id Reject refl (enb_id b low)
    (row id.nas_pdu Reject refl (nas_message nas bytes)
    (row id.tai Reject refl (area s p)
    (row id.eutran_cgi Ignore refl (cell s p)
    (row id.rrc_establishment_cause Ignore refl signalling
    (absent id.s_tmsi Reject s_tmsi no_rows))))))
    (omega (arith, most)) (omega (arith, id_size b))
initial_where s b nas (Some t) p low bytes i =
    let most = octets-most b in
    where_room (octets_for b + 10)
    (row id.enb_ue_s1ap_id Reject refl (enb_id b low)
    (row id.nas_pdu Reject refl (nas_message nas bytes)
    (row id.tai Reject refl (area s p)
    (row id.eutran_cgi Ignore refl (cell s p)
    (row id.rrc_establishment_cause Ignore refl signalling
    (present (row id.s_tmsi Reject refl (identity t i.0 i.1) no_rows)))))))
    (omega (arith, most)) (omega (arith, id_size b))

pub uplink_where : (s : StationProfile) (pair : UeIdPair) (nas : List ℕ) → SiteInRange s → pair.mme_ue_id ≤ 4294967295
    → pair.enb_ue_id ≤ 16777215 → all_below 256 nas ≡ true
    → IsWritableMessage (uplink_pdu s pair nas) ↔ (length nas + (octets_for pair.mme_ue_id + octets_for pair.enb_ue_id) ≤ nas_room)
unfolding uplink_pdu
uplink_where s pair nas p high low bytes =
    let one = octets-most pair.mme_ue_id in
    let two = octets-most pair.enb_ue_id in
    where_room (octets_for pair.mme_ue_id + octets_for pair.enb_ue_id)
    (row id.mme_ue_s1ap_id Reject refl (mme_id pair.mme_ue_id high)
    (row id.enb_ue_s1ap_id Reject refl (enb_id pair.enb_ue_id low)
    (row id.nas_pdu Reject refl (nas_message nas bytes)
    (row id.eutran_cgi Ignore refl (cell s p)
    (row id.tai Ignore refl (area s p)
    no_rows)))))
    (omega (arith, one, two)) (omega (arith, id_size pair.mme_ue_id, id_size pair.enb_ue_id))

-- ---- PATH SWITCH REQUEST

algorithms : {P : Type 0} → Fits P security_capabilities (two_algorithms, (two_algorithms, tt)) 5
algorithms =
    let long : Long 36 (written security_capabilities (two_algorithms, (two_algorithms, tt)) 0) = record { exact = refl } in
    record { value = (λ h. refl); long = octets_exact 5 long (omega arith) (omega arith); few = (λ h. omega arith) }

-- the tunnel of the default bearer
tunnel_long : (b : List Bool) (t : List ℕ) → length b ≡ 32 → AreBytes 4 t
    → length (padded (written erab_tunnel (5, (b, (t, tt))) 0)) ≡ 10
unfolding offset_bits width_of
tunnel_long b t e h =
    let id = false ∷ bits 4 (5 - 0) in
    let count = bits 8 (length b - 1) in
    let one : Long 5 id = bit (bits_long 4 (5 - 0)) in
    let start = 2 + length id + 1 + length count in
    let whole : start ≡ 16 = (let k = one.exact in omega (arith, k, length-bits 8 (length b - 1))) in
    let address = false ∷ (count ++ (pad start ++ b)) in
    let two : Long 41 address =
    bit (join (bits_long 8 (length b - 1)) (join (pad_long start 16 0 whole refl) (record { exact = e }))) in
    let end : 2 + length id + length address ≡ 48 = (let k = one.exact in let l = two.exact in omega (arith, k, l)) in
    let three = join (pad_long (2 + length id + length address) 48 0 end refl) (octets_long t 4 h) in
    octets_exact 10 (bit (bit (join one (join two (join three none))))) (omega arith) (omega arith)

tunnel_fits : (b : List Bool) (t : List ℕ) → length b ≡ 32 → AreBytes 4 t → writable erab_tunnel (5, (b, (t, tt))) ≡ true
tunnel_fits b t e h =
    and_from _ _ refl (and_from _ _ (number_fitting 1 160 (length b) (omega (arith, e)) (omega (arith, e)) (omega (arith, e)))
    (and_from _ _ h refl))

bearer : {P : Type 0} (b : List Bool) (t : List ℕ) → length b ≡ 32 → AreBytes 4 t
    → Fits P erabs_to_be_switched (((5, (b, (t, tt))), tt) ∷ []) 15
unfolding offset_bits
bearer b t e h =
    let os = padded (written erab_tunnel (5, (b, (t, tt))) 0) in
    let long : length os ≡ 10 = tunnel_long b t e h in
    let at = length (bits 8 0) in
    let one = written raw (id.erab_to_be_switched_dl_item, (0, (os, tt))) (0 + at) in
    let ends : 0 + at + length one ≡ 8 * (1 + (3 + (ahead (length os) + length os))) =
    element_ends id.erab_to_be_switched_dl_item 0 os 1 (0 + at) (omega (arith, length-bits 8 0)) in
    let small : ahead (length os) ≡ 1 = ahead_small (length os) (omega (arith, long)) in
    let all : Long 120 (bits 8 0 ++ (one ++ [])) =
    record { exact = omega (arith, ends, long, small, length-append (bits 8 0) (one ++ []), length-append one []) } in
    let fit : string_fits os ≡ true =
    and_from _ _ (lt-ltb (length os) 16384 (omega (arith, long))) (padded_below (written erab_tunnel (5, (b, (t, tt))) 0)) in
    let tunnel = and_from _ _ (tunnel_fits b t e h) fit in
    record {
      value = (λ p. and_from _ _ refl (and_from _ _ (and_from _ _ refl (and_from _ _ refl (and_from _ _ tunnel refl))) refl));
      long = octets_exact 15 all (omega arith) (omega arith);
      few = (λ p. omega arith);
    }

-- an address of four octets
address_long : (s : StationProfile) → length (octet_bits (address_of s)) ≡ 32
address_long s = length-octet_bits (address_of s)

pub switch_fits : (s : StationProfile) (pair : UeIdPair) → SiteInRange s → pair.mme_ue_id ≤ 4294967295 → pair.enb_ue_id ≤ 16777215
    → AreBytes 4 (to_be_bytes w32 pair.enb_ue_id) → IsWritableMessage (switch_pdu s pair)
unfolding switch_pdu
switch_fits s pair p high low teid =
    let one = octets-most pair.mme_ue_id in
    let two = octets-most pair.enb_ue_id in
    written_where
    (row id.enb_ue_s1ap_id Reject refl (enb_id pair.enb_ue_id low)
    (row id.erab_to_be_switched_dl_list Reject refl
    (bearer (octet_bits (address_of s)) (to_be_bytes w32 pair.enb_ue_id) (address_long s) teid)
    (row id.source_mme_ue_s1ap_id Reject refl (mme_id pair.mme_ue_id high)
    (row id.eutran_cgi Ignore refl (cell s p)
    (row id.tai Ignore refl (area s p)
    (row id.ue_security_capabilities Ignore refl algorithms
    no_rows)))))) (tt {0}) (omega (arith, one, two, id_size pair.mme_ue_id, id_size pair.enb_ue_id))

-- ---- UE CONTEXT RELEASE REQUEST

inactivity : {P : Type 0} → Fits P cause (inl (inl 20)) 2
unfolding offset_bits width_of
inactivity =
    let group = bits_long 3 (0 - 0) in
    let name = bit (bits_long 6 (20 - 0)) in
    record {
      value = (λ h. refl);
      long = octets_exact 2 (join (bit group) name) (omega arith) (omega arith);
      few = (λ h. omega arith);
    }

pub release_fits : (pair : UeIdPair) → pair.mme_ue_id ≤ 4294967295 → pair.enb_ue_id ≤ 16777215
    → IsWritableMessage (release_pdu pair)
unfolding release_pdu
release_fits pair high low =
    let one = octets-most pair.mme_ue_id in
    let two = octets-most pair.enb_ue_id in
    written_where
    (row id.mme_ue_s1ap_id Reject refl (mme_id pair.mme_ue_id high)
    (row id.enb_ue_s1ap_id Reject refl (enb_id pair.enb_ue_id low)
    (row id.cause Ignore refl inactivity
    no_rows))) (tt {0}) (omega (arith, one, two, id_size pair.mme_ue_id, id_size pair.enb_ue_id))

-- ---- S1 SETUP REQUEST

station : {P : Type 0} (s : StationProfile) → SiteInRange s → Fits P global_enb_id (s.plmn, (inl s.macro_id, tt)) 8
unfolding offset_bits width_of
station s p =
    let first = aligned_form s.plmn 2 in
    let index = false ∷ bits 1 (0 - 0) in
    let plmn : Long (6 + 24) first = join (pad_long 2 2 6 refl refl) (octets_long s.plmn 3 p.plmn) in
    let two : Long 2 index = bit (bits_long 1 (0 - 0)) in
    let place : 2 + length first + length index ≡ 34 = (let k = plmn.exact in let l = two.exact in omega (arith, k, l)) in
    let id = join (pad_long (2 + length first + length index) 34 6 place refl) (string_long 20 p.macro_id) in
    record {
      value = (λ h. and_from _ _ p.plmn (and_from _ _ (and_from _ _ refl p.macro_id) refl));
      long = octets_exact 8 (bit (bit (join plmn (join (join two id) none)))) (omega arith) (omega arith);
      few = (λ h. omega arith);
    }

areas : {P : Type 0} (s : StationProfile) → SiteInRange s → Fits P supported_tas ((s.tac, (s.plmn ∷ [], tt)) ∷ []) 7
unfolding offset_bits width_of
areas s p =
    let count = bits 8 (1 - 1) in
    let tac : Long 16 (octet_bits s.tac) = octets_long s.tac 2 p.tac in
    let plmns = bits 3 (1 - 1) in
    let at = 0 + length count + 2 + length (octet_bits s.tac) + length plmns in
    let place : at ≡ 29 = (let k = tac.exact in omega (arith, k, length-bits 8 (1 - 1), length-bits 3 (1 - 1))) in
    let plmn = join (pad_long at 29 3 place refl) (octets_long s.plmn 3 p.plmn) in
    let one = bit (bit (join tac (join (join (bits_long 3 (1 - 1)) (join plmn none)) none))) in
    let fit = and_from _ _ p.tac (and_from _ _ (and_from _ _ refl (and_from _ _ p.plmn refl)) refl) in
    record {
      value = (λ h. and_from _ _ refl (and_from _ _ fit refl));
      long = octets_exact 7 (join (bits_long 8 (1 - 1)) (join one none)) (omega arith) (omega arith);
      few = (λ h. omega arith);
    }

cycle : {P : Type 0} → Fits P paging_drx (inl 2) 1
unfolding offset_bits width_of
cycle = record {
  value = (λ h. refl);
  long = octets_exact 1 (bit (bits_long 2 (2 - 0))) (omega arith) (omega arith);
  few = (λ h. omega arith);
}

pub setup_fits : (s : StationProfile) → SiteInRange s → IsWritableMessage (setup_pdu s)
unfolding setup_pdu
setup_fits s p =
    written_where
    (row id.global_enb_id Reject refl (station s p)
    (absent id.enb_name Ignore text
    (row id.supported_tas Reject refl (areas s p)
    (row id.default_paging_drx Ignore refl cycle
    no_rows)))) (tt {0}) (omega arith)

-- ---- what is written, and what isn't

-- the law of messages that are written, as it is given
pub record WritesExactly : Type 0 where
  pub written : (m : Pdu (List ℕ)) → IsWritableMessage m → (os : List ℕ) × (encoded m ≡ Some os)
  pub refused : (m : Pdu (List ℕ)) → (IsWritableMessage m → ⊥) → encoded m ≡ None

pub has_octets : WritesExactly → (m : Pdu (List ℕ)) → IsWritableMessage m → encoded m ≢ None
has_octets law m h none = let made = law.written m h in let e = made.1 in cc

-- octets that are compared with no more than the room for them
pub with_room : WritesExactly → (m : Pdu (List ℕ)) (octets wanted most : ℕ) → IsWritableMessage m ↔ (wanted ≤ nas_room)
    → octets ≡ wanted → most ≤ nas_room → leb octets most ≡ true → encoded m ≢ None
with_room law m octets wanted most fits e few t = has_octets law m (fits.1 (omega (arith, e, few, leb-true octets most t)))

-- and with no less
pub without_room : WritesExactly → (m : Pdu (List ℕ)) (octets wanted most : ℕ) → IsWritableMessage m ↔ (wanted ≤ nas_room)
    → octets ≡ wanted → nas_room ≤ most → leb octets most ≡ false → encoded m ≡ None
without_room law m octets wanted most fits e least f =
    law.refused m (λ h. let few = fits.0 h in let many = leb-false octets most f in absurd (omega (arith, e, least, few, many)))
