-- What is known of a phone's radio keys: every key from `f` on may yet be handed out, and none before it.
use Rattle.std.proofs.Common.{◌≡◌, ℕ, zero, suc, ◌+◌, ◌%◌, ◌^◌, ◌<◌, ◌≤◌, Bool, true, false, inl, inr, List, Option, Some, None, slice_get, refl, le_refl, ap, arith}
use Rattle.eps_keys.specs.Hmac.{hop_at, kenb, next_hop}
use Rattle.identity_slots.specs.declared.profile.Vector.{Vector}
use Rattle.nas_security.specs.Counts.{first_after}
use Rattle.mme_types.specs.declared.connection.RadioKeys.{RadioKeys}
use Rattle.emm_state.specs.declared.setting.Setting.{Setting}
use Rattle.emm_state.specs.declared.solo.Context.{Context}
use Rattle.emm_state.specs.declared.solo.Phase.{Phase}
use Rattle.emm_state.specs.declared.solo.Phase.TheVariants.{Deregistered, Authenticating, SecurityMode, EsmInformation, Accepting, Updating, Registered, Detaching}
use Rattle.emm_state.specs.declared.solo.Solo.{Solo}
use Rattle.emm_state.specs.Actions.{is_registered}
use Rattle.emm_machine.specs.Connected.{hopped, standing_hop}
use Rattle.emm_machine.specs.Freshness.{HasVector, next_place}
use Rattle.laws_subscriber.specs.Sound.{is_past_proof, keys_after}
use Rattle.laws_mme.specs.Handed.{RadioKey}
use Rattle.laws_mme.proofs.KeyOrder.{IsUpTo, count_up, first_of, hop_up, key, place_up, up_to_trans}

-- ---- a context

-- of its KeNB: it is of no count yet, or it is due and was not handed out, or it may have been
pub data Part : Type 0 where
  Unkeyed : Part
  Due : Part
  Given : Part

abbrev pub part_of : Phase → Part
part_of Deregistered = Unkeyed
part_of Authenticating = Unkeyed
part_of SecurityMode = Unkeyed
part_of EsmInformation = Due
part_of Accepting = Given
part_of Updating = Given
part_of Registered = Given
part_of Detaching = Given

-- by the parts of a context: its radio keys are those of a count after some path switches, and the next hop was not handed out
abbrev pub Holds : Part → RadioKey → ℕ → List ℕ → RadioKeys → Option ℕ → Type 0
Holds Unkeyed f place kasme radio up = IsUpTo f (key place (first_after up) 0)
Holds Due f place kasme radio up =
    (count : ℕ) × (count < 2 ^ 24) × (count < first_after up) × (radio ≡ keys_after 0 kasme count) × IsUpTo f (key place count 0)
Holds Given f place kasme radio up =
    (count : ℕ) × (moves : ℕ) × (count < 2 ^ 24) × (count < first_after up) × (radio ≡ keys_after moves kasme count)
    × IsUpTo f (key place count (suc (suc moves)))

-- its KASME is that of the vector at its place
abbrev pub IsOfVector : List Vector → ℕ → List ℕ → Type 0
IsOfVector vectors place kasme = (v : Vector) × (slice_get vectors place ≡ Some v) × (kasme ≡ v.kasme)

-- `place` is the least of a vector that may yet become a context
abbrev pub HeldIn : List Vector → RadioKey → Part → ℕ → Option Context → Type 0
HeldIn vectors f part place None = IsUpTo f (first_of place)
HeldIn vectors f part place (Some x) =
    (x.place < place) × IsOfVector vectors x.place x.kasme × Holds part f x.place x.kasme x.radio x.security.up_last

pub record IsHeld (s : Setting) (f : RadioKey) (solo : Solo) : Type 0 where
  pub vector : HasVector solo.phase solo.next_vector
  pub held : HeldIn s.vectors f (part_of solo.phase) (next_place solo.phase solo.next_vector) solo.context

-- ---- phases

pub floor_le : (phase : Phase) (next : ℕ) → next_place phase next ≤ next
floor_le Authenticating next = omega arith
floor_le _ next = le_refl next

abbrev pub is_keyed : Part → Bool
is_keyed Unkeyed = false
is_keyed Due = true
is_keyed Given = true

pub past_keyed : (phase : Phase) → is_past_proof phase ≡ true → is_keyed (part_of phase) ≡ true
past_keyed Deregistered h = cc
past_keyed Authenticating h = cc
past_keyed SecurityMode h = cc
past_keyed _ h = refl

pub registered_past : (phase : Phase) → is_registered phase ≡ true → is_past_proof phase ≡ true
registered_past Registered h = refl
registered_past Updating h = refl
registered_past _ h = cc

-- ---- what follows

-- the least KeNB that may come
pub yet : (part : Part) (f : RadioKey) (place : ℕ) (kasme : List ℕ) (radio : RadioKeys) (up : Option ℕ)
    → Holds part f place kasme radio up → IsUpTo f (key place (first_after up) 0)
yet Unkeyed f place kasme radio up h = h
yet Due f place kasme radio up h =
    up_to_trans f (key place h.0 0) (key place (first_after up) 0) h.4 (inr (le_refl place, inl h.2))
yet Given f place kasme radio up h =
    up_to_trans f (key place h.0 (suc (suc h.1))) (key place (first_after up) 0) h.5 (inr (le_refl place, inl h.3))

-- the least of a later vector
pub floor_of : (vectors : List Vector) (f : RadioKey) (part : Part) (place : ℕ) (o : Option Context) → HeldIn vectors f part place o
    → IsUpTo f (first_of place)
floor_of vectors f part place None h = h
floor_of vectors f part place (Some x) h =
    up_to_trans f (key x.place (first_after x.security.up_last) 0) (first_of place)
    (yet part f x.place x.kasme x.radio x.security.up_last h.2) (inl h.0)

-- KeNB counts as given where it is due
given : (part : Part) (f : RadioKey) (place : ℕ) (kasme : List ℕ) (radio : RadioKeys) (up : Option ℕ) → is_keyed part ≡ true
    → Holds part f place kasme radio up → Holds Given f place kasme radio up
given Unkeyed f place kasme radio up is h = absurd (cc is)
given Due f place kasme radio up is h =
    (h.0, 0, h.1, h.2, h.3, up_to_trans f (key place h.0 0) (key place h.0 2) h.4 (hop_up place h.0 0 2 (omega arith)))
given Given f place kasme radio up is h = h

-- past the proof, in a phase without a challenge
pub settled : (vectors : List Vector) (f : RadioKey) (part : Part) (low high : ℕ) (o : Option Context) → is_keyed part ≡ true
    → low ≤ high → HeldIn vectors f part low o → HeldIn vectors f Given high o
settled vectors f part low high None is le h = up_to_trans f (first_of low) (first_of high) h (place_up low high le)
settled vectors f part low high (Some x) is le h =
    let below : x.place < low = h.0 in
    (omega arith, h.1, given part f x.place x.kasme x.radio x.security.up_last is h.2)

-- where nothing is known of the keys
pub unkeyed : (vectors : List Vector) (f : RadioKey) (part : Part) (low high : ℕ) (o : Option Context) → low ≤ high
    → HeldIn vectors f part low o → HeldIn vectors f Unkeyed high o
unkeyed vectors f part low high None le h = up_to_trans f (first_of low) (first_of high) h (place_up low high le)
unkeyed vectors f part low high (Some x) le h =
    let below : x.place < low = h.0 in (omega arith, h.1, yet part f x.place x.kasme x.radio x.security.up_last h.2)

-- a count above the last is accepted
pub counted : (part : Part) (f : RadioKey) (place : ℕ) (kasme : List ℕ) (radio : RadioKeys) (up : Option ℕ) (count : ℕ)
    → first_after up ≤ count → Holds part f place kasme radio up → Holds part f place kasme radio (Some count)
counted Unkeyed f place kasme radio up count high h =
    up_to_trans f (key place (first_after up) 0) (key place (count + 1) 0) h
    (count_up place (first_after up) (count + 1) (omega arith))
counted Due f place kasme radio up count high h =
    let low : h.0 < first_after up = h.2 in (h.0, h.1, omega arith, h.3, h.4)
counted Given f place kasme radio up count high h =
    let low : h.0 < first_after up = h.3 in (h.0, h.1, h.2, omega arith, h.4, h.5)

-- and its KeNB may come
pub kenb_floor : (f : RadioKey) (place : ℕ) (up : Option ℕ) (count : ℕ) → first_after up ≤ count
    → IsUpTo f (key place (first_after up) 0) → IsUpTo f (key place count 0)
kenb_floor f place up count high h =
    up_to_trans f (key place (first_after up) 0) (key place count 0) h (count_up place (first_after up) count high)

-- a phone that is registered holds what is given
pub registered_holds : (vectors : List Vector) (f : RadioKey) (phase : Phase) (next : ℕ) (o : Option Context)
    → is_registered phase ≡ true → HeldIn vectors f Given next o → HeldIn vectors f (part_of phase) (next_place phase next) o
registered_holds vectors f Registered next o is h = h
registered_holds vectors f Updating next o is h = h
registered_holds vectors f _ next o is h = absurd (cc is)

-- ---- path switches

-- the next hop after `moves` of them
pub hop_is : (moves : ℕ) (kasme : List ℕ) (count : ℕ)
    → next_hop kasme (standing_hop kasme (keys_after moves kasme count)) ≡ hop_at (suc (suc moves)) kasme (kenb kasme count)
hop_is zero kasme count = refl
hop_is (suc moves) kasme count = refl

-- and its number modulo 8
pub round_is : (moves : ℕ) → ((moves + 1) % 8 + 1) % 8 ≡ suc (suc moves) % 8
round_is moves = omega arith

-- and the keys after it
pub hopped_is : (moves : ℕ) (x : Context) (count : ℕ)
    → hopped (record x { radio = keys_after moves x.kasme count }) ≡ keys_after (suc moves) x.kasme count
hopped_is zero x count = refl
hopped_is (suc moves) x count =
    let round : ((suc moves + 1) % 8 + 1) % 8 ≡ (suc (suc moves) + 1) % 8 = omega arith in
    ap (λ (n : ℕ). record (keys_after (suc (suc moves)) x.kasme count) { chaining_count = n }) round
