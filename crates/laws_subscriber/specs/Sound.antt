-- What holds of a subscriber's state whatever was heard: its context is the vector at its place, its radio keys come of it, and its
-- phase says whether there are a connection and a context.
use Rattle.std.specs.Prelude.{◌≡◌, ℕ, zero, suc, ◌+◌, ◌≤◌, ◌/◌, ◌%◌, ◌==◌, ◌&&◌, Bool, true, false, List, [], ◌∷◌, slice_get, Option, Some, None, IsSome, is_some}
use Rattle.nas_messages.specs.Protection.{header_of}
use Rattle.eps_keys.specs.Hmac.{hop_at, kenb, nas_integrity_key}
use Rattle.identity_slots.specs.declared.profile.Vector.{Vector}
use Rattle.mme_types.specs.Events.{Item}
use Rattle.mme_types.specs.declared.connection.Connection.{Connection}
use Rattle.mme_types.specs.declared.connection.RadioKeys.{RadioKeys}
use Rattle.emm_state.specs.declared.setting.Setting.{Setting}
use Rattle.emm_state.specs.declared.solo.Context.{Context}
use Rattle.emm_state.specs.declared.solo.Phase.{Phase}
use Rattle.emm_state.specs.declared.solo.Phase.TheVariants.{Deregistered, Authenticating, SecurityMode, EsmInformation, Accepting, Updating, Registered, Detaching}
use Rattle.emm_state.specs.declared.solo.Protection.TheVariants.{Plain}
use Rattle.emm_state.specs.declared.solo.Repeat.{Repeat}
use Rattle.emm_state.specs.declared.solo.Repeat.TheVariants as repeats
use Rattle.emm_state.specs.declared.solo.Solo.{Solo}
use Rattle.emm_machine.specs.Steps.{solo_after}

-- ---- the context

-- the keys and the identifier of a context are those of the vector at its place (TS 33.401 clause 6.1.1)
pub record IsOfVector (vectors : List Vector) (x : Context) (v : Vector) : Type 0 where
  pub there : slice_get vectors x.place ≡ Some v
  pub integrity : x.security.integrity ≡ nas_integrity_key v.kasme
  pub kasme : x.kasme ≡ v.kasme
  pub ksi : x.security.ksi ≡ x.place % 7

-- the hop that a station was sent last, after n path switches: none is sent the first (TS 33.401 clause 7.2.8.4.2)
abbrev pub told_after : ℕ → List ℕ → List ℕ → Option (List ℕ)
told_after zero kasme kenb = None
told_after (suc moves) kasme kenb = Some (hop_at (suc (suc moves)) kasme kenb)

-- the radio keys of a count after n path switches: the chaining count is the number of the hop that stands, modulo 8
-- (TS 33.401 clause 7.2.8.1, A.3)
abbrev pub keys_after : ℕ → List ℕ → ℕ → RadioKeys
keys_after moves kasme count =
    record { kenb = kenb kasme count; next_hop = told_after moves kasme (kenb kasme count); chaining_count = (moves + 1) % 8 }

-- the radio keys come of the context's KASME and of a count up to the last that it accepted
abbrev pub IsDerived : Context → Type 0
IsDerived x =
    (count : ℕ) × (last : ℕ) × (moves : ℕ) × (x.security.up_last ≡ Some last) × (count ≤ last)
    × (x.radio ≡ keys_after moves x.kasme count)

-- ---- the phase

-- once the phone has proved that it has the key
abbrev pub is_past_proof : Phase → Bool
is_past_proof Deregistered = false
is_past_proof Authenticating = false
is_past_proof SecurityMode = false
is_past_proof EsmInformation = true
is_past_proof Accepting = true
is_past_proof Updating = true
is_past_proof Registered = true
is_past_proof Detaching = true

-- in a phase: whether there is a context, and whether it has given radio keys
abbrev pub HasContext : Phase → List Vector → Option Context → Type 0
HasContext Deregistered vectors context = context ≡ None
HasContext Authenticating vectors context = context ≡ None
HasContext SecurityMode vectors context = (x : Context) × (v : Vector) × (context ≡ Some x) × IsOfVector vectors x v
HasContext _ vectors context = (x : Context) × (v : Vector) × (context ≡ Some x) × IsOfVector vectors x v × IsDerived x

-- and whether there is a connection: one that is deregistered has none, one that is registered may be idle (TS 23.401 clause 4.6)
abbrev pub HasConnection : Phase → Option Connection → Type 0
HasConnection Deregistered connection = connection ≡ None
HasConnection Registered connection = Unit {0}
HasConnection _ connection = IsSome connection

-- while a challenge is out its vector is the last that was taken
abbrev pub HasChallenge : Phase → List Vector → ℕ → Type 0
HasChallenge Authenticating vectors next = (place : ℕ) × (v : Vector) × (next ≡ place + 1) × (slice_get vectors place ≡ Some v)
HasChallenge _ vectors next = Unit {0}

-- the countdown until a phone is taken to be gone runs only while the phone is idle (TS 24.301 clause 5.3.5)
abbrev pub IsCountedIdle : Option ℕ → Option Connection → Type 0
IsCountedIdle None connection = Unit {0}
IsCountedIdle (Some n) connection = connection ≡ None

-- ---- plain NAS

-- header types 1 to 4 (TS 24.301 clause 9.3.1)
abbrev pub has_security_header : List ℕ → Bool
has_security_header [] = false
has_security_header (first ∷ rest) = first % 16 == 7 && is_some (header_of (first / 16))

-- what is kept to be sent again as it is has no security header
abbrev pub IsPlainRepeat : Option Repeat → Type 0
IsPlainRepeat (Some (repeats.Nas Plain nas)) = has_security_header nas ≡ false
IsPlainRepeat _ = Unit {0}

pub record IsSound (s : Setting) (solo : Solo) : Type 0 where
  pub context : HasContext solo.phase s.vectors solo.context
  pub connection : HasConnection solo.phase solo.connection
  pub challenge : HasChallenge solo.phase s.vectors solo.next_vector
  pub reachable : IsCountedIdle solo.reachable solo.connection
  pub repeat : IsPlainRepeat solo.repeat

-- what is sound stays so
abbrev pub StaysSound : Type 0
StaysSound = (s : Setting) (solo : Solo) (items : List Item) → IsSound s solo → IsSound s (solo_after s solo items)
