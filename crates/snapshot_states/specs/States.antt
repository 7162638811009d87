-- What the parts of a snapshot stand for: the state of a phone's machine, and its vectors.
use Rattle.std.specs.Prelude.{ℕ, ◌+◌, ◌==◌, if◌then◌else◌, Bool, List, Option, Some, None, option_map}
use Rattle.std.specs.Option.{option_map_or}
use Rattle.std.proofs.Common.{inl, inr}
use Rattle.per_bits.specs.Formats.{Value}
use Rattle.s1ap_elements.specs.Phones.{named_tai}
use Rattle.nas_messages.specs.Protection.{header_of}
use Rattle.eps_keys.specs.Hmac.{nas_integrity_key}
use Rattle.esm_machine.specs.declared.bearer.BearerState.{BearerState}
use Rattle.esm_machine.specs.declared.bearer.BearerState.TheVariants.{Inactive, ActivePending, Active}
use Rattle.esm_machine.specs.declared.request.Request.{Request}
use Rattle.esm_machine.specs.Sessions.{Session}
use Rattle.identity_slots.specs.declared.profile.Vector.{Vector}
use Rattle.mme_types.specs.declared.connection.Connection.{Connection}
use Rattle.mme_types.specs.declared.connection.RadioKeys.{RadioKeys}
use Rattle.emm_state.specs.declared.solo.Asked.{Asked}
use Rattle.emm_state.specs.declared.solo.Context.{Context}
use Rattle.emm_state.specs.declared.solo.Countdown.{Countdown}
use Rattle.emm_state.specs.declared.solo.NasTimer.{NasTimer}
use Rattle.emm_state.specs.declared.solo.NasTimer.TheVariants.{T3413, T3422, T3450, T3460, T3489}
use Rattle.emm_state.specs.declared.solo.Phase.{Phase}
use Rattle.emm_state.specs.declared.solo.Phase.TheVariants.{Deregistered, Authenticating, SecurityMode, EsmInformation, Accepting, Updating, Registered, Detaching}
use Rattle.emm_state.specs.declared.solo.Protection.{Protection}
use Rattle.emm_state.specs.declared.solo.Protection.TheVariants.{Plain, Under}
use Rattle.emm_state.specs.declared.solo.Repeat.{Repeat}
use Rattle.emm_state.specs.declared.solo.Repeat.TheVariants.{Nas, Paging}
use Rattle.emm_state.specs.declared.solo.Solo.{Solo}
use Rattle.emm_state.specs.KeySets.{ksi_of}
use Rattle.laws_subscriber.specs.Sound.{keys_after}
use Rattle.snapshot_formats.specs.Formats.{flag, saved_asked, saved_bearer, saved_bearer_state, saved_connection, saved_context, saved_countdown, saved_radio, saved_repeat, saved_request, saved_state, saved_vector}

-- ---- numbers

abbrev pub named_flag : Value flag → Bool
named_flag n = n == 1

unfoldable pub named_phase : ℕ → Phase
named_phase n =
    if n == 0 then Deregistered
    else if n == 1 then Authenticating
    else if n == 2 then SecurityMode
    else if n == 3 then EsmInformation
    else if n == 4 then Accepting
    else if n == 5 then Updating
    else if n == 6 then Registered
    else Detaching

unfoldable pub named_timer : ℕ → NasTimer
named_timer n =
    if n == 0 then T3413
    else if n == 1 then T3422
    else if n == 2 then T3450
    else if n == 3 then T3460
    else T3489

unfoldable pub named_bearer_state : Value saved_bearer_state → BearerState
named_bearer_state n =
    if n == 0 then Inactive
    else if n == 1 then ActivePending
    else Active

-- ---- connections and security contexts

abbrev pub named_connection : Value saved_connection → Connection
named_connection v = record { id = v.0; station = v.1.0; enb_ue_id = v.1.1.0 }

-- keys for the radio, as they are or as they come of KASME (TS 33.401 clause 7.2.8.1)
abbrev pub named_radio : List ℕ → Value saved_radio → RadioKeys
named_radio kasme (inl v) = record { kenb = v.0; next_hop = v.1.0; chaining_count = v.1.1.0 }
named_radio kasme (inr v) = keys_after v.1.0 kasme v.0

-- the integrity key comes of KASME, and the key set identifier of the vector's place
abbrev pub named_context : Value saved_context → Context
named_context v = record {
  place = v.0;
  security = record {
    integrity = nas_integrity_key v.1.1.1.0;
    ksi = ksi_of v.0;
    down_next = v.1.0;
    up_last = v.1.1.0;
  };
  kasme = v.1.1.1.0;
  radio = named_radio v.1.1.1.0 v.1.1.1.1.0;
}

-- ---- what was asked for

abbrev pub named_asked : Value saved_asked → Asked
named_asked v = record { capability = v.0; combined_attach = named_flag v.1.0; initial_update = named_flag v.1.1.0 }

abbrev pub named_request : Value saved_request → Request
named_request v = record { transaction = v.0; dual = named_flag v.1.0; information = named_flag v.1.1.0 }

abbrev pub named_bearer : Value saved_bearer → Session
named_bearer v = record { state = named_bearer_state v.0; request = option_map named_request v.1.0 }

-- ---- what is waited for

abbrev pub named_protection : Option ℕ → Protection
named_protection None = Plain
named_protection (Some code) = option_map_or (λ header. Under header) (header_of code) Plain

abbrev pub named_repeat : Value saved_repeat → Repeat
named_repeat (inl v) = Nas (named_protection v.0) v.1.0
named_repeat (inr v) = Paging v

abbrev pub named_countdown : Value saved_countdown → Countdown
named_countdown v = record { timer = named_timer v.0; left = v.1.0; repeats = v.1.1.0 }

-- ---- the state

-- the next vector is the first that isn't spent; while a challenge is out, which took that one, the one after it
abbrev pub next_of : Phase → ℕ → ℕ
next_of Authenticating spent = spent + 1
next_of _ spent = spent

abbrev pub named_state : ℕ → Value saved_state → Solo
named_state spent v = record {
  phase = named_phase v.0.0;
  connection = option_map named_connection v.0.1.0;
  context = option_map named_context v.0.1.1.0;
  associations = v.1.0.0;
  tmsis = v.1.0.1.0;
  tmsi = v.1.0.1.1.0;
  next_vector = next_of (named_phase v.0.0) spent;
  tai = named_tai v.1.1.0;
  asked = named_asked v.1.1.1.0;
  bearer = named_bearer v.1.1.1.1.0;
  repeat = option_map named_repeat v.1.1.1.1.1.0.0;
  procedure = option_map named_countdown v.1.1.1.1.1.0.1.0;
  reachable = v.1.1.1.1.1.0.1.1.0;
}

-- ---- vectors

abbrev pub named_vector : Value saved_vector → Vector
named_vector v = record { rand = v.0; autn = v.1.0; xres = v.1.1.0; kasme = v.1.1.1.0 }
