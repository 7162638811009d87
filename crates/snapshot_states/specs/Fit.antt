-- Which states a restore takes: those that a phone's machine can be in.
use Rattle.std.specs.Prelude.{ℕ, ◌&&◌, if◌then◌else◌, Bool, true, false, not, nat_le, nat_lt, List, length, Option, Some, None, is_none, is_some}
use Rattle.std.specs.Option.{option_map_or}
use Rattle.std.proofs.Common.{inl, inr}
use Rattle.per_bits.specs.Formats.{Value}
use Rattle.mme_types.specs.declared.connection.Connection.{Connection}
use Rattle.emm_state.specs.declared.solo.Countdown.{Countdown}
use Rattle.emm_state.specs.declared.solo.NasTimer.{NasTimer}
use Rattle.emm_state.specs.declared.solo.NasTimer.TheVariants.{T3413, T3422, T3450, T3460, T3489}
use Rattle.emm_state.specs.declared.solo.Phase.{Phase}
use Rattle.emm_state.specs.declared.solo.Phase.TheVariants.{Deregistered, Authenticating, SecurityMode, EsmInformation, Accepting, Updating, Registered, Detaching}
use Rattle.emm_state.specs.declared.solo.Protection.TheVariants.{Plain}
use Rattle.emm_state.specs.declared.solo.Repeat.{Repeat}
use Rattle.emm_state.specs.declared.solo.Repeat.TheVariants as repeats
use Rattle.emm_state.specs.declared.solo.Solo.{Solo}
use Rattle.emm_state.specs.Timers.{reachable_ticks, repeats_of, ticks_of}
use Rattle.laws_subscriber.specs.Clocked.{is_paging, pages}
use Rattle.laws_subscriber.specs.Sound.{has_security_header}
use Rattle.snapshot_formats.specs.Formats.{saved_asked, saved_context, saved_link, saved_radio, saved_state, saved_vector}
use Rattle.snapshot_states.specs.States.{named_phase, named_state}

-- ---- the context

-- the radio keys come of KASME and of a count up to the last that was accepted (TS 33.401 clause 7.2.8.1)
abbrev pub is_derived : Option ℕ → Value saved_radio → Bool
is_derived up_last (inl keys) = false
is_derived up_last (inr trail) = option_map_or (λ last. nat_le trail.0 last) up_last false

-- in a phase: whether there is a context, and from the phone's proof on one with keys that are derived
abbrev pub fits_context : Phase → Option (Value saved_context) → Bool
fits_context Deregistered context = is_none context
fits_context Authenticating context = is_none context
fits_context SecurityMode context = is_some context
fits_context _ None = false
fits_context _ (Some v) = is_derived v.1.1.0 v.1.1.1.1.0

-- its vector is spent
abbrev pub is_spent : ℕ → Option (Value saved_context) → Bool
is_spent spent None = true
is_spent spent (Some v) = nat_lt v.0 spent

-- while a challenge is out its vector is the first that isn't spent
abbrev pub fits_challenge : Phase → ℕ → Bool
fits_challenge Authenticating unspent = nat_lt 0 unspent
fits_challenge _ unspent = true

-- ---- what is sent again

-- a message without protection has no security header
abbrev pub is_plain : Option Repeat → Bool
is_plain (Some (repeats.Nas Plain nas)) = not (has_security_header nas)
is_plain _ = true

-- ---- countdowns

abbrev pub is : NasTimer → NasTimer → Bool
is T3413 T3413 = true
is T3422 T3422 = true
is T3450 T3450 = true
is T3460 T3460 = true
is T3489 T3489 = true
is _ _ = false

-- the timer's message is kept: PAGING for T3413, NAS for all others
abbrev pub is_kept_for : NasTimer → Option Repeat → Bool
is_kept_for timer None = false
is_kept_for timer (Some again) = if pages timer then is_paging again else not (is_paging again)

-- the timer's countdown runs, of at most its length and its repeats (TS 24.301 clause 10.2)
abbrev pub is_counting : NasTimer → Option Countdown → Option Repeat → Bool
is_counting timer None repeat = false
is_counting timer (Some c) repeat =
    is timer c.timer && (nat_lt 0 c.left && (nat_le c.left (ticks_of timer)
    && (nat_le c.repeats (repeats_of timer) && is_kept_for timer repeat)))

-- its procedure is under way on a connection
abbrev pub is_under_way : NasTimer → Solo → Bool
is_under_way timer solo =
    is_some solo.connection && (is_counting timer solo.procedure solo.repeat && is_none solo.reachable)

-- no countdown runs
abbrev pub none_runs : Solo → Bool
none_runs solo = is_none solo.procedure && (is_none solo.repeat && is_none solo.reachable)

-- no procedure is under way, or the phone is paged
abbrev pub is_paged_at_most : Option Countdown → Option Repeat → Bool
is_paged_at_most None repeat = is_none repeat
is_paged_at_most (Some c) repeat = is_counting T3413 (Some c) repeat

-- the mobile reachable timer runs (TS 24.301 clause 5.3.5)
abbrev pub is_awaited : Option ℕ → Bool
is_awaited None = false
is_awaited (Some left) = nat_lt 0 left && nat_le left reachable_ticks

-- a registered phone: connected no countdown runs, and idle the mobile reachable timer, with T3413 while it is paged
abbrev pub is_at_rest : Option Connection → Solo → Bool
is_at_rest (Some k) solo = none_runs solo
is_at_rest None solo = is_paged_at_most solo.procedure solo.repeat && is_awaited solo.reachable

-- which countdown runs in which phase
abbrev pub is_clocked : Phase → Solo → Bool
is_clocked Deregistered solo = is_none solo.connection && none_runs solo
is_clocked Authenticating solo = is_under_way T3460 solo
is_clocked SecurityMode solo = is_under_way T3460 solo
is_clocked EsmInformation solo = is_under_way T3489 solo
is_clocked Accepting solo = is_under_way T3450 solo
is_clocked Updating solo = is_under_way T3450 solo
is_clocked Registered solo = is_at_rest solo.connection solo
is_clocked Detaching solo = is_under_way T3422 solo

-- ---- all of it

-- a state that a phone's machine can be in, where so many vectors aren't spent
unfoldable pub is_state : ℕ → Solo → Bool
is_state unspent solo = fits_challenge solo.phase unspent && (is_plain solo.repeat && is_clocked solo.phase solo)

-- octets of a length that they may have
abbrev pub is_within : ℕ → ℕ → List ℕ → Bool
is_within least most octets = nat_le least (length octets) && nat_le (length octets) most

-- the phase's context, of a vector that is spent; and the phone's algorithms (TS 24.301 clause 9.9.3.34)
abbrev pub fits_link : ℕ → Value saved_link → Bool
fits_link spent v = fits_context (named_phase v.0) v.1.1.0 && is_spent spent v.1.1.0

abbrev pub fits_asked : Value saved_asked → Bool
fits_asked v = is_within 2 13 v.0

-- a state of a phone of which so many vectors are spent, and so many aren't
unfoldable pub fits : ℕ → ℕ → Value saved_state → Bool
fits spent unspent v = fits_link spent v.0 && (fits_asked v.1.1.1.0 && is_state unspent (named_state spent v))

-- a vector whose expected response has a length that it may have (TS 33.401 clause 6.1.2)
abbrev pub fits_vector : Value saved_vector → Bool
fits_vector v = is_within 4 16 v.1.1.0
