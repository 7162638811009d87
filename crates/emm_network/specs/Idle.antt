-- The rows of paging, of countdowns and of a withdrawn subscription.
use Rattle.std.specs.Prelude.{ℕ, ◌+◌, ◌-◌, ◌==◌, ◌&&◌, Bool, true, false, if◌then◌else◌, bytes_eq, List, [], ◌∷◌, Option, Some, None, is_some, not}
use Rattle.std.specs.List.{list_any}
use Rattle.std.specs.Option.{option_map_or}
use Rattle.s1ap_causes.specs.declared.cause.Cause.TheVariants.{Nas}
use Rattle.s1ap_causes.specs.declared.cause.NasCause.TheVariants.{Detach, Unspecified}
use Rattle.s1ap_elements.specs.declared.phone.Tai.{Tai}
use Rattle.s1ap_elements.specs.declared.station.SupportedTa.{SupportedTa}
use Rattle.s1ap_pdus.specs.declared.pdu.Pdu.{Pdu}
use Rattle.nas_messages.specs.declared.protection.SecurityHeader.TheVariants.{IntegrityProtectedCiphered}
use Rattle.mme_types.specs.declared.stations.StationState.{StationState}
use Rattle.mme_types.specs.declared.stations.StationState.TheVariants.{Down, Up, Ready}
use Rattle.mme_types.specs.Stations.{is_broadcast}
use Rattle.mme_signalling.specs.Messages.{network_detach}
use Rattle.mme_signalling.specs.Pdus.{paging}
use Rattle.emm_state.specs.declared.draft.Draft.{Draft}
use Rattle.emm_state.specs.declared.setting.Setting.{Setting}
use Rattle.emm_state.specs.declared.solo.Countdown.{Countdown}
use Rattle.emm_state.specs.declared.solo.Phase.{Phase}
use Rattle.emm_state.specs.declared.solo.Phase.TheVariants.{Deregistered, Authenticating, SecurityMode, EsmInformation, Accepting, Updating, Registered, Detaching}
use Rattle.emm_state.specs.declared.solo.Protection.TheVariants.{Plain, Under}
use Rattle.emm_state.specs.declared.solo.Repeat.{Repeat}
use Rattle.emm_state.specs.declared.solo.Repeat.TheVariants as repeats
use Rattle.emm_state.specs.declared.solo.NasTimer.{NasTimer}
use Rattle.emm_state.specs.declared.solo.NasTimer.TheVariants.{T3413, T3422, T3450, T3460, T3489}
use Rattle.emm_state.specs.Actions.{emit, ended, fall, protect, protect_and_await, release, send, start, wipe}
use Rattle.emm_state.specs.Does.{◌>>=◌}
use Rattle.emm_state.specs.Phases.{is}
use Rattle.emm_state.specs.Timers.{ticks_of}

-- ---- paging (TS 24.301 clause 5.6.2, TS 36.413 clause 8.5)

abbrev pub covers : Tai → SupportedTa → Bool
covers tai ta = bytes_eq ta.tac tai.tac && is_broadcast tai.plmn ta.plmns

abbrev pub some_covers : Tai → List SupportedTa → Bool
some_covers tai tas = list_any (λ ta. covers tai ta) tas

-- a station that is set up and broadcasts the tracking area
abbrev pub listens : Tai → StationState → Bool
listens tai Down = false
listens tai Up = false
listens tai (Ready tas) = some_covers tai tas

-- the numbers of these stations, of which the first has the number n
abbrev pub listening : Tai → ℕ → List StationState → List ℕ
listening tai n [] = []
listening tai n (state ∷ states) = if listens tai state then n ∷ listening tai (n + 1) states else listening tai (n + 1) states

-- the message to each station
abbrev pub emit_each : Pdu (List ℕ) → List ℕ → Draft → Draft
emit_each message [] d = d
emit_each message (e ∷ es) d = emit_each message es (emit e message None d)

-- PAGING by the S-TMSI to each station
unfoldable pub page : Setting → List ℕ → Draft → Draft
page s es d = option_map_or (λ t. emit_each (paging s.network s.profile.imsi t d.solo.tai) es d) d.solo.tmsi d

-- registered and idle, and not paged
abbrev pub may_page : Draft → Bool
may_page d = is Registered d.solo.phase && not (is_some d.solo.connection) && not (is_some d.solo.procedure)

unfoldable pub paged : Setting → List ℕ → Draft → Draft
paged s es d = start T3413 (repeats.Paging es) (page s es d)

-- downlink data waits
unfoldable pub data_waits : Setting → List StationState → Draft → Draft
data_waits s stations d = if may_page d then paged s (listening d.solo.tai 0 stations) d else d

-- ---- countdowns

abbrev pub lower : Countdown → Countdown
lower c = record c { left = c.left - 1 }

unfoldable pub lowered : Draft → Draft
lowered d = record d {
  solo = record d.solo {
    procedure = option_map_or (λ c. Some (lower c)) d.solo.procedure None;
    reachable = option_map_or (λ n. Some (n - 1)) d.solo.reachable None;
  };
}

-- repeats are used up: paging just ends, any other procedure ends the connection
unfoldable pub given_up : NasTimer → Draft → Draft
given_up T3413 d = ended d
given_up T3422 d = fall (Nas Unspecified) d
given_up T3450 d = fall (Nas Unspecified) d
given_up T3460 d = fall (Nas Unspecified) d
given_up T3489 d = fall (Nas Unspecified) d

-- what was kept is sent again, under a new count where it is protected
unfoldable pub again : Repeat → Setting → Draft → Option Draft
again (repeats.Nas Plain nas) s d = Some (send nas d)
again (repeats.Nas (Under header) nas) s d = protect header nas d
again (repeats.Paging es) s d = Some (page s es d)

unfoldable pub restarted : Countdown → Draft → Draft
restarted c d = record d {
  solo = record d.solo { procedure = Some (record { timer = c.timer; left = ticks_of c.timer; repeats = c.repeats - 1 }) };
}

unfoldable pub expired : Countdown → Setting → Draft → Option Draft
expired c s d =
    if c.repeats == 0 then Some (given_up c.timer d)
    else option_map_or (λ r. again r s (restarted c d)) d.solo.repeat (Some d)

unfoldable pub procedure_ticks : Setting → Draft → Option Draft
procedure_ticks s d = option_map_or (λ c. if c.left == 0 then expired c s d else Some d) d.solo.procedure (Some d)

-- a phone that was idle for so long is forgotten
unfoldable pub reachable_ticks_out : Draft → Draft
reachable_ticks_out d = option_map_or (λ n. if n == 0 then wipe d else d) d.solo.reachable d

-- one from each; at zero the procedure's row, then the reachable one's
unfoldable pub tick : Setting → Draft → Option Draft
tick s d = procedure_ticks s (lowered d) >>= λ e. Some (reachable_ticks_out e)

-- ---- the subscription is withdrawn (TS 24.301 clause 5.5.2.3)

-- DETACH REQUEST of the network
unfoldable pub detach_phone : Draft → Option Draft
detach_phone d =
    let detaching = record d { solo = record d.solo { phase = Detaching } } in
    protect_and_await T3422 IntegrityProtectedCiphered network_detach detaching

abbrev pub dropped : Draft → Draft
dropped d = wipe (release (Nas Detach) d)

unfoldable pub cancelled : Phase → Draft → Option Draft
cancelled Registered d = if is_some d.solo.connection then detach_phone d else Some (wipe d)
cancelled Updating d = detach_phone d
cancelled Authenticating d = Some (dropped d)
cancelled SecurityMode d = Some (dropped d)
cancelled EsmInformation d = Some (dropped d)
cancelled Accepting d = Some (dropped d)
cancelled Deregistered d = Some d
cancelled Detaching d = Some d
