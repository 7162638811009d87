-- The actions of the one-subscriber machine, each from a step under way to the step with the action done. A release without
-- a connection sends nothing, and a message without a written form isn't sent.
use Rattle.std.specs.Prelude.{ℕ, ◌+◌, ◌^◌, ◌==◌, ◌&&◌, ◌||◌, Bool, true, false, is_none, nat_lt, if◌then◌else◌, List, [], ◌++◌, Option, Some, None, Result, Ok, Err}
use Rattle.std.specs.Option.{option_map_or}
use Rattle.mme_types.specs.s1ap_causes.declared.cause.Cause.{Cause}
use Rattle.mme_types.specs.s1ap_causes.declared.cause.Cause.TheVariants.{Nas}
use Rattle.mme_types.specs.s1ap_causes.declared.cause.NasCause.TheVariants.{NormalRelease}
use Rattle.mme_types.specs.s1ap_pdus.declared.pdu.Pdu.{Pdu}
use Rattle.mme_types.specs.s1ap_pdus.Pdus.{encoded}
use Rattle.nas_messages.specs.declared.protection.SecurityHeader.{SecurityHeader}
use Rattle.nas_messages.specs.declared.protection.SecurityHeader.TheVariants.{IntegrityProtectedCiphered}
use Rattle.eps_keys.specs.Eia2.{eia2}
use Rattle.std.specs.Borrow.{Bor}
use Rattle.nas_security.specs.Accepting.{Acceptance}
use Rattle.nas_security.specs.declared.fault.SecurityFault.{SecurityFault}
use Rattle.nas_security.specs.Context.{Mac}
use Rattle.nas_security.specs.Protecting.{protected_by}
use Rattle.esm_machine.specs.Requests.{inactive}
use Rattle.identity_slots.specs.Ids.{id_of_slot, next_counter}
use Rattle.mme_types.specs.declared.octets.Mark.{Mark}
use Rattle.mme_types.specs.declared.connection.Connection.{Connection}
use Rattle.mme_types.specs.Answers.{answer_of}
use Rattle.mme_types.specs.Pdus.{context_setup, downlink, release_command}
use Rattle.emm_state.specs.declared.draft.Draft.{Draft}
use Rattle.emm_state.specs.declared.draft.Sealed.{Sealed}
use Rattle.emm_state.specs.declared.setting.Setting.{Setting}
use Rattle.emm_state.specs.declared.solo.Context.{Context}
use Rattle.emm_state.specs.declared.solo.Phase.{Phase}
use Rattle.emm_state.specs.declared.solo.Phase.TheVariants.{Deregistered, Authenticating, SecurityMode, EsmInformation, Accepting, Updating, Registered, Detaching}
use Rattle.emm_state.specs.declared.solo.Protection.TheVariants.{Under}
use Rattle.emm_state.specs.declared.solo.Repeat.{Repeat}
use Rattle.emm_state.specs.declared.solo.Repeat.TheVariants as repeats
use Rattle.emm_state.specs.declared.solo.Solo.{Solo}
use Rattle.emm_state.specs.declared.solo.NasTimer.{NasTimer}
use Rattle.emm_state.specs.Does.{◌>>=◌}
use Rattle.emm_state.specs.Timers.{reachable_ticks, repeats_of, ticks_of}

-- a step of which nothing is done yet
abbrev pub untouched : Solo → Draft
untouched solo = record { solo = solo; sent = []; accepted = None; unwritten = false }

-- ---- messages

-- the message goes to the station, under a vector's place and a count where its NAS message is protected
unfoldable pub emit : ℕ → Pdu (List ℕ) → Option Mark → Draft → Draft
emit station message under d =
    record d { sent = d.sent ++ answer_of station under (encoded message); unwritten = is_none (encoded message) || d.unwritten }

-- NAS to the phone, plain
unfoldable pub send : List ℕ → Draft → Draft
send nas d = option_map_or (λ k. emit k.station (downlink k nas) None d) d.solo.connection d

-- ---- the connection

unfoldable pub disconnected : Draft → Draft
disconnected d = record d { solo = record d.solo { connection = None } }

-- UE CONTEXT RELEASE COMMAND with the pair, and the connection is gone
unfoldable pub release : Cause → Draft → Draft
release cause d =
    option_map_or (λ k. disconnected (emit k.station (release_command k.id k.enb_ue_id cause) None d)) d.solo.connection d

abbrev pub is_at : Connection → ℕ → ℕ → Bool
is_at k station enb_ue_id = k.station == station && k.enb_ue_id == enb_ue_id

-- an old connection elsewhere is released
unfoldable pub leave_old : ℕ → ℕ → Draft → Draft
leave_old station enb_ue_id d =
    option_map_or (λ k. if is_at k station enb_ue_id then d
    else emit k.station (release_command k.id k.enb_ue_id (Nas NormalRelease)) None d) d.solo.connection d

-- the association with this id is the connection
unfoldable pub connect_on : ℕ → ℕ → ℕ → Draft → Draft
connect_on id station enb_ue_id d =
    let left = leave_old station enb_ue_id d in
    record left { solo = record left.solo { connection = Some (record { id = id; station = station; enb_ue_id = enb_ue_id }) } }

-- the slot's next association id
abbrev pub next_id : ℕ → Draft → ℕ
next_id slot d = id_of_slot slot (next_counter d.solo.associations)

unfoldable pub association_counted : Draft → Draft
association_counted d = record d { solo = record d.solo { associations = next_counter d.solo.associations } }

-- an association with the slot's next id is the connection
unfoldable pub connect : ℕ → ℕ → ℕ → Draft → Draft
connect slot station enb_ue_id d = connect_on (next_id slot d) station enb_ue_id (association_counted d)

-- on a next id of its own a release; all else stays
unfoldable pub turn_away : ℕ → ℕ → ℕ → Draft → Draft
turn_away slot station enb_ue_id d =
    emit station (release_command (next_id slot d) enb_ue_id (Nas NormalRelease)) None (association_counted d)

-- on a next id of its own the message, plain, and a release; all else stays
unfoldable pub refuse : ℕ → ℕ → ℕ → List ℕ → Draft → Draft
refuse slot station enb_ue_id nas d =
    let id = next_id slot d in
    let sent =
    emit station (downlink (record { id = id; station = station; enb_ue_id = enb_ue_id }) nas) None (association_counted d) in
    emit station (release_command id enb_ue_id (Nas NormalRelease)) None sent

-- ---- the registration

-- all of it is gone; counters and the next vector's place stay
unfoldable pub wipe : Draft → Draft
wipe d = record d {
  solo = record d.solo {
    phase = Deregistered;
    context = None;
    tmsi = None;
    bearer = inactive;
    repeat = None;
    procedure = None;
    reachable = None;
  };
}

-- no procedure is under way
unfoldable pub ended : Draft → Draft
ended d = record d { solo = record d.solo { repeat = None; procedure = None } }

-- registered and idle, and reachable for so long
unfoldable pub resting : Draft → Draft
resting d =
    let e = ended d in
    record e { solo = record e.solo { phase = Registered; reachable = Some reachable_ticks } }

-- registered, also where its connection ends
abbrev pub is_registered : Phase → Bool
is_registered Registered = true
is_registered Updating = true
is_registered Deregistered = false
is_registered Authenticating = false
is_registered SecurityMode = false
is_registered EsmInformation = false
is_registered Accepting = false
is_registered Detaching = false

-- a phone that is registered is idle, any other is forgotten
abbrev pub fallen : Draft → Draft
fallen d = if is_registered d.solo.phase then resting d else wipe d

-- the connection ends with a release
unfoldable pub fall : Cause → Draft → Draft
fall cause d = fallen (release cause d)

-- the connection is gone without a message
unfoldable pub lost : Draft → Draft
lost d = fallen (disconnected d)

-- the timer's countdown runs, and what is sent again is kept
unfoldable pub start : NasTimer → Repeat → Draft → Draft
start timer repeat d = record d {
  solo = record d.solo {
    repeat = Some repeat;
    procedure = Some (record { timer = timer; left = ticks_of timer; repeats = repeats_of timer });
  };
}

-- ---- protected messages

abbrev pub mac_of : Context → Mac
mac_of x = eia2 x.security.integrity

-- what a context accepts, without where the message lies in memory
abbrev pub seen_accepted : Result (Mark × Bor (List ℕ)) SecurityFault → Acceptance
seen_accepted (Ok found) = Ok (found.0.count, found.1.now)
seen_accepted (Err fault) = Err fault

-- a step with this context
abbrev pub with_context : Context → Draft → Draft
with_context x d = record d { solo = record d.solo { context = Some x } }

abbrev pub sealed_under : SecurityHeader → List ℕ → Draft → Context → Option (Sealed × Draft)
sealed_under header nas d x =
    let n = x.security.down_next in
    let spent = record x { security = record x.security { down_next = n + 1 } } in
    if nat_lt n (2 ^ 24) then
    Some (
      record { form = protected_by (mac_of x) n header nas; under = Some (record { place = x.place; count = n }) },
      record d { solo = record d.solo { context = Some spent } },
    )
    else None

-- the protected form under the next downlink count, which is spent; none from 2^24 on
unfoldable pub seal : SecurityHeader → List ℕ → Draft → Option (Sealed × Draft)
seal header nas d = option_map_or (sealed_under header nas d) d.solo.context (Some (record { form = []; under = None }, d))

-- a context whose next downlink count is this one
abbrev pub counting_from : ℕ → Context → Context
counting_from count x = record x { security = record x.security { down_next = count } }

-- as before the message with this mark was sealed: its count is the next one again
unfoldable pub unsealed : Option Mark → Draft → Draft
unsealed None d = d
unsealed (Some mark) d = option_map_or (λ x. with_context (counting_from mark.count x) d) d.solo.context d

-- NAS to the phone, protected
unfoldable pub protect : SecurityHeader → List ℕ → Draft → Option Draft
protect header nas d = do
  s ← seal header nas d
  Some (option_map_or (λ k. emit k.station (downlink k s.0.form) s.0.under s.1) s.1.solo.connection s.1)

-- the same, and it is sent again when the timer ends
abbrev pub protect_and_await : NasTimer → SecurityHeader → List ℕ → Draft → Option Draft
protect_and_await timer header nas d = protect header nas d >>= λ sent. Some (start timer (repeats.Nas (Under header) nas) sent)

-- INITIAL CONTEXT SETUP REQUEST, with a protected NAS message where there is one
unfoldable pub set_up : Setting → List ℕ → Option (List ℕ) → Option Mark → Draft → Draft
set_up s kenb nas under d =
    option_map_or
    (λ k. emit k.station (context_setup s.network s.profile d.solo.asked.capability k kenb nas) under d) d.solo.connection d

-- with a NAS message that is protected here
unfoldable pub set_up_with : Setting → List ℕ → List ℕ → Draft → Option Draft
set_up_with s kenb nas d = do
  sealed ← seal IntegrityProtectedCiphered nas d
  Some (set_up s kenb (Some sealed.0.form) sealed.0.under sealed.1)
