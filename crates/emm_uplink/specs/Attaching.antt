-- The rows of an attach (TS 24.301 clause 5.5.1): its request, authentication and security mode, and its acceptance.
-- A row goes from a step under way to the step with the row done; none where a downlink count is spent.
use Rattle.std.specs.Prelude.{ℕ, ◌+◌, ◌-◌, ◌==◌, Bool, true, false, if◌then◌else◌, List, [], ◌∷◌, replicate, slice_get, Option, Some, None, Ok, Err}
use Rattle.std.specs.Option.{option_map_or}
use Rattle.s1ap_causes.specs.declared.cause.Cause.TheVariants.{Nas}
use Rattle.s1ap_causes.specs.declared.cause.NasCause.TheVariants.{AuthenticationFailure, Detach, NormalRelease, Unspecified}
use Rattle.s1ap_elements.specs.declared.phone.Tai.{Tai}
use Rattle.nas_elements.specs.Capability.{has_eia2}
use Rattle.nas_elements.specs.Codes.{emm_discriminator}
use Rattle.nas_messages.specs.declared.protection.SecurityHeader.TheVariants.{IntegrityProtectedCiphered, NewContext, NewContextCiphered}
use Rattle.eps_keys.specs.Hmac.{kenb, nas_integrity_key}
use Rattle.eps_keys.specs.Same.{same_octets}
use Rattle.nas_security.specs.Accepting.{Acceptance, accepted}
use Rattle.esm_machine.specs.declared.request.Requested.{Requested}
use Rattle.esm_machine.specs.declared.request.Requested.TheVariants.{Unreadable, Refused, Taken}
use Rattle.esm_machine.specs.Requests.{activated, after_request, requested}
use Rattle.esm_machine.specs.Sent.{activation, information_request}
use Rattle.esm_machine.specs.Sessions.{asks_information}
use Rattle.identity_slots.specs.declared.profile.Vector.{Vector}
use Rattle.identity_slots.specs.Ids.{id_of_slot, next_counter}
use Rattle.mme_types.specs.declared.connection.RadioKeys.{RadioKeys}
use Rattle.mme_signalling.specs.declared.cause.EmmCause.{EmmCause}
use Rattle.mme_signalling.specs.declared.cause.EmmCause.TheVariants.{EsmFailure, InvalidMandatory, NetworkFailure, NotCompatible, ProtocolError, SynchFailure}
use Rattle.mme_signalling.specs.declared.heard.Heard.{Heard}
use Rattle.mme_signalling.specs.declared.heard.Heard.TheVariants as heards
use Rattle.mme_signalling.specs.declared.messages.Grant.{Grant}
use Rattle.mme_signalling.specs.Causes.{cause_of_fault, emm_cause_code}
use Rattle.mme_signalling.specs.Hearing.{heard}
use Rattle.mme_signalling.specs.Messages.{attach_accept, attach_reject, authentication_reject, authentication_request, detach_accept, emm_status, security_mode_command}
use Rattle.emm_state.specs.declared.draft.Draft.{Draft}
use Rattle.emm_state.specs.declared.setting.Setting.{Setting}
use Rattle.emm_state.specs.declared.solo.Context.{Context}
use Rattle.emm_state.specs.declared.solo.Phase.TheVariants.{Accepting, Authenticating, EsmInformation, SecurityMode}
use Rattle.emm_state.specs.declared.solo.Protection.TheVariants.{Plain, Under}
use Rattle.emm_state.specs.declared.solo.Repeat.TheVariants as repeats
use Rattle.emm_state.specs.declared.solo.NasTimer.TheVariants.{T3450, T3460, T3489}
use Rattle.emm_state.specs.Actions.{fall, mac_of, protect_and_await, release, send, set_up_with, start, wipe}
use Rattle.emm_state.specs.KeySets.{ksi_of}
use Rattle.emm_state.specs.Does.{◌>>=◌}

-- ---- the request (TS 24.301 clauses 5.5.1.2.2 and 5.5.1.2.5)

-- ATTACH REJECT plain, and the phone is forgotten
unfoldable pub attach_refused : EmmCause → Option (List ℕ) → Draft → Draft
attach_refused cause esm d = wipe (release (Nas NormalRelease) (send (attach_reject cause esm) d))

-- AUTHENTICATION REQUEST by the vector at the next place, which is spent
unfoldable pub challenged : Vector → Draft → Draft
challenged v d =
    let place = d.solo.next_vector in
    let request = authentication_request (ksi_of place) v.rand v.autn in
    let taken = record d { solo = record d.solo { phase = Authenticating; next_vector = place + 1 } } in
    start T3460 (repeats.Nas Plain request) (send request taken)

unfoldable pub challenge : Setting → Draft → Draft
challenge s d = option_map_or (λ v. challenged v d) (slice_get s.vectors d.solo.next_vector) (attach_refused NetworkFailure None d)

-- what is asked for is kept
unfoldable pub asking : Bool → List ℕ → Tai → Draft → Draft
asking combined capability tai d = record d {
  solo = record d.solo {
    tai = tai;
    asked = record { capability = capability; combined_attach = combined; initial_update = false };
  };
}

unfoldable pub attach_by : Requested (List ℕ) → Setting → Bool → List ℕ → Tai → Draft → Draft
attach_by Unreadable s combined capability tai d = attach_refused InvalidMandatory None d
attach_by (Refused esm) s combined capability tai d = attach_refused EsmFailure (Some esm) d
attach_by Taken s combined capability tai d =
    if has_eia2 capability then challenge s (asking combined capability tai d) else attach_refused ProtocolError None d

-- what the ESM message asks for is kept
unfoldable pub requesting : List ℕ → Draft → Draft
requesting esm d = record d { solo = record d.solo { bearer = after_request d.solo.bearer esm } }

-- ATTACH REQUEST on its connection: what was registered is gone; then the ESM message, EIA2 and the vectors, in this order
unfoldable pub attach : Setting → Bool → List ℕ → List ℕ → Tai → Draft → Draft
attach s combined capability esm tai d =
    let bare = wipe d in
    attach_by (requested bare.solo.bearer esm) s combined capability tai (requesting esm bare)

-- ---- authentication (TS 24.301 clause 5.4.2)

abbrev pub no_keys : RadioKeys
no_keys = record { kenb = replicate 32 0; next_hop = None; chaining_count = 0 }

-- the vector in use becomes a context
unfoldable pub new_context : ℕ → Vector → Draft → Draft
new_context place v d = record d {
  solo = record d.solo {
    phase = SecurityMode;
    context = Some (record {
      place = place;
      security = record { integrity = nas_integrity_key v.kasme; ksi = ksi_of place; down_next = 0; up_last = None };
      kasme = v.kasme;
      radio = no_keys;
    });
  };
}

-- SECURITY MODE COMMAND under the new context
unfoldable pub authenticated : ℕ → Vector → Draft → Option Draft
authenticated place v d =
    let command = security_mode_command (ksi_of place) d.solo.asked.capability in
    protect_and_await T3460 NewContext command (new_context place v d)

-- AUTHENTICATION REJECT, and the phone is forgotten
unfoldable pub not_authenticated : Draft → Draft
not_authenticated d = wipe (release (Nas AuthenticationFailure) (send authentication_reject d))

unfoldable pub response_to : Vector → List ℕ → Draft → Option Draft
response_to v res d =
    if same_octets res v.xres then authenticated (d.solo.next_vector - 1) v d else Some (not_authenticated d)

-- AUTHENTICATION RESPONSE: the vector in use is the last one taken
unfoldable pub response : Setting → List ℕ → Draft → Option Draft
response s res d = option_map_or (λ v. response_to v res d) (slice_get s.vectors (d.solo.next_vector - 1)) (Some d)

-- AUTHENTICATION FAILURE: where the phone couldn't tell that the network is fresh, the next vector
unfoldable pub failure : Setting → ℕ → Draft → Draft
failure s cause d = if cause == emm_cause_code SynchFailure then challenge s d else not_authenticated d

-- DETACH ACCEPT plain, unless the phone is switched off
unfoldable pub detach_answered_plainly : Bool → Draft → Draft
detach_answered_plainly switch_off d = if switch_off then d else send detach_accept d

-- a DETACH REQUEST that no context can prove
unfoldable pub detach_plainly : Bool → Draft → Draft
detach_plainly switch_off d = wipe (release (Nas Detach) (detach_answered_plainly switch_off d))

-- EMM STATUS plain, or nothing
unfoldable pub status_plainly : Option EmmCause → Draft → Draft
status_plainly cause d = option_map_or (λ c. send (emm_status c) d) cause d

unfoldable pub authenticating : Setting → Heard (List ℕ) → Draft → Option Draft
authenticating s (heards.AuthenticationResponse res) d = response s res d
authenticating s (heards.AuthenticationFailure cause) d = Some (failure s cause d)
authenticating s (heards.DetachRequest switch_off) d = Some (detach_plainly switch_off d)
authenticating s heards.Unasked d = Some d
authenticating s (heards.Unreadable fault) d = Some (status_plainly (cause_of_fault fault) d)
authenticating s _ d = Some (status_plainly (Some NotCompatible) d)

abbrev pub is_plain : List ℕ → Bool
is_plain [] = false
is_plain (first ∷ rest) = first == emm_discriminator

-- only plain messages are heard
unfoldable pub in_authenticating : Setting → List ℕ → Draft → Option Draft
in_authenticating s nas d = if is_plain nas then authenticating s (heard nas) d else Some d

-- ---- acceptance (TS 24.301 clauses 5.5.1.2.4 and 6.4.1)

-- the slot's next M-TMSI
unfoldable pub given_tmsi : Setting → Draft → Draft
given_tmsi s d =
    let next = next_counter d.solo.tmsis in
    record d { solo = record d.solo { tmsis = next; tmsi = Some (id_of_slot s.slot next) } }

unfoldable pub activating : Draft → Draft
activating d = record d { solo = record d.solo { phase = Accepting; bearer = activated d.solo.bearer } }

-- what an attach is granted
abbrev pub attach_grant : Setting → Draft → Grant
attach_grant s d =
    record { tmsi = id_of_slot s.slot (next_counter d.solo.tmsis); tai = d.solo.tai; combined = d.solo.asked.combined_attach }

-- ATTACH ACCEPT with the activation of the bearer, in INITIAL CONTEXT SETUP REQUEST with KeNB; it goes alone when it is repeated
unfoldable pub accept : Setting → List ℕ → Draft → Option Draft
accept s kenb d =
    let esm = activation d.solo.bearer s.network.apn s.profile.address in
    let message = attach_accept s.network (attach_grant s d) esm in
    set_up_with s kenb message (activating (given_tmsi s d))
    >>= λ sent. Some (start T3450 (repeats.Nas (Under IntegrityProtectedCiphered) message) sent)

-- ESM INFORMATION REQUEST (TS 24.301 clause 6.6.1.2)
unfoldable pub ask_information : Draft → Option Draft
ask_information d =
    let request = information_request d.solo.bearer in
    let waiting = record d { solo = record d.solo { phase = EsmInformation } } in
    protect_and_await T3489 IntegrityProtectedCiphered request waiting

-- ---- security mode (TS 24.301 clause 5.4.3)

-- the context after it accepted a count
abbrev pub counted_up : Context → ℕ → Context
counted_up x count = record x { security = record x.security { up_last = Some count } }

-- an uplink message was accepted under the count by this context
unfoldable pub took : Context → ℕ → Draft → Draft
took x count d = record d {
  accepted = Some (record { place = x.place; count = count });
  solo = record d.solo { context = Some x };
}

-- the radio keys of a count: KeNB, whose chain stands at its first hop, of which no station is told (TS 33.401 clauses 7.2.8.1
-- and A.3)
abbrev pub keys_of : List ℕ → ℕ → RadioKeys
keys_of kasme count = record { kenb = kenb kasme count; next_hop = None; chaining_count = 1 }

-- and the radio keys follow from it
unfoldable pub keyed : Context → ℕ → Draft → Draft
keyed x count d = took (record x { radio = keys_of x.kasme count }) count d

-- SECURITY MODE COMPLETE
unfoldable pub secured : Setting → Context → ℕ → Draft → Option Draft
secured s x count d =
    let k = keyed x count d in
    if asks_information k.solo.bearer.request then ask_information k else accept s (kenb x.kasme count) k

abbrev pub is_complete : Heard (List ℕ) → Bool
is_complete heards.SecurityModeComplete = true
is_complete _ = false

abbrev pub is_reject : Heard (List ℕ) → Bool
is_reject heards.SecurityModeReject = true
is_reject _ = false

-- SECURITY MODE REJECT, plain; anything else is dropped
unfoldable pub not_secured : List ℕ → Draft → Draft
not_secured nas d = if is_reject (heard nas) then fall (Nas Unspecified) d else d

unfoldable pub secured_by : Acceptance → Setting → Context → List ℕ → Draft → Option Draft
secured_by (Ok found) s x nas d =
    let y = counted_up x found.0 in
    if is_complete (heard found.1) then secured s y found.0 d else Some (took y found.0 d)
secured_by (Err fault) s x nas d = Some (not_secured nas d)

-- under the header of the new context alone
unfoldable pub in_security_mode : Setting → List ℕ → Draft → Option Draft
in_security_mode s nas d =
    option_map_or (λ x. secured_by (accepted (mac_of x) x.security.up_last (NewContextCiphered ∷ []) nas) s x nas d) d.solo.context
    (Some (not_secured nas d))
