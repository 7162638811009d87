-- Causes keep their names.
use Rattle.std.proofs.Common.{◌≡◌, ℕ, refl, ap, inl, inr, ◌⊎◌}
use Rattle.per_bits.specs.Formats.{Value, Chosen, Alternatives, enumerated, last, either, left_of, right_of}
use Rattle.s1ap_causes.specs.NameLaws.{Spelled, SpelledChosen, chosen_spelled, left_spelled, right_spelled, last_spelled, names_again}
use Rattle.s1ap_causes.specs.Causes.{cause, radio_network_names, transport_names, nas_names, protocol_names, misc_names, typed_radio_network, named_radio_network, typed_transport, named_transport, typed_nas, named_nas, typed_protocol, named_protocol, typed_misc, named_misc, typed_cause, named_cause}
use Rattle.s1ap_causes.specs.declared.cause.Cause.{Cause}
use Rattle.s1ap_causes.specs.declared.cause.Cause.TheVariants as causes
use Rattle.s1ap_causes.specs.declared.cause.RadioNetworkCause.{RadioNetworkCause}
use Rattle.s1ap_causes.specs.declared.cause.RadioNetworkCause.TheVariants as radio
use Rattle.s1ap_causes.specs.declared.cause.TransportCause.{TransportCause}
use Rattle.s1ap_causes.specs.declared.cause.TransportCause.TheVariants as transport
use Rattle.s1ap_causes.specs.declared.cause.NasCause.{NasCause}
use Rattle.s1ap_causes.specs.declared.cause.NasCause.TheVariants as nas
use Rattle.s1ap_causes.specs.declared.cause.ProtocolCause.{ProtocolCause}
use Rattle.s1ap_causes.specs.declared.cause.ProtocolCause.TheVariants as protocol
use Rattle.s1ap_causes.specs.declared.cause.MiscCause.{MiscCause}
use Rattle.s1ap_causes.specs.declared.cause.MiscCause.TheVariants as misc

radio_network_again : (c : RadioNetworkCause) → named_radio_network (typed_radio_network c) ≡ c
radio_network_again radio.Unspecified = refl
radio_network_again radio.Tx2RelocOverallExpiry = refl
radio_network_again radio.SuccessfulHandover = refl
radio_network_again radio.ReleaseDueToEutranGeneratedReason = refl
radio_network_again radio.HandoverCancelled = refl
radio_network_again radio.PartialHandover = refl
radio_network_again radio.HandoverFailureInTarget = refl
radio_network_again radio.HandoverTargetNotAllowed = refl
radio_network_again radio.Ts1RelocOverallExpiry = refl
radio_network_again radio.Ts1RelocPrepExpiry = refl
radio_network_again radio.CellNotAvailable = refl
radio_network_again radio.UnknownTargetId = refl
radio_network_again radio.NoRadioResourcesInTargetCell = refl
radio_network_again radio.UnknownMmeUeS1apId = refl
radio_network_again radio.UnknownEnbUeS1apId = refl
radio_network_again radio.UnknownPairUeS1apId = refl
radio_network_again radio.HandoverDesirableForRadioReason = refl
radio_network_again radio.TimeCriticalHandover = refl
radio_network_again radio.ResourceOptimisationHandover = refl
radio_network_again radio.ReduceLoadInServingCell = refl
radio_network_again radio.UserInactivity = refl
radio_network_again radio.RadioConnectionWithUeLost = refl
radio_network_again radio.LoadBalancingTauRequired = refl
radio_network_again radio.CsFallbackTriggered = refl
radio_network_again radio.UeNotAvailableForPsService = refl
radio_network_again radio.RadioResourcesNotAvailable = refl
radio_network_again radio.FailureInRadioInterfaceProcedure = refl
radio_network_again radio.InvalidQosCombination = refl
radio_network_again radio.InterRatRedirection = refl
radio_network_again radio.InteractionWithOtherProcedure = refl
radio_network_again radio.UnknownErabId = refl
radio_network_again radio.MultipleErabIdInstances = refl
radio_network_again radio.AlgorithmsNotSupported = refl
radio_network_again radio.S1IntraSystemHandoverTriggered = refl
radio_network_again radio.S1InterSystemHandoverTriggered = refl
radio_network_again radio.X2HandoverTriggered = refl
radio_network_again (radio.Extended n) = refl

transport_again : (c : TransportCause) → named_transport (typed_transport c) ≡ c
transport_again transport.TransportResourceUnavailable = refl
transport_again transport.Unspecified = refl
transport_again (transport.Extended n) = refl

nas_again : (c : NasCause) → named_nas (typed_nas c) ≡ c
nas_again nas.NormalRelease = refl
nas_again nas.AuthenticationFailure = refl
nas_again nas.Detach = refl
nas_again nas.Unspecified = refl
nas_again (nas.Extended n) = refl

protocol_again : (c : ProtocolCause) → named_protocol (typed_protocol c) ≡ c
protocol_again protocol.TransferSyntaxError = refl
protocol_again protocol.AbstractSyntaxErrorReject = refl
protocol_again protocol.AbstractSyntaxErrorIgnoreAndNotify = refl
protocol_again protocol.MessageNotCompatible = refl
protocol_again protocol.SemanticError = refl
protocol_again protocol.FalselyConstructedMessage = refl
protocol_again protocol.Unspecified = refl
protocol_again (protocol.Extended n) = refl

misc_again : (c : MiscCause) → named_misc (typed_misc c) ≡ c
misc_again misc.ControlProcessingOverload = refl
misc_again misc.NotEnoughUserPlaneResources = refl
misc_again misc.HardwareFailure = refl
misc_again misc.OmIntervention = refl
misc_again misc.Unspecified = refl
misc_again misc.UnknownPlmn = refl
misc_again (misc.Extended n) = refl

pub cause_again : (c : Cause) → named_cause (typed_cause c) ≡ c
cause_again (causes.RadioNetwork c) = ap (λ x. causes.RadioNetwork x) (radio_network_again c)
cause_again (causes.Transport c) = ap (λ x. causes.Transport x) (transport_again c)
cause_again (causes.Nas c) = ap (λ x. causes.Nas x) (nas_again c)
cause_again (causes.Protocol c) = ap (λ x. causes.Protocol x) (protocol_again c)
cause_again (causes.Misc c) = ap (λ x. causes.Misc x) (misc_again c)

-- and what is spelled has its number again

radio_network_spelled : (v : ℕ ⊎ ℕ) → Spelled (enumerated 35) v → typed_radio_network (named_radio_network v) ≡ v
radio_network_spelled (inl k) s =
    names_again typed_radio_network radio_network_names radio.Unspecified 35 (
      refl,
      (
        refl,
        (
          refl,
          (
            refl,
            (
              refl,
              (
                refl,
                (
                  refl,
                  (
                    refl,
                    (
                      refl,
                      (
                        refl,
                        (
                          refl,
                          (
                            refl,
                            (
                              refl,
                              (
                                refl,
                                (
                                  refl,
                                  (
                                    refl,
                                    (
                                      refl,
                                      (
                                        refl,
                                        (
                                          refl,
                                          (
                                            refl,
                                            (
                                              refl,
                                              (
                                                refl,
                                                (
                                                  refl,
                                                  (
                                                    refl,
                                                    (
                                                      refl,
                                                      (
                                                        refl,
                                                        (
                                                          refl,
                                                          (
                                                            refl,
                                                            (
                                                              refl,
                                                              (
                                                                refl,
                                                                (
                                                                  refl,
                                                                  (
                                                                    refl,
                                                                    (
                                                                      refl,
                                                                      (
                                                                        refl,
                                                                        (
                                                                          refl,
                                                                          (refl, tt),
                                                                        ),
                                                                      ),
                                                                    ),
                                                                  ),
                                                                ),
                                                              ),
                                                            ),
                                                          ),
                                                        ),
                                                      ),
                                                    ),
                                                  ),
                                                ),
                                              ),
                                            ),
                                          ),
                                        ),
                                      ),
                                    ),
                                  ),
                                ),
                              ),
                            ),
                          ),
                        ),
                      ),
                    ),
                  ),
                ),
              ),
            ),
          ),
        ),
      ),
    ) refl k s
radio_network_spelled (inr k) s = refl

transport_spelled : (v : ℕ ⊎ ℕ) → Spelled (enumerated 1) v → typed_transport (named_transport v) ≡ v
transport_spelled (inl k) s = names_again typed_transport transport_names transport.Unspecified 1 (refl, (refl, tt)) refl k s
transport_spelled (inr k) s = refl

nas_spelled : (v : ℕ ⊎ ℕ) → Spelled (enumerated 3) v → typed_nas (named_nas v) ≡ v
nas_spelled (inl k) s = names_again typed_nas nas_names nas.Unspecified 3 (refl, (refl, (refl, (refl, tt)))) refl k s
nas_spelled (inr k) s = refl

protocol_spelled : (v : ℕ ⊎ ℕ) → Spelled (enumerated 6) v → typed_protocol (named_protocol v) ≡ v
protocol_spelled (inl k) s =
    names_again typed_protocol protocol_names protocol.Unspecified 6
    (refl, (refl, (refl, (refl, (refl, (refl, (refl, tt))))))) refl k s
protocol_spelled (inr k) s = refl

misc_spelled : (v : ℕ ⊎ ℕ) → Spelled (enumerated 5) v → typed_misc (named_misc v) ≡ v
misc_spelled (inl k) s =
    names_again typed_misc misc_names misc.Unspecified 5 (refl, (refl, (refl, (refl, (refl, (refl, tt)))))) refl k s
misc_spelled (inr k) s = refl

-- the alternatives, and those from the second, third, fourth and fifth on
abbrev all : Alternatives
all = either (enumerated 35) (either (enumerated 1) (either (enumerated 3) (either (enumerated 6) (last (enumerated 5)))))

abbrev second : Alternatives
second = either (enumerated 1) (either (enumerated 3) (either (enumerated 6) (last (enumerated 5))))

abbrev third : Alternatives
third = either (enumerated 3) (either (enumerated 6) (last (enumerated 5)))

abbrev fourth : Alternatives
fourth = either (enumerated 6) (last (enumerated 5))

abbrev fifth : Alternatives
fifth = last (enumerated 5)

past_radio : (c : Chosen second) → Spelled cause (inr c) → SpelledChosen second c
past_radio c s = right_spelled (enumerated 35) second c (chosen_spelled all (inr c) s)

past_transport : (c : Chosen third) → Spelled cause (inr (inr c)) → SpelledChosen third c
past_transport c s = right_spelled (enumerated 1) third c (past_radio (inr c) s)

past_nas : (c : Chosen fourth) → Spelled cause (inr (inr (inr c))) → SpelledChosen fourth c
past_nas c s = right_spelled (enumerated 3) fourth c (past_transport (inr c) s)

past_protocol : (c : Chosen fifth) → Spelled cause (inr (inr (inr (inr c)))) → SpelledChosen fifth c
past_protocol c s = right_spelled (enumerated 6) fifth c (past_nas (inr c) s)

pub cause_spelled : (v : Value cause) → Spelled cause v → typed_cause (named_cause v) ≡ v
cause_spelled (inl c) s =
    ap (λ (x : ℕ ⊎ ℕ). left_of x) (radio_network_spelled c (left_spelled (enumerated 35) second c (chosen_spelled all (inl c) s)))
cause_spelled (inr (inl c)) s =
    ap (λ (x : ℕ ⊎ ℕ). right_of (left_of x)) (transport_spelled c (left_spelled (enumerated 1) third c (past_radio (inl c) s)))
cause_spelled (inr (inr (inl c))) s =
    ap (λ (x : ℕ ⊎ ℕ). right_of (right_of (left_of x)))
    (nas_spelled c (left_spelled (enumerated 3) fourth c (past_transport (inl c) s)))
cause_spelled (inr (inr (inr (inl c)))) s =
    ap (λ (x : ℕ ⊎ ℕ). right_of (right_of (right_of (left_of x))))
    (protocol_spelled c (left_spelled (enumerated 6) fifth c (past_nas (inl c) s)))
cause_spelled (inr (inr (inr (inr c)))) s =
    ap (λ (x : ℕ ⊎ ℕ). right_of (right_of (right_of (right_of x))))
    (misc_spelled c (last_spelled (enumerated 5) c (past_protocol c s)))
