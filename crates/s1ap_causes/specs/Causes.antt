-- Causes by their names, and as their format has them.
use Rattle.std.specs.Prelude.{ℕ, List, [], ◌∷◌, get_or, ◌⊎◌}
use Rattle.std.proofs.Common.{inl, inr}
use Rattle.per_bits.specs.Formats.{Format, Value, choice, either, enumerated, last, left_of, right_of}
use Rattle.s1ap_causes.specs.declared.cause.Cause.{Cause}
use Rattle.s1ap_causes.specs.declared.cause.Cause.TheVariants as causes
use Rattle.s1ap_causes.specs.declared.cause.RadioNetworkCause.{RadioNetworkCause}
use Rattle.s1ap_causes.specs.declared.cause.RadioNetworkCause.TheVariants as radio
use Rattle.s1ap_causes.specs.declared.cause.TransportCause.{TransportCause}
use Rattle.s1ap_causes.specs.declared.cause.TransportCause.TheVariants as transport
use Rattle.s1ap_causes.specs.declared.cause.NasCause.{NasCause}
use Rattle.s1ap_causes.specs.declared.cause.NasCause.TheVariants as nas
use Rattle.s1ap_causes.specs.declared.cause.ProtocolCause.{ProtocolCause}
use Rattle.s1ap_causes.specs.declared.cause.ProtocolCause.TheVariants as protocol
use Rattle.s1ap_causes.specs.declared.cause.MiscCause.{MiscCause}
use Rattle.s1ap_causes.specs.declared.cause.MiscCause.TheVariants as misc

-- the format of a cause (TS 36.413 clause 9.3.4): its group, and its name there
abbrev pub cause : Format
cause =
    choice (either (enumerated 35) (either (enumerated 1) (either (enumerated 3) (either (enumerated 6) (last (enumerated 5))))))

-- the names in their order
abbrev pub radio_network_names : List RadioNetworkCause
radio_network_names =
    radio.Unspecified ∷ radio.Tx2RelocOverallExpiry ∷ radio.SuccessfulHandover ∷
    radio.ReleaseDueToEutranGeneratedReason ∷ radio.HandoverCancelled ∷ radio.PartialHandover ∷
    radio.HandoverFailureInTarget ∷ radio.HandoverTargetNotAllowed ∷ radio.Ts1RelocOverallExpiry ∷
    radio.Ts1RelocPrepExpiry ∷ radio.CellNotAvailable ∷ radio.UnknownTargetId ∷
    radio.NoRadioResourcesInTargetCell ∷ radio.UnknownMmeUeS1apId ∷ radio.UnknownEnbUeS1apId ∷
    radio.UnknownPairUeS1apId ∷ radio.HandoverDesirableForRadioReason ∷ radio.TimeCriticalHandover ∷
    radio.ResourceOptimisationHandover ∷ radio.ReduceLoadInServingCell ∷ radio.UserInactivity ∷
    radio.RadioConnectionWithUeLost ∷ radio.LoadBalancingTauRequired ∷ radio.CsFallbackTriggered ∷
    radio.UeNotAvailableForPsService ∷ radio.RadioResourcesNotAvailable ∷
    radio.FailureInRadioInterfaceProcedure ∷ radio.InvalidQosCombination ∷
    radio.InterRatRedirection ∷ radio.InteractionWithOtherProcedure ∷ radio.UnknownErabId ∷
    radio.MultipleErabIdInstances ∷ radio.AlgorithmsNotSupported ∷
    radio.S1IntraSystemHandoverTriggered ∷ radio.S1InterSystemHandoverTriggered ∷
    radio.X2HandoverTriggered ∷ []

abbrev pub typed_radio_network : RadioNetworkCause → ℕ ⊎ ℕ
typed_radio_network radio.Unspecified = left_of 0
typed_radio_network radio.Tx2RelocOverallExpiry = left_of 1
typed_radio_network radio.SuccessfulHandover = left_of 2
typed_radio_network radio.ReleaseDueToEutranGeneratedReason = left_of 3
typed_radio_network radio.HandoverCancelled = left_of 4
typed_radio_network radio.PartialHandover = left_of 5
typed_radio_network radio.HandoverFailureInTarget = left_of 6
typed_radio_network radio.HandoverTargetNotAllowed = left_of 7
typed_radio_network radio.Ts1RelocOverallExpiry = left_of 8
typed_radio_network radio.Ts1RelocPrepExpiry = left_of 9
typed_radio_network radio.CellNotAvailable = left_of 10
typed_radio_network radio.UnknownTargetId = left_of 11
typed_radio_network radio.NoRadioResourcesInTargetCell = left_of 12
typed_radio_network radio.UnknownMmeUeS1apId = left_of 13
typed_radio_network radio.UnknownEnbUeS1apId = left_of 14
typed_radio_network radio.UnknownPairUeS1apId = left_of 15
typed_radio_network radio.HandoverDesirableForRadioReason = left_of 16
typed_radio_network radio.TimeCriticalHandover = left_of 17
typed_radio_network radio.ResourceOptimisationHandover = left_of 18
typed_radio_network radio.ReduceLoadInServingCell = left_of 19
typed_radio_network radio.UserInactivity = left_of 20
typed_radio_network radio.RadioConnectionWithUeLost = left_of 21
typed_radio_network radio.LoadBalancingTauRequired = left_of 22
typed_radio_network radio.CsFallbackTriggered = left_of 23
typed_radio_network radio.UeNotAvailableForPsService = left_of 24
typed_radio_network radio.RadioResourcesNotAvailable = left_of 25
typed_radio_network radio.FailureInRadioInterfaceProcedure = left_of 26
typed_radio_network radio.InvalidQosCombination = left_of 27
typed_radio_network radio.InterRatRedirection = left_of 28
typed_radio_network radio.InteractionWithOtherProcedure = left_of 29
typed_radio_network radio.UnknownErabId = left_of 30
typed_radio_network radio.MultipleErabIdInstances = left_of 31
typed_radio_network radio.AlgorithmsNotSupported = left_of 32
typed_radio_network radio.S1IntraSystemHandoverTriggered = left_of 33
typed_radio_network radio.S1InterSystemHandoverTriggered = left_of 34
typed_radio_network radio.X2HandoverTriggered = left_of 35
typed_radio_network (radio.Extended n) = right_of n

abbrev pub named_radio_network : ℕ ⊎ ℕ → RadioNetworkCause
named_radio_network (inl n) = get_or radio_network_names n radio.Unspecified
named_radio_network (inr n) = radio.Extended n

-- the names in their order
abbrev pub transport_names : List TransportCause
transport_names = transport.TransportResourceUnavailable ∷ transport.Unspecified ∷ []

abbrev pub typed_transport : TransportCause → ℕ ⊎ ℕ
typed_transport transport.TransportResourceUnavailable = left_of 0
typed_transport transport.Unspecified = left_of 1
typed_transport (transport.Extended n) = right_of n

abbrev pub named_transport : ℕ ⊎ ℕ → TransportCause
named_transport (inl n) = get_or transport_names n transport.Unspecified
named_transport (inr n) = transport.Extended n

-- the names in their order
abbrev pub nas_names : List NasCause
nas_names = nas.NormalRelease ∷ nas.AuthenticationFailure ∷ nas.Detach ∷ nas.Unspecified ∷ []

abbrev pub typed_nas : NasCause → ℕ ⊎ ℕ
typed_nas nas.NormalRelease = left_of 0
typed_nas nas.AuthenticationFailure = left_of 1
typed_nas nas.Detach = left_of 2
typed_nas nas.Unspecified = left_of 3
typed_nas (nas.Extended n) = right_of n

abbrev pub named_nas : ℕ ⊎ ℕ → NasCause
named_nas (inl n) = get_or nas_names n nas.Unspecified
named_nas (inr n) = nas.Extended n

-- the names in their order
abbrev pub protocol_names : List ProtocolCause
protocol_names =
    protocol.TransferSyntaxError ∷ protocol.AbstractSyntaxErrorReject ∷
    protocol.AbstractSyntaxErrorIgnoreAndNotify ∷ protocol.MessageNotCompatible ∷
    protocol.SemanticError ∷ protocol.FalselyConstructedMessage ∷ protocol.Unspecified ∷ []

abbrev pub typed_protocol : ProtocolCause → ℕ ⊎ ℕ
typed_protocol protocol.TransferSyntaxError = left_of 0
typed_protocol protocol.AbstractSyntaxErrorReject = left_of 1
typed_protocol protocol.AbstractSyntaxErrorIgnoreAndNotify = left_of 2
typed_protocol protocol.MessageNotCompatible = left_of 3
typed_protocol protocol.SemanticError = left_of 4
typed_protocol protocol.FalselyConstructedMessage = left_of 5
typed_protocol protocol.Unspecified = left_of 6
typed_protocol (protocol.Extended n) = right_of n

abbrev pub named_protocol : ℕ ⊎ ℕ → ProtocolCause
named_protocol (inl n) = get_or protocol_names n protocol.Unspecified
named_protocol (inr n) = protocol.Extended n

-- the names in their order
abbrev pub misc_names : List MiscCause
misc_names =
    misc.ControlProcessingOverload ∷ misc.NotEnoughUserPlaneResources ∷ misc.HardwareFailure ∷
    misc.OmIntervention ∷ misc.Unspecified ∷ misc.UnknownPlmn ∷ []

abbrev pub typed_misc : MiscCause → ℕ ⊎ ℕ
typed_misc misc.ControlProcessingOverload = left_of 0
typed_misc misc.NotEnoughUserPlaneResources = left_of 1
typed_misc misc.HardwareFailure = left_of 2
typed_misc misc.OmIntervention = left_of 3
typed_misc misc.Unspecified = left_of 4
typed_misc misc.UnknownPlmn = left_of 5
typed_misc (misc.Extended n) = right_of n

abbrev pub named_misc : ℕ ⊎ ℕ → MiscCause
named_misc (inl n) = get_or misc_names n misc.Unspecified
named_misc (inr n) = misc.Extended n

abbrev pub typed_cause : Cause → Value cause
typed_cause (causes.RadioNetwork c) = left_of (typed_radio_network c)
typed_cause (causes.Transport c) = right_of (left_of (typed_transport c))
typed_cause (causes.Nas c) = right_of (right_of (left_of (typed_nas c)))
typed_cause (causes.Protocol c) = right_of (right_of (right_of (left_of (typed_protocol c))))
typed_cause (causes.Misc c) = right_of (right_of (right_of (right_of (typed_misc c))))

abbrev pub named_cause : Value cause → Cause
named_cause (inl c) = causes.RadioNetwork (named_radio_network c)
named_cause (inr (inl c)) = causes.Transport (named_transport c)
named_cause (inr (inr (inl c))) = causes.Nas (named_nas c)
named_cause (inr (inr (inr (inl c)))) = causes.Protocol (named_protocol c)
named_cause (inr (inr (inr (inr c)))) = causes.Misc (named_misc c)
