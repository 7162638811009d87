-- A step's context and its connection don't touch each other.
use Rattle.std.specs.Prelude.{◌≡◌, ℕ, Bool, true, false, if◌then◌else◌, Option, Some, None}
use Rattle.std.proofs.Common.{refl, ap, ◌∙◌}
use Rattle.std.specs.Option.{option_map_or}
use Rattle.s1ap_causes.specs.declared.cause.Cause.TheVariants.{Nas}
use Rattle.s1ap_causes.specs.declared.cause.NasCause.TheVariants.{NormalRelease}
use Rattle.mme_types.specs.declared.connection.Connection.{Connection}
use Rattle.mme_types.specs.declared.octets.Mark.{Mark}
use Rattle.mme_signalling.specs.Pdus.{release_command}
use Rattle.emm_state.specs.declared.draft.Draft.{Draft}
use Rattle.emm_state.specs.declared.solo.Context.{Context}
use Rattle.emm_state.specs.Actions.{association_counted, connect, connect_on, emit, is_at, leave_old, next_id}

-- a step with this context, or none, and what was accepted
abbrev pub beside : Option Mark → Option Context → Draft → Draft
beside a c d = record d { accepted = a; solo = record d.solo { context = c } }

abbrev left : ℕ → ℕ → Connection → Draft → Draft
left station enb_ue_id k d =
    if is_at k station enb_ue_id then d else emit k.station (release_command k.id k.enb_ue_id (Nas NormalRelease)) None d

left_if : (b : Bool) (k : Connection) (a : Option Mark) (c : Option Context) (d : Draft)
    → (if b then beside a c d else emit k.station (release_command k.id k.enb_ue_id (Nas NormalRelease)) None (beside a c d))
    ≡ beside a c (if b then d else emit k.station (release_command k.id k.enb_ue_id (Nas NormalRelease)) None d)
unfolding emit
left_if true k a c d = refl
left_if false k a c d = refl

left_beside : (station enb_ue_id : ℕ) (k : Option Connection) (a : Option Mark) (c : Option Context) (d : Draft)
    → option_map_or (λ k. left station enb_ue_id k (beside a c d)) k (beside a c d)
    ≡ beside a c (option_map_or (λ k. left station enb_ue_id k d) k d)
left_beside station enb_ue_id None a c d = refl
left_beside station enb_ue_id (Some k) a c d = left_if (is_at k station enb_ue_id) k a c d

leave_beside : (station enb_ue_id : ℕ) (a : Option Mark) (c : Option Context) (d : Draft)
    → leave_old station enb_ue_id (beside a c d) ≡ beside a c (leave_old station enb_ue_id d)
unfolding leave_old
leave_beside station enb_ue_id a c d = left_beside station enb_ue_id d.solo.connection a c d

-- where the connection is made, the context may be set before or after
pub connect_beside : (slot station enb_ue_id : ℕ) (a : Option Mark) (c : Option Context) (d : Draft)
    → connect slot station enb_ue_id (beside a c d) ≡ beside a c (connect slot station enb_ue_id d)
unfolding connect connect_on association_counted
connect_beside slot station enb_ue_id a c d =
    ap (λ (s : Draft). record s { solo = record s.solo { connection = (connect slot station enb_ue_id d).solo.connection } })
    (leave_beside station enb_ue_id a c (association_counted d))

-- and it keeps the context
pub connect_keeps : (slot station enb_ue_id : ℕ) (c : Option Context) (d : Draft)
    → d.solo.context ≡ c → (connect slot station enb_ue_id d).solo.context ≡ c
connect_keeps slot station enb_ue_id c d h =
    ap (λ (s : Draft). s.solo.context) (connect_beside slot station enb_ue_id d.accepted d.solo.context d) ∙ h

-- ---- nor do its vectors

left_next : (b : Bool) (k : Connection) (d : Draft)
    → (if b then d else emit k.station (release_command k.id k.enb_ue_id (Nas NormalRelease)) None d).solo.next_vector
    ≡ d.solo.next_vector
unfolding emit
left_next true k d = refl
left_next false k d = refl

leave_next : (station enb_ue_id : ℕ) (k : Option Connection) (d : Draft)
    → (option_map_or (λ k. left station enb_ue_id k d) k d).solo.next_vector ≡ d.solo.next_vector
leave_next station enb_ue_id None d = refl
leave_next station enb_ue_id (Some k) d = left_next (is_at k station enb_ue_id) k d

-- where the connection is made, the place of the next vector stays
pub connect_on_next : (id station enb_ue_id : ℕ) (d : Draft)
    → (connect_on id station enb_ue_id d).solo.next_vector ≡ d.solo.next_vector
unfolding connect_on leave_old
connect_on_next id station enb_ue_id d = leave_next station enb_ue_id d.solo.connection d

pub connect_next : (slot station enb_ue_id : ℕ) (d : Draft)
    → (connect slot station enb_ue_id d).solo.next_vector ≡ d.solo.next_vector
unfolding connect association_counted
connect_next slot station enb_ue_id d = connect_on_next (next_id slot d) station enb_ue_id (association_counted d)
