-- Rows of an attach send their messages whole.
use Rattle.std.proofs.Common.{◌≡◌, ℕ, ◌+◌, ◌%◌, List, Option, Some, None, refl, sym, ap, subst, ◌∙◌, arith}
use Rattle.std.specs.Option.{option_map_or}
use Rattle.s1ap_causes.specs.declared.cause.Cause.TheVariants as causes
use Rattle.s1ap_causes.specs.declared.cause.NasCause.TheVariants.{AuthenticationFailure, NormalRelease}
use Rattle.mme_types.specs.declared.connection.Connection.{Connection}
use Rattle.mme_signalling.specs.Messages.{attach_reject, authentication_reject, authentication_request}
use Rattle.emm_state.specs.declared.draft.Draft.{Draft}
use Rattle.emm_state.specs.declared.solo.Phase.TheVariants.{Authenticating}
use Rattle.emm_state.specs.declared.solo.Solo.{Solo}
use Rattle.emm_state.specs.Actions.{emit, send, start, wipe}
use Rattle.emm_machine.specs.Attaching.{attach_refused, challenged, not_authenticated}
use Rattle.laws_network.specs.NasLaws.{brief_attach_reject, brief_authentication_reject, brief_authentication_request}
use Rattle.laws_network.specs.SubscriberRanges.{SoloInRange}
use Rattle.laws_network.specs.Whole.{AttachRefusedIsWhole, ChallengedIsWhole, NotAuthenticatedIsWhole}
use Rattle.laws_network.proofs.FitActions.{AreWritten}
use Rattle.laws_network.proofs.Whole.{release_whole, send_whole}

-- what is sent leaves the state
solo_at : (o : Option Connection) (f : Connection → Draft) (d : Draft) → ((k : Connection) → (f k).solo ≡ d.solo)
    → (option_map_or f o d).solo ≡ d.solo
solo_at None f d h = refl
solo_at (Some k) f d h = h k

send_solo : (nas : List ℕ) (d : Draft) → (send nas d).solo ≡ d.solo
unfolding send emit
send_solo nas d = solo_at d.solo.connection _ d (λ k. refl)

connection_sent : (nas : List ℕ) (d : Draft) (k : Connection) → d.solo.connection ≡ Some k → (send nas d).solo.connection ≡ Some k
connection_sent nas d k is = ap (λ (b : Solo). b.connection) (send_solo nas d) ∙ is

range_sent : (nas : List ℕ) (d : Draft) → SoloInRange d.solo → SoloInRange (send nas d).solo
range_sent nas d h = subst SoloInRange (sym (send_solo nas d)) h

module _ (written : AreWritten) where
  pub attach_refused_whole : AttachRefusedIsWhole
  unfolding attach_refused wipe
  attach_refused_whole d k cause esm range is brief =
      let nas = attach_reject cause esm in (
        send nas d,
        send_whole written d k nas range is (brief_attach_reject cause esm brief),
        release_whole written (send nas d) k (causes.Nas NormalRelease) (range_sent nas d range)
            (connection_sent nas d k is) refl,
      )

  pub not_authenticated_whole : NotAuthenticatedIsWhole
  unfolding not_authenticated wipe
  not_authenticated_whole d k range is = (
    send authentication_reject d,
    send_whole written d k authentication_reject range is brief_authentication_reject,
    release_whole written (send authentication_reject d) k (causes.Nas AuthenticationFailure)
        (range_sent authentication_reject d range) (connection_sent authentication_reject d k is) refl,
  )

  pub challenged_whole : ChallengedIsWhole
  unfolding challenged start
  challenged_whole d k v range is fits =
      let place = d.solo.next_vector in
      let taken : Draft = record d { solo = record d.solo { phase = Authenticating; next_vector = place + 1 } } in
      let same : SoloInRange taken.solo =
      record { connection = range.connection; context = range.context; tai = range.tai; capability = range.capability; transaction = range.transaction; repeat = range.repeat } in
      send_whole written taken k (authentication_request (place % 7) v.rand v.autn) same is
      (brief_authentication_request (place % 7) v.rand v.autn (omega arith) fits.rand fits.autn)
