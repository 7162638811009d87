-- What is sent for a phone goes on its connection, or back to where the item came from.
use Rattle.std.proofs.Common.{◌≡◌, ◌⊎◌, ℕ, inl, inr, List, All, Option, Some, None, Ok, refl, sym, ◌∙◌, ap, subst}
use Rattle.std.proofs.lemmas.Result.{IfOk-at_ok}
use Rattle.s1ap_causes.specs.declared.cause.Cause.{Cause}
use Rattle.s1ap_elements.specs.declared.phone.Tai.{Tai}
use Rattle.s1ap_pdus.specs.declared.pdu.Paging.{Paging}
use Rattle.s1ap_pdus.specs.declared.pdu.Pdu.{Pdu}
use Rattle.s1ap_pdus.specs.declared.pdu.Pdu.TheVariants as pdu
use Rattle.s1ap_pdus.specs.Pdus.{decoded, encoded}
use Rattle.identity_slots.specs.declared.profile.Profile.{Profile}
use Rattle.mme_types.specs.declared.connection.Connection.{Connection}
use Rattle.mme_types.specs.declared.event.UeMessage.{UeMessage}
use Rattle.mme_types.specs.declared.network.Network.{Network}
use Rattle.mme_types.specs.declared.octets.Answer.{Answer}
use Rattle.mme_types.specs.Events.{Item, Message}
use Rattle.mme_signalling.specs.Pdus.{context_setup, downlink, paging, path_switch_acknowledge, release_command}
use Rattle.emm_state.specs.declared.setting.Setting.{Setting}
use Rattle.emm_state.specs.declared.solo.Solo.{Solo}
use Rattle.emm_machine.specs.Connected.{connection_of}
use Rattle.emm_machine.specs.Steps.{solo_step}
use Rattle.laws_mme.specs.Holds.{IsConnectedBy, IsIdBy, KeepsState, MayConnect, Says, step_holds}
use Rattle.laws_mme.specs.Premises.{IsIndication, number_of, station_of}
use Rattle.laws_network.specs.Associated.{HasPairOf, IsAssociated, Made, Paged, Refused, Standing, Told, pair_in}

-- ---- the ids in what is built

downlink_ids : (k : Connection) (nas : List ℕ) → pair_in (downlink k nas) ≡ Some (k.id, k.enb_ue_id)
unfolding downlink
downlink_ids k nas = refl

setup_ids : (n : Network) (p : Profile) (capability : List ℕ) (k : Connection) (key : List ℕ) (nas : Option (List ℕ))
    → pair_in (context_setup n p capability k key nas) ≡ Some (k.id, k.enb_ue_id)
unfolding context_setup
setup_ids n p capability k key nas = refl

release_ids : (id enb_ue_id : ℕ) (cause : Cause) → pair_in (release_command id enb_ue_id cause) ≡ Some (id, enb_ue_id)
unfolding release_command
release_ids id enb_ue_id cause = refl

acknowledge_ids : (k : Connection) (hop : List ℕ) (count : ℕ) → pair_in (path_switch_acknowledge k hop count) ≡ Some (k.id, k.enb_ue_id)
unfolding path_switch_acknowledge
acknowledge_ids k hop count = refl

a_page : (n : Network) (imsi : List ℕ) (tmsi : ℕ) (tai : Tai) → (p : Paging (List ℕ)) × (paging n imsi tmsi tai ≡ pdu.Paging p)
unfolding paging
a_page n imsi tmsi tai = (_, refl)

-- ---- the connection

module _ (s : Setting) (solo : Solo) (item : Item) where
  -- it is none, the one before, or one that the item makes
  IsKnownTo : Option Connection → Type 0
  IsKnownTo None = Unit {0}
  IsKnownTo (Some k) = (solo.connection ≡ Some k) ⊎ IsConnectedBy s item k

  record Connects (x : Solo) : Type 0 where
    known : IsKnownTo x.connection

  made : (c : Option Connection) → MayConnect s item c → IsKnownTo c
  unfolding IsKnownTo
  made None may = tt
  made (Some k) may = inr may

  begins : (o : Option Connection) → solo.connection ≡ o → IsKnownTo o
  unfolding IsKnownTo
  begins None is = tt
  begins (Some k) is = inl is

  keeps_connects : KeepsState s solo item Connects
  keeps_connects = record {
    connection = λ c x may h. record { known = made c may };
    counted = λ n x h. record { known = h.known };
    context = λ c x h. record { known = h.known };
    counts = λ procedure reachable x h. record { known = h.known };
    wiped = λ x h. record { known = h.known };
    ended = λ x h. record { known = h.known };
    registers = λ reachable x h. record { known = h.known };
    updates = λ tai initial x from h. record { known = h.known };
    moves_on = λ phase x under h. record { known = h.known };
    tmsi = λ x on h. record { known = h.known };
    bears = λ bearer x may h. record { known = h.known };
    asks = λ combined capability tai x asked from phase repeat h. record { known = h.known };
    challenges = λ v procedure x there may h. record { known = h.known };
    secures = λ c phase h. record { known = h.known };
    awaits = λ header nas procedure c x may told h. record { known = h.known };
    pages = λ stations procedure is may h. record { known = h.known };
    strikes = λ station x is h. record { known = h.known };
  }

  -- a message on the connection
  on_it : (x : Solo) (k : Connection) (a : Answer) (m : Pdu (List ℕ)) → Connects x → x.connection ≡ Some k → HasPairOf k a m
      → IsAssociated s solo item a m
  unfolding IsKnownTo
  on_it x k a m h at goes =
      let known : (solo.connection ≡ Some k) ⊎ IsConnectedBy s item k = subst IsKnownTo at h.known in
      elim known [
        | inl stands ↦ Standing k stands goes
        | inr by ↦ Made k by goes
      ]

  module _ (written : (m : Pdu (List ℕ)) (os : List ℕ) → encoded m ≡ Some os → decoded os ≡ Ok m) where
    same_message : (m n : Pdu (List ℕ)) (os : List ℕ) → encoded m ≡ Some os → decoded os ≡ Ok n → m ≡ n
    same_message m n os is reads = IfOk-at_ok (λ (x : Pdu (List ℕ)). m ≡ x) (sym (written m os is) ∙ reads) refl

    goes_on : (k : Connection) (a : Answer) (m n : Pdu (List ℕ)) → encoded m ≡ Some a.octets → decoded a.octets ≡ Ok n
        → a.station ≡ k.station → pair_in m ≡ Some (k.id, k.enb_ue_id) → HasPairOf k a n
    goes_on k a m n is reads station ids =
        record { station = station; ids = ap pair_in (sym (same_message m n a.octets is reads)) ∙ ids }

    -- a path switch makes the connection that it asks for
    switches : (e : UeMessage (List ℕ)) → item ≡ Message e → IsConnectedBy s item (connection_of e)
    switches e is = record {
      station = ap station_of is;
      number = ap number_of is;
      id = subst (λ (i : Item). IsIdBy s i e.mme_ue_id) (sym is) refl;
    }

    says_associated : Says s solo item Connects
        (λ (a : Answer). (m : Pdu (List ℕ)) → decoded a.octets ≡ Ok m → IsAssociated s solo item a m)
    says_associated = record {
      plain = λ nas x k may told h at octets is m reads. on_it x k _ m h at (goes_on k _ _ m is reads refl (downlink_ids k nas));
      protected = λ header nas x k sealed may told h by at octets is m reads.
          on_it x k _ m h at (goes_on k _ _ m is reads refl (downlink_ids k sealed.form));
      setup = λ key x k h at octets is m reads. on_it x k _ m h at (goes_on k _ _ m is reads refl (setup_ids _ _ _ k key _));
      setup_with = λ key nas x k sealed told h by at octets is m reads.
          on_it x k _ m h at (goes_on k _ _ m is reads refl (setup_ids _ _ _ k key _));
      released = λ cause x k h at octets is m reads.
          on_it x k _ m h at (goes_on k _ _ m is reads refl (release_ids k.id k.enb_ue_id cause));
      refusal = λ r nas from told h octets is m reads. Refused r from (goes_on _ _ _ m is reads refl (downlink_ids _ nas));
      turned = λ r from h octets is m reads. Refused r from (goes_on _ _ _ m is reads refl (release_ids _ r.enb_ue_id _));
      indication = λ station message from may octets is m reads.
          Told from (subst IsIndication (same_message message m octets is reads) may);
      acknowledged = λ e c x from has h octets is m reads.
          Made (connection_of e) (switches e from) (goes_on (connection_of e) _ _ m is reads refl (acknowledge_ids _ _ _));
      page = λ t es x may given h k d lt octets is m reads.
          let p = a_page s.network s.profile.imsi t x.tai in
          Paged p.0 (sym (same_message _ m octets is reads) ∙ p.1);
    }

    pub all_are_associated : All (λ (a : Answer). (m : Pdu (List ℕ)) → decoded a.octets ≡ Ok m → IsAssociated s solo item a m)
        (solo_step s solo item).sent
    all_are_associated =
        (step_holds s solo item keeps_connects says_associated (record { known = begins solo.connection refl })).sent
