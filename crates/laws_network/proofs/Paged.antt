-- PAGING goes where the phone is: at a step, and at each event of an MME.
use Rattle.std.proofs.Common.{◌≡◌, ◌≤◌, ℕ, zero, suc, Bool, false, cond, inl, inr, List, [], ◌∷◌, length, max, All, AllPairs, filter, Option, Some, None, Ok, refl, sym, ◌∙◌, ap, subst, arith}
use Rattle.std.specs.Prelude.{slice_get}
use Rattle.std.proofs.lemmas.List.Elements.{All-head, All-nil, All-tail, All-weaker}
use Rattle.std.proofs.lemmas.List.Kept.{AllPairs-filter}
use Rattle.std.proofs.lemmas.Option.{same_Some}
use Rattle.s1ap_elements.specs.declared.phone.Tai.{Tai}
use Rattle.s1ap_pdus.specs.declared.pdu.Paging.{Paging}
use Rattle.s1ap_pdus.specs.declared.pdu.Pdu.{Pdu}
use Rattle.s1ap_pdus.specs.declared.pdu.Pdu.TheVariants as pdu
use Rattle.s1ap_pdus.specs.Pdus.{decoded, encoded}
use Rattle.sorted_list.specs.Ordered.{Every}
use Rattle.mme_types.specs.declared.octets.Answer.{Answer}
use Rattle.mme_types.specs.declared.stations.StationState.{StationState}
use Rattle.mme_types.specs.Events as events
use Rattle.mme_types.specs.Events.{Item}
use Rattle.mme_signalling.specs.Pdus.{paging}
use Rattle.emm_state.specs.declared.setting.Setting.{Setting}
use Rattle.emm_state.specs.declared.solo.Repeat.{Repeat}
use Rattle.emm_state.specs.declared.solo.Repeat.TheVariants as repeats
use Rattle.emm_state.specs.declared.solo.Solo.{Solo}
use Rattle.emm_machine.specs.Steps.{solo_step}
use Rattle.emm_machine.specs.SubscriberView.{SubscriberView}
use Rattle.mme_routing.specs.Destinations.{Destination, item_at}
use Rattle.mme_core.specs.declared.event.Event.{Event}
use Rattle.mme_core.specs.declared.event.StepFault.{StepFault}
use Rattle.mme_core.specs.World.{World, event_fault, fresh_world, happens, items_of, strangers_in, unless, world_run}
use Rattle.laws_network.specs.Received.{EntriesAreInRange}
use Rattle.laws_mme.specs.Holds.{Any, MayPage, Says, Sends, sent_holds, step_holds}
use Rattle.laws_mme.specs.Work.{SendsAtMost, paged_again}
use Rattle.laws_network.specs.Placed.{AllPlaced, BeginsPlaced, IsPagedThere, IsPlaced, IsViewPlaced, Listens, StaysPlaced}
use Rattle.laws_network.proofs.Routing.{happens_so}
use Rattle.laws_network.proofs.PlacedSteps.{ComesFromReady, keeps_placed, may_page, step_gone}
use Rattle.laws_network.proofs.PlacedWorlds.{item_from}
use Rattle.laws_network.specs.Paged.{GoesBefore, IsPageFor, PagedWhereTheyAre, PagesRightly, PagesThere, has_page}
use Rattle.laws_network.proofs.PageMessages.{never_read, no_acknowledge, no_downlink, no_indication, no_release, no_setup, reads_none, same_message, says}
use Rattle.laws_network.proofs.PagedOnce.{data_once, short_once, tick_once}

-- nothing passes a test that none passes
none_passes : {A : Type 0} (test : A → Bool) (xs : List A) → All (λ x. test x ≡ false) xs → filter test xs ≡ []
none_passes test [] none = refl
none_passes test (x ∷ xs) none =
    ap (λ (b : Bool). cond b (x ∷ filter test xs) (filter test xs)) (All-head (λ y. test y ≡ false) x xs none)
    ∙ none_passes test xs (All-tail (λ y. test y ≡ false) x xs none)

-- the phone is paged by what stood before the step
as_before : (solo x : Solo) (item : Item) (es : List ℕ) → MayPage solo x item es → (x.tai ≡ solo.tai) × (x.tmsi ≡ solo.tmsi)
as_before solo x item es may = elim may [
  | inl first ↦ (ap (λ (y : Solo). y.tai) first.3, ap (λ (y : Solo). y.tmsi) first.3)
  | inr again ↦ (again.1.tai, again.1.tmsi)
]

module _ (written : (m : Pdu (List ℕ)) (os : List ℕ) → encoded m ≡ Some os → decoded os ≡ Ok m) where
  -- ---- at a step

  module _ (stations : List StationState) (s : Setting) (solo : Solo) (item : Item) (comes : ComesFromReady stations item) where
    page_for : (x : Solo) (t station : ℕ) (octets : List ℕ) (m : Paging (List ℕ)) → x.tai ≡ solo.tai → x.tmsi ≡ solo.tmsi
        → x.tmsi ≡ Some t → Listens stations x.tai station → encoded (paging s.network s.profile.imsi t x.tai) ≡ Some octets
        → decoded octets ≡ Ok (pdu.Paging m) → IsPageFor stations s solo station m
    page_for x t station octets m tai tmsi given listens is reads =
        let parts = says s.network s.profile.imsi t x.tai m (same_message written _ (pdu.Paging m) octets is reads) in
        record {
          listens = subst (λ (area : Tai). Listens stations area station) tai listens;
          area = subst (λ (area : Tai). m.tai_list ≡ record { value = record { tai = area } } ∷ []) tai parts.0;
          tmsi = t;
          given = sym tmsi ∙ given;
          name = parts.1;
        }

    says_there : Says s solo item (IsPlaced stations) (PagesThere stations s solo)
    says_there = record {
      plain = λ nas x k may told h at octets is m reads. never_read written _ octets m is (no_downlink k nas) reads;
      protected = λ header nas x k sealed may told h by at octets is m reads.
          never_read written _ octets m is (no_downlink k sealed.form) reads;
      setup = λ key x k h at octets is m reads. never_read written _ octets m is (no_setup _ _ _ k key _) reads;
      setup_with = λ key nas x k sealed told h by at octets is m reads. never_read written _ octets m is (no_setup _ _ _ k key _) reads;
      released = λ cause x k h at octets is m reads. never_read written _ octets m is (no_release k.id k.enb_ue_id cause) reads;
      refusal = λ e nas from told h octets is m reads. never_read written _ octets m is (no_downlink _ nas) reads;
      turned = λ e from h octets is m reads. never_read written _ octets m is (no_release _ e.enb_ue_id _) reads;
      indication = λ station message from may octets is m reads. never_read written message octets m is (no_indication message may) reads;
      acknowledged = λ e c x from has h octets is m reads. never_read written _ octets m is (no_acknowledge _ _ _) reads;
      page = λ t es x may given h.
          let before = as_before solo x item es may in
          All-weaker (Listens stations x.tai)
          (λ e. Sends (PagesThere stations s solo) e (paging s.network s.profile.imsi t x.tai) None)
          (λ e listens octets is m reads. page_for x t e octets m before.0 before.1 given listens is reads)
          es (may_page stations s solo item comes x es may h).all;
    }

    all_there : IsPlaced stations solo → All (PagesThere stations s solo) (solo_step s solo item).sent
    all_there h = (step_holds s solo item (keeps_placed stations s solo item comes) says_there h).sent

  -- an item at which nobody is paged
  module _ (s : Setting) (solo : Solo) (item : Item) (no_data : (now : List StationState) → item ≡ events.Data now → ⊥)
      (no_tick : item ≡ events.Tick → ⊥) where
    says_none : Says s solo item Any (λ (a : Answer). has_page a ≡ false)
    says_none = record {
      plain = λ nas x k may told h at octets is. reads_none written _ octets is (no_downlink k nas);
      protected = λ header nas x k sealed may told h by at octets is. reads_none written _ octets is (no_downlink k sealed.form);
      setup = λ key x k h at octets is. reads_none written _ octets is (no_setup _ _ _ k key _);
      setup_with = λ key nas x k sealed told h by at octets is. reads_none written _ octets is (no_setup _ _ _ k key _);
      released = λ cause x k h at octets is. reads_none written _ octets is (no_release k.id k.enb_ue_id cause);
      refusal = λ e nas from told h octets is. reads_none written _ octets is (no_downlink _ nas);
      turned = λ e from h octets is. reads_none written _ octets is (no_release _ e.enb_ue_id _);
      indication = λ station message from may octets is. reads_none written message octets is (no_indication message may);
      acknowledged = λ e c x from has h octets is. reads_none written _ octets is (no_acknowledge _ _ _);
      page = λ t es x may given h. elim may [
        | inl first ↦ absurd (no_data first.0 first.1)
        | inr again ↦ absurd (no_tick again.0)
      ];
    }

    none_once : AllPairs GoesBefore (filter has_page (solo_step s solo item).sent)
    none_once =
        subst (AllPairs GoesBefore) (sym (none_passes has_page (solo_step s solo item).sent (sent_holds s solo item says_none)))
        (short_once [] (omega arith))

  -- ---- to each station once

  module _ (bounded : SendsAtMost) (stations : List StationState) (s : Setting) (solo : Solo) where
    tick_by : (o : Option Repeat) → solo.repeat ≡ o → IsPagedThere stations solo.tai o → AllPairs GoesBefore (solo_step s solo events.Tick).sent
    tick_by None is h =
        short_once _ (subst (λ (o : Option Repeat). length (solo_step s solo events.Tick).sent ≤ max 1 (paged_again o)) is (bounded s solo events.Tick))
    tick_by (Some (repeats.Nas protection nas)) is h =
        short_once _ (subst (λ (o : Option Repeat). length (solo_step s solo events.Tick).sent ≤ max 1 (paged_again o)) is (bounded s solo events.Tick))
    tick_by (Some (repeats.Paging es)) is h = tick_once s solo es is h.once

    once : (item : Item) → IsPlaced stations solo → AllPairs GoesBefore (filter has_page (solo_step s solo item).sent)
    once (events.Data now) h = AllPairs-filter GoesBefore has_page _ (data_once s solo now)
    once events.Tick h = AllPairs-filter GoesBefore has_page _ (tick_by solo.repeat refl h.paged)
    once events.Nothing h = none_once s solo _ (λ now is. absurd (cc is)) (λ is. absurd (cc is))
    once (events.Initial m) h = none_once s solo _ (λ now is. absurd (cc is)) (λ is. absurd (cc is))
    once (events.Claim id m) h = none_once s solo _ (λ now is. absurd (cc is)) (λ is. absurd (cc is))
    once (events.Message m) h = none_once s solo _ (λ now is. absurd (cc is)) (λ is. absurd (cc is))
    once (events.Displaced id) h = none_once s solo _ (λ now is. absurd (cc is)) (λ is. absurd (cc is))
    once (events.StationGone e) h = none_once s solo _ (λ now is. absurd (cc is)) (λ is. absurd (cc is))
    once (events.ConnectionsGone e items) h = none_once s solo _ (λ now is. absurd (cc is)) (λ is. absurd (cc is))
    once events.Cancel h = none_once s solo _ (λ now is. absurd (cc is)) (λ is. absurd (cc is))

    rightly : (item : Item) → ComesFromReady stations item → IsPlaced stations solo
        → PagesRightly stations s solo (solo_step s solo item).sent
    rightly item comes h = record { there = all_there stations s solo item comes h; once = once item h }

    silent : (sent : List Answer) → sent ≡ [] → PagesRightly stations s solo sent
    silent sent none =
        subst (PagesRightly stations s solo) (sym none)
        (record { there = All-nil (PagesThere stations s solo); once = short_once [] (omega arith) })

  -- ---- at an event

  placed_at : (stations : List StationState) (ws : List SubscriberView) (slot : ℕ) (x : SubscriberView)
      → Every (IsViewPlaced stations) ws → slice_get ws slot ≡ Some x → IsPlaced stations x.solo
  placed_at stations [] slot x each at = absurd (cc at)
  placed_at stations (w ∷ ws) zero x each at = subst (IsViewPlaced stations) (same_Some w x at) each.0
  placed_at stations (w ∷ ws) (suc slot) x each at = placed_at stations ws slot x each.1 at

  module _ (bounded : SendsAtMost) (entries : EntriesAreInRange) where
    event_pages : (w : World) (event : Event) (slot : ℕ) (x : SubscriberView) (o : Option StepFault) → event_fault w.sight event ≡ o
        → AllPlaced w → IsPlaced w.sight.stations x.solo
        → PagesRightly w.sight.stations x.setting x.solo
        (solo_step x.setting x.solo (unless o events.Nothing (items_of w.sight (strangers_in w) event slot))).sent
    event_pages w event slot x (Some fault) is all placed = rightly bounded w.sight.stations x.setting x.solo events.Nothing tt placed
    event_pages w event slot x None is all placed = elim (happens_so entries w.sight event is).moves [
      | inl stay ↦
          rightly bounded w.sight.stations x.setting x.solo _
          (item_from w.sight.stations w.sight.profiles (happens w.sight event).destination w.strangers slot stay.1 all.strangers) placed
      | inr gone ↦
          subst
          (λ (d : Destination). PagesRightly w.sight.stations x.setting x.solo
          (solo_step x.setting x.solo (item_at d w.sight.profiles (strangers_in w) slot)).sent) (sym gone.1)
          (silent bounded w.sight.stations x.setting x.solo _ (step_gone w.sight.stations x.setting x.solo gone.0).silent)
    ]

    pub paged_where_they_are : BeginsPlaced → StaysPlaced → PagedWhereTheyAre
    paged_where_they_are begins stays config p seen next slot x at =
        let w = world_run (fresh_world config p) seen in
        let all = stays (fresh_world config p) seen (begins config p) in
        event_pages w next slot x (event_fault w.sight next) refl all (placed_at w.sight.stations w.subscribers slot x all.subscribers at)
