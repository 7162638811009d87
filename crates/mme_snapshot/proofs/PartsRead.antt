-- Parts in their order, one after another, restore to what is remembered of an MME.
use Rattle.std.proofs.Common.{◌≡◌, ℕ, ◌+◌, ◌-◌, ◌*◌, ◌%◌, ◌<◌, ◌≤◌, ◌∙◌, List, [], ◌∷◌, ◌++◌, length, map, Bool, true, false, cond, Option, Some, None, Result, Ok, refl, sym, ap, subst, arith, append_assoc}
use Rattle.std.specs.Prelude.{nat_lt, is_none, option_map, slice_get}
use Rattle.std.specs.List.{concat}
use Rattle.std.proofs.lemmas.Bool.Decides.{nat_tests}
use Rattle.std.proofs.lemmas.List.{append-nil, length-append, length-map, length_push, map_push}
use Rattle.sorted_list.specs.Ordered.{AllOver, Every, Rising}
use Rattle.sorted_list.specs.Sorted.{lowest_from}
use Rattle.per_streams.specs.Bits.{Place, end_at, pad, start}
use Rattle.per_streams.specs.OctetLaws.{end_again}
use Rattle.per_streams.specs.Each.{times}
use Rattle.per_bits.specs.Formats.{number}
use Rattle.per_bits.specs.Spelling.{SpellsWhole}
use Rattle.identity_slots.specs.declared.profile.Profile.{Profile}
use Rattle.nas_elements.specs.Digits.{imsi_of}
use Rattle.identity_slots.specs.declared.provision.ProvisionFault.{ProvisionFault}
use Rattle.identity_slots.specs.Provisioned.{add_fault}
use Rattle.emm_machine.specs.SubscriberView.{SubscriberView}
use Rattle.stranger_machine.specs.declared.table.Known.{Known}
use Rattle.stranger_machine.specs.Table.{known_id}
use Rattle.mme_types.specs.declared.stations.StationState.{StationState}
use Rattle.mme_core.specs.Kept.{IsKept, profile_of}
use Rattle.mme_core.specs.Remembered.{remembered, remembered_view}
use Rattle.mme_core.specs.World.{World}
use Rattle.snapshot_formats.specs.Formats.{saved_head, saved_station, saved_stranger, saved_subscriber}
use Rattle.mme_snapshot.specs.declared.fault.RestoreFault.{RestoreFault}
use Rattle.mme_snapshot.specs.declared.parts.Head.{Head}
use Rattle.mme_snapshot.specs.declared.part.Part.TheVariants as part
use Rattle.mme_snapshot.specs.Images.{hops_of, is_placed, is_timed, known_of, named_profile, solo_of, subscriber_of}
use Rattle.mme_snapshot.specs.Restored.{◌>=>◌, Built, as_more, head_at, known_or, part_at, profile_in, repeated, restored, restored_within, stations_at, stranger_at_place, subscriber_at_place, subscribers_at, version}
use Rattle.mme_snapshot.specs.Saved.{AreParts, AreProvisioned, IsFirst, IsNextStranger, IsStranger, IsSubscriber, IsSubscriberAt, PartsRestore, head_of, subscriber_from}
use Rattle.mme_snapshot.proofs.Anywhere.{stays_whole}
use Rattle.mme_snapshot.proofs.Fresh.{not_refused}
use Rattle.mme_snapshot.proofs.Known.{IsBelow}
use Rattle.mme_snapshot.proofs.Reading.{at_octets, from_start, read_first, stations_read}
use Rattle.mme_snapshot.proofs.Subscribers.{profiled}

-- ---- the end

abbrev Ending : Built × Place → Result World RestoreFault
Ending m = as_more (end_at m.1) >=> λ e. Ok m.0.world

no_padding : (at : ℕ) → at % 8 ≡ 0 → pad at ≡ []
no_padding at whole = let n : (8 - at % 8) % 8 ≡ 0 = omega (arith, whole) in rw n refl

ended : (b : Built) (at : ℕ) → at % 8 ≡ 0 → Ending (b, at_octets at []) ≡ Ok b.world
ended b at whole =
    let none = no_padding at whole in
    let here : end_at (at_octets at []) ≡ Ok (tt, record { at = at + length (pad at); rest = [] }) =
    ap (λ (l : List Bool). end_at (record { at = at; rest = l })) (sym none) ∙ end_again at in
    rw here refl

-- ---- strangers by rising id

passed_over : (least : ℕ) (y : Known) (o : Option Known) → y.id < least → cond (nat_lt y.id least) o (Some y) ≡ o
passed_over least y o lt = let t : nat_lt y.id least ≡ true = grind (arith, nat_tests) in rw t refl

pub none_from : (least : ℕ) (ks : List Known) → Every (IsBelow least) ks → lowest_from known_id least ks ≡ None
none_from least [] h = refl
none_from least (y ∷ ys) h = passed_over least y (lowest_from known_id least ys) h.0 ∙ none_from least ys h.1

pub first_after : (least : ℕ) (ks : List Known) (q : Known) (qs : List Known) → Every (IsBelow least) ks → least ≤ q.id
    → lowest_from known_id least (ks ++ q ∷ qs) ≡ Some q
first_after least [] q qs h le = let t : nat_lt q.id least ≡ false = grind (arith, nat_tests) in rw t refl
first_after least (y ∷ ys) q qs h le = passed_over least y (lowest_from known_id least (ys ++ q ∷ qs)) h.0 ∙ first_after least ys q qs h.1 le

pub still_below : (least id : ℕ) (ks : List Known) → least ≤ id → Every (IsBelow least) ks → Every (IsBelow id) ks
still_below least id [] le h = tt
still_below least id (y ∷ ys) le h = (let lt = h.0 in omega (arith, lt, le), still_below least id ys le h.1)

pub all_below : (id : ℕ) (q : Known) (ks : List Known) → q.id ≡ id → Every (IsBelow id) ks → Every (IsBelow (id + 1)) (ks ++ q ∷ [])
all_below id q [] is h = (omega (arith, is), tt)
all_below id q (y ∷ ys) is h = (let lt = h.0 in omega (arith, lt), all_below id q ys is h.1)

pub all_from : (id : ℕ) (qs : List Known) → AllOver known_id id qs → Every (λ (k : Known). id + 1 ≤ k.id) qs
all_from id [] h = tt
all_from id (q ∷ qs) h = (let lt = h.0 in omega (arith, lt), all_from id qs h.1)

pub all_from_zero : (qs : List Known) → Every (λ (k : Known). 0 ≤ k.id) qs
all_from_zero [] = tt
all_from_zero (q ∷ qs) = (omega arith, all_from_zero qs)

-- ---- subscribers

-- the MME with these subscribers
abbrev with_those : World → List SubscriberView → World
with_those w ys = record {
  sight = record { config = w.sight.config; clock = w.sight.clock; stations = w.sight.stations; profiles = map profile_of ys };
  strangers = w.strangers;
  subscribers = map remembered_view ys;
}

all_those : (w : World) (ys : List SubscriberView) → IsKept w → w.subscribers ≡ ys → with_those w ys ≡ remembered w
all_those w ys kept is =
    ap (λ (ps : List Profile). record {
      sight = record { config = w.sight.config; clock = w.sight.clock; stations = w.sight.stations; profiles = ps };
      strangers = w.strangers;
      subscribers = map remembered_view ys;
    }) (ap (map profile_of) (sym is) ∙ kept.profiles)
    ∙ ap (λ (xs : List SubscriberView). record { sight = w.sight; strangers = w.strangers; subscribers = map remembered_view xs }) (sym is)

got_next : (ys : List SubscriberView) (x : SubscriberView) (xs : List SubscriberView) → slice_get (ys ++ x ∷ xs) (length ys) ≡ Some x
got_next [] x xs = refl
got_next (y ∷ ys) x xs = got_next ys x xs

module _ (w : World) (kept : IsKept w) (provisioned : AreProvisioned w.sight.profiles) where
  same_connection : (slot : ℕ) (x : SubscriberView) (os : List ℕ) (h : IsSubscriber w slot x os) → (solo_of h.stored).connection ≡ x.solo.connection
  same_connection slot x os h = ap (λ (y : SubscriberView). y.solo.connection) h.is

  one_more : (ys xs : List SubscriberView) (x : SubscriberView) (os more : List ℕ) (at hops : ℕ) → w.subscribers ≡ ys ++ x ∷ xs
      → at % 8 ≡ 0 → (h : IsSubscriber w (length ys) x os)
      → subscriber_at_place None (record { world = with_those w ys; hops = hops }, at_octets at (os ++ more))
      ≡ Ok (record { world = with_those w (ys ++ x ∷ []); hops = hops + hops_of h.stored }, at_octets (at + 8 * length os) more)
  one_more ys xs x os more at hops is whole h =
      let v = h.stored in
      let p = x.setting.profile in
      let read = read_first saved_subscriber v os more at h.spelled whole in
      let others : w.sight.profiles ≡ map profile_of ys ++ p ∷ map profile_of xs =
      sym kept.profiles ∙ ap (map profile_of) is ∙ map_append profile_of ys (x ∷ xs) in
      let fresh : add_fault p (map profile_of ys) ≡ None =
      not_refused (map profile_of ys) p (map profile_of xs) (subst AreProvisioned others provisioned) in
      let count : length (map remembered_view ys) ≡ length ys = length-map ys remembered_view in
      let placed : is_placed w.strangers (length ys) (solo_of v).connection ≡ true =
      ap (is_placed w.strangers (length ys)) (same_connection (length ys) x os h) ∙ h.placed in
      let made : with_those w (ys ++ x ∷ []) ≡ record {
        sight = record { config = w.sight.config; clock = w.sight.clock; stations = w.sight.stations; profiles = map profile_of ys ++ p ∷ [] };
        strangers = w.strangers;
        subscribers = map remembered_view ys ++ subscriber_of w.sight.config.network (length ys) p v ∷ [];
      } = rw (map_push profile_of ys x, map_push remembered_view ys x, h.is) refl in
      let has : Some p ≡ option_map (λ imsi. named_profile imsi v) (imsi_of v.0) =
      sym (ap (λ (o : Option (List ℕ)). option_map (λ imsi. named_profile imsi v) o) h.imsi ∙ ap (λ (q : Profile). Some q) h.profile) in
      let told : profile_in (with_those w ys) v ≡ Ok p =
      profiled (with_those w ys) v p has ∙ ap (λ (o : Option ProvisionFault). known_or o (length (map remembered_view ys)) p) fresh in
      rw (read, told, h.fits, count, placed, made) refl
    where
      map_append : {A B : Type 0} (f : A → B) (fs bs : List A) → map f (fs ++ bs) ≡ map f fs ++ map f bs
      map_append f [] bs = refl
      map_append {B = B} f (a ∷ fs) bs = ap (λ (l : List B). f a ∷ l) (map_append f fs bs)

  is_next : (slot : ℕ) → slot < length w.subscribers → subscriber_from w slot ≡ Some (part.Subscriber slot)
  is_next slot lt = let t : nat_lt slot (length w.subscribers) ≡ true = grind (arith, nat_tests) in rw t refl

  is_last : (slot : ℕ) → length w.subscribers ≤ slot → subscriber_from w slot ≡ None
  is_last slot le = let t : nat_lt slot (length w.subscribers) ≡ false = grind (arith, nat_tests) in rw t refl

  none_left : (parts : List (List ℕ)) → AreParts w None parts → concat parts ≡ []
  none_left [] h = refl
  none_left (os ∷ more) h = absurd h

  -- so many subscribers more, from parts on
  abbrev Goes : List SubscriberView → Type 0
  Goes xs =
      (ys : List SubscriberView) (parts : List (List ℕ)) (at hops : ℕ) → w.subscribers ≡ ys ++ xs → at % 8 ≡ 0
      → AreParts w (subscriber_from w (length ys)) parts
      → (repeated (subscriber_at_place None) (length xs) (record { world = with_those w ys; hops = hops }, at_octets at (concat parts)) >=> Ending)
      ≡ Ok (remembered w)

  next_goes : (x : SubscriberView) (xs : List SubscriberView) → Goes xs → (ys : List SubscriberView) (parts : List (List ℕ)) (at hops : ℕ)
      → w.subscribers ≡ ys ++ x ∷ xs → at % 8 ≡ 0 → AreParts w (Some (part.Subscriber (length ys))) parts
      → (repeated (subscriber_at_place None) (length (x ∷ xs)) (record { world = with_those w ys; hops = hops }, at_octets at (concat parts)) >=> Ending)
      ≡ Ok (remembered w)
  unfolding repeated
  next_goes x xs go ys [] at hops is whole h = absurd (cc h)
  next_goes x xs go ys (os ∷ more) at hops is whole h =
      let there : slice_get w.subscribers (length ys) ≡ Some x = ap (λ (zs : List SubscriberView). slice_get zs (length ys)) is ∙ got_next ys x xs in
      let this : IsSubscriberAt w (length ys) (Some x) os h.0 = subst (λ o. IsSubscriberAt w (length ys) o os h.0) there h.1 in
      let pushed : w.subscribers ≡ (ys ++ x ∷ []) ++ xs = is ∙ sym (append_assoc ys (x ∷ []) xs) in
      let count : length ys + 1 ≡ length (ys ++ x ∷ []) = sym (length_push ys x) in
      let rest : AreParts w (subscriber_from w (length (ys ++ x ∷ []))) more =
      subst (λ o. AreParts w o more) (this.1 ∙ ap (subscriber_from w) count) h.2 in
      rw (one_more ys xs x os (concat more) at hops is whole this.0)
      (go (ys ++ x ∷ []) more (at + 8 * length os) (hops + hops_of this.0.stored) pushed (stays_whole at (length os) whole) rest)

  subscribers_go : (xs : List SubscriberView) → Goes xs
  unfolding repeated
  subscribers_go [] ys parts at hops is whole h =
      let all : w.subscribers ≡ ys = is ∙ append-nil ys in
      let n = ap length all in
      let none : concat parts ≡ [] = none_left parts (subst (λ o. AreParts w o parts) (is_last (length ys) (omega (arith, n))) h) in
      ap (λ (l : List ℕ). Ending (record { world = with_those w ys; hops = hops }, at_octets at l)) none
      ∙ ended (record { world = with_those w ys; hops = hops }) at whole ∙ ap (λ (v : World). Ok v) (all_those w ys kept all)
  subscribers_go (x ∷ xs) ys parts at hops is whole h =
      let n = ap length is in
      let lt : length ys < length w.subscribers = omega (arith, n, length-append ys (x ∷ xs)) in
      next_goes x xs (subscribers_go xs) ys parts at hops is whole (subst (λ o. AreParts w o parts) (is_next (length ys) lt) h)

  -- ---- strangers

  -- the MME with these strangers, and nobody
  abbrev with_strangers : List Known → World
  with_strangers ks = record {
    sight = record { config = w.sight.config; clock = w.sight.clock; stations = w.sight.stations; profiles = [] };
    strangers = ks;
    subscribers = [];
  }

  -- all that comes after the strangers
  abbrev Rest : Built × Place → Result World RestoreFault
  Rest k = subscribers_at None k.0 k.1 >=> λ m. Ending m

  abbrev IsFrom : ℕ → Known → Type 0
  IsFrom least k = least ≤ k.id

  one_stranger : (ks : List Known) (q : Known) (os more : List ℕ) (at : ℕ) → Every (IsBelow q.id) ks → at % 8 ≡ 0 → IsStranger q os
      → stranger_at_place (record { world = with_strangers ks; hops = 0 }, at_octets at (os ++ more))
      ≡ Ok (record { world = with_strangers (ks ++ q ∷ []); hops = 0 }, at_octets (at + 8 * length os) more)
  one_stranger ks q os more at below whole h =
      let v = h.stored in
      let read = read_first saved_stranger v os more at h.spelled whole in
      let id : v.0 ≡ q.id = ap known_id h.is in
      let none : is_none (lowest_from known_id v.0 ks) ≡ true = ap (λ n. is_none (lowest_from known_id n ks)) id ∙ ap (λ (o : Option Known). is_none o) (none_from q.id ks below) in
      let timed : is_timed (known_of v).stranger ≡ true = ap (λ (k : Known). is_timed k.stranger) h.is ∙ h.timed in
      rw (read, h.nobodys, none, timed)
      (ap (λ (k : Known). Ok (record { world = with_strangers (ks ++ k ∷ []); hops = 0 }, at_octets (at + 8 * length os) more)) h.is)

  abbrev StrangersGo : List Known → Type 0
  StrangersGo qs =
      (ks : List Known) (least : ℕ) (parts : List (List ℕ)) (at : ℕ) → w.strangers ≡ ks ++ qs → Every (IsBelow least) ks
      → Every (IsFrom least) qs → Rising known_id qs → at % 8 ≡ 0 → AreParts w (Some (part.Stranger least)) parts
      → (repeated stranger_at_place (length qs) (record { world = with_strangers ks; hops = 0 }, at_octets at (concat parts)) >=> Rest)
      ≡ Ok (remembered w)

  counted : (os more : List ℕ) (at : ℕ) (parts : List (List ℕ)) → concat parts ≡ more → at % 8 ≡ 0
      → SpellsWhole (number 0 32768) (length w.subscribers) os → AreParts w (subscriber_from w 0) parts
      → Rest (record { world = with_strangers w.strangers; hops = 0 }, at_octets at (os ++ more)) ≡ Ok (remembered w)
  counted os more at parts is whole spelled h =
      let read = read_first (number 0 32768) (length w.subscribers) os more at spelled whole in
      let go = subscribers_go w.subscribers [] parts (at + 8 * length os) 0 refl (stays_whole at (length os) whole) h in
      rw read (ap (λ (l : List ℕ). repeated (subscriber_at_place None) (length w.subscribers) (record { world = with_strangers w.strangers; hops = 0 }, at_octets (at + 8 * length os) l) >=> Ending) (sym is) ∙ go)

  strangers_end : (ks : List Known) (least : ℕ) (parts : List (List ℕ)) (at : ℕ) → w.strangers ≡ ks → Every (IsBelow least) ks → at % 8 ≡ 0
      → AreParts w (Some (part.Stranger least)) parts
      → Rest (record { world = with_strangers ks; hops = 0 }, at_octets at (concat parts)) ≡ Ok (remembered w)
  strangers_end ks least [] at is below whole h = absurd (cc h)
  strangers_end ks least (os ∷ more) at is below whole h =
      let none : lowest_from known_id least w.strangers ≡ None = ap (lowest_from known_id least) is ∙ none_from least ks below in
      let this : IsNextStranger w None os h.0 = subst (λ o. IsNextStranger w o os h.0) none h.1 in
      ap (λ (zs : List Known). Rest (record { world = with_strangers zs; hops = 0 }, at_octets at (os ++ concat more))) (sym is)
      ∙ counted os (concat more) at more refl whole this.0 (subst (λ o. AreParts w o more) this.1 h.2)

  strangers_next : (q : Known) (qs : List Known) → StrangersGo qs → (ks : List Known) (least : ℕ) (parts : List (List ℕ)) (at : ℕ)
      → w.strangers ≡ ks ++ q ∷ qs → Every (IsBelow least) ks → Every (IsFrom least) (q ∷ qs) → Rising known_id (q ∷ qs) → at % 8 ≡ 0
      → AreParts w (Some (part.Stranger least)) parts
      → (repeated stranger_at_place (length (q ∷ qs)) (record { world = with_strangers ks; hops = 0 }, at_octets at (concat parts)) >=> Rest)
      ≡ Ok (remembered w)
  unfolding repeated
  strangers_next q qs go ks least [] at is below over rising whole h = absurd (cc h)
  strangers_next q qs go ks least (os ∷ more) at is below over rising whole h =
      let there : lowest_from known_id least w.strangers ≡ Some q =
      ap (lowest_from known_id least) is ∙ first_after least ks q qs below over.0 in
      let this : IsNextStranger w (Some q) os h.0 = subst (λ o. IsNextStranger w o os h.0) there h.1 in
      let pushed : w.strangers ≡ (ks ++ q ∷ []) ++ qs = is ∙ sym (append_assoc ks (q ∷ []) qs) in
      let lower : Every (IsBelow q.id) ks = still_below least q.id ks over.0 below in
      rw (one_stranger ks q os (concat more) at lower whole this.0)
      (go (ks ++ q ∷ []) (q.id + 1) more (at + 8 * length os) pushed (all_below q.id q ks refl lower) (all_from q.id qs rising.0) rising.1
      (stays_whole at (length os) whole) (subst (λ o. AreParts w o more) this.1 h.2))

  strangers_go : (qs : List Known) → StrangersGo qs
  unfolding repeated
  strangers_go [] ks least parts at is below over rising whole h =
      strangers_end ks least parts at (is ∙ append-nil ks) below whole h
  strangers_go (q ∷ qs) ks least parts at is below over rising whole h =
      strangers_next q qs (strangers_go qs) ks least parts at is below over rising whole h

  -- ---- the whole

  first_goes : (os : List ℕ) (more : List (List ℕ)) → (h : IsFirst w os) → AreParts w (Some (part.Stranger 0)) more
      → restored (os ++ concat more) ≡ Ok (remembered w)
  unfolding restored_within
  first_goes os more h rest =
      let m = concat more in
      let d = h.count_octets ++ m in
      let c = h.station_octets ++ d in
      let b = h.head_octets ++ c in
      let text : os ++ m ≡ h.version_octets ++ b =
      ap (λ (l : List ℕ). l ++ m) h.parts ∙ append_assoc h.version_octets (h.head_octets ++ (h.station_octets ++ h.count_octets)) m
      ∙ ap (λ (l : List ℕ). h.version_octets ++ l)
      (append_assoc h.head_octets (h.station_octets ++ h.count_octets) m
      ∙ ap (λ (l : List ℕ). h.head_octets ++ l) (append_assoc h.station_octets h.count_octets m)) in
      let at1 = 0 + 8 * length h.version_octets in
      let at2 = at1 + 8 * length h.head_octets in
      let at3 = at2 + 8 * length h.station_octets in
      let at4 = at3 + 8 * length h.count_octets in
      let w1 = stays_whole 0 (length h.version_octets) refl in
      let w2 = stays_whole at1 (length h.head_octets) w1 in
      let w3 = stays_whole at2 (length h.station_octets) w2 in
      let w4 = stays_whole at3 (length h.count_octets) w3 in
      let begin : start (os ++ m) ≡ at_octets 0 (h.version_octets ++ b) = from_start (os ++ m) ∙ ap (at_octets 0) text in
      let versioned = read_first (number 0 255) version h.version_octets b 0 h.versioned refl in
      let headed = read_first saved_head h.head h.head_octets c at1 h.headed w1 in
      let stations = stations_read w.sight.stations h.station_octets d at2 h.stations w2 in
      let read : times (part_at saved_station) 128 (at_octets at2 c) ≡ Ok (stations.values, at_octets at3 d) =
      ap (λ n. times (part_at saved_station) n (at_octets at2 c)) (sym kept.stations) ∙ stations.read in
      let counted = read_first (number 0 4294967295) (length w.strangers) h.count_octets m at3 h.counted w3 in
      let go = strangers_go w.strangers [] 0 more at4 refl tt (all_from_zero w.strangers) kept.rising w4 rest in
      let head : head_at (at_octets at1 b) ≡ Ok (head_of w, at_octets at2 c) =
      rw (headed, h.label) (ap (λ (x : Head). Ok (x, at_octets at2 c)) h.is_head) in
      let states : stations_at (at_octets at2 c) ≡ Ok (w.sight.stations, at_octets at3 d) =
      rw read (ap (λ (ss : List StationState). Ok (ss, at_octets at3 d)) stations.states) in
      rw (begin, versioned, head, states, counted) go

pub parts_restore : PartsRestore
parts_restore w [] kept provisioned h = absurd (cc h)
parts_restore w (os ∷ more) kept provisioned h =
    first_goes w kept provisioned os more h.1.0 (subst (λ o. AreParts w o more) h.1.1 h.2)
