-- What of an output is an owner's.
use Rattle.std.proofs.Common.{◌≡◌, ◌≢◌, ℕ, suc, zero, ◌+◌, ◌<◌, List, [], ◌∷◌, ◌++◌, map, Bool, true, false, Option, Some, None, refl, sym, ◌∙◌, ap, arith, inl, inr}
use Rattle.std.specs.Prelude.{◌==◌, filter, if◌then◌else◌, slice_get}
use Rattle.std.proofs.lemmas.Bool.{cases_eq, eq-eqb, ne_eqb}
use Rattle.std.proofs.lemmas.List.{append-nil}
use Rattle.identity_slots.specs.declared.profile.Profile.{Profile}
use Rattle.sorted_list.specs.Ordered.{AllOver, Rising}
use Rattle.mme_types.specs.declared.octets.Answer.{Answer}
use Rattle.mme_types.specs.Events.{Item}
use Rattle.emm_machine.specs.SubscriberView.{SubscriberView}
use Rattle.stranger_machine.specs.declared.table.Known.{Known}
use Rattle.stranger_machine.specs.declared.turn.Notice.{Notice}
use Rattle.stranger_machine.specs.Machine.{Input, Begins, Nothing, Receives, notes, stranger_step}
use Rattle.stranger_machine.specs.Table.{known_id, stranger_at}
use Rattle.mme_routing.specs.Destinations.{Destination, input_for}
use Rattle.mme_routing.specs.Destinations as to
use Rattle.stranger_machine.specs.Laws.{at_nothing, at_notice, closed_notes}
use Rattle.mme_answering.specs.declared.out.Out.{Out}
use Rattle.mme_answering.specs.declared.out.Owner.{Owner}
use Rattle.mme_answering.specs.declared.out.Owner.TheVariants.{Station, Stranger, Subscriber}
use Rattle.mme_core.specs.Projection.{answer_told, is_slot, is_station, is_stranger, own_told, owned_by, told_of}
use Rattle.mme_core.specs.World.{each_known, each_sent, input_sent, owner_out, slot_out, station_sent, stranger_out, strangers_sent, subscriber_step}

append_if : (b : Bool) (o : Out) (xs ys zs : List Out) → map told_of zs ≡ map told_of xs ++ map told_of ys
    → map told_of (if b then o ∷ zs else zs) ≡ map told_of (if b then o ∷ xs else xs) ++ map told_of ys
append_if true o xs ys zs h = ap (λ r. told_of o ∷ r) h
append_if false o xs ys zs h = h

-- of two outputs in a row
pub owned_append : (own : Owner → Bool) (xs ys : List Out) → owned_by own (xs ++ ys) ≡ owned_by own xs ++ owned_by own ys
owned_append own [] ys = refl
owned_append own (x ∷ xs) ys =
    append_if (own x.owner) x (filter (λ (o : Out). own o.owner) xs) (filter (λ (o : Out). own o.owner) ys)
    (filter (λ (o : Out). own o.owner) (xs ++ ys)) (owned_append own xs ys)

-- of one owner: all or nothing
pub owned_all : (own : Owner → Bool) (owner : Owner) (sent : List Answer) → own owner ≡ true
    → owned_by own (map (owner_out owner) sent) ≡ map answer_told sent
owned_all own owner [] h = refl
owned_all own owner (a ∷ sent) h =
    let rest = filter (λ (o : Out). own o.owner) (map (owner_out owner) sent) in
    ap (λ b. map told_of (if b then owner_out owner a ∷ rest else rest)) h
    ∙ ap (λ r. answer_told a ∷ r) (owned_all own owner sent h)

pub owned_none : (own : Owner → Bool) (owner : Owner) (sent : List Answer) → own owner ≡ false
    → owned_by own (map (owner_out owner) sent) ≡ []
owned_none own owner [] h = refl
owned_none own owner (a ∷ sent) h =
    let rest = filter (λ (o : Out). own o.owner) (map (owner_out owner) sent) in
    ap (λ b. map told_of (if b then owner_out owner a ∷ rest else rest)) h ∙ owned_none own owner sent h

-- of two parts, where the first or the second has nothing
pub owned_first : (own : Owner → Bool) (xs ys : List Out) → owned_by own ys ≡ [] → owned_by own (xs ++ ys) ≡ owned_by own xs
owned_first own xs ys h = owned_append own xs ys ∙ ap (λ r. owned_by own xs ++ r) h ∙ append-nil _

pub owned_second : (own : Owner → Bool) (xs ys : List Out) → owned_by own xs ≡ [] → owned_by own (xs ++ ys) ≡ owned_by own ys
owned_second own xs ys h = owned_append own xs ys ∙ ap (λ r. r ++ owned_by own ys) h

-- ---- parts that have nothing of others

pub no_station : (own : Owner → Bool) (o : Option ℕ) (sent : List Answer) → ((e : ℕ) → own (Station e) ≡ false)
    → owned_by own (station_sent o sent) ≡ []
no_station own None sent h = refl
no_station own (Some e) sent h = owned_none own (Station e) sent (h e)

no_known : (own : Owner → Bool) (notice : Notice) (ks : List Known) → ((id : ℕ) → own (Stranger id) ≡ false)
    → owned_by own (each_known notice ks) ≡ []
no_known own notice [] h = refl
no_known own notice (k ∷ ks) h =
    owned_second own (map (stranger_out k.id) (notes k.id (Some k.stranger) notice).sent) (each_known notice ks)
    (owned_none own (Stranger k.id) (notes k.id (Some k.stranger) notice).sent (h k.id))
    ∙ no_known own notice ks h

no_input : (own : Owner → Bool) (ps : List Profile) (id : ℕ) (input : Input) (ks : List Known) → own (Stranger id) ≡ false
    → owned_by own (input_sent ps id input ks) ≡ []
no_input own ps id input ks h = owned_none own (Stranger id) (stranger_step ps id (stranger_at id ks) input).sent h

pub no_stranger : (own : Owner → Bool) (ps : List Profile) (d : Destination) (ks : List Known)
    → ((id : ℕ) → own (Stranger id) ≡ false) → owned_by own (strangers_sent ps d ks) ≡ []
no_stranger own ps to.Nobody ks h = refl
no_stranger own ps (to.Subscriber n item) ks h = refl
no_stranger own ps (to.Beginner id m) ks h = no_input own ps id (Begins m) ks (h id)
no_stranger own ps (to.Stranger m) ks h = no_input own ps m.mme_ue_id (Receives m) ks (h m.mme_ue_id)
no_stranger own ps (to.Everyone notice) ks h = no_known own notice ks h

pub no_slot : (own : Owner → Bool) (items : ℕ → Item) (n : ℕ) (ws : List SubscriberView) → ((m : ℕ) → own (Subscriber m) ≡ false)
    → owned_by own (each_sent items n ws) ≡ []
no_slot own items n [] h = refl
no_slot own items n (w ∷ ws) h =
    owned_second own (map (slot_out n) (subscriber_step w (items n)).sent) (each_sent items (n + 1) ws)
    (owned_none own (Subscriber n) (subscriber_step w (items n)).sent (h n))
    ∙ no_slot own items (n + 1) ws h

-- ---- a slot's

own_slot : (slot n : ℕ) → n ≡ slot → is_slot slot (Subscriber n) ≡ true
own_slot slot n e = eq-eqb n slot e

other_slot : (slot n : ℕ) → n ≢ slot → is_slot slot (Subscriber n) ≡ false
other_slot slot n e = ne_eqb n slot e

-- the slots from n on send nothing for a slot below n
later_slots : (slot n : ℕ) (items : ℕ → Item) (ws : List SubscriberView) → slot < n
    → owned_by (is_slot slot) (each_sent items n ws) ≡ []
later_slots slot n items [] lt = refl
later_slots slot n items (w ∷ ws) lt =
    owned_second (is_slot slot) (map (slot_out n) (subscriber_step w (items n)).sent) (each_sent items (n + 1) ws)
    (owned_none (is_slot slot) (Subscriber n) (subscriber_step w (items n)).sent (other_slot slot n (λ same. omega (arith, same))))
    ∙ later_slots slot (n + 1) items ws (omega arith)

-- what is sent for a slot is what its machine sends
pub owned_slot : (slot n k : ℕ) (items : ℕ → Item) (ws : List SubscriberView) (w : SubscriberView) → slot ≡ n + k
    → slice_get ws k ≡ Some w
    → owned_by (is_slot slot) (each_sent items n ws) ≡ map answer_told (subscriber_step w (items slot)).sent
owned_slot slot n k items [] w e h = cc
owned_slot slot n zero items (x ∷ ws) w e h =
    let here : x ≡ w = cc in
    let at : n ≡ slot = omega (arith, e) in
    owned_first (is_slot slot) (map (slot_out n) (subscriber_step x (items n)).sent) (each_sent items (n + 1) ws)
    (later_slots slot (n + 1) items ws (omega (arith, e)))
    ∙ owned_all (is_slot slot) (Subscriber n) (subscriber_step x (items n)).sent (own_slot slot n at)
    ∙ ap (λ y. map answer_told (subscriber_step y (items n)).sent) here
    ∙ ap (λ m. map answer_told (subscriber_step w (items m)).sent) at
owned_slot slot n (suc k) items (x ∷ ws) w e h =
    owned_second (is_slot slot) (map (slot_out n) (subscriber_step x (items n)).sent) (each_sent items (n + 1) ws)
    (owned_none (is_slot slot) (Subscriber n) (subscriber_step x (items n)).sent (other_slot slot n (λ same. omega (arith, e, same))))
    ∙ owned_slot slot (n + 1) k items ws w (omega (arith, e)) h

-- and of a slot that isn't provisioned nothing
pub owned_absent : (slot n k : ℕ) (items : ℕ → Item) (ws : List SubscriberView) → slot ≡ n + k → slice_get ws k ≡ None
    → owned_by (is_slot slot) (each_sent items n ws) ≡ []
owned_absent slot n k items [] e h = refl
owned_absent slot n zero items (x ∷ ws) e h = absurd cc
owned_absent slot n (suc k) items (x ∷ ws) e h =
    owned_second (is_slot slot) (map (slot_out n) (subscriber_step x (items n)).sent) (each_sent items (n + 1) ws)
    (owned_none (is_slot slot) (Subscriber n) (subscriber_step x (items n)).sent (other_slot slot n (λ same. omega (arith, e, same))))
    ∙ owned_absent slot (n + 1) k items ws (omega (arith, e)) h

-- ---- a stranger's

own_stranger : (id n : ℕ) → n ≡ id → is_stranger id (Stranger n) ≡ true
own_stranger id n e = eq-eqb n id e

other_stranger : (id n : ℕ) → n ≢ id → is_stranger id (Stranger n) ≡ false
other_stranger id n e = ne_eqb n id e

-- those with greater ids send nothing for it
later_known : (id : ℕ) (notice : Notice) (ks : List Known) → AllOver known_id id ks
    → owned_by (is_stranger id) (each_known notice ks) ≡ []
later_known id notice [] h = refl
later_known id notice (k ∷ ks) h =
    owned_second (is_stranger id) (map (stranger_out k.id) (notes k.id (Some k.stranger) notice).sent) (each_known notice ks)
    (owned_none (is_stranger id) (Stranger k.id) (notes k.id (Some k.stranger) notice).sent (other_stranger id k.id (λ same. omega (arith, same, h.0))))
    ∙ later_known id notice ks h.1

known_by : (id : ℕ) (notice : Notice) (k : Known) (ks : List Known) (b : Bool) → (k.id == id) ≡ b → Rising known_id (k ∷ ks)
    → owned_by (is_stranger id) (each_known notice ks) ≡ map answer_told (notes id (stranger_at id ks) notice).sent
    → owned_by (is_stranger id) (each_known notice (k ∷ ks)) ≡ map answer_told (notes id (stranger_at id (k ∷ ks)) notice).sent
known_by id notice k ks b is h ih = elim (cases_eq k.id id) [
  | inl same ↦
      let own = (notes k.id (Some k.stranger) notice).sent in
      let there : stranger_at id (k ∷ ks) ≡ Some k.stranger = rw (eq-eqb k.id id same) refl in
      owned_first (is_stranger id) (map (stranger_out k.id) own) (each_known notice ks)
      (ap (λ n. owned_by (is_stranger n) (each_known notice ks)) (sym same) ∙ later_known k.id notice ks h.0)
      ∙ owned_all (is_stranger id) (Stranger k.id) own (own_stranger id k.id same)
      ∙ ap (λ n. map answer_told (notes n (Some k.stranger) notice).sent) same
      ∙ ap (λ o. map answer_told (notes id o notice).sent) (sym there)
  | inr other ↦
      let own = (notes k.id (Some k.stranger) notice).sent in
      let past : stranger_at id (k ∷ ks) ≡ stranger_at id ks = rw (ne_eqb k.id id other) refl in
      owned_second (is_stranger id) (map (stranger_out k.id) own) (each_known notice ks)
      (owned_none (is_stranger id) (Stranger k.id) own (other_stranger id k.id other))
      ∙ ih ∙ ap (λ o. map answer_told (notes id o notice).sent) (sym past)
]

owned_known : (id : ℕ) (notice : Notice) (ks : List Known) → Rising known_id ks
    → owned_by (is_stranger id) (each_known notice ks) ≡ map answer_told (notes id (stranger_at id ks) notice).sent
owned_known id notice [] h = sym (ap (λ t. map answer_told t.sent) (closed_notes id notice))
owned_known id notice (k ∷ ks) h = known_by id notice k ks (k.id == id) refl h (owned_known id notice ks h.1)

owned_one : (ps : List Profile) (id n : ℕ) (input : Input) (ks : List Known)
    → owned_by (is_stranger id) (input_sent ps n input ks)
    ≡ map answer_told (stranger_step ps id (stranger_at id ks) (if n == id then input else Nothing)).sent
owned_one ps id n input ks = elim (cases_eq n id) [
  | inl same ↦
      owned_all (is_stranger id) (Stranger n) (stranger_step ps n (stranger_at n ks) input).sent (own_stranger id n same)
      ∙ ap (λ m. map answer_told (stranger_step ps m (stranger_at m ks) input).sent) same
      ∙ ap (λ b. map answer_told (stranger_step ps id (stranger_at id ks) (if b then input else Nothing)).sent)
      (sym (eq-eqb n id same))
  | inr other ↦
      owned_none (is_stranger id) (Stranger n) (stranger_step ps n (stranger_at n ks) input).sent (other_stranger id n other)
      ∙ sym (ap (λ t. map answer_told t.sent) (at_nothing ps id (stranger_at id ks)))
      ∙ ap (λ b. map answer_told (stranger_step ps id (stranger_at id ks) (if b then input else Nothing)).sent)
      (sym (ne_eqb n id other))
]

-- what is sent for a stranger is what its machine sends
pub owned_stranger : (ps : List Profile) (id : ℕ) (d : Destination) (ks : List Known) → Rising known_id ks
    → owned_by (is_stranger id) (strangers_sent ps d ks)
    ≡ map answer_told (stranger_step ps id (stranger_at id ks) (input_for d id)).sent
owned_stranger ps id to.Nobody ks h = sym (ap (λ t. map answer_told t.sent) (at_nothing ps id (stranger_at id ks)))
owned_stranger ps id (to.Subscriber n item) ks h = sym (ap (λ t. map answer_told t.sent) (at_nothing ps id (stranger_at id ks)))
owned_stranger ps id (to.Beginner n m) ks h = owned_one ps id n (Begins m) ks
owned_stranger ps id (to.Stranger m) ks h = owned_one ps id m.mme_ue_id (Receives m) ks
owned_stranger ps id (to.Everyone notice) ks h =
    owned_known id notice ks h ∙ sym (ap (λ t. map answer_told t.sent) (at_notice ps id (stranger_at id ks) notice))

-- ---- a station's

pub owned_station : (e : ℕ) (o : Option ℕ) (sent : List Answer) → owned_by (is_station e) (station_sent o sent) ≡ own_told o e sent
owned_station e None sent = refl
owned_station e (Some n) sent = elim (cases_eq n e) [
  | inl same ↦ owned_all (is_station e) (Station n) sent (eq-eqb n e same) ∙ ap (λ b. if b then map answer_told sent else []) (sym (eq-eqb n e same))
  | inr other ↦ owned_none (is_station e) (Station n) sent (ne_eqb n e other) ∙ ap (λ b. if b then map answer_told sent else []) (sym (ne_eqb n e other))
]
