-- The owners of every output stand in their order.
use Rattle.std.proofs.Common.{◌≡◌, ℕ, ◌+◌, ◌<◌, ◌≤◌, List, [], ◌∷◌, ◌++◌, map, Option, Some, None, Result, Ok, Err, sym, subst, arith}
use Rattle.mme_types.specs.declared.octets.Answer.{Answer}
use Rattle.mme_types.specs.Events.{Item}
use Rattle.emm_machine.specs.SubscriberView.{SubscriberView}
use Rattle.identity_slots.specs.declared.profile.Profile.{Profile}
use Rattle.sorted_list.specs.Ordered.{AllOver, Rising}
use Rattle.stranger_machine.specs.declared.table.Known.{Known}
use Rattle.stranger_machine.specs.declared.turn.Notice.{Notice}
use Rattle.stranger_machine.specs.Machine.{Input, Begins, Receives, notes, stranger_step}
use Rattle.stranger_machine.specs.Table.{known_id, stranger_at}
use Rattle.mme_routing.specs.Destinations.{Destination}
use Rattle.mme_routing.specs.Destinations as to
use Rattle.mme_core.proofs.Turns.{rising_once}
use Rattle.mme_core.specs.declared.event.Event.{Event}
use Rattle.mme_core.specs.declared.event.StepFault.{StepFault}
use Rattle.mme_core.specs.declared.event.StepFault.TheVariants.{NotUp, AlreadyUp, ClockSpent, NoMemory, UnknownImsi}
use Rattle.mme_answering.specs.declared.out.Out.{Out}
use Rattle.mme_answering.specs.declared.out.Owner.{Owner}
use Rattle.mme_answering.specs.declared.out.Owner.TheVariants.{Station, Stranger, Subscriber}
use Rattle.mme_core.specs.Projection.{AllFrom, AllInOrder, AreInOrder, IsInOrder}
use Rattle.mme_core.specs.World.{World, each_known, each_sent, event_fault, replies_given, happens, input_sent, items_of, outputs, owner_out, replies, reply_of, slot_out, station_of, station_sent, stranger_out, strangers_in, strangers_sent, subscriber_step, world_after}

reaches_itself : (o : Owner) → IsInOrder o o
reaches_itself (Station a) = omega arith
reaches_itself (Stranger a) = omega arith
reaches_itself (Subscriber a) = omega arith

from_append : (p : Owner) (xs ys : List Out) → AllFrom p xs → AllFrom p ys → AllFrom p (xs ++ ys)
from_append p [] ys h k = k
from_append p (x ∷ xs) ys h k = (h.0, from_append p xs ys h.1 k)

-- every owner of the first list reaches all of the second
abbrev AllBefore : List Out → List Out → Type 0
AllBefore [] ys = Unit {0}
AllBefore (x ∷ xs) ys = AllFrom x.owner ys × AllBefore xs ys

order_append : (xs ys : List Out) → AreInOrder xs → AreInOrder ys → AllBefore xs ys → AreInOrder (xs ++ ys)
order_append [] ys h k b = k
order_append (x ∷ xs) ys h k b = (from_append x.owner xs ys h.0 b.0, order_append xs ys h.1 k b.1)

before_append : (xs ys zs : List Out) → AllBefore xs zs → AllBefore ys zs → AllBefore (xs ++ ys) zs
before_append [] ys zs h k = k
before_append (x ∷ xs) ys zs h k = (h.0, before_append xs ys zs h.1 k)

-- ---- of one owner

from_own : (p o : Owner) (sent : List Answer) → IsInOrder p o → AllFrom p (map (owner_out o) sent)
from_own p o [] r = tt
from_own p o (a ∷ sent) r = (r, from_own p o sent r)

order_own : (o : Owner) (sent : List Answer) → AreInOrder (map (owner_out o) sent)
order_own o [] = tt
order_own o (a ∷ sent) = (from_own o o sent (reaches_itself o), order_own o sent)

before_own : (o : Owner) (sent : List Answer) (ys : List Out) → AllFrom o ys → AllBefore (map (owner_out o) sent) ys
before_own o [] ys f = tt
before_own o (a ∷ sent) ys f = (f, before_own o sent ys f)

-- ---- subscribers by slot

from_each : (p : Owner) (items : ℕ → Item) (n : ℕ) (ws : List SubscriberView) → ((m : ℕ) → n ≤ m → IsInOrder p (Subscriber m))
    → AllFrom p (each_sent items n ws)
from_each p items n [] r = tt
from_each p items n (w ∷ ws) r =
    let own = (subscriber_step w (items n)).sent in
    from_append p (map (slot_out n) own) (each_sent items (n + 1) ws) (from_own p (Subscriber n) own (r n (omega arith)))
    (from_each p items (n + 1) ws (λ m le. r m (omega arith)))

order_each : (items : ℕ → Item) (n : ℕ) (ws : List SubscriberView) → AreInOrder (each_sent items n ws)
order_each items n [] = tt
order_each items n (w ∷ ws) =
    let own = (subscriber_step w (items n)).sent in
    order_append (map (slot_out n) own) (each_sent items (n + 1) ws) (order_own (Subscriber n) own) (order_each items (n + 1) ws)
    (before_own (Subscriber n) own (each_sent items (n + 1) ws) (from_each (Subscriber n) items (n + 1) ws (λ m le. omega arith)))

-- ---- strangers by id

from_known : (p : Owner) (notice : Notice) (ks : List Known) (n : ℕ) → AllOver known_id n ks
    → ((m : ℕ) → n < m → IsInOrder p (Stranger m)) → AllFrom p (each_known notice ks)
from_known p notice [] n h r = tt
from_known p notice (k ∷ ks) n h r =
    let own = (notes k.id (Some k.stranger) notice).sent in
    from_append p (map (stranger_out k.id) own) (each_known notice ks) (from_own p (Stranger k.id) own (r k.id h.0))
    (from_known p notice ks n h.1 r)

order_known : (notice : Notice) (ks : List Known) → Rising known_id ks → AreInOrder (each_known notice ks)
order_known notice [] h = tt
order_known notice (k ∷ ks) h =
    let own = (notes k.id (Some k.stranger) notice).sent in
    order_append (map (stranger_out k.id) own) (each_known notice ks) (order_own (Stranger k.id) own) (order_known notice ks h.1)
    (before_own (Stranger k.id) own (each_known notice ks) (from_known (Stranger k.id) notice ks k.id h.0 (λ m lt. omega arith)))

known_before : (notice : Notice) (ks : List Known) (ys : List Out) → ((id : ℕ) → AllFrom (Stranger id) ys)
    → AllBefore (each_known notice ks) ys
known_before notice [] ys f = tt
known_before notice (k ∷ ks) ys f =
    let own = (notes k.id (Some k.stranger) notice).sent in
    before_append (map (stranger_out k.id) own) (each_known notice ks) ys (before_own (Stranger k.id) own ys (f k.id))
    (known_before notice ks ys f)

all_known : (p : Owner) (notice : Notice) (ks : List Known) → ((m : ℕ) → IsInOrder p (Stranger m))
    → AllFrom p (each_known notice ks)
all_known p notice [] r = tt
all_known p notice (k ∷ ks) r =
    let own = (notes k.id (Some k.stranger) notice).sent in
    from_append p (map (stranger_out k.id) own) (each_known notice ks) (from_own p (Stranger k.id) own (r k.id))
    (all_known p notice ks r)

order_input : (ps : List Profile) (id : ℕ) (input : Input) (ks : List Known) → AreInOrder (input_sent ps id input ks)
order_input ps id input ks = order_own (Stranger id) (stranger_step ps id (stranger_at id ks) input).sent

input_before : (ps : List Profile) (id : ℕ) (input : Input) (ks : List Known) (ys : List Out) → AllFrom (Stranger id) ys
    → AllBefore (input_sent ps id input ks) ys
input_before ps id input ks ys f = before_own (Stranger id) (stranger_step ps id (stranger_at id ks) input).sent ys f

from_input : (p : Owner) (ps : List Profile) (id : ℕ) (input : Input) (ks : List Known) → IsInOrder p (Stranger id)
    → AllFrom p (input_sent ps id input ks)
from_input p ps id input ks f = from_own p (Stranger id) (stranger_step ps id (stranger_at id ks) input).sent f

order_strangers : (ps : List Profile) (d : Destination) (ks : List Known) → Rising known_id ks → AreInOrder (strangers_sent ps d ks)
order_strangers ps to.Nobody ks h = tt
order_strangers ps (to.Subscriber n item) ks h = tt
order_strangers ps (to.Beginner id m) ks h = order_input ps id (Begins m) ks
order_strangers ps (to.Stranger m) ks h = order_input ps m.mme_ue_id (Receives m) ks
order_strangers ps (to.Everyone notice) ks h = order_known notice ks h

strangers_before : (ps : List Profile) (d : Destination) (ks : List Known) (ys : List Out) → ((id : ℕ) → AllFrom (Stranger id) ys)
    → AllBefore (strangers_sent ps d ks) ys
strangers_before ps to.Nobody ks ys f = tt
strangers_before ps (to.Subscriber n item) ks ys f = tt
strangers_before ps (to.Beginner id m) ks ys f = input_before ps id (Begins m) ks ys (f id)
strangers_before ps (to.Stranger m) ks ys f = input_before ps m.mme_ue_id (Receives m) ks ys (f m.mme_ue_id)
strangers_before ps (to.Everyone notice) ks ys f = known_before notice ks ys f

from_strangers : (p : Owner) (ps : List Profile) (d : Destination) (ks : List Known) → ((m : ℕ) → IsInOrder p (Stranger m))
    → AllFrom p (strangers_sent ps d ks)
from_strangers p ps to.Nobody ks f = tt
from_strangers p ps (to.Subscriber n item) ks f = tt
from_strangers p ps (to.Beginner id m) ks f = from_input p ps id (Begins m) ks (f id)
from_strangers p ps (to.Stranger m) ks f = from_input p ps m.mme_ue_id (Receives m) ks (f m.mme_ue_id)
from_strangers p ps (to.Everyone notice) ks f = all_known p notice ks f

-- ---- a station

order_station : (o : Option ℕ) (sent : List Answer) → AreInOrder (station_sent o sent)
order_station None sent = tt
order_station (Some e) sent = order_own (Station e) sent

before_station : (o : Option ℕ) (sent : List Answer) (ys : List Out) → ((e : ℕ) → AllFrom (Station e) ys)
    → AllBefore (station_sent o sent) ys
before_station None sent ys f = tt
before_station (Some e) sent ys f = before_own (Station e) sent ys (f e)

-- ---- the whole output

pub parts_order : (o : Option ℕ) (sent : List Answer) (ps : List Profile) (d : Destination) (ks : List Known) (items : ℕ → Item) (ws : List SubscriberView) → Rising known_id ks
    → AreInOrder (station_sent o sent ++ (strangers_sent ps d ks ++ each_sent items 0 ws))
parts_order o sent ps d ks items ws h =
    let others = strangers_sent ps d ks in
    let each = each_sent items 0 ws in
    order_append (station_sent o sent) (others ++ each) (order_station o sent)
    (order_append others each (order_strangers ps d ks h) (order_each items 0 ws) (strangers_before ps d ks each (λ id. from_each (Stranger id) items 0 ws (λ m le. tt))))
    (before_station o sent (others ++ each)
    (λ n. from_append (Station n) others each (from_strangers (Station n) ps d ks (λ m. tt)) (from_each (Station n) items 0 ws (λ m le. tt))))

pub output_order : (w : World) (e : Event) → Rising known_id w.strangers → AreInOrder (outputs w e)
output_order w e h =
    parts_order (station_of e) (happens w.sight e).sent w.sight.profiles (happens w.sight e).destination w.strangers
    (items_of w.sight (strangers_in w) e) w.subscribers h

-- ---- a list of replies

order_cons : (o : Option StepFault) (outs : List Out) (rs : List (Result (List Out) StepFault)) → AreInOrder outs → AllInOrder rs
    → AllInOrder (reply_of o outs ∷ rs)
order_cons None outs rs h k = (h, k)
order_cons (Some fault) outs rs h k = k

replies_order : (w : World) (es : List Event) → Rising known_id w.strangers → AllInOrder (replies w es)
replies_order w [] h = tt
replies_order w (e ∷ es) h =
    order_cons (event_fault w.sight e) (outputs w e) (replies (world_after w e) es) (output_order w e h)
    (replies_order (world_after w e) es (rising_once w e h))

of_given : (rs : List (Result (List Out) StepFault)) → AllInOrder (replies_given rs) → AllInOrder rs
of_given [] h = tt
of_given (Ok outs ∷ rs) h = (h.0, of_given rs h.1)
of_given (Err NoMemory ∷ rs) h = of_given rs h
of_given (Err NotUp ∷ rs) h = of_given rs h
of_given (Err AlreadyUp ∷ rs) h = of_given rs h
of_given (Err ClockSpent ∷ rs) h = of_given rs h
of_given (Err UnknownImsi ∷ rs) h = of_given rs h

-- all replies of a run
pub run_order : (w : World) (es : List Event) (rs : List (Result (List Out) StepFault)) → Rising known_id w.strangers
    → replies_given rs ≡ replies w es → AllInOrder rs
run_order w es rs r h = of_given rs (subst AllInOrder (sym h) (replies_order w es r))
