-- There is one list of messages that is the output of an event.
use Rattle.std.proofs.Common.{◌≡◌, ℕ, List, [], ◌∷◌, map, Bool, true, false, Option, Some, None, Ok, eqb, refl, sym, ◌∙◌, ap, subst, arith}
use Rattle.std.specs.Prelude.{filter, if◌then◌else◌, slice_get}
use Rattle.std.proofs.lemmas.Bool.Decides.{nat_tests}
use Rattle.emm_machine.specs.SubscriberView.{SubscriberView}
use Rattle.mme_core.specs.declared.event.Event.{Event}
use Rattle.mme_core.specs.declared.event.StepFault.{StepFault}
use Rattle.mme_answering.specs.declared.out.Out.{Out}
use Rattle.mme_answering.specs.declared.out.Owner.{Owner}
use Rattle.mme_answering.specs.declared.out.Owner.TheVariants.{Station, Stranger, Subscriber}
use Rattle.mme_core.specs.Laws.{IsOutput, OneOutput, RepliesSo, told_if}
use Rattle.mme_core.specs.Projection.{AllFrom, AreInOrder, IsInOrder, Told, is_slot, is_station, is_stranger, item_for, owned_by, told_in, told_of}
use Rattle.mme_core.specs.World.{World, event_fault, outputs, reply, reply_of, strangers_in}
use Rattle.mme_core.proofs.Order.{output_order}
use Rattle.mme_core.proofs.Turns.{absent_told, slot_told, station_told_once, stranger_told_once}

-- ---- the reply is an output

slot_sent : (w : World) (event : Event) (slot : ℕ) (o : Option SubscriberView) → slice_get w.subscribers slot ≡ o
    → told_in (is_slot slot) (reply w event) ≡ told_if o (item_for slot w.sight (strangers_in w) event)
slot_sent w event slot None is = absent_told w event slot is
slot_sent w event slot (Some x) is = slot_told w event slot x is

order_by : (o : Option StepFault) (all outs : List Out) → reply_of o all ≡ Ok outs → AreInOrder all → AreInOrder outs
order_by None all outs is h =
    let same : all ≡ outs = cc in
    subst AreInOrder same h
order_by (Some fault) all outs is h = absurd cc

pub replies_so : RepliesSo
replies_so w event outs rising is =
    let own : (p : Owner → Bool) → owned_by p outs ≡ told_in p (reply w event) = λ p. ap (told_in p) (sym is) in
    record {
      stations = λ e. own (is_station e) ∙ station_told_once w event e;
      strangers = λ id. own (is_stranger id) ∙ stranger_told_once w event id rising;
      subscribers = λ slot. own (is_slot slot) ∙ slot_sent w event slot (slice_get w.subscribers slot) refl;
      order = order_by (event_fault w.sight event) (outputs w event) outs is (output_order w event rising);
    }

-- ---- an owner's own messages

-- whether an owner is that one
abbrev is_owner : Owner → Owner → Bool
is_owner (Station e) = is_station e
is_owner (Stranger id) = is_stranger id
is_owner (Subscriber slot) = is_slot slot

abbrev sent_by : Owner → List Out → List Told
sent_by owner outs = owned_by (is_owner owner) outs

same_number : (a b : ℕ) → eqb a b ≡ true → a ≡ b
same_number a b e = grind (arith, nat_tests)

owner_is : (o p : Owner) → is_owner o p ≡ true → p ≡ o
owner_is (Station a) (Station b) e = ap Station (same_number b a e)
owner_is (Station a) (Stranger b) e = cc
owner_is (Station a) (Subscriber b) e = cc
owner_is (Stranger a) (Station b) e = cc
owner_is (Stranger a) (Stranger b) e = ap Stranger (same_number b a e)
owner_is (Stranger a) (Subscriber b) e = cc
owner_is (Subscriber a) (Station b) e = cc
owner_is (Subscriber a) (Stranger b) e = cc
owner_is (Subscriber a) (Subscriber b) e = ap Subscriber (same_number b a e)

itself : (n : ℕ) → eqb n n ≡ true
itself n = grind (arith, nat_tests)

owner_itself : (o : Owner) → is_owner o o ≡ true
owner_itself (Station a) = itself a
owner_itself (Stranger a) = itself a
owner_itself (Subscriber a) = itself a

reaches_itself : (o : Owner) → IsInOrder o o
reaches_itself (Station a) = omega arith
reaches_itself (Stranger a) = omega arith
reaches_itself (Subscriber a) = omega arith

between : (p q : Owner) → IsInOrder p q → IsInOrder q p → p ≡ q
between (Station a) (Station b) h k = ap Station (omega arith)
between (Station a) (Stranger b) h k = absurd k
between (Station a) (Subscriber b) h k = absurd k
between (Stranger a) (Station b) h k = absurd h
between (Stranger a) (Stranger b) h k = ap Stranger (omega arith)
between (Stranger a) (Subscriber b) h k = absurd k
between (Subscriber a) (Station b) h k = absurd h
between (Subscriber a) (Stranger b) h k = absurd h
between (Subscriber a) (Subscriber b) h k = ap Subscriber (omega arith)

map_if : (b : Bool) (x : Out) (xs : List Out)
    → map told_of (if b then x ∷ xs else xs) ≡ (if b then told_of x ∷ map told_of xs else map told_of xs)
map_if true x xs = refl
map_if false x xs = refl

sent_cons : (o : Owner) (x : Out) (xs : List Out)
    → sent_by o (x ∷ xs) ≡ (if is_owner o x.owner then told_of x ∷ sent_by o xs else sent_by o xs)
sent_cons o x xs = map_if (is_owner o x.owner) x (filter (λ (y : Out). is_owner o y.owner) xs)

sent_first : (x : Out) (xs : List Out) → sent_by x.owner (x ∷ xs) ≡ told_of x ∷ sent_by x.owner xs
sent_first x xs =
    sent_cons x.owner x xs ∙ ap (λ b. if b then told_of x ∷ sent_by x.owner xs else sent_by x.owner xs) (owner_itself x.owner)

-- an owner that sends something is reached by the one that all are from
from_if : (p o : Owner) (y : Out) (ys : List Out) (a : Told) (rest : List Told) (b : Bool) → is_owner o y.owner ≡ b
    → IsInOrder p y.owner → (sent_by o ys ≡ a ∷ rest → IsInOrder p o)
    → (if b then told_of y ∷ sent_by o ys else sent_by o ys) ≡ a ∷ rest → IsInOrder p o
from_if p o y ys a rest true e r next h = subst (IsInOrder p) (owner_is o y.owner e) r
from_if p o y ys a rest false e r next h = next h

from_sent : (p o : Owner) (ys : List Out) (a : Told) (rest : List Told) → AllFrom p ys → sent_by o ys ≡ a ∷ rest → IsInOrder p o
from_sent p o [] a rest f h = absurd cc
from_sent p o (y ∷ ys) a rest f h =
    from_if p o y ys a rest (is_owner o y.owner) refl f.0 (from_sent p o ys a rest f.1) (sym (sent_cons o y ys) ∙ h)

tails : (b : Bool) (a c : Told) (u v : List Told) → (if b then a ∷ u else u) ≡ (if b then c ∷ v else v) → u ≡ v
tails true a c u v h = cc
tails false a c u v h = h

heads : (a c : Told) (u v : List Told) → a ∷ u ≡ c ∷ v → a ≡ c
heads a c u v h = cc

out_is : (x y : Out) → x.owner ≡ y.owner → told_of x ≡ told_of y → x ≡ y
out_is x y o a =
    ap (λ (p : Owner). record { owner = p; station = (told_of x).station; octets = (told_of x).octets }) o
    ∙ ap (λ (b : Told). record { owner = y.owner; station = b.station; octets = b.octets }) a

nothing_more : (y : Out) (ys : List Out) → sent_by y.owner [] ≡ sent_by y.owner (y ∷ ys) → ⊥
nothing_more y ys h =
    let e : [] ≡ told_of y ∷ sent_by y.owner ys = h ∙ sent_first y ys in
    cc

-- ---- messages that are each owner's own, in the order of the owners

one : (xs ys : List Out) → AreInOrder xs → AreInOrder ys → ((o : Owner) → sent_by o xs ≡ sent_by o ys) → xs ≡ ys
one [] [] h k same = refl
one [] (y ∷ ys) h k same = absurd (nothing_more y ys (same y.owner))
one (x ∷ xs) [] h k same = absurd (nothing_more x xs (sym (same x.owner)))
one (x ∷ xs) (y ∷ ys) h k same =
    let there : IsInOrder y.owner x.owner =
    from_sent y.owner x.owner (y ∷ ys) (told_of x) (sent_by x.owner xs) (reaches_itself y.owner, k.0)
    (sym (same x.owner) ∙ sent_first x xs) in
    let back : IsInOrder x.owner y.owner =
    from_sent x.owner y.owner (x ∷ xs) (told_of y) (sent_by y.owner ys) (reaches_itself x.owner, h.0)
    (same y.owner ∙ sent_first y ys) in
    let owner : x.owner ≡ y.owner = between x.owner y.owner back there in
    let first : told_of x ≡ told_of y =
    heads (told_of x) (told_of y) (sent_by x.owner xs) (sent_by y.owner ys)
    (sym (sent_first x xs) ∙ same x.owner ∙ ap (λ o. sent_by o (y ∷ ys)) owner ∙ sent_first y ys)
    in
    let rest : (o : Owner) → sent_by o xs ≡ sent_by o ys =
    λ o. tails (is_owner o x.owner) (told_of x) (told_of y) (sent_by o xs) (sent_by o ys)
    (sym (sent_cons o x xs) ∙ same o ∙ sent_cons o y ys ∙ ap (λ p. if is_owner o p then told_of y ∷ sent_by o ys else sent_by o ys) (sym owner))
    in
    ap (λ z. z ∷ xs) (out_is x y owner first) ∙ ap (λ zs. y ∷ zs) (one xs ys h.1 k.1 rest)

same_by : (w : World) (event : Event) (xs ys : List Out) → IsOutput w event xs → IsOutput w event ys → (o : Owner)
    → sent_by o xs ≡ sent_by o ys
same_by w event xs ys a b (Station e) = a.stations e ∙ sym (b.stations e)
same_by w event xs ys a b (Stranger id) = a.strangers id ∙ sym (b.strangers id)
same_by w event xs ys a b (Subscriber slot) = a.subscribers slot ∙ sym (b.subscribers slot)

pub one_output : OneOutput
one_output w event xs ys a b = one xs ys a.order b.order (same_by w event xs ys a b)
