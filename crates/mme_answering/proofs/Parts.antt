-- What preparing comes to, by what its parts come to.
use Rattle.std.proofs.Common.{◌≡◌, ◌++◌, ℕ, List, [], ◌∷◌, Option, Some, None, refl, sym, ◌∙◌, ap, subst}
use Rattle.std.proofs.lemmas.List.{append-nil}
use Rattle.identity_slots.specs.declared.profile.Profile.{Profile}
use Rattle.mme_types.specs.declared.event.Entry.{Entry}
use Rattle.mme_types.specs.declared.event.UeMessage.{UeMessage}
use Rattle.mme_types.specs.Events.{Item}
use Rattle.emm_machine.specs.SubscriberView.{SubscriberView}
use Rattle.sorted_list.specs.Ordered.{Every}
use Rattle.stranger_machine.specs.declared.table.Known.{Known}
use Rattle.stranger_machine.specs.Machine.{begins, receives, stranger_step}
use Rattle.stranger_machine.specs.Table.{stranger_at}
use Rattle.stranger_machine.specs.Turns.{Turn}
use Rattle.mme_owners.specs.SubscriberLaws.{some_give}
use Rattle.mme_owners.specs.SteppedView.{SteppedView}
use Rattle.mme_owners.specs.Subscribers.{slots_stepped, IsCounting, IsOnwardAt, IsStepped}
use Rattle.mme_routing.specs.Destinations.{Destination, for_one}
use Rattle.mme_routing.specs.Destinations as to
use Rattle.mme_answering.specs.declared.out.Out.{Out}
use Rattle.mme_answering.specs.declared.prepared.Prepared.{Prepared}
use Rattle.mme_answering.specs.declared.prepared.Prepared.TheVariants as prepared
use Rattle.mme_answering.specs.Prepares.{Prepares, PreparesEach, PreparesOne, PreparesTurn}
use Rattle.mme_answering.specs.Sending.{event_sent, turn_sent, SendsSome}
use Rattle.mme_answering.specs.Settled.{item_sent}

-- the turn of the stranger that begins with a message
pub begun : (ps : List Profile) (id : ℕ) (m : Entry (List ℕ)) (ks : List Known) (ws : List SubscriberView) (before after : List Out)
    (p : Prepared) (t : Turn) → t ≡ begins id (stranger_at id ks) m → PreparesTurn id t ks ws before after p
    → Prepares ps (to.Beginner id m) ks ws before after p
unfolding stranger_step
begun ps id m ks ws before after p t is h =
    let own : PreparesTurn id (begins id (stranger_at id ks) m) ks ws before after p =
    subst (λ (u : Turn). PreparesTurn id u ks ws before after p) is h in
    record {
      sends = own.sends;
      strangers = own.strangers;
      subscribers = own.subscribers;
      fits = own.fits;
      passing = own.passing (to.Beginner id m);
    }

-- and that of the stranger whom a message is for
pub received : (ps : List Profile) (m : UeMessage (List ℕ)) (ks : List Known) (ws : List SubscriberView) (before after : List Out)
    (p : Prepared) (t : Turn) → t ≡ receives ps (stranger_at m.mme_ue_id ks) m → PreparesTurn m.mme_ue_id t ks ws before after p
    → Prepares ps (to.Stranger m) ks ws before after p
unfolding stranger_step
received ps m ks ws before after p t is h =
    let own : PreparesTurn m.mme_ue_id (receives ps (stranger_at m.mme_ue_id ks) m) ks ws before after p =
    subst (λ (u : Turn). PreparesTurn m.mme_ue_id u ks ws before after p) is h in
    record {
      sends = own.sends;
      strangers = own.strangers;
      subscribers = own.subscribers;
      fits = own.fits;
      passing = own.passing (to.Stranger m);
    }

-- and where memory is refused
pub begun_some : (ps : List Profile) (id : ℕ) (m : Entry (List ℕ)) (ks : List Known) (ws : List SubscriberView)
    (before after : List Out) (t : Turn) → t ≡ begins id (stranger_at id ks) m → SendsSome (turn_sent id t ws) before after
    → SendsSome (event_sent ps (to.Beginner id m) ks ws) before after
unfolding stranger_step
begun_some ps id m ks ws before after t is h = subst (λ (u : Turn). SendsSome (turn_sent id u ws) before after) is h

pub received_some : (ps : List Profile) (m : UeMessage (List ℕ)) (ks : List Known) (ws : List SubscriberView)
    (before after : List Out) (t : Turn) → t ≡ receives ps (stranger_at m.mme_ue_id ks) m
    → SendsSome (turn_sent m.mme_ue_id t ws) before after → SendsSome (event_sent ps (to.Stranger m) ks ws) before after
unfolding stranger_step
received_some ps m ks ws before after t is h = subst (λ (u : Turn). SendsSome (turn_sent m.mme_ue_id u ws) before after) is h

-- the step of the subscriber with a slot
pub stepped : (ps : List Profile) (slot : ℕ) (item : Item) (ks : List Known) (ws : List SubscriberView) (before after : List Out)
    (o : Option SteppedView) (x : SteppedView) → o ≡ Some x → PreparesOne (for_one slot item) ws before after o
    → Prepares ps (to.Subscriber slot item) ks ws before after (prepared.Subscriber x)
stepped ps slot item ks ws before after o x is h =
    let own : PreparesOne (for_one slot item) ws before after (Some x) =
    subst (λ (y : Option SteppedView). PreparesOne (for_one slot item) ws before after y) is h in
    record { sends = own.sends; strangers = refl; subscribers = own.subscribers; fits = own.fits; passing = tt }

-- and of a slot that isn't provisioned
pub passed_over : (ps : List Profile) (slot : ℕ) (item : Item) (ks : List Known) (ws : List SubscriberView) (before after : List Out)
    (o : Option SteppedView) → o ≡ None → PreparesOne (for_one slot item) ws before after o
    → Prepares ps (to.Subscriber slot item) ks ws before after prepared.Nobody
passed_over ps slot item ks ws before after o is h =
    let own : PreparesOne (for_one slot item) ws before after None =
    subst (λ (y : Option SteppedView). PreparesOne (for_one slot item) ws before after y) is h in
    record { sends = own.sends; strangers = refl; subscribers = own.subscribers; fits = tt; passing = tt }

-- the same of strangers and subscribers that are these
pub prepares_there : (ps : List Profile) (d : Destination) (ks ls : List Known) (ws vs : List SubscriberView) (before after : List Out)
    (p : Prepared) → ks ≡ ls → ws ≡ vs → Prepares ps d ks ws before after p → Prepares ps d ls vs before after p
prepares_there ps d ks ls ws vs before after p strangers subscribers h =
    subst (λ (xs : List Known). Prepares ps d xs vs before after p) strangers
    (subst (λ (ys : List SubscriberView). Prepares ps d ks ys before after p) subscribers h)

pub sends_there : (ps : List Profile) (d : Destination) (ks ls : List Known) (ws vs : List SubscriberView) (before after : List Out)
    → ks ≡ ls → ws ≡ vs → SendsSome (event_sent ps d ks ws) before after → SendsSome (event_sent ps d ls vs) before after
sends_there ps d ks ls ws vs before after strangers subscribers h =
    subst (λ (xs : List Known). SendsSome (event_sent ps d xs vs) before after) strangers
    (subst (λ (ys : List SubscriberView). SendsSome (event_sent ps d ks ys) before after) subscribers h)

pub every_push : {X : Type 0} (P : X → Type 0) (xs : List X) (x : X) → Every P xs → P x → Every P (xs ++ x ∷ [])
every_push P [] x h p = (p, tt)
every_push P (y ∷ ys) x h p = (h.0, every_push P ys x h.1 p)

-- the steps of some, where nobody is left
pub all_done : (item : Item) (called rest : List ℕ) (ws : List SubscriberView) (before after : List Out) (xs : List SteppedView)
    → rest ≡ [] → slots_stepped xs ++ rest ≡ called → Every (IsStepped item ws) xs
    → Every (λ (x : SteppedView). IsCounting x.solo) xs → Every (IsOnwardAt ws) xs
    → after ++ some_give (item_sent item) rest ws ≡ before ++ some_give (item_sent item) called ws
    → PreparesEach item called ws before after xs
all_done item called rest ws before after xs none slots stepped counting onward sends = record {
  sends = sym (append-nil after) ∙ ap (λ ks. after ++ some_give (item_sent item) ks ws) (sym none) ∙ sends;
  slots = sym (append-nil (slots_stepped xs)) ∙ ap (λ ks. slots_stepped xs ++ ks) (sym none) ∙ slots;
  stepped = stepped;
  counting = counting;
  onward = onward;
}
