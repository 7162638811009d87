-- What preparing comes to: what is sent, and what becomes of strangers and subscribers.
use Rattle.std.specs.Prelude.{◌≡◌, ◌++◌, ℕ, List, map, Option}
use Rattle.identity_slots.specs.declared.profile.Profile.{Profile}
use Rattle.mme_types.specs.Events.{Item}
use Rattle.emm_machine.specs.SubscriberView.{SubscriberView}
use Rattle.sorted_list.specs.Ordered.{Every}
use Rattle.stranger_machine.specs.declared.table.Known.{Known}
use Rattle.stranger_machine.specs.Table.{stranger_at, with_stranger}
use Rattle.stranger_machine.specs.Turns.{Turn}
use Rattle.mme_owners.specs.SteppedView.{SteppedView}
use Rattle.mme_owners.specs.SubscriberLaws.{some_give}
use Rattle.mme_owners.specs.Subscribers.{each_after, slots_stepped, IsCounting, IsOnwardAt, IsStepped}
use Rattle.mme_routing.specs.Destinations.{Destination, if_called, item_at, strangers_left}
use Rattle.mme_answering.specs.declared.out.Out.{Out}
use Rattle.mme_answering.specs.declared.prepared.Prepared.{Prepared}
use Rattle.mme_answering.specs.Sending.{each_sent, stranger_out, strangers_sent}
use Rattle.mme_answering.specs.Settled.{IsFitIf, IsFor, IsPassing, item_sent, settled_strangers, settled_subscribers, with_one}

-- for where an event goes, with these strangers and subscribers and this output so far
pub record Prepares (ps : List Profile) (d : Destination) (ks : List Known) (ws : List SubscriberView)
    (before after : List Out) (p : Prepared) : Type 0 where
  -- what each stranger's machine sends, and then each subscriber's, stands after what was sent so far
  pub sends : after ≡ before ++ (strangers_sent ps d ks ++ each_sent (item_at d ps (λ id. stranger_at id ks)) 0 ws)
  -- once it is settled, each stranger and each subscriber is what its machine leaves
  pub strangers : settled_strangers p ks ≡ strangers_left ps d ks
  pub subscribers : settled_subscribers p ws ≡ each_after (item_at d ps (λ id. stranger_at id ks)) 0 ws
  -- it may be settled
  pub fits : IsFor p ks ws
  -- it moves the clock at a tick alone
  pub passing : IsPassing d p

-- for the turn of the one stranger with an id, which may call a subscriber
pub record PreparesTurn (id : ℕ) (t : Turn) (ks : List Known) (ws : List SubscriberView)
    (before after : List Out) (p : Prepared) : Type 0 where
  pub sends : after ≡ before ++ (map (stranger_out id) t.sent ++ each_sent (if_called t.call) 0 ws)
  pub strangers : settled_strangers p ks ≡ with_stranger id t.stranger ks
  pub subscribers : settled_subscribers p ws ≡ each_after (if_called t.call) 0 ws
  pub fits : IsFor p ks ws
  pub passing : (d : Destination) → IsPassing d p

-- for the one subscriber that has an item, if it is provisioned
pub record PreparesOne (items : ℕ → Item) (ws : List SubscriberView) (before after : List Out)
    (x : Option SteppedView) : Type 0 where
  pub sends : after ≡ before ++ each_sent items 0 ws
  pub subscribers : with_one x ws ≡ each_after items 0 ws
  pub fits : IsFitIf ws x

-- for some subscribers, by their slots, that all have an item
pub record PreparesEach (item : Item) (called : List ℕ) (ws : List SubscriberView) (before after : List Out)
    (xs : List SteppedView) : Type 0 where
  pub sends : after ≡ before ++ some_give (item_sent item) called ws
  pub slots : slots_stepped xs ≡ called
  pub stepped : Every (IsStepped item ws) xs
  pub counting : Every (λ (x : SteppedView). IsCounting x.solo) xs
  pub onward : Every (IsOnwardAt ws) xs
