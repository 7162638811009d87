-- Where the replies to an event lie, and what is had of them.
use Rattle.std.specs.Prelude.{ℕ, List, [], ◌∷◌, length, slice_get, Option, Some, None, Result, Ok, Err}
use Rattle.mme_core.specs.declared.event.StepFault.{StepFault}
use Rattle.mme_answering.specs.declared.out.Out.{Out}
use Rattle.std.specs.Borrow.{Bor}
use Rattle.c_session.specs.declared.refusal.Refusal.{Refusal}
use Rattle.c_session.specs.declared.refusal.Refusal.TheVariants.{NoOutput}
use Rattle.c_session.specs.declared.replies.Room.{Room}
use Rattle.c_session.specs.declared.replies.Room.TheVariants.{One, Each}
use Rattle.c_session.specs.Refusals.{of_step}

-- what an event is answered: what is sent, or why it was refused
abbrev pub Reply : Type 0
Reply = Result (List Out) StepFault

-- the replies that lie there
abbrev pub replies_in : Room → List Reply
replies_in (One outs) = Ok outs ∷ []
replies_in (Each replies) = replies.items

-- what the only reply sent; none where there are several, or where that event was refused
abbrev pub only_sent : List Reply → Option (List Out)
only_sent [] = None
only_sent (Ok outs ∷ []) = Some outs
only_sent (Err fault ∷ []) = None
only_sent (first ∷ second ∷ others) = None

-- a reply that is lent
abbrev pub lent : Result (Bor (List Out)) StepFault → Reply
lent (Ok outs) = Ok outs.now
lent (Err fault) = Err fault

-- how many messages a reply has
abbrev pub counted : Option Reply → Result ℕ Refusal
counted None = Err NoOutput
counted (Some (Ok outs)) = Ok (length outs)
counted (Some (Err fault)) = Err (of_step fault)

-- how many messages the reply at this place has
abbrev pub count_at : List Reply → ℕ → Result ℕ Refusal
count_at replies reply = counted (slice_get replies reply)

-- the message at a place of a reply
abbrev pub message_in : Option Reply → ℕ → Option Out
message_in None index = None
message_in (Some (Ok outs)) index = slice_get outs index
message_in (Some (Err fault)) index = None

-- the message at this place of the reply at that place
abbrev pub message_at : List Reply → ℕ → ℕ → Option Out
message_at replies reply index = message_in (slice_get replies reply) index
